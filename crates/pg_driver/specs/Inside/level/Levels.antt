-- How far a level has come, and what a whole level leaves in an engine and in the records.
use Rattle.std.specs.Prelude.{◌≡◌, ℕ, ◌+◌, ◌≤◌, nat_le, Bool, true, false, List, [], ◌∷◌, ◌++◌, fold, length, map, filter, slice_index_or, replicate, Option, None, Some, ◌⊎◌}
use Rattle.std.specs.List.{list_all, flat_map}
use Rattle.std.specs.Option.{option_map}
use Rattle.pg_types.specs.declared.limits.TheConstants.{LENGTH_MAX}
use Rattle.pg_types.specs.declared.marks.Layout.{Layout}
use Rattle.pg_types.specs.declared.parameters.LevelParams.{LevelParams}
use Rattle.pg_types.specs.Placement.{Families}
use Rattle.pg_dict.specs.Word.{Word}
use Rattle.pg_translate.specs.Alphabets.{Alphabet}
use Rattle.pg_patterns.specs.Values.{Patterns}
use Rattle.pg_select.specs.Inside.engine.Meanings.{Meaning}
use Rattle.pg_select.specs.declared.pass.Pass.{Pass}
use Rattle.pg_select.specs.Inside.laws.Laws.{CountsNothing}
use Rattle.pg_driver.specs.declared.counting.WayToCount.{WayToCount}
use Rattle.pg_driver.specs.Inside.counting.LevelCounting.{IsCounted}
use Rattle.pg_driver.specs.Traces.{Knowledge, PassTrace, LevelTrace, Trace, patterns_after, final_patterns, at_start}
use Rattle.pg_driver.specs.Inside.level.Passes.{pass_traces, known_at_end}
use Rattle.pg_driver.specs.Accounts.{has_candidate, begun_count}
use Rattle.pg_driver.specs.Inside.records.AccountLines.{pass_line, pass_lines, chosen_by, level_line, is_skippable, begun_among}
use Rattle.pg_driver.specs.Inside.Layouts.{after_level}
use Rattle.pg_driver.specs.Inside.records.CellsAccounts.{pass_layouts, levels_with_families, level_layout}
use Rattle.pg_driver.specs.Inside.records.RunAccounts.{known_of, line_of, level_line_of, pass_record_layout, level_record_layout}
use Rattle.pg_driver.specs.Inside.records.SoundRecords.{RunRecords}
use Rattle.pg_driver.specs.Inside.level.States.{State, state_of, state_at_end}

-- the layout after each pass that has a candidate; none where the engine tells no families
abbrev pub layouts_in : ℕ → Option Families → List PassTrace → List (Option (Pass × ℕ × ℕ))
layouts_in signs None ps = map (λ _. None) (filter has_candidate ps)
layouts_in signs (Some fs) ps = map Some (pass_layouts signs fs ps)

-- these passes of a level turned the old records into the new ones
pub record AreRecorded (T : Alphabet) (W : List Word) (signs : ℕ)
    (families : Option Families) (ps : List PassTrace) (old new : RunRecords) : Type 0 where
  pub lines : map line_of new.passes
      ≡ map line_of old.passes ++ map (pass_line T W) (filter has_candidate ps)
  pub layouts : map pass_record_layout new.passes
      ≡ map pass_record_layout old.passes ++ layouts_in signs families ps
  pub chosen : new.chosen ≡ old.chosen + chosen_by ps
  pub begun : new.begun ≡ old.begun + length (begun_among ps)
  pub levels : new.levels ≡ old.levels

-- as many passes were begun by the engine as were recorded
abbrev pub BeganAll : Meaning → Meaning → RunRecords → RunRecords → Type 0
BeganAll old new r s = new.begun + r.begun ≡ old.begun + s.begun

-- the flags of a length and of the next, by dot
pub record SkipFlags : Type 0 where
  pub here : List Bool
  pub longer : List Bool

-- no flag is set
abbrev pub no_flags : List Bool
no_flags = replicate (LENGTH_MAX + 2) false

-- no pass of a length is skipped, or a pass was counted already
abbrev pub WillCount : SkipFlags → WayToCount → Type 0
WillCount flags counting = (flags.here ≡ no_flags) ⊎ IsCounted counting

-- the flag of a dot
abbrev pub is_set : List Bool → ℕ → Bool
is_set flags dot = slice_index_or flags dot false

-- after these passes the flags tell which passes of this length and of the next are skippable
pub record TellSkippable (number len : ℕ) (flags : SkipFlags) (ps : List PassTrace) : Type 0 where
  pub here : (dot : ℕ) → is_skippable ps (record { level = number; len = len; dot = dot })
      ≡ is_set flags.here dot
  pub longer : (dot : ℕ) → is_skippable ps (record { level = number; len = len + 1; dot = dot })
      ≡ is_set flags.longer dot
  pub beyond : (n dot : ℕ) → len + 2 ≤ n
      → is_skippable ps (record { level = number; len = n; dot = dot }) ≡ false

-- where this is known, each skippable pass of the level counts no window
abbrev pub SkippableCountNothing : Alphabet → List Word → ℕ → List PassTrace → Knowledge → Type 0
SkippableCountNothing T W number ps known = (len dot : ℕ)
    → is_skippable ps (record { level = number; len = len; dot = dot }) ≡ true
    → CountsNothing T W
    (record { level = number; len = len; dot = dot }) known.patterns known.hopeless

-- a point of a level: the engine, the records and the flags
pub record Point : Type 0 where
  pub engine : Meaning
  pub records : RunRecords
  pub flags : SkipFlags

-- the point with this engine, these records and these flags
abbrev pub point : Meaning → RunRecords → SkipFlags → Point
point m r flags = record { engine = m; records = r; flags = flags }

-- where a level began: the engine and the records
pub record LevelStart : Type 0 where
  pub engine : Meaning
  pub records : RunRecords

-- these passes lead from the start of a level to this point at a length
pub record IsPointAt (T : Alphabet) (W : List Word) (number len : ℕ)
    (start : LevelStart) (ps : List PassTrace) (at : Point) : Type 0 where
  pub signs : at.engine.signs ≡ start.engine.signs
  pub state : state_of at.engine ≡ state_at_end start.engine.signs (state_of start.engine) ps
  pub records : AreRecorded T W start.engine.signs start.engine.families ps
      start.records at.records
  pub short : list_all (λ p. nat_le p.pass.len len) ps ≡ true
  pub tells : TellSkippable number len at.flags ps
  pub skippable : SkippableCountNothing T W number ps (known_of at.engine)

-- further passes lead from one point at a length to another
abbrev pub GoesOn : Alphabet → List Word → ℕ → ℕ → List PassTrace → Point → Point → Type 0
GoesOn T W number len more old new = (start : LevelStart) (ps : List PassTrace)
    → IsPointAt T W number len start ps old → IsPointAt T W number len start (ps ++ more) new
    × (known_of new.engine ≡ known_at_end (known_of old.engine) more)

-- the passes that are made from what an engine knows
abbrev pub all_made_by : Alphabet → List Word → LevelParams → Meaning → List Pass → List PassTrace
all_made_by T W params m passes = pass_traces T W params (known_of m) passes

-- the state after a level, where these families were told before it: nothing is hopeless
abbrev pub state_after_level : ℕ → Option Families → LevelTrace → State
state_after_level signs families l =
    record {
      known = at_start (patterns_after l);
      families = option_map (λ fs. after_level signs fs l) families;
    }

-- a level was done: the engine is as after it, and the records are those of its passes and its own
pub record DidLevel (T : Alphabet) (W : List Word) (l : LevelTrace)
    (old new : Meaning) (r s : RunRecords) : Type 0 where
  pub state : state_of new ≡ state_after_level old.signs old.families l
  pub lines : map line_of s.passes
      ≡ map line_of r.passes ++ map (pass_line T W) (filter has_candidate l.passes)
  pub layouts : map pass_record_layout s.passes
      ≡ map pass_record_layout r.passes ++ layouts_in old.signs old.families l.passes
  pub levels : map level_line_of s.levels ≡ map level_line_of r.levels ++ level_line T W l ∷ []
  pub level_layouts : map level_record_layout s.levels
      ≡ map level_record_layout r.levels ++ option_map
      (λ fs. level_layout old.signs fs l) old.families ∷ []
  pub begun : s.begun ≡ r.begun + length (begun_among l.passes)

-- what the passes of a run tell of the cells: no layout where no families are told
abbrev pub run_layouts : ℕ → Option Families → Trace → List (Option (Pass × ℕ × ℕ))
run_layouts signs None run = map (λ _. None) (flat_map (λ l. filter has_candidate l.passes) run)
run_layouts signs (Some fs) run =
    map Some (flat_map (λ e. pass_layouts signs e.1 e.0.passes) (levels_with_families signs fs run))

-- what the levels of a run tell of the cells: no layout where no families are told
abbrev pub level_layouts : ℕ → Option Families → Trace → List (Option (ℕ × Layout))
level_layouts signs None run = map (λ _. None) run
level_layouts signs (Some fs) run =
    map Some (map (λ e. level_layout signs e.1 e.0) (levels_with_families signs fs run))

-- the state at the end of a run that begins with these patterns and families
abbrev pub state_after_run : ℕ → Patterns → Option Families → Trace → State
state_after_run signs S families run =
    record {
      known = at_start (final_patterns S run);
      families = option_map (λ fs. fold (after_level signs) fs run) families;
    }

-- a run was done: the engine has the state at its end, and the records are its own
pub record DidRun (T : Alphabet) (W : List Word) (run : Trace)
    (old new : Meaning) (r : RunRecords) : Type 0 where
  pub state : state_of new ≡ state_after_run old.signs old.patterns old.families run
  pub lines : map line_of r.passes ≡ flat_map (pass_lines T W) run
  pub layouts : map pass_record_layout r.passes ≡ run_layouts old.signs old.families run
  pub levels : map level_line_of r.levels ≡ map (level_line T W) run
  pub level_layouts : map level_record_layout r.levels ≡ level_layouts old.signs old.families run
  pub begun : r.begun ≡ begun_count run
