-- A step of a run: a level, and what is read off the levels then.
use Rattle.std.proofs.Common.{◌≡◌, ℕ, ◌+◌, ◌≤◌, true, List, [], ◌∷◌, ◌++◌, fold, length, map, filter, drop, slice_get, Option, None, Some, refl, sym, ap, subst, ◌∙◌, append_assoc, append-nil, add_assoc}
use Rattle.std.specs.List.{enumerate_from, flat_map}
use Rattle.std.specs.Option.{option_map, MatchOption}
use Rattle.std.proofs.lemmas.Grind.{flat_map-append}
use Rattle.std.proofs.lemmas.List.{drop_all, map-append, map_push}
use Rattle.std.proofs.lemmas.List.Sums.{fold-append, sum_by_push}
use Rattle.pg_types.specs.declared.marks.Layout.{Layout}
use Rattle.pg_types.specs.declared.marks.Totals.{Totals}
use Rattle.pg_types.specs.declared.parameters.LevelParams.{LevelParams}
use Rattle.pg_types.specs.Placement.{Families, kept_families, top}
use Rattle.pg_types.specs.Inside.PlacementSteps.{taken_count}
use Rattle.pg_types.specs.Tails.{tails}
use Rattle.pg_dict.specs.Word.{Word}
use Rattle.pg_translate.specs.Alphabets.{Alphabet}
use Rattle.pg_select.specs.Sums.{totals as totals_by}
use Rattle.pg_patterns.specs.Values.{Patterns}
use Rattle.pg_select.specs.Inside.engine.Meanings.{IsLayout, Meaning, after_end_level}
use Rattle.pg_select.specs.declared.pass.Pass.{Pass}
use Rattle.pg_select.specs.Windows.{Hopeless}
use Rattle.pg_driver.specs.declared.records.LevelRecord.{LevelRecord}
use Rattle.pg_driver.specs.Accounts.{has_candidate}
use Rattle.pg_driver.specs.Inside.records.AccountLines.{LevelLine, begun_among, chosen_by, level_line, pass_line, pass_lines}
use Rattle.pg_driver.specs.Inside.Layouts.{after_pass, after_level, strings_in}
use Rattle.pg_driver.specs.Inside.records.CellsAccounts.{layout_of, level_layout, levels_with_families, pass_layouts}
use Rattle.pg_driver.specs.Inside.records.RunAccounts.{known_of, pass_record_layout, level_record_layout, level_line_of, line_of}
use Rattle.pg_driver.specs.Inside.level.Levels.{AreRecorded, DidLevel, DidRun, all_made_by, layouts_in, level_layouts, run_layouts}
use Rattle.pg_driver.specs.Inside.records.SoundRecords.{RunRecords, with_level}
use Rattle.pg_driver.specs.Inside.level.States.{State, state_at_end, state_of}
use Rattle.pg_driver.specs.Traces.{Knowledge, LevelTrace, PassTrace, Trace, at_start, final_patterns, level_trace, passes_of, patterns_after}
use Rattle.pg_driver.specs.Inside.level.Passes.{level_traces, pass_traces, known_at_end}
use Rattle.pg_driver.proofs.Numbers.{plus_zero, zero_plus}
use Rattle.pg_driver.proofs.WordSteps.{drop_place}

-- the end of a level
families_end : (signs : ℕ) (l : LevelTrace) (P : Patterns) (o fo : Option Families) → P ≡ patterns_after l → o ≡ option_map (λ fs. fold (after_pass signs) fs l.passes) fo
    → option_map (kept_families (strings_in P)) o ≡ option_map (λ fs. after_level signs fs l) fo
families_end signs l P o fo patterns families = ap (λ (Q : Patterns). option_map (kept_families (strings_in Q)) o) patterns
    ∙ ap (option_map (kept_families (strings_in (patterns_after l)))) families ∙ composed fo
  where
    composed : (fo : Option Families) → option_map (kept_families (strings_in (patterns_after l))) (option_map (λ fs. fold (after_pass signs) fs l.passes) fo)
        ≡ option_map (λ fs. after_level signs fs l) fo
    composed None = refl
    composed (Some fs) = refl

abbrev told : ℕ → Layout → Option (ℕ × Layout)
told number l = let p : ℕ × Layout = (number, l) in Some p

some_layout : (number : ℕ) (P : Patterns) (o : Option Families) (l : Layout) → MatchOption o ⊥ (λ fs. (l.taken ≡ taken_count fs) × (l.top ≡ top fs))
    → l.tails ≡ tails P → told number l ≡ option_map (λ fs. (number, layout_of fs P)) o
some_layout number P None l is of_tails = absurd is
some_layout number P (Some fs) l is of_tails = λ i. told number (record { taken = is.0 i; top = is.1 i; tails = of_tails i })

-- the layout that a tidy engine tells
pub layout_is : (number : ℕ) (n : Meaning) (o : Option Layout) → IsLayout n o → n.tidy ≡ true → option_map {U = ℕ × Layout} (λ l. (number, l)) o
    ≡ option_map (λ fs. (number, layout_of fs n.patterns)) n.families
layout_is number n None is tidy = ap (option_map (λ fs. (number, layout_of fs n.patterns))) (sym is)
layout_is number n (Some l) is tidy = some_layout number n.patterns n.families l is.0 (is.1 tidy)

both_maps : (signs number : ℕ) (l : LevelTrace) (P : Patterns) (o : Option Families) → l.number ≡ number → P ≡ patterns_after l
    → option_map (λ fs. (number, layout_of fs P)) (option_map (λ fs. after_level signs fs l) o) ≡ option_map (λ fs. level_layout signs fs l) o
both_maps signs number l P None same patterns = refl
both_maps signs number l P (Some fs) same patterns = λ i. let p : ℕ × Layout = (sym same i, layout_of (after_level signs fs l) (patterns i)) in Some p

module _ (T : Alphabet) (W : List Word) (number : ℕ) (params : LevelParams) (m0 m n : Meaning) (r0 r s : RunRecords) (totals : Totals) (layout : Option Layout) (none : m0.hopeless ≡ []) where
  abbrev level : LevelTrace
  level = level_trace T W m0.patterns (number, params)

  -- the passes of the level
  abbrev passes : List PassTrace
  passes = all_made_by T W params m0 (passes_of number params)

  same_passes : passes ≡ level.passes
  same_passes = ap (λ (H : Hopeless). pass_traces T W params (record { patterns = m0.patterns; hopeless = H }) (passes_of number params)) none

  same_known : known_at_end (known_of m0) passes ≡ known_at_end (at_start m0.patterns) level.passes
  same_known = ap (λ (H : Hopeless). known_at_end (record { patterns = m0.patterns; hopeless = H })
      (pass_traces T W params (record { patterns = m0.patterns; hopeless = H }) (passes_of number params))) none

  patterns_end : state_of m ≡ state_at_end m0.signs (state_of m0) passes → m.patterns ≡ patterns_after level
  patterns_end state = ap (λ (x : State). x.known.patterns) state ∙ ap (λ (k : Knowledge). k.patterns) same_known

  -- a level that was done
  pub did_level : state_of m ≡ state_at_end m0.signs (state_of m0) passes → AreRecorded T W m0.signs m0.families passes r0 r → r0.chosen ≡ 0 → n
      ≡ after_end_level m → totals ≡ totals_by T W n.patterns → IsLayout n layout → s ≡ with_level r number totals layout
      → DidLevel T W level m0 n r0 s
  did_level state records chosen ends sums tells is =
      let patterns : m.patterns ≡ patterns_after level = patterns_end state in
      let after : n.patterns ≡ patterns_after level = ap (λ (x : Meaning). x.patterns) ends ∙ patterns in
      let entered : m.families ≡ option_map (λ fs. fold (after_pass m0.signs) fs level.passes) m0.families = ap (λ (x : State). x.families) state
      ∙ ap (λ (ps : List PassTrace). option_map (λ fs. fold (after_pass m0.signs) fs ps) m0.families) same_passes in
      let families : n.families ≡ option_map (λ fs. after_level m0.signs fs level) m0.families = ap (λ (x : Meaning). x.families) ends
      ∙ families_end m0.signs level m.patterns m.families m0.families patterns entered in
      let hopeless : n.hopeless ≡ [] = ap (λ (x : Meaning). x.hopeless) ends in
      let kept_passes : s.passes ≡ r.passes = ap (λ (x : RunRecords). x.passes) is in
      let own_record : LevelRecord = record { level = number; chosen = r.chosen; after = totals; layout = layout } in
      let own : s.levels ≡ r.levels ++ own_record ∷ [] = ap (λ (x : RunRecords). x.levels) is in
      let count : r.chosen ≡ chosen_by level.passes = records.chosen ∙ ap (λ k. k + chosen_by passes) chosen ∙ zero_plus (chosen_by passes) ∙ ap chosen_by same_passes in
      let sum : totals ≡ totals_by T W (patterns_after level) = sums ∙ ap (totals_by T W) after in
      let line : level_line_of own_record ≡ level_line T W level = λ i. record { level = number; chosen = count i; after = sum i } in
      let tidy : n.tidy ≡ true = ap (λ (x : Meaning). x.tidy) ends in
      let laid : option_map {U = ℕ × Layout} (λ l. (number, l)) layout ≡ option_map (λ fs. level_layout m0.signs fs level) m0.families =
      layout_is number n layout tells tidy ∙ ap (option_map (λ fs. (number, layout_of fs n.patterns))) families ∙ both_maps m0.signs number level n.patterns m0.families refl after in
      record {
        state = λ i. record { known = record { patterns = after i; hopeless = hopeless i }; families = families i };
        lines = ap (map line_of) kept_passes ∙ records.lines ∙ ap (λ (ps : List PassTrace). map line_of r0.passes ++ map (pass_line T W) (filter has_candidate ps)) same_passes;
        layouts = ap (map pass_record_layout) kept_passes ∙ records.layouts ∙ ap (λ (ps : List PassTrace). map pass_record_layout r0.passes ++ layouts_in m0.signs m0.families ps) same_passes;
        levels = ap (map level_line_of) own ∙ map_push level_line_of r.levels own_record ∙ ap (λ (ls : List LevelRecord). map level_line_of ls ++ level_line_of own_record ∷ []) records.levels
            ∙ ap (λ (x : LevelLine). map level_line_of r0.levels ++ x ∷ []) line;
        level_layouts = ap (map level_record_layout) own ∙ map_push level_record_layout r.levels own_record
            ∙ ap (λ (ls : List LevelRecord). map level_record_layout ls ++ option_map {U = ℕ × Layout} (λ l. (number, l)) layout ∷ []) records.levels
            ∙ ap (λ (x : Option (ℕ × Layout)). map level_record_layout r0.levels ++ x ∷ []) laid;
        begun = ap (λ (x : RunRecords). x.begun) is ∙ records.begun ∙ ap (λ (ps : List PassTrace). r0.begun + length (begun_among ps)) same_passes;
      }

-- the levels from a place on
pub levels_step : (start i : ℕ) (levels : List LevelParams) (level : LevelParams) → slice_get levels i ≡ Some level → enumerate_from (start + i) (drop i levels)
    ≡ (start + i, level) ∷ enumerate_from (start + (i + 1)) (drop (i + 1) levels)
levels_step start i levels level at =
    ap (λ (ls : List LevelParams). enumerate_from (start + i) ls) (drop_place levels i level at)
    ∙ ap (λ (n : ℕ). (start + i, level) ∷ enumerate_from n (drop (i + 1) levels)) (add_assoc start i 1)

-- levels with the families before them, and one more
with_families_push : (signs : ℕ) (fs : Families) (run : Trace) (l : LevelTrace) → levels_with_families signs fs (run ++ l ∷ []) ≡ levels_with_families signs fs run
    ++ (l, fold (after_level signs) fs run) ∷ []
with_families_push signs fs [] l = refl
with_families_push signs fs (k ∷ run) l = ap (λ es. (k, fs) ∷ es) (with_families_push signs (after_level signs fs k) run l)

one_list : {A B : Type 0} (f : A → List B) (xs : List A) (x : A) → flat_map f (xs ++ x ∷ []) ≡ flat_map f xs ++ f x
one_list f xs x = flat_map-append f xs (x ∷ []) ∙ ap (λ ys. flat_map f xs ++ ys) (append-nil (f x))

abbrev passes_laid : ℕ → LevelTrace × Families → List (Pass × ℕ × ℕ)
passes_laid signs e = pass_layouts signs e.1 e.0.passes

abbrev level_laid : ℕ → LevelTrace × Families → ℕ × Layout
level_laid signs e = level_layout signs e.1 e.0

run_layouts_push : (signs : ℕ) (o : Option Families) (run : Trace) (l : LevelTrace) → run_layouts signs o (run ++ l ∷ []) ≡ run_layouts signs o run
    ++ layouts_in signs (option_map (λ fs. fold (after_level signs) fs run) o) l.passes
run_layouts_push signs None run l =
    let none : PassTrace → Option (Pass × ℕ × ℕ) = λ _. None in
    ap (map none) (one_list (λ (l : LevelTrace). filter has_candidate l.passes) run l)
    ∙ map-append none (flat_map (λ (l : LevelTrace). filter has_candidate l.passes) run) (filter has_candidate l.passes)
run_layouts_push signs (Some fs) run l =
    let some : Pass × ℕ × ℕ → Option (Pass × ℕ × ℕ) = λ x. Some x in
    let last : LevelTrace × Families = (l, fold (after_level signs) fs run) in
    ap (λ (es : List (LevelTrace × Families)). map some (flat_map (passes_laid signs) es)) (with_families_push signs fs run l)
    ∙ ap (map some) (one_list (passes_laid signs) (levels_with_families signs fs run) last)
    ∙ map-append some (flat_map (passes_laid signs) (levels_with_families signs fs run)) (passes_laid signs last)

level_layouts_push : (signs : ℕ) (o : Option Families) (run : Trace) (l : LevelTrace) → level_layouts signs o (run ++ l ∷ []) ≡ level_layouts signs o run
    ++ option_map (λ fs. level_layout signs fs l) (option_map (λ fs. fold (after_level signs) fs run) o) ∷ []
level_layouts_push signs None run l = map_push (λ (_ : LevelTrace). let none : Option (ℕ × Layout) = None in none) run l
level_layouts_push signs (Some fs) run l =
    let some : ℕ × Layout → Option (ℕ × Layout) = λ x. Some x in
    let last : LevelTrace × Families = (l, fold (after_level signs) fs run) in
    ap (λ (es : List (LevelTrace × Families)). map some (map (level_laid signs) es)) (with_families_push signs fs run l)
    ∙ ap (map some) (map_push (level_laid signs) (levels_with_families signs fs run) last)
    ∙ map_push some (map (level_laid signs) (levels_with_families signs fs run)) (level_laid signs last)

families_push : (signs : ℕ) (o : Option Families) (run : Trace) (l : LevelTrace) → option_map (λ fs. fold (after_level signs) fs (run ++ l ∷ [])) o
    ≡ option_map (λ fs. after_level signs fs l) (option_map (λ fs. fold (after_level signs) fs run) o)
families_push signs None run l = refl
families_push signs (Some fs) run l = ap (λ (gs : Families). Some gs) (fold-append (after_level signs) fs run (l ∷ []))

patterns_push : (S : Patterns) (run : Trace) (l : LevelTrace) → final_patterns S (run ++ l ∷ []) ≡ patterns_after l
patterns_push S [] l = refl
patterns_push S (k ∷ run) l = patterns_push (patterns_after k) run l

-- a level more
pub run_push : (T : Alphabet) (W : List Word) (run : Trace) (l : LevelTrace) (m0 m n : Meaning) (r s : RunRecords) → m.signs ≡ m0.signs → DidRun T W run m0 m r
    → DidLevel T W l m n r s → DidRun T W (run ++ l ∷ []) m0 n s
run_push T W run l m0 m n r s signs before did =
    let families : m.families ≡ option_map (λ fs. fold (after_level m0.signs) fs run) m0.families = ap (λ (x : State). x.families) before.state in
    let patterns : n.patterns ≡ final_patterns m0.patterns (run ++ l ∷ []) = ap (λ (x : State). x.known.patterns) did.state ∙ sym (patterns_push m0.patterns run l) in
    let hopeless : n.hopeless ≡ [] = ap (λ (x : State). x.known.hopeless) did.state in
    let new : n.families ≡ option_map (λ fs. fold (after_level m0.signs) fs (run ++ l ∷ [])) m0.families =
    ap (λ (x : State). x.families) did.state
    ∙ ap (λ (k : ℕ). option_map (λ fs. after_level k fs l) m.families) signs
    ∙ ap (option_map (λ fs. after_level m0.signs fs l)) families
    ∙ sym (families_push m0.signs m0.families run l) in
    record {
      state = λ i. record { known = record { patterns = patterns i; hopeless = hopeless i }; families = new i };
      lines = did.lines ∙ ap (λ ls. ls ++ pass_lines T W l) before.lines ∙ sym (one_list (pass_lines T W) run l);
      layouts =
          did.layouts
          ∙ ap (λ ls. ls ++ layouts_in m.signs m.families l.passes) before.layouts
          ∙ ap (λ (k : ℕ). run_layouts m0.signs m0.families run ++ layouts_in k m.families l.passes) signs
          ∙ ap (λ (o : Option Families). run_layouts m0.signs m0.families run ++ layouts_in m0.signs o l.passes) families
          ∙ sym (run_layouts_push m0.signs m0.families run l);
      levels = did.levels ∙ ap (λ ls. ls ++ level_line T W l ∷ []) before.levels ∙ sym (map_push (level_line T W) run l);
      level_layouts =
          did.level_layouts
          ∙ ap (λ ls. ls ++ option_map (λ fs. level_layout m.signs fs l) m.families ∷ []) before.level_layouts
          ∙ ap (λ (k : ℕ). level_layouts m0.signs m0.families run ++ option_map (λ fs. level_layout k fs l) m.families ∷ []) signs
          ∙ ap (λ (o : Option Families). level_layouts m0.signs m0.families run ++ option_map (λ fs. level_layout m0.signs fs l) o ∷ []) families
          ∙ sym (level_layouts_push m0.signs m0.families run l);
      begun = did.begun ∙ ap (λ k. k + length (begun_among l.passes)) before.begun ∙ sym (sum_by_push (λ (l : LevelTrace). length (begun_among l.passes)) run l);
    }

-- no level yet
pub run_begins : (T : Alphabet) (W : List Word) (m : Meaning) (r : RunRecords) → m.hopeless ≡ [] → r ≡ record { passes = []; levels = []; chosen = 0; begun = 0 } → DidRun T W [] m m r
run_begins T W m r none is = record {
  state = λ i. record { known = record { patterns = m.patterns; hopeless = none i }; families = none_yet m.signs m.families i };
  lines = ap (λ (x : RunRecords). map line_of x.passes) is;
  layouts = ap (λ (x : RunRecords). map pass_record_layout x.passes) is ∙ no_layouts m.signs m.families;
  levels = ap (λ (x : RunRecords). map level_line_of x.levels) is;
  level_layouts = ap (λ (x : RunRecords). map level_record_layout x.levels) is ∙ no_level_layouts m.signs m.families;
  begun = ap (λ (x : RunRecords). x.begun) is;
}
  where
    none_yet : (signs : ℕ) (o : Option Families) → o ≡ option_map (λ fs. fold (after_level signs) fs []) o
    none_yet signs None = refl
    none_yet signs (Some fs) = refl

    no_layouts : (signs : ℕ) (o : Option Families) → [] ≡ run_layouts signs o []
    no_layouts signs None = refl
    no_layouts signs (Some fs) = refl

    no_level_layouts : (signs : ℕ) (o : Option Families) → [] ≡ level_layouts signs o []
    no_level_layouts signs None = refl
    no_level_layouts signs (Some fs) = refl

-- levels that were done, and those that are left and lead to a whole
pub record RunReaches (T : Alphabet) (W : List Word) (m0 m : Meaning) (r : RunRecords) (rest : List (ℕ × LevelParams)) (whole : Trace) : Type 0 where
  pub done : Trace
  pub did : DidRun T W done m0 m r
  pub left : done ++ level_traces T W m.patterns rest ≡ whole

-- a level of those that are left
pub level_on : (T : Alphabet) (W : List Word) (m0 m n : Meaning) (r s : RunRecords) (level : ℕ × LevelParams) (levels rest : List (ℕ × LevelParams)) (whole : Trace)
    → m.signs ≡ m0.signs → levels ≡ level ∷ rest → DidLevel T W (level_trace T W m.patterns level) m n r s
    → RunReaches T W m0 m r levels whole → RunReaches T W m0 n s rest whole
level_on T W m0 m n r s level levels rest whole signs first did before =
    let l : LevelTrace = level_trace T W m.patterns level in
    record {
      done = before.done ++ l ∷ [];
      did = run_push T W before.done l m0 m n r s signs before.did did;
      left =
          append_assoc before.done (l ∷ []) (level_traces T W n.patterns rest)
          ∙ ap (λ (x : State). before.done ++ l ∷ level_traces T W x.known.patterns rest) did.state
          ∙ ap (λ (ls : List (ℕ × LevelParams)). before.done ++ level_traces T W m.patterns ls) (sym first)
          ∙ before.left;
    }

pub run_whole : (T : Alphabet) (W : List Word) (m0 m : Meaning) (r : RunRecords) (rest : List (ℕ × LevelParams)) (whole : Trace) → rest ≡ [] → RunReaches T W m0 m r rest whole → DidRun T W whole m0 m r
run_whole T W m0 m r rest whole none reaches =
    subst (λ (run : Trace). DidRun T W run m0 m r)
    (sym (append-nil reaches.done) ∙ ap (λ (ls : List (ℕ × LevelParams)). reaches.done ++ level_traces T W m.patterns ls) (sym none) ∙ reaches.left)
    reaches.did

pub no_levels : (start i : ℕ) (levels : List LevelParams) → length levels ≤ i → enumerate_from (start + i) (drop i levels) ≡ []
no_levels start i levels all = ap (enumerate_from (start + i)) (drop_all i levels all)

pub all_levels : (start : ℕ) (levels : List LevelParams) → enumerate_from (start + 0) levels ≡ enumerate_from start levels
all_levels start levels = ap (λ (n : ℕ). enumerate_from n levels) (plus_zero start)
