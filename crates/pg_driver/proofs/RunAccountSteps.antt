-- What a run that is done tells.
use Rattle.std.proofs.Common.{◌≡◌, ℕ, true, List, [], ◌∷◌, map, filter, Option, None, Some, All, refl, sym, ap, ◌∙◌}
use Rattle.std.specs.List.{flat_map}
use Rattle.std.specs.Option.{option_map, MatchOption}
use Rattle.std.proofs.lemmas.List.Elements.{All-cons, All-nil}
use Rattle.pg_types.specs.declared.marks.Layout.{Layout}
use Rattle.pg_types.specs.declared.marks.Totals.{Totals}
use Rattle.pg_types.specs.Placement.{Families, top}
use Rattle.pg_types.specs.Inside.PlacementSteps.{taken_count}
use Rattle.pg_types.specs.Tails.{tails}
use Rattle.pg_dict.specs.Word.{Word}
use Rattle.pg_translate.specs.Alphabets.{Alphabet}
use Rattle.pg_select.specs.Sums.{totals as totals_by}
use Rattle.pg_patterns.specs.Values.{Patterns}
use Rattle.pg_select.specs.Inside.engine.Meanings.{IsLayout, Meaning}
use Rattle.pg_select.specs.declared.pass.Pass.{Pass}
use Rattle.pg_driver.specs.declared.records.LevelRecord.{LevelRecord}
use Rattle.pg_driver.specs.declared.records.PassRecord.{PassRecord}
use Rattle.pg_driver.specs.Accounts.{has_candidate}
use Rattle.pg_driver.specs.Inside.records.AccountLines.{account}
use Rattle.pg_driver.specs.Inside.records.CellsAccounts.{cells_account, layout_of}
use Rattle.pg_driver.specs.Inside.level.Levels.{DidRun, level_layouts, run_layouts}
use Rattle.pg_driver.specs.Inside.records.SoundRecords.{CompletedRun, RunRecords}
use Rattle.pg_driver.specs.Inside.records.RunAccounts.{TellsCells, account_of, pass_record_layout, level_record_layout}
use Rattle.pg_driver.specs.Traces.{LevelTrace, Trace, final_patterns}

none_mapped : {A B : Type 0} (f : A → B) (o : Option A) → option_map f o ≡ None → o ≡ None
none_mapped f None is = refl
none_mapped f (Some a) is = cc

none_told : {A B C D : Type 0} (layout : A → Option D) (f : A → D → B) (rs : List A) (xs : List C) → map (λ r. option_map (f r) (layout r)) rs ≡ map (λ _. None) xs → All (λ r. layout r ≡ None) rs
none_told layout f [] xs is = All-nil (λ r. layout r ≡ None)
none_told layout f (r ∷ rs) [] is = cc
none_told layout f (r ∷ rs) (x ∷ xs) is =
    let first : option_map (f r) (layout r) ≡ None = cc in
    let rest : map (λ r. option_map (f r) (layout r)) rs ≡ map (λ _. None) xs = cc in
    All-cons (λ r. layout r ≡ None) r rs (none_mapped (f r) (layout r) first) (none_told layout f rs xs rest)

abbrev some_layout : Layout → Option Layout
some_layout l = Some l

first_layout : (P : Patterns) (o : Option Families) (l : Layout) → MatchOption o ⊥ (λ fs. (l.taken ≡ taken_count fs) × (l.top ≡ top fs)) → l.tails
    ≡ tails P → some_layout l ≡ option_map (λ fs. layout_of fs P) o
first_layout P None l is of_tails = absurd is
first_layout P (Some fs) l is of_tails = λ i. some_layout (record { taken = is.0 i; top = is.1 i; tails = of_tails i })

-- the layout that a tidy engine tells
first_is : (m : Meaning) (o : Option Layout) → IsLayout m o → m.tidy ≡ true → o ≡ option_map (λ fs. layout_of fs m.patterns) m.families
first_is m None is tidy = ap (option_map (λ fs. layout_of fs m.patterns)) (sym is)
first_is m (Some l) is tidy = first_layout m.patterns m.families l is.0 (is.1 tidy)

module _ (T : Alphabet) (W : List Word) (run : Trace) (m n : Meaning) (r : RunRecords) (P : Patterns) (totals : Totals) (first : Option Layout) (did : DidRun T W run m n r) where
  -- the run as it is told
  abbrev pub told_run : CompletedRun
  told_run = record { patterns = P; passes = r.passes; levels = r.levels; totals = totals; first_layout = first; begun = r.begun }

  pub told_account : totals ≡ totals_by T W n.patterns → account_of told_run ≡ account T W m.patterns run
  told_account sums =
      let sum : totals ≡ totals_by T W (final_patterns m.patterns run) = sums ∙ ap (λ s. totals_by T W s.known.patterns) did.state in
      λ i. record { passes = did.lines i; levels = did.levels i; totals = sum i }

  cells_told : (o : Option Families) → first ≡ option_map (λ fs. layout_of fs m.patterns) o → map pass_record_layout r.passes ≡ run_layouts m.signs o run
      → map level_record_layout r.levels ≡ level_layouts m.signs o run
      → TellsCells (option_map (λ fs. cells_account m.signs fs m.patterns run) o) told_run
  cells_told None start passes levels =
      let in_pass : PassRecord → Layout → Pass × ℕ × ℕ = λ r l. (record { level = r.level; len = r.len; dot = r.dot }, l.taken, l.top) in
      let in_level : LevelRecord → Layout → ℕ × Layout = λ r l. (r.level, l) in (
        start,
        none_told (λ (r : PassRecord). r.layout) in_pass r.passes (flat_map (λ (l : LevelTrace). filter has_candidate l.passes) run) passes,
        none_told (λ (r : LevelRecord). r.layout) in_level r.levels run levels,
      )
  cells_told (Some fs) start passes levels = (start, passes, levels)

  pub told_cells : IsLayout m first → m.tidy ≡ true → TellsCells (option_map (λ fs. cells_account m.signs fs m.patterns run) m.families) told_run
  told_cells tells tidy = cells_told m.families (first_is m first tells tidy) did.layouts did.level_layouts
