-- `totals` of what `pack` wrote.
use Rattle.std.proofs.Common.{◌≡◌, ℕ, ◌+◌, List, ◌∷◌, [], Some, Result, Ok, Contains, inl, inr, refl, ap, sym, subst, ◌∙◌}
use Rattle.std.specs.FinMap as fin
use Rattle.std.proofs.lemmas.List.Elements.{All-contains, All-nil, Contains-push_cases}
use Rattle.pg_types.specs.declared.marks.Totals.{Totals}
use Rattle.pg_types.specs.declared.refusals.Refusal.{Refusal}
use Rattle.pg_dict.specs.DictionaryWords.{words}
use Rattle.pg_outside.specs.Content.{FileMap}
use Rattle.pg_patterns.specs.Starts.{start}
use Rattle.pg_select.specs.Sums.{totals}
use Rattle.pg_table.specs.Lookups.{table_totals}
use Rattle.pg_table.specs.Texts.{table_text}
use Rattle.pg_texts.specs.ReportTexts.{ending_text}
use Rattle.pg_translate.specs.Alphabets.{Alphabet, letters_of}
use Rattle.pg_translate.specs.Tables.{table}
use Rattle.pg_plans.specs.declared.answers.Status.TheVariants.{Done}
use Rattle.pg_plans.proofs.Told.{told_some, was_told}
use Rattle.pg_top.specs.Inside.Plans.{plan_of_pack}
use Rattle.pg_top.specs.Promises.{PackPromise, TotalsOfPacked}
use Rattle.pg_top.specs.Theorems.{Means, OthersKept, PutsLines}
use Rattle.pg_top.specs.Totalling.{packed_table}
use Rattle.pg_top.proofs.theorems.CommandLaws.{accepted_case, done_no_usage, done_no_fault, pack_exact, totals_exact}
use Rattle.pg_top.proofs.theorems.RunLaws.{some_told}
use Rattle.pg_top.proofs.theorems.WrittenFiles.{inputs_apart}

-- a file means one value
same_meaning : {Y : Type 0} (parse : List ℕ → Result Y Refusal) (files : FileMap) (name : List ℕ) (a b : Y) → Means parse files name a → Means parse files name b → a ≡ b
same_meaning parse files name a b one two =
    let bytes : one.bytes ≡ two.bytes = let e : Some one.bytes ≡ Some two.bytes = sym one.held ∙ two.held in cc in
    let e : ◌≡◌ {A = Result _ Refusal} (Ok a) (Ok b) = sym one.read ∙ ap parse bytes ∙ two.read in
    cc

only_one : (o q : List ℕ) → ¬ (q ≡ o) → ¬ Contains (o ∷ []) q
only_one o q apart there = elim (Contains-push_cases [] o q there) [ inl none ↦ All-contains (λ _. ⊥) [] q (All-nil (λ _. ⊥)) none | inr same ↦ apart (sym same) ]

-- a file means afterwards what it meant before
still_means : {Y : Type 0} (parse : List ℕ → Result Y Refusal) (x y : FileMap) (o name : List ℕ) (value : Y) → OthersKept x y (o ∷ []) → ¬ (name ≡ o) → Means parse x name value → Means parse y name value
still_means parse x y o name value kept apart means = record { bytes = means.bytes; held = kept name (only_one o name apart) ∙ means.held; read = means.read }

pub totals_of_packed : TotalsOfPacked
totals_of_packed p t o d old mid next new packs promised totals_run files after now told =
    let apart = inputs_apart (o ∷ []) (p ∷ t ∷ []) (accepted_case (p ∷ t ∷ []) (o ∷ []) (plan_of_pack p t o) Done old mid done_no_usage done_no_fault packs).0 in
    let P : FileMap → FileMap → Type 0 = λ x y. PackPromise x p t in
    let good = promised.pack p t o refl refl in
    let before = was_told old.0.held mid.0.held P files after good in
    let g = told_some old.0.held mid.0.held P before.0 files before.1 after good in
    let w = told_some old.0.held mid.0.held _ before.0 files before.1 after (pack_exact p t o old mid packs) in
    let last = some_told new.0.held told in
    let s = told_some next.0.held new.0.held _ files last.0 now last.1 (totals_exact d t o next new totals_run) in
    let first : w.0 ≡ g.alphabet = same_meaning table before.0 t w.0 g.alphabet w.2 g.table in
    let second : w.1 ≡ g.patterns = same_meaning (start g.alphabet) before.0 p w.1 g.patterns (subst (λ (T : Alphabet). Means (start T) before.0 p w.1) first w.3) g.entries in
    let text = table_text (letters_of g.alphabet + 1) g.patterns in
    let held : fin.get files o ≡ Some text = w.4 ∙ (λ k. Some (table_text (letters_of (first k) + 1) (second k))) in
    let table_after : Means table files t g.alphabet = still_means table before.0 files o t g.alphabet w.5 apart.1.0.0 g.table in
    let third : s.0 ≡ g.alphabet = same_meaning table files t s.0 g.alphabet s.3 table_after in
    let fourth : s.2 ≡ text = same_meaning (packed_table g.alphabet) files o s.2 text (subst (λ (T : Alphabet). Means (packed_table T) files o s.2) third s.5)
    (record { bytes = text; held = held; read = g.good.accepted }) in
    let same : table_totals s.0 s.1 s.2 ≡ totals g.alphabet s.1 g.patterns =
    (λ k. table_totals (third k) s.1 (fourth k)) ∙ g.good.gives.totals g.alphabet s.1 in (
      g.alphabet,
      g.patterns,
      s.1,
      table_after,
      still_means (start g.alphabet) before.0 files o p g.patterns w.5 apart.0.0 g.entries,
      subst (λ (T : Alphabet). Means (words T) files d s.1) third s.4,
      subst (λ (t : Totals). PutsLines next new (ending_text t)) same s.7,
    )
