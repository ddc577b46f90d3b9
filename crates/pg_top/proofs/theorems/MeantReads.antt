-- What an input that was read means.
use Rattle.std.proofs.Common.{◌≡◌, ℕ, List, [], Bool, true, false, nat_eq, Option, None, Result, Ok, inl, inr, refl, ap, sym, subst, ◌∙◌, if◌then◌else◌, arith}
use Rattle.std.specs.Prelude.{◌&&◌}
use Rattle.std.specs.Coded.{Coded, code_by, coded×, coded_ℕ, coded_bool, coded_list}
use Rattle.std.specs.Option.{IsSomeAnd}
use Rattle.std.proofs.lemmas.Bool.{eqb-true, eq-eqb}
use base.Stored.{Gv, gnil, gnum, gcons}
use Rattle.pg_types.specs.Parameters.{Parameters}
use Rattle.pg_types.specs.declared.parameters.LevelParams.{LevelParams}
use Rattle.pg_types.specs.declared.refusals.Refusal.{Refusal}
use Rattle.pg_dict.specs.Word.{Word}
use Rattle.pg_outside.specs.Content.{FileMap, FilesShown, SinkShown, Told}
use Rattle.pg_outside.specs.Faults.{next_count}
use Rattle.pg_patterns.specs.Values.{Patterns}
use Rattle.pg_translate.specs.Alphabets.{Alphabet}
use Rattle.pg_plans.specs.Outcomes.{Outcome, outcome}
use Rattle.pg_plans.specs.Plans.{Moment, Plan, Ending, Follows}
use Rattle.pg_plans.specs.declared.answers.Status.TheVariants.{Done, Yes}
use Rattle.pg_plans.proofs.Told.{told_as}
use Rattle.pg_steps.specs.InputPlans.{input}
use Rattle.pg_steps.specs.Inside.Steps.{Gives}
use Rattle.pg_steps.specs.declared.inputs.Input.{Input}
use Rattle.pg_steps.specs.declared.inputs.Stop.{Stop}
use Rattle.pg_top.specs.Generating.{selection_from}
use Rattle.pg_top.specs.Theorems.{Means, HasInputs}
use Rattle.pg_top.specs.declared.selection.Inputs.{Inputs}
use Rattle.pg_top.proofs.theorems.MeantInputs.{IsNoRefusal, came_from, selected_from}
use Rattle.pg_top.proofs.theorems.RunLaws.{Judges, done_is, done_no_refusal}
use Rattle.pg_top.proofs.theorems.WrittenFiles.{both}

-- whether two codes are the same
abbrev same : Gv → Gv → Bool
same gnil gnil = true
same (gnum a) (gnum b) = nat_eq a b
same (gcons a b) (gcons c d) = same a c && same b d
same x y = false

same_is : (x y : Gv) → same x y ≡ true → x ≡ y
same_is gnil gnil is = refl
same_is gnil (gnum b) is = cc
same_is gnil (gcons c d) is = cc
same_is (gnum a) gnil is = cc
same_is (gnum a) (gnum b) is = ap gnum (eqb-true a b is)
same_is (gnum a) (gcons c d) is = cc
same_is (gcons a b) gnil is = cc
same_is (gcons a b) (gnum c) is = cc
same_is (gcons a b) (gcons c d) is = let h = both (same a c) (same b d) is in λ k. gcons (same_is a c h.0 k) (same_is b d h.1 k)

same_self : (x : Gv) → same x x ≡ true
same_self gnil = refl
same_self (gnum a) = eq-eqb a a refl
same_self (gcons a b) = λ k. same_self a k && same_self b k

-- the codes of what is read
abbrev pub patterns_code : Coded Patterns
patterns_code = coded_list (coded× (coded× (coded_list coded_ℕ) coded_ℕ) coded_ℕ)

abbrev pub alphabet_code : Coded Alphabet
alphabet_code = code_by (ℕ × (ℕ × (List ℕ × List (ℕ × List ℕ)))) (coded× coded_ℕ (coded× coded_ℕ (coded× (coded_list coded_ℕ) (coded_list (coded× coded_ℕ (coded_list coded_ℕ))))))
    (λ t. (t.left, (t.right, (t.marks, t.spellings)))) (λ x. record { left = x.0; right = x.1.0; marks = x.1.1.0; spellings = x.1.1.1 }) (λ _. refl)

abbrev word_code : Coded Word
word_code = code_by (List ℕ × (List Bool × (List ℕ × (List Bool × ℕ)))) (coded× (coded_list coded_ℕ) (coded× (coded_list coded_bool) (coded× (coded_list coded_ℕ) (coded× (coded_list coded_bool) coded_ℕ))))
    (λ w. (w.signs, (w.hyphens, (w.weights, (w.cares, w.weight))))) (λ x. record { signs = x.0; hyphens = x.1.0; weights = x.1.1.0; cares = x.1.1.1.0; weight = x.1.1.1.1 }) (λ _. refl)

abbrev pub words_code : Coded (List Word)
words_code = coded_list word_code

abbrev level_code : Coded LevelParams
level_code = code_by (ℕ × (ℕ × (ℕ × (ℕ × ℕ)))) (coded× coded_ℕ (coded× coded_ℕ (coded× coded_ℕ (coded× coded_ℕ coded_ℕ))))
    (λ l. (l.pat_start, (l.pat_finish, (l.good_wt, (l.bad_wt, l.thresh))))) (λ x. record { pat_start = x.0; pat_finish = x.1.0; good_wt = x.1.1.0; bad_wt = x.1.1.1.0; thresh = x.1.1.1.1 }) (λ _. refl)

abbrev parameters_code : Coded Parameters
parameters_code = code_by (ℕ × (ℕ × List LevelParams)) (coded× coded_ℕ (coded× coded_ℕ (coded_list level_code))) (λ p. (p.start, (p.finish, p.levels)))
    (λ x. record { start = x.0; finish = x.1.0; levels = x.1.1 }) (λ _. refl)

abbrev inputs_code : Coded Inputs
inputs_code = code_by (Alphabet × (Parameters × (Patterns × List Word))) (coded× alphabet_code (coded× parameters_code (coded× patterns_code words_code))) (λ i. (i.table, (i.params, (i.start, i.dictionary))))
    (λ x. record { table = x.0; params = x.1.0; start = x.1.1.0; dictionary = x.1.1.1 }) (λ _. refl)

-- of a sink that tells nothing
abbrev before_put : SinkShown
before_put = record { text = None; faults = 0; puts = 0 }

abbrev after_put : SinkShown
after_put = record { text = None; faults = 0; puts = next_count 0 }

-- a part of a plan that gave a value was read as it: the rest of the plan can ask for this value
module _ {Y : Type 0} (code : Coded Y) (part : (Y → Plan) → Plan) (IsRead : FileMap → Y → Type 0)
    (came : (x : FileMap) (next : Y → Plan) (Q : Outcome → Type 0) → IsNoRefusal Q → IsSomeAnd (outcome x (part next)) Q → (y : Y) × IsRead x y × IsSomeAnd (outcome x (next y)) Q)
    (y : Y) (s0 s1 : FilesShown) (gives : Gives part (Ok y) s0 s1) where
  abbrev asks : Bool → Plan
  asks b = if b then Ending Done [] [] else Ending Yes [] []

  abbrev next : Y → Plan
  next z = asks (same (code.code z) (code.code y))

  abbrev new : Moment
  new = (s1, after_put)

  ended : Follows (next y) Done (s1, before_put) new
  ended = subst (λ (b : Bool). Follows (asks b) Done (s1, before_put) new) (sym (same_self (code.code y))) (inr (refl, inl (refl, record { puts = refl; text = tt; faults = omega arith })))

  that : (x z : FileMap) (v : Y) (b : Bool) → same (code.code v) (code.code y) ≡ b → IsSomeAnd (outcome x (asks b)) (Judges Done (s0, before_put) new x z) → (z ≡ x) × (v ≡ y)
  that x z v true is h = (h.1, code.inj v y (same_is (code.code v) (code.code y) is))
  that x z v false is h = let e : Done ≡ Yes = h.0 in cc

  pub part_meant : Told s0.held s1.held (λ before after. (after ≡ before) × IsRead before y)
  part_meant = told_as s0.held s1.held _ _ (λ x z is.
      let from = came x next (Judges Done (s0, before_put) new x z) (done_no_refusal (s0, before_put) new x z) is in
      let has = that x z from.0 (same (code.code from.0) (code.code y)) refl from.2 in
      (has.0, subst (λ (v : Y). IsRead x v) has.1 from.1)) (done_is (part next) (s0, before_put) new (gives next Done before_put new ended))

-- an input that gave a value means it
pub meant : {Y : Type 0} (code : Coded Y) (kind : Input) (name : List ℕ) (parse : List ℕ → Result Y Refusal) (y : Y) (s0 s1 : FilesShown) → Gives (input kind name parse) (Ok y) s0 s1
    → Told s0.held s1.held (λ before after. (after ≡ before) × Means parse before name y)
meant code kind name parse y s0 s1 gives = part_meant code (input kind name parse) (λ x z. Means parse x name z) (λ x next Q none is. came_from x kind name parse next Q none is) y s0 s1 gives

-- files that gave the inputs of a selection are read as these
pub meant_inputs : (d p t a : List ℕ) (i : Inputs) (s0 s1 : FilesShown) → Gives (selection_from d p t a) (Ok i) s0 s1 → Told s0.held s1.held (λ before after. (after ≡ before) × HasInputs before d p t a i)
meant_inputs d p t a i s0 s1 gives = part_meant inputs_code (selection_from d p t a) (λ x z. HasInputs x d p t a z) (λ x next Q none is. selected_from d p t a next x Q none is) i s0 s1 gives
