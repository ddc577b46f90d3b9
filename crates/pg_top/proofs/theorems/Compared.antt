-- What comparing given files comes to.
use Rattle.std.proofs.Common.{◌≡◌, ◌⊎◌, ℕ, List, ◌∷◌, [], ◌++◌, Option, None, Some, inl, inr, refl, ap, subst, ◌∙◌}
use Rattle.std.specs.Prelude.{codes}
use Rattle.std.specs.List.{AllByRecursion}
use Rattle.std.specs.Option.{IsSomeAnd, option_and_then, option_map_or}
use Rattle.std.specs.FinMap as fin
use Rattle.pg_audit.proofs.Least.{none_where_equal, equal_has_none}
use Rattle.pg_audit.specs.Differences.{first_false}
use Rattle.pg_outside.specs.Content.{FileMap}
use Rattle.pg_plans.specs.Outcomes.{Outcome, outcome}
use Rattle.pg_plans.specs.Plans.{Plan, Ending}
use Rattle.pg_plans.specs.declared.answers.Status.TheVariants.{Yes, No}
use Rattle.pg_steps.specs.declared.inputs.Given.{Given}
use Rattle.pg_top.specs.Auditing.{comparison, no_line}
use Rattle.pg_top.specs.Selection.{selected_file}
use Rattle.pg_top.specs.declared.selection.Inputs.{Inputs}

module _ (files : FileMap) (i : Inputs) where
  abbrev pub IsThere : Given × List ℕ → Type 0
  IsThere g = fin.get files g.1 ≡ Some (selected_file i g.0)

  -- what is left by the first false line of a file
  abbrev judged_by : Given × List ℕ → List (Given × List ℕ) → Option (ℕ × List ℕ) → Plan
  judged_by g gs difference = option_map_or (λ d. Ending No [] (no_line g.0 d)) difference (comparison i gs)

  abbrev after : Given × List ℕ → List (Given × List ℕ) → List ℕ → Plan
  after g gs bytes = judged_by g gs (first_false bytes (selected_file i g.0))

  -- all are there: the answer is yes
  pub says_yes : (gs : List (Given × List ℕ)) (Q : Outcome → Type 0) → AllByRecursion IsThere gs → IsSomeAnd (outcome files (comparison i gs)) Q → (o : Outcome) × (o.answer ≡ Yes) × Q o
  says_yes [] Q all is = (record { answer = Yes; writing = []; lines = codes "yes\n" }, refl, is)
  says_yes (g ∷ gs) Q all is =
      let text = selected_file i g.0 in
      let read : IsSomeAnd (outcome files (after g gs text)) Q = subst (λ (file : Option (List ℕ)). IsSomeAnd (option_and_then (λ bytes. outcome files (after g gs bytes)) file) Q) all.0 is in
      says_yes gs Q all.1 (subst (λ (difference : Option (ℕ × List ℕ)). IsSomeAnd (outcome files (judged_by g gs difference)) Q) (equal_has_none text text refl) read)

  -- the answer is yes or no
  pub yes_or_no : (gs : List (Given × List ℕ)) (Q : Outcome → Type 0) → IsSomeAnd (outcome files (comparison i gs)) Q → (o : Outcome) × ((o.answer ≡ Yes) ⊎ (o.answer ≡ No)) × Q o
  yes_or_no [] Q is = (record { answer = Yes; writing = []; lines = codes "yes\n" }, inl refl, is)
  yes_or_no (g ∷ gs) Q is =
      elim (fin.get files g.1) as (λ file. IsSomeAnd (option_and_then (λ bytes. outcome files (after g gs bytes)) file) Q → (o : Outcome) × ((o.answer ≡ Yes) ⊎ (o.answer ≡ No)) × Q o) [
        | None ↦ λ h. absurd h
        | Some bytes ↦ λ h.
            elim (first_false bytes (selected_file i g.0)) as (λ difference. IsSomeAnd (outcome files (judged_by g gs difference)) Q → (o : Outcome) × ((o.answer ≡ Yes) ⊎ (o.answer ≡ No)) × Q o) [
              | None ↦ λ h. yes_or_no gs Q h
              | Some d ↦ λ h. (record { answer = No; writing = []; lines = no_line g.0 d }, inr refl, h)
            ] h
      ] is

  -- the first that is not there, and what is known of the line of it
  pub record Denied (gs : List (Given × List ℕ)) (Q : Outcome → Type 0) : Type 0 where
    pub front : List (Given × List ℕ)
    pub first : Given × List ℕ
    pub behind : List (Given × List ℕ)
    pub order : gs ≡ front ++ first ∷ behind
    pub right : AllByRecursion IsThere front
    pub bytes : List ℕ
    pub held : fin.get files first.1 ≡ Some bytes
    pub difference : ℕ × List ℕ
    pub differs : first_false bytes (selected_file i first.0) ≡ Some difference
    pub known : Q (record { answer = No; writing = []; lines = no_line first.0 difference })

  -- the answer is yes: all are there
  pub all_there : (gs : List (Given × List ℕ)) (Q : Outcome → Type 0) → ((o : Outcome) → Q o → o.answer ≡ Yes) → IsSomeAnd (outcome files (comparison i gs)) Q → AllByRecursion IsThere gs
  all_there [] Q says is = tt
  all_there (g ∷ gs) Q says is =
      elim (fin.get files g.1) as (λ file. fin.get files g.1 ≡ file → IsSomeAnd (option_and_then (λ bytes. outcome files (after g gs bytes)) file) Q → AllByRecursion IsThere (g ∷ gs)) [
        | None ↦ λ found h. absurd h
        | Some bytes ↦ λ found h.
            elim (first_false bytes (selected_file i g.0)) as (λ difference. first_false bytes (selected_file i g.0) ≡ difference → IsSomeAnd (outcome files (judged_by g gs difference)) Q
            → AllByRecursion IsThere (g ∷ gs)) [
              | None ↦ λ none h. (found ∙ ap Some (none_where_equal bytes (selected_file i g.0) none), all_there gs Q says h)
              | Some d ↦ λ some h. let never : No ≡ Yes = says (record { answer = No; writing = []; lines = no_line g.0 d }) h in cc
            ] refl h
      ] refl is

  -- the answer is no: the first that is not there is denied
  pub denied : (gs : List (Given × List ℕ)) (Q : Outcome → Type 0) → ((o : Outcome) → Q o → o.answer ≡ No) → IsSomeAnd (outcome files (comparison i gs)) Q → Denied gs Q
  denied [] Q says is = let never : Yes ≡ No = says (record { answer = Yes; writing = []; lines = codes "yes\n" }) is in cc
  denied (g ∷ gs) Q says is =
      elim (fin.get files g.1) as (λ file. fin.get files g.1 ≡ file → IsSomeAnd (option_and_then (λ bytes. outcome files (after g gs bytes)) file) Q → Denied (g ∷ gs) Q) [
        | None ↦ λ found h. absurd h
        | Some bytes ↦ λ found h.
            elim (first_false bytes (selected_file i g.0)) as (λ difference. first_false bytes (selected_file i g.0) ≡ difference → IsSomeAnd (outcome files (judged_by g gs difference)) Q → Denied (g ∷ gs) Q) [
              | None ↦ λ none h.
                  let more = denied gs Q says h in
                  record {
                    front = g ∷ more.front;
                    first = more.first;
                    behind = more.behind;
                    order = ap (λ (l : List (Given × List ℕ)). g ∷ l) more.order;
                    right = (found ∙ ap Some (none_where_equal bytes (selected_file i g.0) none), more.right);
                    bytes = more.bytes;
                    held = more.held;
                    difference = more.difference;
                    differs = more.differs;
                    known = more.known;
                  }
              | Some d ↦ λ some h. record {
                front = [];
                first = g;
                behind = gs;
                order = refl;
                right = tt;
                bytes = bytes;
                held = found;
                difference = d;
                differs = some;
                known = h;
              }
            ] refl h
      ] refl is
