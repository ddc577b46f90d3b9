-- What a plan comes to by what its inputs mean.
use Rattle.std.proofs.Common.{◌≡◌, ℕ, List, [], Option, None, Some, Result, Ok, Err, refl, subst}
use Rattle.std.specs.Option.{IsSomeAnd, option_and_then}
use Rattle.std.specs.FinMap as fin
use Rattle.pg_types.specs.Parameters.{Parameters, parameters}
use Rattle.pg_types.specs.declared.refusals.Refusal.{Refusal}
use Rattle.pg_dict.specs.DictionaryWords.{words}
use Rattle.pg_dict.specs.Word.{Word}
use Rattle.pg_outside.specs.Content.{FileMap}
use Rattle.pg_patterns.specs.Starts.{start}
use Rattle.pg_patterns.specs.Values as patterns
use Rattle.pg_translate.specs.Alphabets.{Alphabet}
use Rattle.pg_translate.specs.Tables.{table}
use Rattle.pg_plans.specs.Outcomes.{Outcome, outcome}
use Rattle.pg_plans.specs.Plans.{Plan}
use Rattle.pg_plans.specs.declared.answers.Status.TheVariants.{Refused}
use Rattle.pg_steps.specs.InputPlans.{input, unless_refused}
use Rattle.pg_steps.specs.RefusedLines.{refused_line}
use Rattle.pg_steps.specs.declared.inputs.Input.{Input}
use Rattle.pg_steps.specs.declared.inputs.Input.TheVariants.{Translate, Parameters as Params, Patterns, Dictionary}
use Rattle.pg_top.specs.Generating.{selection_from}
use Rattle.pg_top.specs.Theorems.{Means, HasInputs}
use Rattle.pg_top.specs.declared.selection.Inputs.{Inputs}

-- no outcome of which this is known is a refusal
abbrev pub IsNoRefusal : (Outcome → Type 0) → Type 0
IsNoRefusal Q = (o : Outcome) → Q o → ¬ (o.answer ≡ Refused)

-- the outcome goes on by what a file means
pub goes_on : {Y : Type 0} (files : FileMap) (kind : Input) (name : List ℕ) (parse : List ℕ → Result Y Refusal) (next : Y → Plan) (Q : Outcome → Type 0) (y : Y)
    → Means parse files name y → IsSomeAnd (outcome files (input kind name parse next)) Q → IsSomeAnd (outcome files (next y)) Q
goes_on files kind name parse next Q y means is =
    subst (λ (r : Result _ Refusal). IsSomeAnd (outcome files (unless_refused kind r next)) Q) means.read
    (subst (λ (file : Option (List ℕ)). IsSomeAnd (option_and_then (λ bytes. outcome files (unless_refused kind (parse bytes) next)) file) Q) means.held is)

-- an outcome that is no refusal goes on by what a file means
pub came_from : {Y : Type 0} (files : FileMap) (kind : Input) (name : List ℕ) (parse : List ℕ → Result Y Refusal) (next : Y → Plan) (Q : Outcome → Type 0)
    → IsNoRefusal Q → IsSomeAnd (outcome files (input kind name parse next)) Q → (y : Y) × Means parse files name y × IsSomeAnd (outcome files (next y)) Q
came_from {Y} files kind name parse next Q none is =
    elim (fin.get files name) as (λ file. fin.get files name ≡ file → IsSomeAnd (option_and_then (λ bytes. outcome files (unless_refused kind (parse bytes) next)) file) Q
    → (y : Y) × Means parse files name y × IsSomeAnd (outcome files (next y)) Q) [
      | None ↦ λ there h. absurd h
      | Some bytes ↦ λ there h.
          elim (parse bytes) as (λ r. parse bytes ≡ r → IsSomeAnd (outcome files (unless_refused kind r next)) Q → (y : Y) × Means parse files name y × IsSomeAnd (outcome files (next y)) Q) [
            | Ok y ↦ λ read h. (y, record { bytes = bytes; held = there; read = read }, h)
            | Err refusal ↦ λ read h. absurd (none (record { answer = Refused; writing = []; lines = refused_line kind refusal }) h refl)
          ] refl h
    ] refl is

-- of a selection
module _ (d p t a : List ℕ) (next : Inputs → Plan) where
  abbrev with_words : Alphabet → Parameters → patterns.Patterns → List Word → Plan
  with_words T A S W = next (record { table = T; params = A; start = S; dictionary = W })

  abbrev with_start : Alphabet → Parameters → patterns.Patterns → Plan
  with_start T A S = input Dictionary d (words T) (with_words T A S)

  abbrev with_params : Alphabet → Parameters → Plan
  with_params T A = input Patterns p (start T) (with_start T A)

  abbrev with_table : Alphabet → Plan
  with_table T = input Params a parameters (with_params T)

  module _ (files : FileMap) (Q : Outcome → Type 0) where
    pub selected_by : (i : Inputs) → HasInputs files d p t a i → IsSomeAnd (outcome files (selection_from d p t a next)) Q → IsSomeAnd (outcome files (next i)) Q
    selected_by i has is =
        goes_on files Dictionary d (words i.table) (with_words i.table i.params i.start) Q i.dictionary has.words
        (goes_on files Patterns p (start i.table) (with_start i.table i.params) Q i.start has.start
        (goes_on files Params a parameters (with_params i.table) Q i.params has.params
        (goes_on files Translate t table with_table Q i.table has.table is)))

    pub selected_from : IsNoRefusal Q → IsSomeAnd (outcome files (selection_from d p t a next)) Q → (i : Inputs) × HasInputs files d p t a i × IsSomeAnd (outcome files (next i)) Q
    selected_from none is =
        let T = came_from files Translate t table with_table Q none is in
        let A = came_from files Params a parameters (with_params T.0) Q none T.2 in
        let S = came_from files Patterns p (start T.0) (with_start T.0 A.0) Q none A.2 in
        let W = came_from files Dictionary d (words T.0) (with_words T.0 A.0 S.0) Q none S.2 in
        (record { table = T.0; params = A.0; start = S.0; dictionary = W.0 }, record { table = T.1; params = A.1; start = S.1; words = W.1 }, W.2)
