-- Parameter files that are read one after the other.
use Rattle.std.proofs.Common.{◌≡◌, ℕ, ◌+◌, ◌<◌, ◌≤◌, List, ◌∷◌, [], ◌++◌, length, drop, get_or, String, Result, Ok, refl, sym, ap, subst, ◌∙◌, arith}
use Rattle.std.specs.Prelude.{string_bytes}
use Rattle.std.specs.declared.alloc.Global.{Global}
use Rattle.std.proofs.lemmas.List.{drop_more, append_assoc, append-nil, drop_all}
use Rattle.pg_types.specs.Parameters.{Parameters, parameters}
use Rattle.pg_outside.specs.Content.{FilesShown}
use Rattle.pg_plans.specs.Plans.{Plan, Follows}
use Rattle.pg_steps.specs.InputPlans.{input}
use Rattle.pg_steps.specs.Inside.Steps.{Begins, Gives}
use Rattle.pg_steps.specs.declared.inputs.Input.TheVariants.{Set}
use Rattle.pg_steps.specs.declared.inputs.Stop.{Stop}
use Rattle.pg_words.specs.Inside.Names.{arguments_of}
use Rattle.pg_top.specs.Sweeping.{sets_from}
use Rattle.pg_top.specs.Inside.Swept.{Leads}

-- what is left to read behind so many files
abbrev pub SetsLead : List (String Global) → ℕ → List Parameters → FilesShown → FilesShown → Type 0
SetsLead names i sets s0 s1 = (next : List Parameters → Plan)
    → Leads (sets_from 1 (arguments_of names) next) (sets_from (i + 1) (arguments_of (drop i names)) (λ As. next (sets ++ As))) s0 s1

-- none was read so far
pub sets_begun : (names : List (String Global)) (sets : List Parameters) (s : FilesShown) → sets ≡ [] → SetsLead names 0 sets s s
sets_begun names sets s none next status sink new h = rw none at h

-- all were read
pub sets_done : (names : List (String Global)) (i : ℕ) (sets : List Parameters) (s0 s1 : FilesShown) → length names ≤ i → SetsLead names i sets s0 s1
    → (next : List Parameters → Plan) → Leads (sets_from 1 (arguments_of names) next) (next sets) s0 s1
sets_done names i sets s0 s1 far lead next status sink new h =
    let rest : sets_from (i + 1) (arguments_of (drop i names)) (λ As. next (sets ++ As)) ≡ next sets =
    ap (λ (ns : List (String Global)). sets_from (i + 1) (arguments_of ns) (λ As. next (sets ++ As))) (drop_all i names far) ∙ ap next (append-nil sets) in
    lead next status sink new (subst (λ (p : Plan). Follows p status (s1, sink) new) (sym rest) h)

module _ (names : List (String Global)) (i : ℕ) (name : String Global) (within : i < length names) (is : name ≡ get_or names i name) where
  names_from : arguments_of (drop i names) ≡ string_bytes name ∷ arguments_of (drop (i + 1) names)
  names_from = ap arguments_of (drop_more names i name within ∙ ap (λ (y : String Global). y ∷ drop (i + 1) names) (sym is))

  -- one more is read
  pub set_read : (k : ℕ) (r : Result Parameters Stop) (s1 s2 : FilesShown) (next : List Parameters → Plan) → Gives (input (Set k) (string_bytes name) parameters) r s1 s2
      → Begins (sets_from k (arguments_of (drop i names)) next) r (λ A. sets_from (k + 1) (arguments_of (drop (i + 1) names)) (λ As. next (A ∷ As))) s1 s2
  set_read k r s1 s2 next gives =
      let P : List (List ℕ) → Type 0 = λ ns. Begins (sets_from k ns next) r (λ A. sets_from (k + 1) (arguments_of (drop (i + 1) names)) (λ As. next (A ∷ As))) s1 s2 in
      subst P (sym names_from) (gives (λ A. sets_from (k + 1) (arguments_of (drop (i + 1) names)) (λ As. next (A ∷ As))))

  -- and put behind those that were read
  pub set_pushed : (set : Parameters) (before after : List Parameters) (s0 s1 s2 : FilesShown) → after ≡ before ++ set ∷ []
      → Gives (input (Set (i + 1)) (string_bytes name) parameters) (Ok set) s1 s2 → SetsLead names i before s0 s1 → SetsLead names (i + 1) after s0 s2
  set_pushed set before after s0 s1 s2 pushed gives so next status sink new h =
      let same : (As : List Parameters) → after ++ As ≡ before ++ set ∷ As = λ As. ap (λ (l : List Parameters). l ++ As) pushed ∙ append_assoc before (set ∷ []) As in
      let rest : (List Parameters → Plan) → Plan = λ f. sets_from (i + 1 + 1) (arguments_of (drop (i + 1) names)) f in
      let there : Follows (rest (λ As. next (before ++ set ∷ As))) status (s2, sink) new = subst (λ (p : Plan). Follows p status (s2, sink) new) (λ k. rest (λ As. next (same As k))) h in
      so next status sink new (set_read (i + 1) (Ok set) s1 s2 (λ As. next (before ++ As)) gives status sink new there)
