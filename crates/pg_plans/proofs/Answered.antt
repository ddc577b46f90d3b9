-- Each call that follows a plan is answered, or has a cause not to be.
use Rattle.std.proofs.Common.{◌≡◌, ℕ, List, ◌∷◌, [], ◌++◌, Option, Contains, ◌⊎◌, inl, inr, refl, ap, sym, subst, ◌∙◌, arith}
use Rattle.std.specs.Option.{IsSomeAnd, option_and_then}
use Rattle.std.proofs.lemmas.List.{append-nil, append_assoc}
use Rattle.std.proofs.lemmas.List.Elements.{Contains-append_right}
use Rattle.pg_outside.specs.Content.{FileMap, FilesShown, SinkShown, Told}
use Rattle.pg_outside.specs.FilesCalls.{FilesCall, Reads, Writes}
use Rattle.pg_plans.specs.Calls.{Makes, Gets}
use Rattle.pg_plans.specs.Plans.{Moment, Plan, Reading, Ending, IsShort, Finishes}
use Rattle.pg_plans.specs.Outcomes.{Outcome, outcome, after_all}
use Rattle.pg_plans.specs.Laws.{KeepsFiles, HasCause, IsAnswered, EachCallIsAnswered, NoneRose, AnsweredUnlessRose}
use Rattle.pg_plans.specs.declared.answers.Status.{Status}
use Rattle.pg_plans.specs.declared.answers.Status.TheVariants.{Fault, Memory}
use Rattle.pg_plans.proofs.Told.{told_same, told_on, told_as, rose_later}

first : {X : Type 0} (x : X) (xs : List X) → Contains (x ∷ xs) x
first x xs = (0, omega arith, refl)

-- a cause behind one more call
cause_on : (call : FilesCall) (P : FileMap → FileMap → Type 0) (s0 s1 : FilesShown) (sink : SinkShown) (new : Moment) → Makes call P s0 s1 → HasCause (s1, sink) new → HasCause (s0, sink) new
cause_on call P s0 s1 sink new m c = record {
  made = call ∷ c.made;
  calls = c.calls ∙ ap (λ (l : List FilesCall). l ++ c.made) m.calls ∙ append_assoc s0.calls (call ∷ []) c.made;
  rose = elim c.rose [
    | inl r ↦ inl (r.0, Contains-append_right (call ∷ []) c.made (Reads r.0) r.1, rose_later _ _ _ (m.reads r.0) r.2)
    | inr (inl r) ↦ inr (inl (r.0, Contains-append_right (call ∷ []) c.made (Writes r.0) r.1, rose_later _ _ _ (m.writes r.0) r.2))
    | inr (inr r) ↦ inr (inr r)
  ];
}

pub finished : (ws : List (List ℕ × List ℕ)) (lines : List ℕ) (answer status : Status) (old new : Moment) → Finishes ws lines answer status old new
    → ((status ≡ Fault) × HasCause old new) ⊎ ((status ≡ answer) × Told old.0.held new.0.held (λ before after. after ≡ after_all before ws)
    × Told old.1.text new.1.text (λ text now. now ≡ text ++ lines))
finished [] lines answer status old new h = elim h.1 [
  | inl done ↦ inr (done.0, subst (λ (f : FilesShown). KeepsFiles old.0 f) (sym h.0) (told_same old.0.held), done.1.text)
  | inr part ↦ inl (part.0, record { made = []; calls = ap (λ (f : FilesShown). f.calls) h.0 ∙ sym (append-nil old.0.calls); rose = inr (inr part.1.0) })
]
finished (w ∷ ws) lines answer status old new (inl failed) =
    inl (failed.0, record { made = Writes w.0 ∷ []; calls = failed.1.1.calls; rose = inr (inl (w.0, first (Writes w.0) [], failed.1.0)) })
finished (w ∷ ws) lines answer status old new (inr h) = elim (finished ws lines answer status (h.0, old.1) new h.2) [
  | inl fault ↦ inl (fault.0, cause_on (Writes w.0) _ old.0 h.0 old.1 new h.1 fault.1)
  | inr done ↦ inr (done.0, told_on old.0.held h.0.held new.0.held _ _ _ (λ x y z set all. all ∙ ap (λ (m : FileMap). after_all m ws) set) h.1.held done.1, done.2)
]

abbrev Answers : Plan → Status → Moment → Moment → Type 0
Answers plan status old new = ((status ≡ Fault) × HasCause old new) ⊎ (((status ≡ Memory) × KeepsFiles old.0 new.0 × (new.1 ≡ old.1)) ⊎ IsAnswered plan status old new)

shortly : (plan : Plan) (status : Status) (old new : Moment) → IsShort status old new → Answers plan status old new
shortly plan status old new short = inr (inl (short.0, subst (λ (m : Moment). KeepsFiles old.0 m.0) (sym short.1) (told_same old.0.held), ap (λ (m : Moment). m.1) short.1))

read_on : (name bytes : List ℕ) (next : List ℕ → Plan) (status : Status) (old new : Moment) (mid : FilesShown) → Gets name bytes old.0 mid
    → Answers (next bytes) status (mid, old.1) new → Answers (Reading name next) status old new
read_on name bytes next status old new mid gets (inl fault) = inl (fault.0, cause_on (Reads name) _ old.0 mid old.1 new gets fault.1)
read_on name bytes next status old new mid gets (inr (inl short)) =
    inr (inl (short.0, told_on old.0.held mid.held new.0.held _ _ _ (λ x y z got kept. kept ∙ got.0) gets.held short.1, short.2))
read_on name bytes next status old new mid gets (inr (inr done)) =
    let P : FileMap → FileMap → Outcome → Type 0 = λ before after o. (status ≡ o.answer) × (after ≡ after_all before o.writing)
    × Told old.1.text new.1.text (λ text now. now ≡ text ++ o.lines) in
    inr (inr (told_on old.0.held mid.held new.0.held _ _ _ (λ x y z got is.
    let here : IsSomeAnd (outcome x (next bytes)) (P x z) = subst (λ (m : FileMap). IsSomeAnd (outcome m (next bytes)) (P m z)) got.0 is in
    subst (λ (file : Option (List ℕ)). IsSomeAnd (option_and_then (λ b. outcome x (next b)) file) (P x z)) (sym got.1) here) gets.held done))

pub answered : EachCallIsAnswered
answered (Ending answer ws lines) status old new (inl short) = shortly (Ending answer ws lines) status old new short
answered (Ending answer ws lines) status old new (inr h) = elim (finished ws lines answer status old new h) [
  | inl fault ↦ inl fault
  | inr done ↦ inr (inr (told_as old.0.held new.0.held _ _ (λ x y after. (done.0, after, done.2)) done.1))
]
answered (Reading name next) status old new (inl short) = shortly (Reading name next) status old new short
answered (Reading name next) status old new (inr (inl stop)) = elim stop.1 [
  | inl short ↦ inr (inl (short.0, stop.0.held, short.1))
  | inr fault ↦ inl (fault.0, record { made = Reads name ∷ []; calls = stop.0.calls; rose = inl (name, first (Reads name) [], fault.1) })
]
answered (Reading name next) status old new (inr (inr h)) = read_on name h.0 next status old new h.1 h.2 (answered (next h.0) status (h.1, old.1) new h.3)

-- no cause, where nothing rose
pub no_cause : (old new : Moment) → NoneRose old new → HasCause old new → ⊥
no_cause old new none cause = elim cause.rose [
  | inl r ↦ none.reads r.0 r.2
  | inr (inl r) ↦ none.writes r.0 r.2
  | inr (inr r) ↦ none.puts r
]

pub answered_unless_rose : AnsweredUnlessRose
answered_unless_rose plan status old new follows none enough = elim (answered plan status old new follows) [
  | inl fault ↦ absurd (no_cause old new none fault.1)
  | inr (inl short) ↦ absurd (enough short.0)
  | inr (inr done) ↦ done
]
