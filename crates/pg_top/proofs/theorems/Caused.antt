-- A fault has its cause.
use Rattle.std.proofs.Common.{◌≡◌, ℕ, List, [], ◌∷◌, ◌++◌, inl, inr, sym, refl, ap, ◌∙◌, arith}
use Rattle.std.proofs.lemmas.List.{append_assoc}
use Rattle.std.proofs.lemmas.List.Elements.{Contains-append_right}
use Rattle.pg_outside.specs.Content.{FilesShown, SinkShown}
use Rattle.pg_outside.specs.FilesCalls.{FilesCall, Reads, Writes}
use Rattle.pg_plans.specs.Calls.{Gets}
use Rattle.pg_plans.specs.Plans.{Moment, Plan, Reading, Ending, Finishes, Follows}
use Rattle.pg_plans.specs.Laws.{IsOwn, HasCause}
use Rattle.pg_plans.specs.Outcomes.{EachEnding}
use Rattle.pg_plans.specs.declared.answers.Status.{Status}
use Rattle.pg_plans.specs.declared.answers.Status.TheVariants.{Fault, Memory}
use Rattle.pg_plans.proofs.Answered.{finished}
use Rattle.pg_plans.proofs.Told.{rose_later}

-- a cause behind a read
cause_behind : (name bytes : List ℕ) (s0 s1 : FilesShown) (sink : SinkShown) (new : Moment) → Gets name bytes s0 s1 → HasCause (s1, sink) new → HasCause (s0, sink) new
cause_behind name bytes s0 s1 sink new gets cause = record {
  made = Reads name ∷ cause.made;
  calls = cause.calls ∙ ap (λ (l : List FilesCall). l ++ cause.made) gets.calls ∙ append_assoc s0.calls (Reads name ∷ []) cause.made;
  rose = elim cause.rose [
    | inl r ↦ inl (r.0, Contains-append_right (Reads name ∷ []) cause.made (Reads r.0) r.1, rose_later _ _ _ (gets.reads r.0) r.2)
    | inr (inl r) ↦ inr (inl (r.0, Contains-append_right (Reads name ∷ []) cause.made (Writes r.0) r.1, rose_later _ _ _ (gets.writes r.0) r.2))
    | inr (inr r) ↦ inr (inr r)
  ];
}

pub caused_finish : (ws : List (List ℕ × List ℕ)) (lines : List ℕ) (answer : Status) (old new : Moment) → ¬ (answer ≡ Fault) → Finishes ws lines answer Fault old new → HasCause old new
caused_finish ws lines answer old new own h = elim (finished ws lines answer Fault old new h) [ inl fault ↦ fault.1 | inr done ↦ absurd (own (sym done.0)) ]

pub caused : (plan : Plan) (old new : Moment) → EachEnding IsOwn plan → Follows plan Fault old new → HasCause old new
caused (Ending answer ws lines) old new own (inl short) = let e : Fault ≡ Memory = short.0 in cc
caused (Ending answer ws lines) old new own (inr h) = caused_finish ws lines answer old new own.1 h
caused (Reading name next) old new own (inl short) = let e : Fault ≡ Memory = short.0 in cc
caused (Reading name next) old new own (inr (inl stop)) = elim stop.1 [
  | inl short ↦ let e : Fault ≡ Memory = short.0 in cc
  | inr fault ↦ record { made = Reads name ∷ []; calls = stop.0.calls; rose = inl (name, (0, omega arith, refl), fault.1) }
]
caused (Reading name next) old new own (inr (inr h)) = cause_behind name h.0 old.0 h.1 old.1 new h.2 (caused (next h.0) (h.1, old.1) new (own h.0) h.3)
