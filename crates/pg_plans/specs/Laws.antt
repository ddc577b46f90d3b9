-- What is known of each call that follows a plan.
use Rattle.std.specs.Prelude.{◌≡◌, ℕ, List, [], ◌++◌, get_or, Some, Contains, ◌⊎◌, codes}
use Rattle.std.specs.Option.{IsSomeAnd}
use Rattle.pg_outside.specs.Content.{FilesShown, Told}
use Rattle.pg_outside.specs.Faults.{Rose}
use Rattle.pg_outside.specs.FilesCalls.{FilesCall, Reads, Writes}
use Rattle.pg_plans.specs.Plans.{Moment, Plan, Follows}
use Rattle.pg_plans.specs.Outcomes.{outcome, after_all, EachEnding}
use Rattle.pg_plans.specs.declared.answers.Status.{Status}
use Rattle.pg_plans.specs.declared.answers.Status.TheVariants.{Done, Usage, Fault, Memory}

-- where files are told after the call, they were told before it and are the same
abbrev pub KeepsFiles : FilesShown → FilesShown → Type 0
KeepsFiles old new = Told old.held new.held (λ before after. after ≡ before)

-- the count of a name that was called in this call rose, or that of the sink
pub record HasCause (old new : Moment) : Type 0 where
  pub made : List FilesCall
  pub calls : new.0.calls ≡ old.0.calls ++ made
  pub rose : ((name : List ℕ) × Contains made (Reads name)
      × Rose (old.0.read_faults name) (new.0.read_faults name))
      ⊎ (((name : List ℕ) × Contains made (Writes name)
      × Rose (old.0.write_faults name) (new.0.write_faults name))
      ⊎ Rose old.1.faults new.1.faults)

-- the answer is that of the outcome, the files are as after its writes, and its lines were put
abbrev pub IsAnswered : Plan → Status → Moment → Moment → Type 0
IsAnswered plan status old new = Told old.0.held new.0.held (λ before after.
    IsSomeAnd (outcome before plan) (λ o. (status ≡ o.answer) × (after ≡ after_all before o.writing)
    × Told old.1.text new.1.text (λ text now. now ≡ text ++ o.lines)))

-- a call ends with a fault that has its cause, or memory was short and nothing was written or put,
-- or it is answered
abbrev pub EachCallIsAnswered : Type 0
EachCallIsAnswered = (plan : Plan) (status : Status) (old new : Moment)
    → Follows plan status old new → ((status ≡ Fault) × HasCause old new)
    ⊎ (((status ≡ Memory) × KeepsFiles old.0 new.0 × (new.1 ≡ old.1))
    ⊎ IsAnswered plan status old new)

-- no count rose
pub record NoneRose (old new : Moment) : Type 0 where
  pub reads : (name : List ℕ) → ¬ Rose (old.0.read_faults name) (new.0.read_faults name)
  pub writes : (name : List ℕ) → ¬ Rose (old.0.write_faults name) (new.0.write_faults name)
  pub puts : ¬ Rose old.1.faults new.1.faults

-- where no count rose and memory was not short, a call is answered
abbrev pub AnsweredUnlessRose : Type 0
AnsweredUnlessRose = (plan : Plan) (status : Status) (old new : Moment)
    → Follows plan status old new → NoneRose old new → ¬ (status ≡ Memory)
    → IsAnswered plan status old new

-- lines begin with an f, as the line of a fault does
abbrev pub BeginAsFault : List ℕ → Type 0
BeginAsFault lines = get_or lines 0 0 ≡ 102

-- an ending writes files only where it is done, with lines that begin otherwise than a fault's. It
-- is neither a fault nor the answer for arguments that are no command
abbrev pub IsOwn : Status → List (List ℕ × List ℕ) → List ℕ → Type 0
IsOwn answer writing lines = ((writing ≡ []) ⊎ ((answer ≡ Done) × ¬ BeginAsFault lines))
    × ¬ (answer ≡ Fault) × ¬ (answer ≡ Usage)

-- files change only where a call is done, or after a fault
abbrev pub KeptUnlessDone : Type 0
KeptUnlessDone = (plan : Plan) (status : Status) (old new : Moment) → EachEnding IsOwn plan
    → Follows plan status old new → ¬ (status ≡ Done) → ¬ (status ≡ Fault)
    → KeepsFiles old.0 new.0

-- where the line says that a file could not be read, no file changed
abbrev pub KeptAfterUnread : Type 0
KeptAfterUnread = (plan : Plan) (old new : Moment) (name text : List ℕ) → EachEnding IsOwn plan
    → Follows plan Fault old new → old.1.text ≡ Some text
    → new.1.text ≡ Some (text ++ codes "fault: reading " ++ name ++ codes "\n")
    → KeepsFiles old.0 new.0

-- a call that follows a plan never answers that the arguments are no command
abbrev pub NoUsage : Type 0
NoUsage = (plan : Plan) (old new : Moment) → EachEnding IsOwn plan → ¬ Follows plan Usage old new
