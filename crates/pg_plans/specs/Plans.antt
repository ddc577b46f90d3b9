-- The plan of a call, and that a call follows it.
use Rattle.std.specs.Prelude.{◌≡◌, ℕ, List, [], ◌∷◌, ◌⊎◌, codes}
use Rattle.pg_outside.specs.Content.{FilesShown, SinkShown}
use Rattle.pg_outside.specs.Faults.{Rose}
use Rattle.pg_plans.specs.Calls.{Asks, Gets, Sets, SetsPart, Puts, PutsPart, PutsFault}
use Rattle.pg_plans.specs.declared.answers.Status.{Status}
use Rattle.pg_plans.specs.declared.answers.Status.TheVariants.{Fault, Memory}

-- what files and a sink show at a moment
abbrev pub Moment : Type 0
Moment = FilesShown × SinkShown

-- what is left of a call: it reads a file and goes on by its bytes, or it ends: with an answer, the
-- files that it writes, each name with its text, and the lines that it puts
pub data Plan : Type 0 where
  Reading : List ℕ → (List ℕ → Plan) → Plan
  Ending : Status → List (List ℕ × List ℕ) → List ℕ → Plan

-- memory was short, and nothing more happened
abbrev pub IsShort : Status → Moment → Moment → Type 0
IsShort status old new = (status ≡ Memory) × (new ≡ old)

-- lines were put in one call, which gave this answer; or they could not be, which is a fault
abbrev pub Says : List ℕ → Status → Status → SinkShown → SinkShown → Type 0
Says lines answer status old new = ((status ≡ answer) × Puts lines old new)
    ⊎ ((status ≡ Fault) × PutsPart lines old new)

-- files are written one after the other, then the lines are put; the first that fails is the last
abbrev pub Finishes : List (List ℕ × List ℕ) → List ℕ → Status → Status → Moment → Moment → Type 0
Finishes [] lines answer status old new = (new.0 ≡ old.0) × Says lines answer status old.1 new.1
Finishes (w ∷ ws) lines answer status old new = ((status ≡ Fault) × SetsPart w.0 w.1 old.0 new.0
    × PutsFault (codes "fault: writing ") w.0 old.1 new.1)
    ⊎ ((mid : FilesShown) × Sets w.0 w.1 old.0 mid
    × Finishes ws lines answer status (mid, old.1) new)

-- a file was asked for, and memory was short, or it could not be read and the line of that was put
abbrev pub StopsAt : List ℕ → Status → Moment → Moment → Type 0
StopsAt name status old new = Asks name old.0 new.0 × (((status ≡ Memory) × (new.1 ≡ old.1))
    ⊎ ((status ≡ Fault) × Rose (old.0.read_faults name) (new.0.read_faults name)
    × PutsFault (codes "fault: reading ") name old.1 new.1))

-- a call with this plan went from old to new and gave this answer
abbrev pub Follows : Plan → Status → Moment → Moment → Type 0
Follows (Ending answer writing lines) status old new =
    IsShort status old new ⊎ Finishes writing lines answer status old new
Follows (Reading name next) status old new = IsShort status old new
    ⊎ (StopsAt name status old new ⊎ ((bytes : List ℕ) × (mid : FilesShown)
    × Gets name bytes old.0 mid × Follows (next bytes) status (mid, old.1) new))
