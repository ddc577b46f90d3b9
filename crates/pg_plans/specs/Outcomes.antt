-- How a plan ends over files that are told.
use Rattle.std.specs.Prelude.{ℕ, List, [], ◌∷◌, Option, Some}
use Rattle.std.specs.Option.{option_and_then}
use Rattle.std.specs.FinMap as map
use Rattle.pg_outside.specs.Content.{FileMap}
use Rattle.pg_plans.specs.Plans.{Plan, Reading, Ending}
use Rattle.pg_plans.specs.declared.answers.Status.{Status}

-- an answer, the files that are written, each name with its text, and the lines
pub record Outcome : Type 0 where
  pub answer : Status
  pub writing : List (List ℕ × List ℕ)
  pub lines : List ℕ

-- the outcome of a plan over these files; none where a file that it reads is not there
abbrev pub outcome : FileMap → Plan → Option Outcome
outcome files (Ending answer writing lines) =
    Some (record { answer = answer; writing = writing; lines = lines })
outcome files (Reading name next) =
    option_and_then (λ bytes. outcome files (next bytes)) (map.get files name)

-- the files after all writes
abbrev pub after_all : FileMap → List (List ℕ × List ℕ) → FileMap
after_all files [] = files
after_all files (w ∷ ws) = after_all (map.insert files w.0 w.1) ws

-- this is so of each ending of a plan
abbrev pub EachEnding : (Status → List (List ℕ × List ℕ) → List ℕ → Type 0) → Plan → Type 0
EachEnding P (Ending answer writing lines) = P answer writing lines
EachEnding P (Reading name next) = (bytes : List ℕ) → EachEnding P (next bytes)
