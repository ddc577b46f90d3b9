-- In which order a call reads, writes and puts, each once.
use Rattle.std.specs.Prelude.{◌≡◌, ℕ, List, [], ◌∷◌, ◌++◌, map, ◌⊎◌, All, Some, codes}
use Rattle.std.specs.FinMap as fin
use Rattle.pg_outside.specs.Content.{HasPart, Told}
use Rattle.pg_outside.specs.Faults.{Rose}
use Rattle.pg_outside.specs.FilesCalls.{FilesCall, Reads, Writes}
use Rattle.pg_plans.specs.Calls.{Puts, PutsPart, PutsFault}
use Rattle.pg_plans.specs.Outcomes.{after_all}
use Rattle.pg_plans.specs.Plans.{Moment, Plan, Reading, Ending}
use Rattle.pg_plans.specs.declared.answers.Status.{Status}
use Rattle.pg_plans.specs.declared.answers.Status.TheVariants.{Fault, Memory}

-- these calls were made on files, in this order, and no other, and the files are those before with
-- these set
abbrev pub MakesCalls : Moment → Moment → List FilesCall → List (List ℕ × List ℕ) → Type 0
MakesCalls old new calls ws = (new.0.calls ≡ old.0.calls ++ calls)
    × Told old.0.held new.0.held (λ before after. after ≡ after_all before ws)

-- a plan reads these files in this order, each once, with these bytes, and this is left of it
abbrev pub LeavesAfter : Plan → List (List ℕ × List ℕ) → Plan → Type 0
LeavesAfter plan [] rest = plan ≡ rest
LeavesAfter (Ending answer writing lines) (r ∷ rs) rest = ⊥
LeavesAfter (Reading name next) (r ∷ rs) rest = (r.0 ≡ name) × LeavesAfter (next r.1) rs rest

-- the calls that read these files
abbrev pub read_calls : List (List ℕ × List ℕ) → List FilesCall
read_calls rs = map (λ r. Reads r.0) rs

-- the calls that write these files
abbrev pub write_calls : List (List ℕ × List ℕ) → List FilesCall
write_calls ws = map (λ w. Writes w.0) ws

-- these bytes are those of the files before
abbrev pub AreBytes : List (List ℕ × List ℕ) → Moment → Moment → Type 0
AreBytes rs old new = Told old.0.held new.0.held
    (λ before after. All (λ r. fin.get before r.0 ≡ Some r.1) rs)

-- a plan came to its end: these files were read, of which this ending is left, its files were
-- written, and its lines were put
pub record Ended (plan : Plan) (status : Status) (old new : Moment) : Type 0 where
  pub reads : List (List ℕ × List ℕ)
  pub writing : List (List ℕ × List ℕ)
  pub lines : List ℕ
  pub left : LeavesAfter plan reads (Ending status writing lines)
  pub bytes : AreBytes reads old new
  pub calls : MakesCalls old new (read_calls reads ++ write_calls writing) writing
  pub put : Puts lines old.1 new.1

-- a write failed: those before it are made, none behind it, its file is as before or a part of its
-- text, and the line of its name is put
pub record FailsToWrite (before : List FilesCall) (ws : List (List ℕ × List ℕ))
    (old new : Moment) : Type 0 where
  pub front : List (List ℕ × List ℕ)
  pub failed : List ℕ × List ℕ
  pub behind : List (List ℕ × List ℕ)
  pub order : ws ≡ front ++ failed ∷ behind
  pub calls : new.0.calls ≡ old.0.calls ++ (before ++ write_calls (front ++ failed ∷ []))
  pub held : Told old.0.held new.0.held
      (λ before after. HasPart (after_all before front) after failed.0 failed.1)
  pub rose : Rose (old.0.write_faults failed.0) (new.0.write_faults failed.0)
  pub line : PutsFault (codes "fault: writing ") failed.0 old.1 new.1

-- how what is left of a plan went, where these calls were made before
abbrev pub WentBehind : List FilesCall → Plan → Status → Moment → Moment → Type 0
WentBehind before (Ending answer ws lines) status old new =
    ((status ≡ Memory) × MakesCalls old new before [] × (new.1 ≡ old.1))
    ⊎ (((status ≡ answer) × MakesCalls old new (before ++ write_calls ws) ws
    × Puts lines old.1 new.1) ⊎ (((status ≡ Fault)
    × MakesCalls old new (before ++ write_calls ws) ws × PutsPart lines old.1 new.1)
    ⊎ ((status ≡ Fault) × FailsToWrite before ws old new)))
WentBehind before (Reading name next) status old new =
    ((status ≡ Memory) × (MakesCalls old new before []
    ⊎ MakesCalls old new (before ++ Reads name ∷ []) []) × (new.1 ≡ old.1))
    ⊎ ((status ≡ Fault) × MakesCalls old new (before ++ Reads name ∷ []) []
    × Rose (old.0.read_faults name) (new.0.read_faults name)
    × PutsFault (codes "fault: reading ") name old.1 new.1)

-- how a call with a plan went: these files were read, this was left, and it went so
pub record Went (plan : Plan) (status : Status) (old new : Moment) : Type 0 where
  pub reads : List (List ℕ × List ℕ)
  pub rest : Plan
  pub left : LeavesAfter plan reads rest
  pub bytes : AreBytes reads old new
  pub behind : WentBehind (read_calls reads) rest status old new
