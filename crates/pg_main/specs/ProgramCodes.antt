-- The status of a program.
use Rattle.std.specs.Prelude.{◌≡◌, ℕ, List, String, map, string_bytes}
use Rattle.std.specs.declared.alloc.Global.{Global}
use Rattle.pg_plans.specs.Plans.{Moment}
use Rattle.pg_plans.specs.ExitCodes.{code_of}
use Rattle.pg_plans.specs.declared.answers.Status.{Status}
use Rattle.pg_top.specs.Commands.{plan_of, IsRun, CallsNoFile}
use Rattle.pg_top.specs.Promises.{IsPromised}
use Rattle.pg_main.specs.ProgramArguments.{code_of_none}
use Rattle.pg_main.specs.declared.NoArguments.{NoArguments}

-- the status is that of an answer of a call on exactly these arguments
pub record IsCodeOfRun {F : Type 0} (arguments : List (String Global)) (code : ℕ)
    (before after : F) (old new : Moment) : Type 0 where
  pub answer : Status
  pub code_of_it : code ≡ code_of answer
  pub run : IsRun (map string_bytes arguments) answer old new
  pub uncalled : CallsNoFile (plan_of (map string_bytes arguments)) → (after ≡ before)
  pub promised : IsPromised (map string_bytes arguments) answer old.0 new.0

-- there were no arguments: the status tells why, and neither the files nor the sink were touched
abbrev pub IsCodeOfNone : {F O : Type 0} → NoArguments → ℕ → F → F → O → O → Type 0
IsCodeOfNone reason code before after out_before out_after =
    (code ≡ code_of_none reason) × (after ≡ before) × (out_after ≡ out_before)
