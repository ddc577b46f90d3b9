-- The arguments that a program is given.
use Rattle.std.specs.Prelude.{◌≡◌, ℕ, List, drop, String}
use Rattle.std.specs.IoError.{error_kind}
use Rattle.std.specs.Vec.Iter.{into_iter_items}
use Rattle.std.specs.declared.alloc.Global.{Global}
use Rattle.std.specs.declared.io.Error.{Error}
use Rattle.std.specs.declared.io.ErrorKind.TheVariants.{OutOfMemory}
use Rattle.std.specs.declared.vec.IntoIter.{IntoIter}
use Rattle.pg_main.specs.declared.NoArguments.{NoArguments}
use Rattle.pg_main.specs.declared.NoArguments.TheVariants.{Memory, Unreadable}

-- the status where there are no arguments: 5 where memory was short, 6 where the system gave none
abbrev pub code_of_none : NoArguments → ℕ
code_of_none reason = elim reason [ Memory ↦ 5 | Unreadable ↦ 6 ]

-- all arguments after the first, which is the program's name, in their order
abbrev pub arguments_in : IntoIter (String Global) Global → List (String Global)
arguments_in arguments = drop 1 (into_iter_items arguments)

-- why there are no arguments where the system gave this error
pub record IsReasonOf (error : Error) (reason : NoArguments) : Type 0 where
  pub memory : error_kind error ≡ OutOfMemory → reason ≡ Memory
  pub other : (error_kind error ≡ OutOfMemory → ⊥) → reason ≡ Unreadable
