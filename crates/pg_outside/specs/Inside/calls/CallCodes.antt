-- How proofs store calls on files.
use Rattle.std.specs.Prelude.{◌≡◌, ℕ, List, Bool, true, false, cond, refl}
use Rattle.std.specs.Coded.{Coded, code_by, coded×, coded_ℕ, coded_bool, coded_list}
use Rattle.pg_outside.specs.FilesCalls.{FilesCall, Reads, Writes}

-- the parts of a call: whether it is a write, and the name
abbrev to_parts : FilesCall → Bool × List ℕ
to_parts (Reads name) = (false, name)
to_parts (Writes name) = (true, name)

-- the call with these parts
abbrev from_parts : Bool × List ℕ → FilesCall
from_parts parts = cond parts.0 (Writes parts.1) (Reads parts.1)

-- a call is the call with its parts
pub from_parts-to_parts : (call : FilesCall) → from_parts (to_parts call) ≡ call
from_parts-to_parts (Reads name) = refl
from_parts-to_parts (Writes name) = refl

-- how proofs store calls: each by its parts
abbrev pub calls_code : Coded (List FilesCall)
calls_code = coded_list
    (code_by (Bool × List ℕ)
    (coded× coded_bool (coded_list coded_ℕ)) to_parts from_parts from_parts-to_parts)
