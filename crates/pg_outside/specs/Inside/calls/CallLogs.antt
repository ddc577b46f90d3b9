-- A call that is made, as a call on files.
use Rattle.pg_outside.specs.FilesCalls.{FilesCall, Reads, Writes}
use Rattle.pg_outside.specs.declared.call_log.Call.{Call}
use Rattle.pg_outside.specs.declared.call_log.Call.TheVariants as call

-- a call of the code as a call on files: a read or a write of the file of its name
abbrev pub call_of : Call → FilesCall
call_of (call.Read name) = Reads name.now
call_of (call.Write name) = Writes name.now
