use Rattle.std.proofs.Common.{refl}
use Rattle.pg_outside.proofs.DiskWriting.{writes_later, writes_nothing}
use Rattle.pg_outside.proofs.Runs.{keeps_self}
use Rattle.pg_outside.proofs.disk.files.write_named.Goals as goal

pub returns-in_err-reserve : goal.returns-in_err-reserve
returns-in_err-reserve g c = writes_nothing c.from_residual.result _ _ _ _ _ _ _ _ _ c.from_residual.ensures.0 c.from_residual.ensures.1 c.reserve.ensures.items (keeps_self _) refl

pub returns-in_err-open_to_write : goal.returns-in_err-open_to_write
returns-in_err-open_to_write g c =
    writes_nothing c.from_residual-in_err-open_to_write.result _ _ _ _ _ _ _ _ _ c.from_residual-in_err-open_to_write.ensures.0
    c.from_residual-in_err-open_to_write.ensures.1 c.reserve.ensures.items c.open_to_write.ensures.same c.in_err-open_to_write.ensures.failed

pub returns-in-None : goal.returns-in-None
returns-in-None g c = writes_later c.write_regular.result _ _ _ _ _ _ _ _ _ _ _ c.in_ok-open_to_write.ensures.ok_failures c.reserve.ensures.items c.open_to_write.ensures.same c.write_regular.ensures

pub returns-in-Some : goal.returns-in-Some
returns-in-Some g c = writes_later c.write_opened.result _ _ _ _ _ _ _ _ _ _ _ c.in_ok-open_to_write.ensures.ok_failures c.reserve.ensures.items c.open_to_write.ensures.same c.write_opened.ensures

pub write_regular-requires-clause-old : goal.write_regular-requires-clause-old
write_regular-requires-clause-old g c = rw c.in-None.is at c.in_ok-open_to_write.ensures.opened

pub write_opened-requires-clause-opened : goal.write_opened-requires-clause-opened
write_opened-requires-clause-opened g c = rw c.in-Some.is at c.in_ok-open_to_write.ensures.opened

pub write_opened-requires-clause-writable : goal.write_opened-requires-clause-writable
write_opened-requires-clause-writable g c = rw c.in-Some.is at c.in_ok-open_to_write.ensures.writable
