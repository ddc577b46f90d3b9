use Rattle.std.proofs.Common.{refl}
use Rattle.pg_driver.proofs.pass_windows.PassWindows.forget.Goals as goal

pub returns : goal.returns
returns c = record { order = c.clear.ensures.items; fates = c.clear-2.ensures.items; numbers = refl; counts = refl }
