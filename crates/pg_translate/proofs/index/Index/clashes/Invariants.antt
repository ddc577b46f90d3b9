use Rattle.std.proofs.Common.{◌≡◌, ◌<◌, Some, take}
use Rattle.pg_translate.specs.declared.index.Front.TheVariants.{Inside}
use Rattle.pg_translate.specs.Inside.spellings.Fronts.{front_in, pairs}
use Rattle.pg_translate.proofs.Walks.{HasWalked}
use Rattle.pg_translate.proofs.index.Index.clashes.Given as goal

abbrev pub invariant-bytes : goal.invariant-bytes
invariant-bytes l = HasWalked (pairs l.self) l.text l.i l.code × (0 < l.i → front_in (pairs l.self) (take l.i l.text) ≡ Some Inside)
