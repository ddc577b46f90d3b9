use Rattle.std.proofs.Common.{◌≡◌}
use Rattle.pg_translate.specs.Inside.spellings.Fronts.{pairs, IsIndex}
use Rattle.pg_translate.proofs.Defaults.{defaults}
use Rattle.pg_translate.proofs.index.Index.default_letters.Given as goal

abbrev pub invariant-letters : goal.invariant-letters
invariant-letters l = (pairs l.index ≡ defaults l.n) × IsIndex l.index
