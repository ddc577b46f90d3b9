use Rattle.pg_translate.specs.Inside.spellings.Fronts.{pairs}
use Rattle.pg_translate.proofs.Walks.{HasWalked}
use Rattle.pg_translate.proofs.index.Index.letter.Given as goal

abbrev pub invariant-bytes : goal.invariant-bytes
invariant-bytes l = HasWalked (pairs l.self) l.text l.i l.code
