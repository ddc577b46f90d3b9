use Rattle.pg_translate.proofs.Entries.{HasEntered}
use Rattle.pg_translate.proofs.index.Index.enter.Given as goal

abbrev pub invariant-bytes : goal.invariant-bytes
invariant-bytes l = HasEntered l.initial.self l.self (l.sign, l.text) l.i l.code
