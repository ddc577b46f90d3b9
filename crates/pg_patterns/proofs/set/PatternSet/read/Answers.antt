use Rattle.std.proofs.Common.{◌+◌, sym, subst, arith}
use Rattle.std.proofs.lemmas.Result.{err_from_is_err_and}
use Rattle.pg_translate.specs.Alphabets.{letters_of}
use Rattle.pg_patterns.specs.Inside.PatternMaps.{SignsUpTo}
use Rattle.pg_patterns.proofs.ManyEntries.{start_fails, start_gives}
use Rattle.pg_patterns.proofs.Known.{known_joined}
use Rattle.pg_patterns.proofs.set.PatternSet.read.Goals as goal

pub returns-clause-known : goal.returns-clause-known
returns-clause-known c =
    subst (SignsUpTo (letters_of c.args.table.now + 1)) (sym c.from_entries.ensures.value)
    (known_joined (letters_of c.args.table.now + 1) c.in_ok-entries.entries.items c.in_ok-entries.ensures.known)

pub returns-in_err-entries-clause-value : goal.returns-in_err-entries-clause-value
returns-in_err-entries-clause-value c =
    let p = err_from_is_err_and c.from_residual.result c.from_residual.ensures.1 in
    rw (p.1, p.2) (start_fails c.in_err-entries.field-0.0 c.args.table.now c.keeps_rules.ensures c.args.bytes.now (omega (arith, c.if-bytes-gt-FILE_MAX.false)) c.in_err-entries.ensures.value)

pub returns-clause-value : goal.returns-clause-value
returns-clause-value c =
    start_gives c.args.table.now c.keeps_rules.ensures c.args.bytes.now c.in_ok-entries.entries.items _ (omega (arith, c.if-bytes-gt-FILE_MAX.false)) c.in_ok-entries.ensures.value c.from_entries.ensures.value
