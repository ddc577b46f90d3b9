use Rattle.std.proofs.Common.{◌+◌, arith}
use Rattle.pg_starts.proofs.CodeLaws.{codes_fit}
use Rattle.pg_starts.proofs.codes.coded_length.Goals as goal

pub returns-then-count_codes-size-clause-few : goal.returns-then-count_codes-size-clause-few
returns-then-count_codes-size-clause-few c = λ len from upto.
    codes_fit (c.args.greatest + 1) c.args.size len (omega arith) (omega (arith, c.count_codes.ensures, c.if-count_codes-size.true)) from upto
