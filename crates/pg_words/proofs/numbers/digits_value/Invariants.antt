use Rattle.std.proofs.Common.{◌≡◌, ◌≤◌, drop}
use Rattle.pg_types.specs.Inside.reading.Parts.{number_from}
use Rattle.pg_words.specs.Inside.Numbers.{at_most}
use Rattle.pg_words.proofs.numbers.digits_value.Given as goal

abbrev pub invariant-digits : goal.invariant-digits
invariant-digits l = record {
  rest : at_most l.most (number_from l.value (drop l.digit-index l.digits)) ≡ at_most l.most (number_from 0 l.digits);
  small : l.value ≤ l.most;
}
