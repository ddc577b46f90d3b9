use Rattle.std.proofs.Common.{◌+◌, sym, ◌∙◌, arith, rules}
use Rattle.pg_starts.proofs.CodeLaws.{code_one, counts_rise}
use Rattle.pg_starts.proofs.codes.write_codes.Goals as goal

pub signs-init : goal.signs-init
signs-init c = record {
  some = omega arith;
  size = search rules;
  codes = λ i ends. c.write_signs.ensures i (omega (arith, ends)) ∙ sym (code_one c.args.signs.now (c.args.greatest + 1) i);
}

pub take_in-requires-clause-few : goal.take_in-requires-clause-few
take_in-requires-clause-few c =
    omega (arith, counts_rise (c.args.greatest + 1) (c.signs.at + 1) c.args.len (omega arith) (omega (arith, c.signs-test.true)), c.requires.few)
