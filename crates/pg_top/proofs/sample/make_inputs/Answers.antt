use Rattle.pg_top.specs.declared.selection.Inputs.{Inputs}
use Rattle.pg_top.proofs.sample.make_inputs.Goals as goal

pub returns-clause-inputs : goal.returns-clause-inputs
returns-clause-inputs c = record {
  words = c.in_ok-dictionary.ensures.words;
  inputs = λ k. record {
    table = c.in_ok-table.ensures k;
    params = c.in_ok-params.ensures k;
    start = c.empty.ensures k;
    dictionary = c.in_ok-dictionary.dictionary;
  };
}
