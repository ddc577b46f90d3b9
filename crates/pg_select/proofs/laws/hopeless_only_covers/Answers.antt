use Rattle.std.proofs.Common.{refl, ◌∙◌}
use Rattle.std.proofs.lemmas.Bool.{or_left}
use Rattle.pg_patterns.specs.Values.{applies}
use Rattle.pg_select.specs.Windows.{is_covered}
use Rattle.pg_select.proofs.LawsValues.{covered_raised, covered_hopeless}
use Rattle.pg_select.proofs.laws.hopeless_only_covers.Goals as goal

pub returns : goal.returns
returns c = record {
  values = λ m u tidy minima words w p. (refl, refl, refl);
  raised = covered_raised;
  hopeless = covered_hopeless;
  given_up = λ m u x tidy d stands. covered_hopeless m.pass.level m.patterns m.hopeless (u, m.pass.dot) x d
      ∙ or_left (applies x d (u, m.pass.dot)) (is_covered m.pass.level m.patterns m.hopeless x d) stands;
}
