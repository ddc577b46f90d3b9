use Rattle.std.proofs.Common.{◌≡◌, map, replicate, ap, ◌∙◌, rules}
use Rattle.pg_starts.specs.Inside.CountsByNumber.{told_by}
use Rattle.pg_starts.proofs.Tallying.{none_told}
use Rattle.pg_starts.proofs.tallies.Tallies.begin.Goals as goal

pub returns : goal.returns
returns c =
    let is : c.resize.new.self.items ≡ replicate c.args.count (0, 0) = search rules in
    ap (map told_by) is ∙ none_told c.args.count
