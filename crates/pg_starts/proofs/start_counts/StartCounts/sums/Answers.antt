use Rattle.std.proofs.Common.{sym, ◌∙◌}
use Rattle.pg_starts.specs.Inside.Tallies.{tallied}
use Rattle.pg_starts.specs.Inside.Known.{windows_of}
use Rattle.pg_starts.proofs.Numbering.{windows_rise}
use Rattle.pg_starts.proofs.Tallying.{find_there}
use Rattle.pg_starts.proofs.start_counts.StartCounts.sums.Goals as goal

pub returns-clause-value : goal.returns-clause-value
returns-clause-value c = λ u at.
    let n = c.args.self.now.numbers in
    let k = c.requires.counting in
    c.sums.ensures ∙ sym (find_there u c.args.number (windows_of c.args.signs.now n) (tallied c.args.self.now.tallies) (windows_rise c.args.signs.now n k.known) at)
