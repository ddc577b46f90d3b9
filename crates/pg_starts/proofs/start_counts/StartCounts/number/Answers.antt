use Rattle.std.proofs.Common.{sym, subst}
use Rattle.pg_types.specs.Inside.counting.NumberedWindows.{HasNumber}
use Rattle.pg_starts.specs.Inside.Known.{windows_of}
use Rattle.pg_starts.specs.Inside.Starts.{window_from}
use Rattle.pg_starts.proofs.Numbering.{has_number}
use Rattle.pg_starts.proofs.start_counts.StartCounts.number.Goals as goal

pub returns : goal.returns
returns c =
    let signs = c.args.signs.now in
    let n = c.args.self.now.numbers in
    let k = c.requires.counting in
    subst (HasNumber (windows_of signs n) (window_from signs c.args.start n.len)) (sym c.number.ensures) (has_number signs n k.known c.args.start c.requires.start)
