use Rattle.std.proofs.Common.{◌≡◌, length}
use Rattle.pg_top.proofs.sweep.SetReads.{SetsLead}
use Rattle.pg_top.proofs.sweep.sets.read_sets.Given as goal

abbrev pub invariant-sets : goal.invariant-sets
invariant-sets g l = record {
  lead : SetsLead l.names l.i l.sets.items (g.F.Files.shown l.fn.files) (g.F.Files.shown l.files);
  count : length l.sets.items ≡ l.i;
}
