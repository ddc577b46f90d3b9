use Rattle.std.proofs.Common.{◌≡◌, ◌-◌, ◌≤◌, length, map}
use Rattle.pg_outputs.specs.Lists.{list_of}
use Rattle.pg_outputs.specs.Inside.Heads.{Grows}
use Rattle.pg_table.specs.Inside.text.PackedTrie.{dot_values}
use Rattle.pg_table.specs.Inside.text.Sharing.{Lists, Shares, value_and_dot, with_ends}
use Rattle.pg_table.proofs.text.entering.share.Given as goal

abbrev pub invariant-loop-i : goal.invariant-loop-i
invariant-loop-i l = record {
  low : l.at ≤ l.i;
  high : l.i ≤ l.end;
  inside : l.head ≤ length l.outputs;
  list : list_of l.outputs l.head ≡ map value_and_dot (dot_values l.patterns l.i l.end);
  shares : (lists : Lists) → Shares l.fn.outputs lists → Shares l.outputs (with_ends lists (dot_values l.patterns l.i l.end));
  grows : Grows l.fn.outputs l.outputs;
}

abbrev pub decreases-loop-i : goal.decreases-loop-i
decreases-loop-i l = l.i - l.at
