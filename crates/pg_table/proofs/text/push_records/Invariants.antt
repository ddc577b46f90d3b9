use Rattle.std.proofs.Common.{◌≡◌, ◌-◌, ◌++◌, take}
use Rattle.std.specs.List.{flat_map}
use Rattle.pg_table.specs.Inside.text.Files.{record_bytes}
use Rattle.pg_table.proofs.text.push_records.Given as goal

abbrev pub invariant-loop-head : goal.invariant-loop-head
invariant-loop-head l = l.text.items ≡ l.fn.text.items ++ flat_map record_bytes (take (l.head - 1) l.outputs)
