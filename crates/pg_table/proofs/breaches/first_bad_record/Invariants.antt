use Rattle.std.proofs.Common.{◌≡◌, ℕ, ◌<◌, true}
use Rattle.pg_table.specs.Forms.{is_sound_record}
use Rattle.pg_table.specs.Inside.Extents.{read_record, record_start}
use Rattle.pg_table.proofs.breaches.first_bad_record.Given as goal

abbrev pub invariant-records : goal.invariant-records
invariant-records l = (k : ℕ) → k < l.i → is_sound_record k (read_record l.bytes (record_start l.sizes.cells k)) ≡ true
