-- What `MemorySink` shows: its bytes and its room, its count of faults, and its calls.
use Rattle.std.specs.Prelude.{◌≡◌, ℕ, ◌+◌, ◌<◌, ◌≤◌, List, ◌++◌, take, length, Option, Some}
use Rattle.std.specs.FinMap as fin
use Rattle.pg_outside.specs.Inside.calls.ListedCalls.{ListedCalls, listed_calls}
use Rattle.pg_outside.specs.Faults.{next_count}
use Rattle.pg_outside.specs.declared.memory.sink.MemorySink.{MemorySink}

-- the bytes that were put
abbrev pub sink_bytes : MemorySink → List ℕ
sink_bytes sink = sink.held.bytes.items

-- how many bytes the sink holds at most
abbrev pub sink_room : MemorySink → ℕ
sink_room sink = sink.held.room

-- the count of faults
abbrev pub sink_faults : MemorySink → ℕ
sink_faults sink = sink.failed

-- how many puts there were; it stands still at the last value of u64
abbrev pub puts_of : MemorySink → ℕ
puts_of sink = sink.plans.calls

-- the puts that are to fail
abbrev pub listed_puts : MemorySink → ListedCalls
listed_puts sink = listed_calls sink.plans.listed.items

-- what the next put is to keep, where it is listed
abbrev pub next_listed_put : MemorySink → Option (Option ℕ)
next_listed_put sink = fin.get (listed_puts sink) (next_count (puts_of sink))

-- the room suffices for these bytes
abbrev pub IsWithin : MemorySink → List ℕ → Type 0
IsWithin sink bytes = length (sink_bytes sink) + length bytes ≤ sink_room sink

-- the room does not suffice for these bytes
abbrev pub IsPast : MemorySink → List ℕ → Type 0
IsPast sink bytes = sink_room sink < length (sink_bytes sink) + length bytes

-- nothing was put
abbrev pub SameBytes : MemorySink → MemorySink → Type 0
SameBytes old new = sink_bytes new ≡ sink_bytes old

-- a listed put for which the room suffices appends the first bytes that it keeps
abbrev pub PutsFront : MemorySink → MemorySink → List ℕ → Type 0
PutsFront old new bytes = (keep : ℕ) → next_listed_put old ≡ Some (Some keep) → IsWithin old bytes
    → sink_bytes new ≡ sink_bytes old ++ take keep bytes
