-- What `QuietSink` shows: its bytes, where it tells them, and its room.
use Rattle.std.specs.Prelude.{◌≡◌, ℕ, ◌+◌, ◌<◌, ◌≤◌, List, ◌++◌, length, cond, Option, Some, None, IfSome}
use Rattle.pg_outside.specs.Content.{SinkShown}
use Rattle.pg_outside.specs.declared.quiet.sink.QuietSink.{QuietSink}

-- the bytes that were put, where it tells them
abbrev pub told_text : QuietSink → Option (List ℕ)
told_text sink = cond sink.is_told (Some sink.held.bytes.items) None

-- how many bytes the sink holds at most
abbrev pub quiet_sink_room : QuietSink → ℕ
quiet_sink_room sink = sink.held.room

-- where it told its bytes and the room suffices for these, it tells them with these behind
abbrev pub PutsWithin : QuietSink → QuietSink → List ℕ → Type 0
PutsWithin old new bytes = IfSome (told_text old) (λ text.
    length text + length bytes ≤ quiet_sink_room old → told_text new ≡ Some (text ++ bytes))

-- where it told its bytes and the room does not suffice for these, it tells nothing
abbrev pub EndsPast : QuietSink → QuietSink → List ℕ → Type 0
EndsPast old new bytes = IfSome (told_text old) (λ text.
    quiet_sink_room old < length text + length bytes → told_text new ≡ None)

-- how many puts there were
abbrev pub quiet_puts_of : QuietSink → ℕ
quiet_puts_of sink = sink.puts

-- what it shows: its count of faults is 0
abbrev pub quiet_sink_shown : QuietSink → SinkShown
quiet_sink_shown sink = record { text = told_text sink; faults = 0; puts = quiet_puts_of sink }
