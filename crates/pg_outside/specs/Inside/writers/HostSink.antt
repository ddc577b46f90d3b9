-- The count of faults of a writer as a sink, and why the last one came.
use Rattle.std.specs.Prelude.{ℕ, Option}
use Rattle.std.specs.declared.io.Error.{Error}
use Rattle.pg_outside.specs.declared.host_sink.HostSink.{HostSink}

-- the writer
abbrev pub writer_of : {W : Type 0} → HostSink W → W
writer_of sink = sink.writer

-- the faults
abbrev pub writer_faults : {W : Type 0} → HostSink W → ℕ
writer_faults sink = sink.failed

-- how many puts there were
abbrev pub writer_puts : {W : Type 0} → HostSink W → ℕ
writer_puts sink = sink.puts

-- why the put that failed last did
abbrev pub writer_reason : {W : Type 0} → HostSink W → Option Error
writer_reason sink = sink.reason
