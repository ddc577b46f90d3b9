use Rattle.std.specs.Prelude.{map, string_bytes}
use Rattle.std.proofs.Common.{arith}
use Rattle.pg_outside.specs.Faults.{Rose}
use Rattle.pg_outside.specs.Inside.quiet.QuietFiles.{quiet_shown}
use Rattle.pg_outside.specs.Inside.quiet.QuietSink.{quiet_sink_shown}
use Rattle.pg_plans.proofs.Answered.{no_cause}
use Rattle.pg_top.proofs.theorems.RunLaws.{each_answer}
use Rattle.pg_runs.proofs.quiet.run_quietly.Goals as goal

-- a count that is 0 did not rise
none_rose : ¬ Rose 0 0
none_rose rose = omega (arith, rose)

pub returns : goal.returns
returns c is = no_cause (quiet_shown c.args.files.now, quiet_sink_shown c.args.out.now) (quiet_shown c.run.new.files, quiet_sink_shown c.run.new.out)
    (record { reads = λ name. none_rose; writes = λ name. none_rose; puts = none_rose })
    ((each_answer (map string_bytes c.args.words.now) c.run.result (quiet_shown c.args.files.now, quiet_sink_shown c.args.out.now) (quiet_shown c.run.new.files, quiet_sink_shown c.run.new.out) c.run.ensures.follows).caused is)
