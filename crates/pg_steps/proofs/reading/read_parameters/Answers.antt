use Rattle.std.proofs.Common.{subst}
use Rattle.pg_types.specs.Inside.reading.Answers.{Gives}
use Rattle.pg_types.specs.Parameters.{parameters}
use Rattle.pg_steps.proofs.Fronts.{parameters-front}
use Rattle.pg_steps.proofs.InputsRead.{input_read}
use Rattle.pg_steps.proofs.reading.read_parameters.Goals as goal

pub returns : goal.returns
returns g c =
    let read = c.in_ok-bytes.ensures in
    let gives = subst (λ bytes. Gives (λ read. read) c.read_params-read.result (parameters bytes)) c.deref.ensures.value c.read_params-read.ensures in
    input_read c.args.input c.args.name.now parameters parameters-front (g.F.Files.shown c.args.files.now) (g.F.Files.shown c.read_front.new.files) read.0 c.in_ok-bytes.bytes.items read.1 read.2
    c.read_params-read.result c.accept.result gives c.accept.ensures
