use Rattle.std.proofs.Common.{subst}
use Rattle.pg_types.specs.Inside.reading.Answers.{Gives}
use Rattle.pg_translate.specs.Tables.{table}
use Rattle.pg_steps.specs.declared.inputs.Input.TheVariants.{Translate}
use Rattle.pg_steps.proofs.Fronts.{table-front}
use Rattle.pg_steps.proofs.InputsRead.{input_read}
use Rattle.pg_steps.proofs.reading.read_table.Goals as goal

pub returns : goal.returns
returns g c =
    let read = c.in_ok-bytes.ensures in
    let gives = subst (λ bytes. Gives (λ read. read) c.read-read.result (table bytes)) c.deref.ensures.value c.read-read.ensures in
    input_read Translate c.args.name.now table table-front (g.F.Files.shown c.args.files.now) (g.F.Files.shown c.read_front.new.files) read.0 c.in_ok-bytes.bytes.items read.1 read.2
    c.read-read.result c.accept.result gives c.accept.ensures
