use Rattle.std.proofs.Common.{subst}
use Rattle.pg_types.specs.Inside.reading.Answers.{Gives}
use Rattle.pg_dict.specs.DictionaryWords.{words}
use Rattle.pg_steps.specs.declared.inputs.Input.TheVariants.{Dictionary}
use Rattle.pg_steps.proofs.Fronts.{words-front}
use Rattle.pg_steps.proofs.InputsRead.{input_read}
use Rattle.pg_steps.proofs.reading.read_dictionary.Goals as goal

pub returns-clause-read : goal.returns-clause-read
returns-clause-read g c =
    let read = c.in_ok-bytes.ensures in
    let gives = subst (λ bytes. Gives (λ read. read) c.read-read.result (words c.args.table.now bytes)) c.deref.ensures.value c.read-read.ensures.words in
    input_read Dictionary c.args.name.now (words c.args.table.now) (words-front c.args.table.now) (g.F.Files.shown c.args.files.now) (g.F.Files.shown c.read_front.new.files) read.0 c.in_ok-bytes.bytes.items read.1 read.2
    c.read-read.result c.accept.result gives c.accept.ensures
