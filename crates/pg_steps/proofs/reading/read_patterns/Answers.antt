use Rattle.std.proofs.Common.{◌+◌, subst}
use Rattle.pg_types.specs.Inside.reading.Answers.{Gives}
use Rattle.pg_patterns.specs.Starts.{start}
use Rattle.pg_steps.specs.declared.inputs.Input.TheVariants.{Patterns}
use Rattle.pg_steps.proofs.Fronts.{start-front}
use Rattle.pg_steps.proofs.InputsRead.{input_read, input_known}
use Rattle.pg_patterns.specs.Inside.PatternMaps.{SignsUpTo}
use Rattle.pg_translate.specs.Alphabets.{letters_of}
use Rattle.pg_steps.proofs.reading.read_patterns.Goals as goal

pub returns-clause-read : goal.returns-clause-read
returns-clause-read g c =
    let read = c.in_ok-bytes.ensures in
    let gives = subst (λ bytes. Gives (λ read. read) c.read-read.result (start c.args.table.now bytes)) c.deref.ensures.value c.read-read.ensures.value in
    input_read Patterns c.args.name.now (start c.args.table.now) (start-front c.args.table.now) (g.F.Files.shown c.args.files.now) (g.F.Files.shown c.read_front.new.files) read.0 c.in_ok-bytes.bytes.items read.1 read.2
    c.read-read.result c.accept.result gives c.accept.ensures

pub returns-clause-known : goal.returns-clause-known
returns-clause-known g c = input_known Patterns c.read-read.result c.accept.result (SignsUpTo (letters_of c.args.table.now + 1)) c.read-read.ensures.known c.accept.ensures
