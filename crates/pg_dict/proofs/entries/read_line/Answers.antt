use Rattle.std.proofs.Common.{refl}
use Rattle.pg_dict.proofs.entries.read_line.Goals as goal

pub seek-requires : goal.seek-requires
seek-requires c = refl

pub read_word-requires-clause-rules : goal.read_word-requires-clause-rules
read_word-requires-clause-rules c = c.requires.rules

pub read_word-requires-clause-sound : goal.read_word-requires-clause-sound
read_word-requires-clause-sound c = c.requires.sound

pub read_word-requires-clause-fit : goal.read_word-requires-clause-fit
read_word-requires-clause-fit c = c.requires.fit

pub read_word-requires-clause-few : goal.read_word-requires-clause-few
read_word-requires-clause-few c = c.requires.few

pub returns-in-Empty-clause-sound : goal.returns-in-Empty-clause-sound
returns-in-Empty-clause-sound c = c.requires.sound

pub returns-in-Empty-clause-fit : goal.returns-in-Empty-clause-fit
returns-in-Empty-clause-fit c = c.requires.fit
