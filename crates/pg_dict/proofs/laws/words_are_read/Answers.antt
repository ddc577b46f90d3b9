use Rattle.pg_dict.proofs.LineReading.WordLaws.{word_is_read}
use Rattle.pg_dict.proofs.laws.words_are_read.Goals as goal

pub returns : goal.returns
returns c = word_is_read
