use Rattle.std.proofs.Common.{rules}
use Rattle.pg_dict.proofs.entries.letters.WordReading.behind_the_first.Goals as goal

pub returns-clause-room : goal.returns-clause-room
returns-clause-room c = search rules
