use Rattle.std.proofs.Common.{◌≡◌, ◌≤◌, ◌+◌, ◌*◌, ◌++◌, length, drop}
use Rattle.std.specs.List.{sum_by}
use Rattle.pg_dict.specs.Inside.SoundWords.{letter_count}
use Rattle.pg_dict.specs.Parts.{part_of}
use Rattle.pg_dict.specs.Inside.Parts.{part_from}
use Rattle.pg_dict.specs.Inside.Store.{stored_words, IsSound}
use Rattle.pg_dict.proofs.dictionary.Dictionary.part.Given as goal

abbrev pub invariant-words : goal.invariant-words
invariant-words l = record {
  words : stored_words l.store ++ part_from l.folds l.fold l.inside l.i (drop l.i l.self) ≡ part_of l.folds l.fold l.inside l.self;
  sound : IsSound l.store;
  few : length l.store.signs.items + sum_by letter_count (drop l.i l.self) ≤ sum_by letter_count l.self + 2 * length l.store.words.items;
}
