use Rattle.std.proofs.Common.{◌≡◌, ◌≤◌, ◌+◌, ◌*◌, length, Ok}
use Rattle.pg_types.specs.declared.limits.TheConstants.{WEIGHT_MAX}
use Rattle.pg_types.specs.Lines.{lines}
use Rattle.pg_translate.specs.Alphabets.{letters_of}
use Rattle.pg_types.specs.Inside.reading.Parts.{both_parts}
use Rattle.pg_dict.specs.Inside.LineWords.{words_from}
use Rattle.pg_dict.specs.Inside.Store.{stored_words, IsSound, IsFit}
use Rattle.pg_dict.proofs.LineReading.Sizes.{size_of}
use Rattle.pg_dict.proofs.dictionary.Dictionary.read.Given as goal

abbrev pub invariant-lines : goal.invariant-lines
invariant-lines l = record {
  whole : both_parts (Ok (stored_words l.store)) (words_from l.table l.number l.weight (lines l.rest)) ≡ words_from l.table 1 1 (lines l.bytes);
  sound : IsSound l.store;
  fit : IsFit (letters_of l.table + 1) l.store;
  small : l.weight ≤ WEIGHT_MAX;
  number : l.number + length l.rest ≤ length l.bytes + 1;
  left : length l.rest ≤ length l.bytes;
  few : length l.store.signs.items + size_of (lines l.rest) ≤ length l.bytes + 2 * length l.store.words.items;
}

abbrev pub decreases-lines : goal.decreases-lines
decreases-lines l = length l.rest
