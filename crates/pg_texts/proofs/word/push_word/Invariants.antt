use Rattle.std.proofs.Common.{◌≡◌, ◌++◌, ◌-◌, length}
use Rattle.std.specs.Prelude.{slice_index}
use Rattle.std.specs.List.{flat_map, range_with_len}
use Rattle.pg_translate.specs.Alphabets.{spelling_of}
use Rattle.pg_dict.specs.Inside.LentWords.{lent_word}
use Rattle.pg_texts.specs.Inside.FoundStatuses.{status_found}
use Rattle.pg_texts.specs.PattmpTexts.{position_text}
use Rattle.pg_texts.proofs.word.push_word.Given as goal

abbrev pub invariant-positions : goal.invariant-positions
invariant-positions l =
    l.text.items ++ flat_map (position_text l.table (status_found l.found.values l.reach (lent_word l.word)) (lent_word l.word)) (range_with_len l.p (l.last - l.p))
    ≡ l.fn.text.items ++ spelling_of l.table (slice_index l.word.signs.now 1) ++ flat_map (position_text l.table (status_found l.found.values l.reach (lent_word l.word)) (lent_word l.word)) (range_with_len 2 (length l.word.signs.now - 3))
