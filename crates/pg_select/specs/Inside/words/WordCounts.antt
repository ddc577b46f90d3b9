-- What a pass counts in a word.
use Rattle.std.specs.Prelude.{List, length}
use Rattle.std.specs.List.{flat_map}
use Rattle.pg_translate.specs.Alphabets.{Alphabet}
use Rattle.pg_dict.specs.Word.{Word}
use Rattle.pg_select.specs.declared.pass.Pass.{Pass}
use Rattle.pg_translate.specs.Reach.{positions}
use Rattle.pg_patterns.specs.Values.{Patterns}
use Rattle.pg_select.specs.Windows.{Hopeless}
use Rattle.pg_select.specs.Inside.words.PositionLists.{CountedPosition, counted_positions_at}

-- what a pass counts in a word: at each position in reach
abbrev pub counted_positions_in : Alphabet
    → Pass → Patterns → Hopeless → Word → List CountedPosition
counted_positions_in m pass P H w = flat_map (counted_positions_at pass P H w)
    (positions m.left m.right (length w.signs))
