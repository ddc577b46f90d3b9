-- The items of a line.
use Rattle.std.specs.Prelude.{ℕ, zero, suc, ◌+◌, List, [], ◌∷◌, length, drop}
use Rattle.std.specs.Option.{option_map_or}
use Rattle.pg_translate.specs.declared.items.Place.{Place}
use Rattle.pg_translate.specs.Alphabets.{Alphabet}
use Rattle.pg_translate.specs.Tokens.{Token, item_at}

-- the items from a column on, one behind the other until none begins, and at most so many: the
-- column of each, its meaning and its own text
abbrev pub items_from : Alphabet → Place → ℕ → ℕ → List ℕ → List (ℕ × (Token × List ℕ))
items_from t place zero column text = []
items_from t place (suc more) column text = option_map_or (λ item. (column, item)
    ∷ items_from t place more (column + length item.1) (drop (length item.1) text))
    (item_at t place text) []

-- the items of a line, up to where no item begins. They are no more than its bytes, and as many as
-- can be, by the law `items_are_longest`
abbrev pub items_of : Alphabet → Place → List ℕ → List (ℕ × (Token × List ℕ))
items_of t place line = items_from t place (length line) 1 line
