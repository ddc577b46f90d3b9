-- A line cut into items, as its readers go along it.
use Rattle.std.specs.Prelude.{ℕ, zero, suc, ◌+◌, List, [], ◌∷◌, length, drop, map}
use Rattle.std.specs.Option.{option_map_or}
use Rattle.pg_translate.specs.declared.items.Place.{Place}
use Rattle.pg_translate.specs.Alphabets.{Alphabet}
use Rattle.pg_translate.specs.Tokens.{Token}
use Rattle.pg_translate.specs.Inside.items.Kinds.{item_by_kind}

-- an item of a line, and the column of its first byte
pub record PlacedItem : Type 0 where
  pub column : ℕ
  pub token : Token

-- the items of a line, the column behind the last, and what stands there
pub record Cut : Type 0 where
  pub items : List PlacedItem
  pub column : ℕ
  pub rest : List ℕ

-- a cut with one item more before it
abbrev pub with_item : ℕ → Token → Cut → Cut
with_item column token c = record c { items = record { column = column; token = token } ∷ c.items }

-- the cut from a column on: at most so many items, one behind the other, until none begins
abbrev pub cut_from : Alphabet → Place → ℕ → ℕ → List ℕ → Cut
cut_from t place zero column text = record { items = []; column = column; rest = text }
cut_from t place (suc more) column text = option_map_or
    (λ item. with_item column item.0 (cut_from t place more (column + item.1) (drop item.1 text)))
    (item_by_kind t place text) (record { items = []; column = column; rest = text })

-- the cut of a line; a cut has no more items than bytes
abbrev pub cut : Alphabet → Place → List ℕ → Cut
cut t place line = cut_from t place (length line) 1 line

-- what the items of a cut mean
abbrev pub tokens_of : Cut → List Token
tokens_of c = map (λ item. item.token) c.items
