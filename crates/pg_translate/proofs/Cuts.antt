-- The cut of a line, item by item.
use Rattle.std.proofs.Common.{◌≡◌, ℕ, ◌+◌, List, [], drop, Some, refl, suc, zero, None}
use Rattle.pg_translate.specs.declared.items.Place.{Place}
use Rattle.pg_translate.specs.Alphabets.{Alphabet}
use Rattle.pg_translate.specs.Tokens.{Token}
use Rattle.pg_translate.specs.Inside.items.Kinds.{item_by_kind}
use Rattle.pg_translate.specs.Inside.items.Cuts.{cut_from, with_item}

-- at an item the cut has it first, and then those of what follows
pub cut_item : (t : Alphabet) (place : Place) (more column : ℕ) (text : List ℕ) (token : Token) (size : ℕ) → item_by_kind t place text ≡ Some (token, size)
    → cut_from t place (suc more) column text ≡ with_item column token (cut_from t place more (column + size) (drop size text))
cut_item t place more column text token size found = rw found refl

-- where no item stands the cut has none
pub cut_none : (t : Alphabet) (place : Place) (most column : ℕ) (text : List ℕ) → item_by_kind t place text ≡ None → cut_from t place most column text ≡ record { items = []; column = column; rest = text }
cut_none t place zero column text none = refl
cut_none t place (suc more) column text none = rw none refl
