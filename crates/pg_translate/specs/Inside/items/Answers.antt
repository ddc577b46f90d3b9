-- What the look-up of an item answers.
use Rattle.std.specs.Prelude.{◌≡◌, ℕ, ◌+◌, ◌<◌, ◌≤◌, Bool, true, false, List, length, drop, None, Some}
use Rattle.pg_types.specs.declared.limits.TheConstants.{WEIGHT_MAX}
use Rattle.pg_translate.specs.declared.items.Place.{Place}
use Rattle.pg_translate.specs.declared.items.Item.{Item}
use Rattle.pg_translate.specs.declared.items.Item.TheVariants as answer
use Rattle.pg_translate.specs.Alphabets.{Alphabet, letters_of}
use Rattle.pg_translate.specs.Inside.tables.Rules.{KeepsRules}
use Rattle.pg_translate.specs.Tokens.{Token, Letter, Digit, Weight, Marked, Edge, is_ended}
use Rattle.pg_translate.specs.Inside.items.Kinds.{item_by_kind}

-- an item begins the text under a table's rules, has a text of its own, and the rest follows it
pub record HasItem (t : Alphabet) (place : Place)
    (text : List ℕ) (token : Token) (after : List ℕ) : Type 0 where
  pub rules : KeepsRules t
  pub size : ℕ
  pub found : item_by_kind t place text ≡ Some (token, size)
  pub some : 0 < size
  pub within : size ≤ length text
  pub behind : after ≡ drop size text

-- no item begins the text, whose line ends there or does not
pub record HasNoItem (t : Alphabet) (place : Place) (text : List ℕ) (ended : Bool) : Type 0 where
  pub none : item_by_kind t place text ≡ None
  pub end : is_ended text ≡ ended

-- the answer is the item that begins the text, with what follows it
abbrev pub IsFirstItem : Alphabet → Place → List ℕ → Item → Type 0
IsFirstItem t place text (answer.Letter sign after) = HasItem t place text (Letter sign) after.now
IsFirstItem t place text (answer.Digit digit after) = HasItem t place text (Digit digit) after.now
IsFirstItem t place text (answer.Weight weight after) =
    HasItem t place text (Weight weight) after.now
IsFirstItem t place text (answer.Mark mark after) = HasItem t place text (Marked mark) after.now
IsFirstItem t place text (answer.Edge after) = HasItem t place text Edge after.now
IsFirstItem t place text answer.End = HasNoItem t place text true
IsFirstItem t place text answer.Bad = HasNoItem t place text false

-- the letters, digits and weights of an answer are within their limits
abbrev pub IsInRange : Alphabet → Item → Type 0
IsInRange t (answer.Letter sign after) = (1 < sign) × (sign ≤ letters_of t + 1)
IsInRange t (answer.Digit digit after) = digit ≤ 9
IsInRange t (answer.Weight weight after) = (0 < weight) × (weight ≤ WEIGHT_MAX)
IsInRange t (answer.Mark mark after) = Unit {0}
IsInRange t (answer.Edge after) = Unit {0}
IsInRange t answer.End = Unit {0}
IsInRange t answer.Bad = Unit {0}
