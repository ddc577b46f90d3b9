-- The letters of a line have signs of letters.
use Rattle.std.proofs.Common.{◌≡◌, ℕ, ◌+◌, true, zero, suc, List, [], drop, Option, None, Some, refl}
use Rattle.std.specs.List.{list_all}
use Rattle.std.specs.Option.{option_map_or}
use Rattle.std.proofs.lemmas.Bool.{and_from, lt-ltb}
use Rattle.pg_types.specs.declared.limits.TheConstants.{EDGE}
use Rattle.pg_translate.specs.Alphabets.{Alphabet}
use Rattle.pg_translate.specs.Tokens.{Token, Letter, Digit, Weight, Marked, Edge}
use Rattle.pg_translate.specs.Inside.items.Kinds.{item_by_kind}
use Rattle.pg_translate.specs.Inside.items.Cuts.{Cut, cut_from, with_item, tokens_of}
use Rattle.pg_translate.specs.Inside.items.Items.{IsItem}
use Rattle.pg_translate.specs.Inside.tables.Rules.{KeepsRules}
use Rattle.pg_translate.specs.declared.items.Place.TheVariants.{Dictionary}
use Rattle.pg_translate.proofs.CutLaws.{item_found}
use Rattle.pg_dict.proofs.WordStore.Good.{is_sound_item}

-- an item is sound
item_sound : (t : Alphabet) → KeepsRules t → (token : Token) (text : List ℕ) → IsItem t Dictionary token text → is_sound_item token ≡ true
item_sound t rules (Letter s) text item = lt-ltb EDGE s (rules.signs_low (s, text) item)
item_sound t rules (Digit n) text item = refl
item_sound t rules (Weight n) text item = refl
item_sound t rules (Marked m) text item = refl
item_sound t rules Edge text item = absurd item

-- so is the first item of a cut, where those behind it are
cut_sound : (t : Alphabet) → KeepsRules t → (column : ℕ) (text : List ℕ) (found : Option (Token × ℕ)) → item_by_kind t Dictionary text ≡ found → (behind : Token × ℕ → Cut)
    → ((item : Token × ℕ) → list_all is_sound_item (tokens_of (behind item)) ≡ true)
    → list_all is_sound_item (tokens_of (option_map_or (λ item. with_item column item.0 (behind item)) found (record { items = []; column = column; rest = text }))) ≡ true
cut_sound t rules column text None is behind sound = refl
cut_sound t rules column text (Some item) is behind sound =
    let reads = item_found t rules Dictionary text item.0 item.1 is in
    and_from _ _ (item_sound t rules item.0 _ reads.item) (sound item)

-- all items of a cut
pub items_sound : (t : Alphabet) → KeepsRules t → (most column : ℕ) (text : List ℕ) → list_all is_sound_item (tokens_of (cut_from t Dictionary most column text)) ≡ true
items_sound t rules zero column text = refl
items_sound t rules (suc more) column text = cut_sound t rules column text (item_by_kind t Dictionary text) refl (λ item. cut_from t Dictionary more (column + item.1) (drop item.1 text))
    (λ item. items_sound t rules more (column + item.1) (drop item.1 text))
