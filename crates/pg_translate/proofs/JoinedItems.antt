-- A line of items is cut into them, and is read as they say.
use Rattle.std.proofs.Common.{◌≡◌, ℕ, ◌+◌, ◌<◌, ◌≤◌, true, List, [], ◌∷◌, ◌++◌, length, map, drop, Some, None, Option, option_map, Ok, refl, ap, ◌∙◌, le_refl, arith, suc, zero, length-append}
use Rattle.std.specs.List.{AllByRecursion, cons_option, filter_map}
use Rattle.std.specs.Option.{option_or}
use Rattle.std.proofs.lemmas.Bool.{false≢true}
use Rattle.std.proofs.lemmas.List.{drop_at}
use Rattle.std.proofs.lemmas.Option.{slice_get_past}
use Rattle.pg_types.specs.declared.marks.Mark.TheVariants.{Nothing, Error, Missed, Found, DontCare}
use Rattle.pg_types.specs.declared.refusals.Refusal.{Refusal}
use Rattle.pg_types.specs.ValuesOrRefusals.{unless, refusal_at}
use Rattle.pg_translate.specs.declared.items.Place.{Place}
use Rattle.pg_translate.specs.declared.items.Place.TheVariants.{Dictionary, Patterns}
use Rattle.pg_translate.specs.Alphabets.{Alphabet}
use Rattle.pg_translate.specs.Inside.spellings.Beginnings.{begins_well}
use Rattle.pg_translate.specs.Tokens.{Token, Letter, Digit, Weight, Marked, Edge}
use Rattle.pg_translate.specs.Inside.items.Kinds.{item_by_kind}
use Rattle.pg_translate.specs.Inside.items.Cuts.{PlacedItem, Cut, cut, cut_from, with_item, tokens_of}
use Rattle.pg_translate.specs.Gaps.{sign_of, signs_of}
use Rattle.pg_translate.specs.Inside.items.Items.{IsItem, text_of_items, tokens_in}
use Rattle.pg_translate.specs.Inside.items.Refusing.{cut_refusal, sign_columns, signs_max, long_kind, of_line, sign_column, stop_refusal}
use Rattle.pg_translate.specs.Inside.tables.Rules.{KeepsRules}
use Rattle.pg_translate.proofs.Cuts.{cut_item, cut_none}
use Rattle.pg_translate.proofs.CutLaws.{no_item}
use Rattle.pg_translate.proofs.ItemLaws.{item_reads, begins_spelled}

-- a spelling has a byte
spelled_some : (marks text : List ℕ) → begins_well marks text ≡ true → 0 < length text
spelled_some marks [] well = absurd (false≢true well)
spelled_some marks (b ∷ bs) well = omega arith

-- an item has a byte
pub item_some : (t : Alphabet) → KeepsRules t → (place : Place) (token : Token) (text : List ℕ) → IsItem t place token text → 0 < length text
item_some t rules place (Letter sign) text item = spelled_some t.marks text (begins_spelled t rules (sign, text) item)
item_some t rules place (Digit digit) text item = omega (arith, ap (λ (xs : List ℕ). length xs) item.1)
item_some t rules Dictionary (Weight weight) text item = omega (arith, ap (λ (xs : List ℕ). length xs) item.text_is)
item_some t rules Patterns (Weight weight) text item = absurd item
item_some t rules Dictionary (Marked Nothing) text item = absurd item
item_some t rules Dictionary (Marked Error) text item = omega (arith, ap (λ (xs : List ℕ). length xs) item)
item_some t rules Dictionary (Marked Missed) text item = omega (arith, ap (λ (xs : List ℕ). length xs) item)
item_some t rules Dictionary (Marked Found) text item = omega (arith, ap (λ (xs : List ℕ). length xs) item)
item_some t rules Dictionary (Marked DontCare) text item = omega (arith, ap (λ (xs : List ℕ). length xs) item)
item_some t rules Patterns (Marked mark) text item = absurd item
item_some t rules Dictionary Edge text item = absurd item
item_some t rules Patterns Edge text item = omega (arith, ap (λ (xs : List ℕ). length xs) item)

-- the cut of items that are joined has these items, and nothing is left
pub cut_joined : (t : Alphabet) → KeepsRules t → (place : Place) (most column : ℕ) (items : List (Token × List ℕ)) → AllByRecursion (λ (item : Token × List ℕ). IsItem t place item.0 item.1) items
    → length (text_of_items items) ≤ most → (tokens_of (cut_from t place most column (text_of_items items)) ≡ tokens_in items) × ((cut_from t place most column (text_of_items items)).rest ≡ [])
cut_joined t rules place most column [] each few =
    let none : cut_from t place most column [] ≡ record { items = []; column = column; rest = [] } = cut_none t place most column [] (no_item t rules place [] (omega arith)) in
    (ap tokens_of none, ap (λ (c : Cut). c.rest) none)
cut_joined t rules place zero column (item ∷ items) each few = absurd (omega (arith, item_some t rules place item.0 item.1 each.0, length-append item.1 (text_of_items items)))
cut_joined t rules place (suc more) column (item ∷ items) each few =
    let size : ℕ = length item.1 in
    let found : item_by_kind t place (item.1 ++ text_of_items items) ≡ Some (item.0, size) = item_reads t rules place item.0 item.1 (text_of_items items) each.0 in
    let behind : drop size (item.1 ++ text_of_items items) ≡ text_of_items items = drop_at item.1 (text_of_items items) size refl in
    let whole : cut_from t place (suc more) column (text_of_items (item ∷ items)) ≡ with_item column item.0 (cut_from t place more (column + size) (text_of_items items)) =
    cut_item t place more column (item.1 ++ text_of_items items) item.0 size found ∙ ap (λ (rest : List ℕ). with_item column item.0 (cut_from t place more (column + size) rest)) behind in
    let some : 0 < size = item_some t rules place item.0 item.1 each.0 in
    let p = cut_joined t rules place more (column + size) items each.1 (omega (arith, length-append item.1 (text_of_items items))) in
    (ap tokens_of whole ∙ ap (λ (tokens : List Token). item.0 ∷ tokens) p.0, ap (λ (c : Cut). c.rest) whole ∙ p.1)

-- each sign has a column
pub length-sign_columns : (items : List PlacedItem) → length (filter_map sign_column items) ≡ length (signs_of (map (λ (p : PlacedItem). p.token) items))
length-sign_columns [] = refl
length-sign_columns (item ∷ items) =
    elim (sign_of item.token) as (λ o. length (cons_option (option_map (λ (_ : ℕ). item.column) o) (filter_map sign_column items))
    ≡ length (cons_option o (signs_of (map (λ (p : PlacedItem). p.token) items)))) [
      | None ↦ length-sign_columns items
      | Some sign ↦ ap suc (length-sign_columns items)
    ]

-- a line of items with few signs is not refused
pub not_refused : (place : Place) (line : ℕ) (c : Cut) → length (signs_of (tokens_of c)) ≤ signs_max place → c.rest ≡ [] → cut_refusal place line c ≡ None
not_refused place line c few ended =
    let short : length (sign_columns c) ≤ signs_max place = omega (arith, length-sign_columns c.items) in
    ap (λ (column : Option ℕ). option_or (option_map (refusal_at line (long_kind place)) column) (stop_refusal place line c)) (slice_get_past (sign_columns c) (signs_max place) short)
    ∙ ap (λ (rest : List ℕ). stop_refusal place line (record { items = c.items; column = c.column; rest = rest })) ended

-- a line of items gives what the items give
pub line_is_read : {X : Type 0} (give : List Token → X) (t : Alphabet) → KeepsRules t → (place : Place) (line : ℕ) (items : List (Token × List ℕ))
    → AllByRecursion (λ (item : Token × List ℕ). IsItem t place item.0 item.1) items → length (signs_of (tokens_in items)) ≤ signs_max place
    → of_line give t place line (text_of_items items) ≡ Ok (give (tokens_in items))
line_is_read {X} give t rules place line items each few =
    let c : Cut = cut t place (text_of_items items) in
    let p = cut_joined t rules place (length (text_of_items items)) 1 items each (le_refl (length (text_of_items items))) in
    let tokens : tokens_of c ≡ tokens_in items = p.0 in
    let short : length (signs_of (tokens_of c)) ≤ signs_max place = omega (arith, few, ap (λ (ts : List Token). length (signs_of ts)) tokens) in
    ap (λ (refusal : Option Refusal). unless refusal (give (tokens_of c))) (not_refused place line c short p.1) ∙ ap (λ (ts : List Token). Ok (give ts)) tokens
