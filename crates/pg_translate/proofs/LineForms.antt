-- The items of a line are its cut, and refuse it as its cut does.
use Rattle.std.proofs.Common.{◌≡◌, ℕ, zero, suc, ◌+◌, ◌≤◌, List, [], ◌∷◌, length, map, take, drop, Option, Some, None, option_map, refl, sym, ap, ap₂, ◌∙◌, arith}
use Rattle.std.specs.Prelude.{if◌then◌else◌, slice_get}
use Rattle.std.specs.List.{filter_map, cons_option, sum_by}
use Rattle.std.specs.Option.{option_or}
use Rattle.std.proofs.lemmas.List.{drop-drop, length-take-le}
use Rattle.std.proofs.lemmas.List.Sums.{sum_by-cons}
use Rattle.pg_types.specs.ValuesOrRefusals.{refusal_at}
use Rattle.pg_translate.specs.declared.items.Place.{Place}
use Rattle.pg_translate.specs.Alphabets.{Alphabet}
use Rattle.pg_translate.specs.Tokens.{Token, is_ended}
use Rattle.pg_translate.specs.Cuts.{items_from, items_of}
use Rattle.pg_translate.specs.Gaps.{sign_of}
use Rattle.pg_translate.specs.LineRefusals.{limit, bad_kind, line_refusal}
use Rattle.pg_translate.specs.Inside.items.Kinds.{item_by_kind}
use Rattle.pg_translate.specs.Inside.items.Cuts.{PlacedItem, Cut, cut_from, cut, with_item, tokens_of}
use Rattle.pg_translate.specs.Inside.items.Refusing.{sign_column, cut_refusal}
use Rattle.pg_translate.specs.Inside.tables.Rules.{KeepsRules}
use Rattle.pg_translate.proofs.Cuts.{cut_item, cut_none}
use Rattle.pg_translate.proofs.CutLaws.{Reads, item_found, items_none, items_more}

-- an item with its column
abbrev placed : ℕ × (Token × List ℕ) → PlacedItem
placed i = record { column = i.0; token = i.1.0 }

-- the bytes of items
abbrev size_of : List (ℕ × (Token × List ℕ)) → ℕ
size_of items = sum_by (λ i. length i.1.1) items

-- the cut of a text into items from a column on
abbrev pub cut_of : ℕ → List ℕ → List (ℕ × (Token × List ℕ)) → Cut
cut_of column text items = record { items = map placed items; column = column + size_of items; rest = drop (size_of items) text }

-- a cut without an item
cut_empty : (column : ℕ) (text : List ℕ) → (let c : Cut = record { items = []; column = column; rest = text } in c ≡ cut_of column text [])
cut_empty column text = let same : column ≡ column + 0 = omega arith in ap (λ (n : ℕ). record { items = []; column = n; rest = text }) same

-- and one with an item more
cut_longer : (column size : ℕ) (text : List ℕ) (token : Token) (later : List (ℕ × (Token × List ℕ))) → size ≤ length text
    → with_item column token (cut_of (column + size) (drop size text) later) ≡ cut_of column text ((column, (token, take size text)) ∷ later)
cut_longer column size text token later within =
    let all : List (ℕ × (Token × List ℕ)) = (column, (token, take size text)) ∷ later in
    let sizes : size_of all ≡ length (take size text) + size_of later = sum_by-cons (λ i. length i.1.1) (column, (token, take size text)) later in
    let front : length (take size text) ≡ size = length-take-le size text within in
    let behind : size + size_of later ≡ size_of all = omega (arith, sizes, front) in
    let end : column + size + size_of later ≡ column + size_of all = omega (arith, behind) in
    ap₂ (λ (n : ℕ) (rest : List ℕ). record { items = map placed all; column = n; rest = rest }) end
    (drop-drop (size_of later) size text ∙ ap (λ (n : ℕ). drop n text) behind)

-- the cut of a text
pub cut_as : (t : Alphabet) → KeepsRules t → (place : Place) (most column : ℕ) (text : List ℕ) → cut_from t place most column text ≡ cut_of column text (items_from t place most column text)
cut_as t rules place zero column text = cut_empty column text
cut_as t rules place (suc more) column text = by_item (cut_as t rules place more) (item_by_kind t place text) refl
  where
    by_item : ((column : ℕ) (text : List ℕ) → cut_from t place more column text ≡ cut_of column text (items_from t place more column text)) → (found : Option (Token × ℕ))
        → item_by_kind t place text ≡ found → cut_from t place (suc more) column text ≡ cut_of column text (items_from t place (suc more) column text)
    by_item less None is = cut_none t place (suc more) column text is ∙ cut_empty column text ∙ ap (cut_of column text) (sym (items_none t rules place (suc more) column text is))
    by_item less (Some f) is =
        let reads : Reads t place text f.0 f.1 = item_found t rules place text f.0 f.1 is in
        cut_item t place more column text f.0 f.1 is
        ∙ ap (with_item column f.0) (less (column + f.1) (drop f.1 text))
        ∙ cut_longer column f.1 text f.0 (items_from t place more (column + f.1) (drop f.1 text)) reads.within
        ∙ ap (cut_of column text) (sym (items_more t rules place more column text f.0 f.1 is reads.within))

-- the columns of signs
columns_as : (items : List (ℕ × (Token × List ℕ))) → filter_map (λ i. option_map (λ _. i.0) (sign_of i.1.0)) items ≡ filter_map sign_column (map placed items)
columns_as [] = refl
columns_as (i ∷ items) = ap (cons_option (option_map (λ _. i.0) (sign_of i.1.0))) (columns_as items)

-- the refusal of a line
refusal_of : (place : Place) (line : ℕ) (text : List ℕ) (items : List (ℕ × (Token × List ℕ))) → line_refusal place line text items ≡ cut_refusal place line (cut_of 1 text items)
refusal_of place line text items =
    let column : size_of items + 1 ≡ 1 + size_of items = omega arith in
    let rest : List ℕ = drop (size_of items) text in
    ap₂ (λ (columns : List ℕ) (n : ℕ). option_or (option_map (refusal_at line (limit place).1) (slice_get columns (limit place).0))
    (if is_ended rest then None else Some (refusal_at line (bad_kind place rest) n))) (columns_as items) column

pub refusal_as : (t : Alphabet) → KeepsRules t → (place : Place) (line : ℕ) (text : List ℕ) → line_refusal place line text (items_of t place text) ≡ cut_refusal place line (cut t place text)
refusal_as t rules place line text = refusal_of place line text (items_of t place text) ∙ ap (cut_refusal place line) (sym (cut_as t rules place (length text) 1 text))

-- what its items mean
meanings : (items : List (ℕ × (Token × List ℕ))) → map (λ i. i.1.0) items ≡ map (λ (item : PlacedItem). item.token) (map placed items)
meanings [] = refl
meanings (i ∷ items) = ap (λ (tokens : List Token). i.1.0 ∷ tokens) (meanings items)

pub tokens_as : (t : Alphabet) → KeepsRules t → (place : Place) (text : List ℕ) → map (λ i. i.1.0) (items_of t place text) ≡ tokens_of (cut t place text)
tokens_as t rules place text = meanings (items_of t place text) ∙ ap tokens_of (sym (cut_as t rules place (length text) 1 text))
