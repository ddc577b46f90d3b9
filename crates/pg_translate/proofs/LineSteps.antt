-- An item more of a line, and what it changes of the line's cut and refusal.
use Rattle.std.proofs.Common.{◌≡◌, ℕ, ◌+◌, ◌-◌, ◌<◌, ◌≤◌, List, ◌∷◌, length, Some, option_map, sym, ap, ◌∙◌, le_refl, arith, suc}
use Rattle.std.specs.List.{cons_option, slice_get}
use Rattle.std.specs.Option.{option_or}
use Rattle.std.proofs.lemmas.List.{length-drop}
use Rattle.pg_translate.specs.declared.items.Place.{Place}
use Rattle.pg_translate.specs.Alphabets.{Alphabet}
use Rattle.pg_translate.specs.Tokens.{Token}
use Rattle.pg_translate.specs.Inside.items.Cuts.{Cut, cut_from, with_item}
use Rattle.pg_translate.specs.Inside.items.Rests.{cut_rest}
use Rattle.pg_translate.specs.Inside.items.Answers.{HasItem}
use Rattle.pg_translate.specs.Gaps.{sign_of}
use Rattle.pg_translate.specs.Inside.items.Refusing.{sign_columns, long_kind, stop_refusal, refusal_with_room}
use Rattle.pg_types.specs.ValuesOrRefusals.{refusal_at}
use Rattle.pg_translate.proofs.Cuts.{cut_item}
use Rattle.pg_translate.proofs.CutLaws.{cut_enough}

-- what follows an item is shorter
pub shorter : (t : Alphabet) (place : Place) (rest after : List ℕ) (item : Token) → HasItem t place rest item after → length after < length rest
shorter t place rest after item takes =
    let some : 0 < takes.size = takes.some in
    let within : takes.size ≤ length rest = takes.within in
    let size : length after ≡ length rest - takes.size = ap (λ (xs : List ℕ). length xs) takes.behind ∙ length-drop takes.size rest in
    omega arith

-- an item at the front of the rest of a line of this size is the first of its cut
pub cut_rest-takes : (t : Alphabet) (place : Place) (size : ℕ) (item : Token) (rest after : List ℕ) → HasItem t place rest item after → length rest ≤ size
    → cut_rest t place size rest ≡ with_item (size - length rest + 1) item (cut_rest t place size after)
cut_rest-takes t place size item rest after takes within =
    let left : length after ≡ length rest - takes.size = ap (λ (xs : List ℕ). length xs) takes.behind ∙ length-drop takes.size rest in
    let column : size - length rest + 1 + takes.size ≡ size - length after + 1 = omega (arith, takes.within) in
    let some : 0 < takes.size = takes.some in
    let more : length rest ≤ suc (length rest) = omega arith in
    let less : length after ≤ length rest = omega arith in
    let at : ℕ = size - length rest + 1 in
    cut_enough t takes.rules place (length rest) (suc (length rest)) at rest (le_refl (length rest)) more
    ∙ cut_item t place (length rest) at rest item takes.size takes.found
    ∙ ap (λ (text : List ℕ). with_item at item (cut_from t place (length rest) (at + takes.size) text)) (sym takes.behind)
    ∙ ap (with_item at item) (cut_enough t takes.rules place (length rest) (length after) (at + takes.size) after less (le_refl (length after)))
    ∙ ap (λ (k : ℕ). with_item at item (cut_from t place (length after) k after)) column

-- what is known of a cut without its first item is known of the whole, and less is left to read
pub along : {Y : Type 0} (F G : Cut → Y) (t : Alphabet) (place : Place) (size : ℕ) (item : Token) (rest after : List ℕ) → HasItem t place rest item after
    → length rest ≤ size → ((column : ℕ) (c : Cut) → G c ≡ F (with_item column item c)) → (G (cut_rest t place size after) ≡ F (cut_rest t place size rest)) × (length after < length rest)
along F G t place size item rest after takes within same = (
  same _ (cut_rest t place size after) ∙ ap F (sym (cut_rest-takes t place size item rest after takes within)),
  shorter t place rest after item takes,
)

-- the refusal of a line whose first item stands for a sign, which leaves room for one less
pub refusal_sign : (place : Place) (line room column : ℕ) (item : Token) (sign : ℕ) (c : Cut) → sign_of item ≡ Some sign
    → refusal_with_room place line (room + 1) (with_item column item c) ≡ refusal_with_room place line room c
refusal_sign place line room column item sign c is =
    let more : room + 1 ≡ suc room = omega arith in
    ap (λ o. option_or (option_map (refusal_at line (long_kind place)) (slice_get (cons_option (option_map (λ (_ : ℕ). column) o) (sign_columns c)) (room + 1))) (stop_refusal place line c)) is
    ∙ ap (λ (n : ℕ). option_or (option_map (refusal_at line (long_kind place)) (slice_get (column ∷ sign_columns c) n)) (stop_refusal place line c)) more

-- where there is no room, the sign is refused
pub refusal_full : (place : Place) (line column : ℕ) (item : Token) (sign : ℕ) (c : Cut) → sign_of item ≡ Some sign → refusal_with_room place line 0 (with_item column item c)
    ≡ Some (refusal_at line (long_kind place) column)
refusal_full place line column item sign c is =
    ap (λ o. option_or (option_map (refusal_at line (long_kind place)) (slice_get (cons_option (option_map (λ (_ : ℕ). column) o) (sign_columns c)) 0)) (stop_refusal place line c)) is
