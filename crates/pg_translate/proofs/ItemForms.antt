-- The item that is found in one list of texts is the one that is found kind by kind.
use Rattle.std.proofs.Common.{◌≡◌, ℕ, zero, suc, ◌+◌, ◌-◌, ◌≤◌, ◌==◌, nat_lt, nat_le, Bool, true, false, ◌&&◌, inl, inr, List, [], ◌∷◌, ◌++◌, length, map, fold, take, drop, find, Option, Some, None, option_map, refl, sym, ap, ap₂, ◌∙◌, subst, arith, nat_eq}
use Rattle.std.specs.Prelude.{if◌then◌else◌, take_while, codes, cond}
use Rattle.std.specs.List.{starts_with, enumerate_from, zip}
use Rattle.std.specs.Option.{option_or}
use Rattle.std.specs.Char.{is_ascii_digit}
use Rattle.std.proofs.lemmas.Bool.{and_parts, cases_Bool, true≢false, eqb-true, eq-eqb, ne_eqb, leb-true}
use Rattle.std.proofs.lemmas.List.{length-append}
use Rattle.std.proofs.lemmas.List.Folds.{find-append}
use Rattle.pg_types.specs.Numbers.{with_digit}
use Rattle.pg_types.specs.declared.marks.Mark.TheVariants.{Error, Missed, Found, DontCare}
use Rattle.pg_translate.specs.declared.weights.TheConstants.{WEIGHT_DIGITS_MAX}
use Rattle.pg_translate.specs.declared.items.Place.{Place}
use Rattle.pg_translate.specs.declared.items.Place.TheVariants.{Dictionary, Patterns}
use Rattle.pg_translate.specs.Alphabets.{Alphabet}
use Rattle.pg_translate.specs.Tokens.{Token, Letter, Digit, Weight, Marked, Edge, weight_in, item_at}
use Rattle.pg_translate.specs.Inside.items.Kinds.{letter_at, digit_at, mark_at, weight_at, edge_at, item_by_kind}
use Rattle.pg_translate.specs.Inside.tables.Rules.{KeepsRules}
use Rattle.pg_translate.proofs.Prefixes.{begins_front}
use Rattle.pg_translate.proofs.WeightDigits.{eqb_swap}

-- an item with its own text, from its size
abbrev pub own : List ℕ → Token × ℕ → Token × List ℕ
own text found = (found.0, take found.1 text)

-- an item that is there
abbrev there : Token → List ℕ → Option (Token × List ℕ)
there token text = Some (token, text)

-- whether the text of an item begins a text
abbrev begins : List ℕ → Token × List ℕ → Bool
begins text item = starts_with nat_eq text item.1

-- letters
abbrev letters : List (ℕ × List ℕ) → List (Token × List ℕ)
letters spellings = map (λ s. (Letter s.0, s.1)) spellings

letters_as : (text : List ℕ) (ss : List (ℕ × List ℕ)) → find (begins text) (letters ss) ≡ option_map (own text) (letter_at ss text)
letters_as text [] = refl
letters_as text (s ∷ ss) = elim (starts_with nat_eq text s.1) as
    (λ b. starts_with nat_eq text s.1 ≡ b → cond b (there (Letter s.0) s.1) (find (begins text) (letters ss))
    ≡ option_map (own text) (option_map (λ (r : ℕ × List ℕ). (Letter r.0, length r.1)) (cond b (Some s) (find (λ r. starts_with nat_eq text r.1) ss)))) [
      | true ↦ λ front. ap (there (Letter s.0)) (begins_front text s.1 front)
      | false ↦ λ _. letters_as text ss
    ] refl

-- digits
abbrev digits : List (Token × List ℕ)
digits = map (λ d. (Digit d.0, d.1 ∷ [])) (enumerate_from 0 (codes "0123456789"))

one_of : (k : ℕ) (bs : List ℕ) → k ≤ 9 → find (begins ((48 + k) ∷ bs)) digits ≡ there (Digit k) ((48 + k) ∷ [])
one_of zero bs few = refl
one_of (suc zero) bs few = refl
one_of (suc (suc zero)) bs few = refl
one_of (suc (suc (suc zero))) bs few = refl
one_of (suc (suc (suc (suc zero)))) bs few = refl
one_of (suc (suc (suc (suc (suc zero))))) bs few = refl
one_of (suc (suc (suc (suc (suc (suc zero)))))) bs few = refl
one_of (suc (suc (suc (suc (suc (suc (suc zero))))))) bs few = refl
one_of (suc (suc (suc (suc (suc (suc (suc (suc zero)))))))) bs few = refl
one_of (suc (suc (suc (suc (suc (suc (suc (suc (suc zero))))))))) bs few = refl
one_of (suc (suc (suc (suc (suc (suc (suc (suc (suc (suc k)))))))))) bs few = absurd (omega arith)

not_digit : (b : ℕ) (bs : List ℕ) → is_ascii_digit b ≡ false → find (begins (b ∷ bs)) digits ≡ None
not_digit b bs other = rw (apart 48 refl, apart 49 refl, apart 50 refl, apart 51 refl, apart 52 refl, apart 53 refl, apart 54 refl, apart 55 refl, apart 56 refl, apart 57 refl) refl
  where
    apart : (c : ℕ) → is_ascii_digit c ≡ true → (c == b) ≡ false
    apart c digit = ne_eqb c b (λ (same : c ≡ b). true≢false (sym digit ∙ ap is_ascii_digit same ∙ other))

digits_as : (text : List ℕ) → find (begins text) digits ≡ option_map (own text) (digit_at text)
digits_as [] = refl
digits_as (b ∷ bs) = elim (cases_Bool (is_ascii_digit b)) [
  | inl digit ↦
      let tests : (nat_le 48 b ≡ true) × (nat_le b 57 ≡ true) = and_parts _ _ digit in
      let low : 48 ≤ b = leb-true 48 b tests.0 in
      let high : b ≤ 57 = leb-true b 57 tests.1 in
      let is : 48 + (b - 48) ≡ b = omega arith in
      let found : find (begins (b ∷ bs)) digits ≡ there (Digit (b - 48)) (b ∷ []) =
      subst (λ (n : ℕ). find (begins (n ∷ bs)) digits ≡ there (Digit (b - 48)) (n ∷ [])) is (one_of (b - 48) bs (omega arith)) in
      let here : there (Digit (b - 48)) (b ∷ []) ≡ option_map (own (b ∷ bs)) (digit_at (b ∷ bs)) = rw digit refl in
      found ∙ here
  | inr other ↦
      let none : None ≡ option_map (own (b ∷ bs)) (digit_at (b ∷ bs)) = rw other refl in
      not_digit b bs other ∙ none
]

-- weights in braces
one_found : (c : Bool) (text : List ℕ) (x : Token × List ℕ) → find (begins text) (if c then x ∷ [] else []) ≡ (if c then (if begins text x then Some x else None) else None)
one_found true text x = refl
one_found false text x = refl

by_tests : (p q r : Bool) (text : List ℕ) (token : Token) (whole : List ℕ) (size : ℕ) → (p ≡ true → whole ≡ take size text)
    → (if q && r then (if p then there token whole else None) else None) ≡ option_map (own text) (if p && q && r then Some (token, size) else None)
by_tests true true true text token whole size same = ap (there token) (same refl)
by_tests true true false text token whole size same = refl
by_tests true false r text token whole size same = refl
by_tests false true true text token whole size same = refl
by_tests false true false text token whole size same = refl
by_tests false false r text token whole size same = refl

weights_as : (text : List ℕ) → find (begins text) (weight_in text) ≡ option_map (own text) (weight_at text)
weights_as text =
    let ds : List ℕ = take_while is_ascii_digit (drop 1 text) in
    let value : ℕ = fold with_digit 0 ds in
    let whole : List ℕ = codes "{" ++ ds ++ codes "}" in
    let few : Bool = nat_le (length ds) WEIGHT_DIGITS_MAX in
    let long : length whole ≡ length ds + 2 = let parts : length (ds ++ 125 ∷ []) ≡ length ds + 1 = length-append ds (125 ∷ []) in omega arith in
    one_found (few && nat_lt 0 value) text (Weight value, whole)
    ∙ by_tests (starts_with nat_eq text whole) few (nat_lt 0 value) text (Weight value) whole (length ds + 2)
    (λ front. subst (λ (n : ℕ). whole ≡ take n text) long (begins_front text whole front))

-- one byte
byte_as : (a x : ℕ) (xs : List ℕ) (token : Token) (o : Option (Token × List ℕ)) (p : Option (Token × ℕ)) → o ≡ option_map (own (x ∷ xs)) p
    → (if a == x && true then there token (a ∷ []) else o) ≡ option_map (own (x ∷ xs)) (if x == a then Some (token, 1) else p)
byte_as a x xs token o p same = elim (cases_Bool (x == a)) [
  | inl hit ↦
      let is : x ≡ a = eqb-true x a hit in
      rw (hit, eq-eqb a x (sym is)) (ap (λ (n : ℕ). there token (n ∷ [])) (sym is))
  | inr miss ↦ rw (miss, eqb_swap x a miss) same
]

-- marks
abbrev marked : List ℕ → List (Token × List ℕ)
marked marks = map (λ m. (Marked m.1, m.0 ∷ [])) (zip marks (Error ∷ Missed ∷ Found ∷ DontCare ∷ []))

marks_as : (marks text : List ℕ) → length marks ≡ 4 → find (begins text) (marked marks) ≡ option_map (own text) (mark_at marks text)
marks_as [] text four = absurd (omega arith)
marks_as (a ∷ []) text four = absurd (omega arith)
marks_as (a ∷ b ∷ []) text four = absurd (omega arith)
marks_as (a ∷ b ∷ c ∷ []) text four = absurd (omega arith)
marks_as (a ∷ b ∷ c ∷ d ∷ []) [] four = refl
marks_as (a ∷ b ∷ c ∷ d ∷ []) (x ∷ xs) four =
    byte_as a x xs (Marked Error) _ _ (byte_as b x xs (Marked Missed) _ _ (byte_as c x xs (Marked Found) _ _ (byte_as d x xs (Marked DontCare) None None refl)))
marks_as (a ∷ b ∷ c ∷ d ∷ e ∷ more) text four = absurd (omega arith)

-- the dot of the edge
abbrev dot : List (Token × List ℕ)
dot = (Edge, codes ".") ∷ []

edge_as : (text : List ℕ) → find (begins text) dot ≡ option_map (own text) (edge_at text)
edge_as [] = refl
edge_as (x ∷ xs) = byte_as 46 x xs Edge None None refl

-- of two lists
either_as : (text : List ℕ) (xs ys : List (Token × List ℕ)) (o p : Option (Token × ℕ)) → find (begins text) xs ≡ option_map (own text) o → find (begins text) ys ≡ option_map (own text) p
    → find (begins text) (xs ++ ys) ≡ option_map (own text) (option_or o p)
either_as text xs ys o p first second =
    find-append (begins text) xs ys ∙ ap₂ (λ (a b : Option (Token × List ℕ)). option_or a b) first second ∙ by_first o
  where
    by_first : (o : Option (Token × ℕ)) → option_or (option_map (own text) o) (option_map (own text) p) ≡ option_map (own text) (option_or o p)
    by_first None = refl
    by_first (Some x) = refl

or_assoc : (o p q : Option (Token × ℕ)) → option_or (option_or o p) q ≡ option_or o (option_or p q)
or_assoc None p q = refl
or_assoc (Some x) p q = refl

-- the item that begins a text
pub item_as : (t : Alphabet) → KeepsRules t → (place : Place) (text : List ℕ) → item_at t place text ≡ option_map (own text) (item_by_kind t place text)
item_as t rules Dictionary text =
    either_as text (letters t.spellings ++ digits) (weight_in text ++ marked t.marks) (option_or (letter_at t.spellings text) (digit_at text)) (option_or (weight_at text) (mark_at t.marks text))
    (either_as text (letters t.spellings) digits (letter_at t.spellings text) (digit_at text) (letters_as text t.spellings) (digits_as text))
    (either_as text (weight_in text) (marked t.marks) (weight_at text) (mark_at t.marks text) (weights_as text) (marks_as t.marks text rules.four))
    ∙ ap (option_map (own text)) (or_assoc (letter_at t.spellings text) (digit_at text) (option_or (weight_at text) (mark_at t.marks text)))
item_as t rules Patterns text =
    either_as text (letters t.spellings ++ digits) dot (option_or (letter_at t.spellings text) (digit_at text)) (edge_at text)
    (either_as text (letters t.spellings) digits (letter_at t.spellings text) (digit_at text) (letters_as text t.spellings) (digits_as text)) (edge_as text)
    ∙ ap (option_map (own text)) (or_assoc (letter_at t.spellings text) (digit_at text) (edge_at text))
