-- The digits of a weight in braces, read one by one.
use Rattle.std.proofs.Common.{◌≡◌, ℕ, ◌+◌, ◌<◌, ◌≤◌, ◌==◌, nat_lt, nat_le, Bool, true, false, ◌&&◌, inl, inr, if◌then◌else◌, List, []}
use Rattle.std.proofs.Common.{◌∷◌, ◌++◌, length, drop, fold, Option, Some, None, refl, sym, ap, subst, ◌∙◌, take, arith, suc, zero, nat_eq}
use Rattle.std.specs.Prelude.{take_while, codes}
use Rattle.std.specs.List.{list_all, starts_with, prefix_len}
use Rattle.std.specs.Char.{is_ascii_digit}
use Rattle.std.proofs.lemmas.Bool.{and_parts, and_from, cases_Bool, true≢false, eqb-true, eqb-false, eq-eqb, ne_eqb, lt-ltb, le-leb, ltb-true, leb-true}
use Rattle.std.proofs.Math.Dec.{leb-suc-zero, leb-suc-suc}
use Rattle.std.proofs.lemmas.List.{append_assoc, length-append}
use Rattle.pg_types.specs.Numbers.{with_digit}
use Rattle.pg_translate.specs.declared.weights.TheConstants.{WEIGHT_DIGITS_MAX}
use Rattle.pg_translate.specs.Tokens.{Token, Weight}
use Rattle.pg_translate.specs.Inside.items.Kinds.{weight_at}
use Rattle.pg_translate.proofs.Prefixes.{begins_front, begins_within, begins-append}

-- a weight that ends with a brace, where its value is not 0
abbrev pub weight_end : ℕ → ℕ → ℕ → Option (Token × ℕ)
weight_end value size b = if b == 125 && nat_lt 0 value then Some (Weight value, size + 1) else None

-- the rest of a weight that has a value and a size so far, with at most so many digits more
abbrev pub weight_from : ℕ → ℕ → ℕ → List ℕ → Option (Token × ℕ)
weight_from more value size [] = None
weight_from zero value size (b ∷ bs) = weight_end value size b
weight_from (suc more) value size (b ∷ bs) = if is_ascii_digit b then weight_from more (with_digit value b) (size + 1) bs else weight_end value size b

-- that rest, from all its digits
abbrev weight_with : ℕ → ℕ → ℕ → List ℕ → List ℕ → Option (Token × ℕ)
weight_with more value size digits text =
    if starts_with nat_eq text (digits ++ codes "}") && nat_le (length digits) more && nat_lt 0 (fold with_digit value digits)
    then Some (Weight (fold with_digit value digits), size + length digits + 1) else None

-- the digits from one on
digits_more : (b : ℕ) (bs : List ℕ) → is_ascii_digit b ≡ true → take_while is_ascii_digit (b ∷ bs) ≡ b ∷ take_while is_ascii_digit bs
digits_more b bs digit = let one : 1 + prefix_len is_ascii_digit bs ≡ suc (prefix_len is_ascii_digit bs) = omega arith in rw (digit, one) refl

-- where none stands
digits_none : (b : ℕ) (bs : List ℕ) → is_ascii_digit b ≡ false → take_while is_ascii_digit (b ∷ bs) ≡ []
digits_none b bs other = rw other refl

-- the digits that a text begins with are digits
pub digits_pass : (text : List ℕ) → list_all is_ascii_digit (take_while is_ascii_digit text) ≡ true
digits_pass [] = refl
digits_pass (b ∷ bs) =
    elim (cases_Bool (is_ascii_digit b)) [
      | inl digit ↦ rw (digits_more b bs digit) (and_from _ _ digit (digits_pass bs))
      | inr other ↦ rw (digits_none b bs other) refl
    ]

-- digits before a brace
pub digits_before : (digits more : List ℕ) → list_all is_ascii_digit digits ≡ true → take_while is_ascii_digit (digits ++ 125 ∷ more) ≡ digits
digits_before [] more all = refl
digits_before (d ∷ ds) more all =
    let parts : (is_ascii_digit d ≡ true) × (list_all is_ascii_digit ds ≡ true) = and_parts _ _ all in
    digits_more d (ds ++ 125 ∷ more) parts.0 ∙ ap (λ (s : List ℕ). d ∷ s) (digits_before ds more parts.1)

-- two bytes that are not equal
pub eqb_swap : (x y : ℕ) → (x == y) ≡ false → (y == x) ≡ false
eqb_swap x y h = ne_eqb y x (λ same. eqb-false x y h (sym same))

-- no weight begins with another byte than a brace
pub no_weight_at : (b : ℕ) (bs : List ℕ) → (b == 123) ≡ false → weight_at (b ∷ bs) ≡ None
no_weight_at b bs other = rw (eqb_swap b 123 other) refl

-- a digit is no brace
no_brace : (b : ℕ) → is_ascii_digit b ≡ true → (b == 125) ≡ false
no_brace b digit =
    elim (cases_Bool (b == 125)) [
      | inl brace ↦ absurd (true≢false (sym digit ∙ ap is_ascii_digit (eqb-true b 125 brace)))
      | inr other ↦ other
    ]

-- where no digit is left, a weight ends with a brace or is none
ends_so : (more value size b : ℕ) (bs : List ℕ) → weight_end value size b ≡ weight_with more value size [] (b ∷ bs)
ends_so more value size b bs =
    let none : size + 0 + 1 ≡ size + 1 = omega arith in
    let low : 0 ≤ more = omega arith in
    elim (cases_Bool (b == 125)) [
      | inl brace ↦ rw (eqb-true b 125 brace, le-leb 0 more low, none) refl
      | inr other ↦ rw (other, eqb_swap b 125 other) refl
    ]

-- a digit too many
too_many : (value size b : ℕ) (digits text : List ℕ) → None ≡ weight_with 0 value size (b ∷ digits) text
too_many value size b digits text =
    rw (leb-suc-zero (length digits)) (by_front (starts_with nat_eq text ((b ∷ digits) ++ codes "}")) (nat_lt 0 (fold with_digit value (b ∷ digits)))
    (Weight (fold with_digit value (b ∷ digits)), size + length (b ∷ digits) + 1))
  where
    by_front : (front some : Bool) (x : Token × ℕ) → None ≡ (if front && false && some then Some x else None)
    by_front true some x = refl
    by_front false some x = refl

-- a digit more before the others
digit_front : (more value size b : ℕ) (digits text : List ℕ) → weight_with more (with_digit value b) (size + 1) digits text ≡ weight_with (suc more) value size (b ∷ digits) (b ∷ text)
digit_front more value size b digits text =
    let longer : size + suc (length digits) + 1 ≡ size + 1 + length digits + 1 = omega arith in
    rw (eq-eqb b b refl, leb-suc-suc (length digits) more, longer) refl

-- what is read digit by digit is the weight of all digits that the text begins with
weight_steps : (more value size : ℕ) (text : List ℕ) → weight_from more value size text ≡ weight_with more value size (take_while is_ascii_digit text) text
weight_steps zero value size [] = refl
weight_steps (suc more) value size [] = refl
weight_steps zero value size (b ∷ bs) =
    elim (cases_Bool (is_ascii_digit b)) [
      | inl digit ↦ rw (no_brace b digit) (too_many value size b (take_while is_ascii_digit bs) (b ∷ bs)
          ∙ ap (λ (digits : List ℕ). weight_with 0 value size digits (b ∷ bs)) (sym (digits_more b bs digit)))
      | inr other ↦ ends_so zero value size b bs ∙ ap (λ (digits : List ℕ). weight_with 0 value size digits (b ∷ bs)) (sym (digits_none b bs other))
    ]
weight_steps (suc more) value size (b ∷ bs) =
    elim (cases_Bool (is_ascii_digit b)) [
      | inl digit ↦
          let goes : weight_from (suc more) value size (b ∷ bs) ≡ weight_from more (with_digit value b) (size + 1) bs = rw digit refl in
          goes ∙ weight_steps more (with_digit value b) (size + 1) bs ∙ digit_front more value size b (take_while is_ascii_digit bs) bs
          ∙ ap (λ (digits : List ℕ). weight_with (suc more) value size digits (b ∷ bs)) (sym (digits_more b bs digit))
      | inr other ↦
          let stops : weight_from (suc more) value size (b ∷ bs) ≡ weight_end value size b = rw other refl in
          stops ∙ ends_so (suc more) value size b bs ∙ ap (λ (digits : List ℕ). weight_with (suc more) value size digits (b ∷ bs)) (sym (digits_none b bs other))
    ]

-- behind its brace a weight is read digit by digit
pub weight_behind : (bs : List ℕ) → weight_from WEIGHT_DIGITS_MAX 0 1 bs ≡ weight_at (123 ∷ bs)
weight_behind bs =
    let size : 1 + length (take_while is_ascii_digit bs) + 1 ≡ length (take_while is_ascii_digit bs) + 2 = omega arith in
    weight_steps WEIGHT_DIGITS_MAX 0 1 bs ∙ rw size refl

-- the weight of these digits, where they stand in braces at the front of a text
abbrev weight_of_digits : List ℕ → List ℕ → Option (Token × ℕ)
weight_of_digits text digits =
    if starts_with nat_eq text (codes "{" ++ digits ++ codes "}") && nat_le (length digits) WEIGHT_DIGITS_MAX && nat_lt 0 (fold with_digit 0 digits)
    then Some (Weight (fold with_digit 0 digits), length digits + 2) else None

-- a weight is read from its digits in braces, whatever follows them
pub weight_reads : (digits more : List ℕ) → length digits ≤ WEIGHT_DIGITS_MAX → list_all is_ascii_digit digits ≡ true → 0 < fold with_digit 0 digits
    → weight_at (123 ∷ (digits ++ 125 ∷ more)) ≡ Some (Weight (fold with_digit 0 digits), length digits + 2)
weight_reads digits more few all some =
    let text : List ℕ = 123 ∷ (digits ++ 125 ∷ more) in
    let front : starts_with nat_eq text (123 ∷ (digits ++ 125 ∷ [])) ≡ true = subst (λ (s : List ℕ). starts_with nat_eq (123 ∷ s) (123 ∷ (digits ++ 125 ∷ [])) ≡ true)
    (append_assoc digits (125 ∷ []) more) (begins-append (123 ∷ (digits ++ 125 ∷ [])) more) in
    let test : (starts_with nat_eq text (123 ∷ (digits ++ 125 ∷ [])) && nat_le (length digits) WEIGHT_DIGITS_MAX && nat_lt 0 (fold with_digit 0 digits)) ≡ true =
    and_from _ _ (and_from _ _ front (le-leb _ _ few)) (lt-ltb _ _ some) in
    ap (weight_of_digits text) (digits_before digits more all) ∙ ap (λ (b : Bool). if b then Some (Weight (fold with_digit 0 digits), length digits + 2) else None) test

-- a weight that begins a text, and its digits
pub record FindsWeight (text : List ℕ) (token : Token) (size : ℕ) : Type 0 where
  pub digits : List ℕ
  pub text_is : take size text ≡ 123 ∷ (digits ++ 125 ∷ [])
  pub within : size ≤ length text
  pub few : length digits ≤ WEIGHT_DIGITS_MAX
  pub decimal : list_all is_ascii_digit digits ≡ true
  pub token_is : token ≡ Weight (fold with_digit 0 digits)
  pub some : 0 < fold with_digit 0 digits
  pub size_is : size ≡ length digits + 2

pub weight_found : (text : List ℕ) (token : Token) (size : ℕ) → weight_at text ≡ Some (token, size) → FindsWeight text token size
weight_found text token size h = by_test (test (take_while is_ascii_digit (drop 1 text))) refl
  where
    test : List ℕ → Bool
    test digits = starts_with nat_eq text (codes "{" ++ digits ++ codes "}") && nat_le (length digits) WEIGHT_DIGITS_MAX && nat_lt 0 (fold with_digit 0 digits)

    by_test : (b : Bool) → test (take_while is_ascii_digit (drop 1 text)) ≡ b → FindsWeight text token size
    by_test false fails = absurd (let none = rw fails at h in cc)
    by_test true passes =
        let digits : List ℕ = take_while is_ascii_digit (drop 1 text) in
        let whole : List ℕ = 123 ∷ (digits ++ 125 ∷ []) in
        let found = rw passes at h in
        let x : Token × ℕ = (Weight (fold with_digit 0 digits), length digits + 2) in
        let y : Token × ℕ = (token, size) in
        let both : y ≡ x = cc in
        let size_is : size ≡ length digits + 2 = ap (λ (p : Token × ℕ). p.1) both in
        let front : starts_with nat_eq text whole ≡ true = (and_parts _ _ (and_parts _ _ passes).0).0 in
        let long : length whole ≡ size = let parts : length (digits ++ 125 ∷ []) ≡ length digits + 1 = length-append digits (125 ∷ []) in omega arith in
        let within : length whole ≤ length text = begins_within text whole front in
        record {
          digits = digits;
          text_is = sym (subst (λ (n : ℕ). whole ≡ take n text) long (begins_front text whole front));
          within = omega arith;
          few = leb-true _ _ (and_parts _ _ (and_parts _ _ passes).0).1;
          decimal = digits_pass (drop 1 text);
          token_is = ap (λ (p : Token × ℕ). p.0) both;
          some = ltb-true _ _ (and_parts _ _ passes).1;
          size_is = size_is;
        }
