use Rattle.std.proofs.Common.{◌≡◌, ℕ, zero, suc, ◌+◌, ◌-◌, ◌*◌, ◌<◌, ◌≤◌, ◌==◌, nat_lt, true, false, ◌⊎◌, inl, inr, None, List, [], ◌∷◌, length, get_or, drop, refl, sym, ap, ◌∙◌, arith, rules, tests}
use Rattle.std.proofs.lemmas.Bool.{ne_eqb, and_parts, leb-true, ltb-true}
use Rattle.std.proofs.lemmas.List.{drop_more, drop_all}
use Rattle.std.specs.Char.{is_ascii_digit}
use Rattle.pg_translate.specs.Inside.items.Kinds.{weight_at}
use Rattle.pg_translate.proofs.WeightDigits.{weight_end, weight_from, weight_behind}
use Rattle.pg_translate.proofs.weights.weight_of.Goals as goal
use Rattle.pg_translate.proofs.weights.weight_of.Goals.{else-size-text-via-then-size-text+then-text-size-eq125+else-is_weight, else-size-text-via-then-size-text+else-text-size-eq125, else-size-text-via-else-size-text}
use Rattle.pg_translate.proofs.weights.weight_of.Goals.{then-digits-test+then-size-le-WEIGHT_DIGITS_MAX+else-is_ascii_digit, then-digits-test+else-size-le-WEIGHT_DIGITS_MAX, else-digits-test}

-- behind the brace
weight_begins : (text : List ℕ) → 0 < length text → get_or text 0 0 ≡ 123 → weight_from 4 0 1 (drop 1 text) ≡ weight_at text
weight_begins [] some is = absurd (omega arith)
weight_begins (b ∷ bs) some is = rw is (weight_behind bs)

-- behind a digit more
weight_goes : (text : List ℕ) (more value size : ℕ) → size < length text → is_ascii_digit (get_or text size 0) ≡ true → weight_from (suc more) value size (drop size text)
    ≡ weight_from more (value * 10 + (get_or text size 0 - 48)) (size + 1) (drop (size + 1) text)
weight_goes text more value size within digit = rw (drop_more text size 0 within, digit) refl

-- behind the digits
weight_ends : (text : List ℕ) (more value size : ℕ) → size < length text → get_or text size 0 ≡ 125 → weight_from more value size (drop size text) ≡ weight_end value size 125
weight_ends text zero value size within brace = rw (drop_more text size 0 within, brace) refl
weight_ends text (suc more) value size within brace = rw (drop_more text size 0 within, brace) refl

-- another byte than a brace
no_end : (text : List ℕ) (more value size : ℕ) → size < length text → (get_or text size 0 == 125) ≡ false → (more ≡ 0) ⊎ (is_ascii_digit (get_or text size 0) ≡ false)
    → weight_from more value size (drop size text) ≡ None
no_end text zero value size within other left = rw (drop_more text size 0 within, other) refl
no_end text (suc more) value size within other (inl none) = absurd (omega arith)
no_end text (suc more) value size within other (inr stops) = rw (drop_more text size 0 within, stops, other) refl

-- the text is at its end
no_rest : (text : List ℕ) (more value size : ℕ) → length text ≤ size → weight_from more value size (drop size text) ≡ None
no_rest text zero value size ended = rw (drop_all size text ended) refl
no_rest text (suc more) value size ended = rw (drop_all size text ended) refl

pub returns-then-is_weight-clause-value : goal.returns-then-is_weight-clause-value
returns-then-is_weight-clause-value c =
    let some : nat_lt 0 c.digits.value ≡ true = sym c.is_weight.ensures ∙ c.if-is_weight.true in
    sym c.digits.invariant.0 ∙ weight_ends c.args.text.now (5 - c.digits.size) c.digits.value c.digits.size c.if-size-text.true c.if-text-size-eq125.true ∙ rw some refl

pub returns-else-size-text-clause-value : goal.returns-else-size-text-clause-value
returns-else-size-text-clause-value c =
    let text = c.args.text.now in
    let value = c.digits.value in
    let size = c.digits.size in
    sym c.digits.invariant.0 ∙ elim c.else-size-text.branch [
      | else-size-text-via-then-size-text+then-text-size-eq125+else-is_weight w ↦
          let none : nat_lt 0 value ≡ false = sym w.is_weight.ensures ∙ w.if-is_weight.false in
          weight_ends text (5 - size) value size w.if-size-text.true w.if-text-size-eq125.true ∙ rw none refl
      | else-size-text-via-then-size-text+else-text-size-eq125 w ↦
          no_end text (5 - size) value size w.if-size-text.true (ne_eqb _ _ w.if-text-size-eq125.false) (elim c.digits-test.branch [
            | then-digits-test+then-size-le-WEIGHT_DIGITS_MAX+else-is_ascii_digit v ↦ inr (sym v.is_ascii_digit.ensures.value ∙ v.if-is_ascii_digit.false)
            | then-digits-test+else-size-le-WEIGHT_DIGITS_MAX v ↦ inl (omega (arith, v.if-size-le-WEIGHT_DIGITS_MAX.false))
            | else-digits-test v ↦ absurd (omega (arith, v.digits-test, w.if-size-text.true))
          ])
      | else-size-text-via-else-size-text w ↦ no_rest text (5 - size) value size (omega (arith, w.if-size-text.false))
    ]

pub digits-preserved : goal.digits-preserved
digits-preserved c =
    let text = c.args.text.now in
    let value = c.digits.value in
    let size = c.digits.size in
    let so_far = c.digits.invariant in
    let within : size < length text = omega arith in
    let digit : is_ascii_digit (get_or text size 0) ≡ true = sym c.is_ascii_digit.ensures.value ∙ c.if-is_ascii_digit.true in
    let high : get_or text size 0 ≤ 57 = leb-true (get_or text size 0) 57 (and_parts _ _ digit).1 in
    let ten : get_or text size 0 - 48 ≤ 9 = omega arith in
    let more : suc (5 - (size + 1)) ≡ 5 - size = omega arith in (
      sym (weight_goes text (5 - (size + 1)) value size within digit) ∙ ap (λ n. weight_from n value size (drop size text)) more ∙ so_far.0,
      omega arith,
      omega arith,
      omega arith,
      λ few. omega arith,
      λ few. omega (arith, so_far.4 (omega arith)),
      λ few. omega (arith, so_far.5 (omega arith)),
      λ few. omega (arith, so_far.6 (omega arith)),
      omega (arith, so_far.7 (omega arith)),
    )

pub digits-init : goal.digits-init
digits-init c =
    let some : 0 < length c.args.text.now = search (rules, tests) in (
      weight_begins c.args.text.now some c.if-text-ne123.false,
      omega arith,
      omega arith,
      omega arith,
      λ few. omega arith,
      λ few. omega arith,
      λ few. omega arith,
      λ few. omega arith,
      omega arith,
    )

pub returns-then-is_weight-clause-range : goal.returns-then-is_weight-clause-range
returns-then-is_weight-clause-range c = (ltb-true 0 c.digits.value (sym c.is_weight.ensures ∙ c.if-is_weight.true), omega arith)

pub returns-then-is_weight-clause-within : goal.returns-then-is_weight-clause-within
returns-then-is_weight-clause-within c = (omega arith, omega arith)

pub returns-else-size-text-clause-range : goal.returns-else-size-text-clause-range
returns-else-size-text-clause-range c = tt

pub returns-else-size-text-clause-within : goal.returns-else-size-text-clause-within
returns-else-size-text-clause-within c = tt
