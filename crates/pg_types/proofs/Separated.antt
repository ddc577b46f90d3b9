-- How the items of a parameters file stand between its separators.
use Rattle.std.proofs.Common.{◌≡◌, ℕ, ◌≤◌, ◌==◌, inl, inr, Bool, true, false, not, List, [], ◌∷◌, length, take, drop, filter, Option, unwrap_or, refl, arith, ltb, suc}
use Rattle.std.specs.List.{position_or_len, position}
use Rattle.std.proofs.lemmas.List.Sums.{prefix_len-le-length}
use Rattle.std.proofs.lemmas.Bool.{cases_Bool, eqb-true}
use Rattle.pg_types.specs.Lines.{has_byte, pieces_at}
use Rattle.pg_types.specs.Parameters.{items}
use Rattle.pg_types.specs.Inside.reading.ItemSteps.{is_separator}

-- where a search finds it, or the length
pub unwrap_or-position : {X : Type 0} → (p : X → Bool) (xs : List X) (r : Option ℕ) → r ≡ position p xs → unwrap_or r (length xs) ≡ position_or_len p xs
unwrap_or-position p xs r is =
    let within : position_or_len p xs ≤ length xs = prefix_len-le-length (λ x. not (p x)) xs in
    elim (cases_Bool (ltb (position_or_len p xs) (length xs))) [ inl found ↦ rw (is, found) refl | inr none ↦ rw (is, none) (grind (arith, within, none)) ]

-- a piece that begins ends at the first byte that passes
pieces_head : (test : ℕ → Bool) (b : ℕ) (bs : List ℕ) (k : ℕ) → test b ≡ false → k ≡ position_or_len test bs → pieces_at test (b ∷ bs) ≡ (b ∷ take k bs) ∷ pieces_at test (drop (suc k) bs)
pieces_head test b [] k out is = rw (out, is) refl
pieces_head test b (x ∷ xs) k out is =
    elim (cases_Bool (test x)) [
      | inl here ↦ let none : k ≡ 0 = rw here at is in rw (out, none, here) refl
      | inr here ↦
          let more : k ≡ suc (position_or_len test xs) = omega (arith, rw here at is) in
          let rest : pieces_at test (x ∷ xs) ≡ (x ∷ take (position_or_len test xs) xs) ∷ pieces_at test (drop (suc (position_or_len test xs)) xs) =
          pieces_head test x xs (position_or_len test xs) here refl in
          rw (out, more, rest) refl
    ]

-- the separator behind an item is no item
items_gap : (bs : List ℕ) (k : ℕ) → k ≡ position_or_len is_separator bs → items (drop k bs) ≡ filter has_byte (pieces_at is_separator (drop (suc k) bs))
items_gap [] k is = rw is refl
items_gap (x ∷ xs) k is =
    elim (cases_Bool (is_separator x)) [
      | inl here ↦ let none : k ≡ 0 = rw here at is in rw (none, here) refl
      | inr here ↦
          let more : k ≡ suc (position_or_len is_separator xs) = omega (arith, rw here at is) in
          rw more (items_gap xs (position_or_len is_separator xs) refl)
    ]

-- the first item ends at the first separator
pub items_first : (bytes : List ℕ) (k : ℕ) → (length bytes == 0) ≡ false → k ≡ position_or_len is_separator bytes → position_or_len (λ b. not (is_separator b)) bytes
    ≡ 0 → items bytes ≡ take k bytes ∷ items (drop k bytes)
items_first [] k some is begins = cc
items_first (b ∷ bs) k some is begins =
    elim (cases_Bool (is_separator b)) [
      | inl here ↦ absurd (omega (arith, rw here at begins))
      | inr here ↦
          let more : k ≡ suc (position_or_len is_separator bs) = omega (arith, rw here at is) in
          rw (more, pieces_head is_separator b bs (position_or_len is_separator bs) here refl, items_gap bs (position_or_len is_separator bs) refl) refl
    ]

-- separators in front change no item
pub items_after : (bytes : List ℕ) (k : ℕ) → k ≡ position_or_len (λ b. not (is_separator b)) bytes → items (drop k bytes) ≡ items bytes
items_after [] k is = rw is refl
items_after (x ∷ xs) k is =
    elim (cases_Bool (is_separator x)) [
      | inl here ↦
          let more : k ≡ suc (position_or_len (λ b. not (is_separator b)) xs) = omega (arith, rw here at is) in
          rw (more, here) (items_after xs (position_or_len (λ b. not (is_separator b)) xs) refl)
      | inr here ↦ let none : k ≡ 0 = rw here at is in rw none refl
    ]

-- what stands behind the separators in front begins with an item
pub begins_after : (bytes : List ℕ) (k : ℕ) → k ≡ position_or_len (λ b. not (is_separator b)) bytes → position_or_len (λ b. not (is_separator b)) (drop k bytes) ≡ 0
begins_after [] k is = rw is refl
begins_after (x ∷ xs) k is =
    elim (cases_Bool (is_separator x)) [
      | inl here ↦
          let more : k ≡ suc (position_or_len (λ b. not (is_separator b)) xs) = omega (arith, rw here at is) in
          rw more (begins_after xs (position_or_len (λ b. not (is_separator b)) xs) refl)
      | inr here ↦ let none : k ≡ 0 = rw here at is in rw (none, here) refl
    ]

-- a list of length 0 is empty
pub empty_from : (bytes : List ℕ) → (length bytes == 0) ≡ true → bytes ≡ []
empty_from [] is = refl
empty_from (b ∷ bs) is = absurd (omega (arith, eqb-true (length (b ∷ bs)) 0 is))
