-- The parts of the two words of a cell, when a word is made of others.
use Rattle.std.proofs.Common.{◌≡◌, ◌≢◌, ℕ, ◌+◌, ◌-◌, ◌*◌, ◌/◌, ◌%◌, ◌<◌, true, false, inl, inr, sym, ◌∙◌, ap, cond, nat_eq, arith}
use Rattle.std.proofs.lemmas.Bool.{cases_eq, eq-eqb, eqb-true, ne_eqb, true≢false}
use Rattle.pg_cells.specs.declared.store.cell.TheConstants.{SIGN_COUNT}
use Rattle.pg_cells.specs.Inside.store.CellRows.{sign_in, next_in, first_in, base_in, link_in}

-- an odd word has one less than its sign above the lowest bit
pub sign_odd : (w : ℕ) → w % 2 ≡ 1 → sign_in w ≡ w / 2 % 2048 + 1
sign_odd w e = ap (λ n. cond (nat_eq n 0) 0 (w / 2 % 2048 + 1)) e

pub odd_word : (w : ℕ) → sign_in w ≢ 0 → w % 2 ≡ 1
odd_word w some = elim (cases_eq (w % 2) 0) [
  | inl e ↦ absurd (some (ap (λ n. cond (nat_eq n 0) 0 (w / 2 % 2048 + 1)) e))
  | inr up ↦ omega arith
]

-- the lowest bit says whether a word has a sign
pub word_taken : (w : ℕ) → nat_eq (w % 2) 1 ≡ true → sign_in w ≢ 0
word_taken w e z =
    let odd : w % 2 ≡ 1 = eqb-true (w % 2) 1 e in
    let is = sign_odd w odd in
    omega arith

pub word_free : (w : ℕ) → nat_eq (w % 2) 1 ≡ false → sign_in w ≡ 0
word_free w e = elim (cases_eq (w % 2) 0) [
  | inl even ↦ ap (λ n. cond (nat_eq n 0) 0 (w / 2 % 2048 + 1)) even
  | inr up ↦ absurd (let odd : w % 2 ≡ 1 = omega arith in true≢false (sym (eq-eqb (w % 2) 1 odd) ∙ e))
]

-- the lower bits of a word are those of a sign where it has the sign
pub word_has : (w s : ℕ) → s ≢ 0 → nat_eq (w % 4096) (1 + (s - 1) * 2) ≡ nat_eq (sign_in w) s
word_has w s up = elim (cases_eq (sign_in w) s) [
  | inl e ↦
      let odd : w % 2 ≡ 1 = odd_word w (λ z. up (sym e ∙ z)) in
      let at : w / 2 % 2048 + 1 ≡ s = sym (sign_odd w odd) ∙ e in
      let same : w % 4096 ≡ 1 + (s - 1) * 2 = omega arith in
      eq-eqb (w % 4096) (1 + (s - 1) * 2) same ∙ sym (eq-eqb (sign_in w) s e)
  | inr other ↦
      let apart : w % 4096 ≢ 1 + (s - 1) * 2 = λ same.
      let odd : w % 2 ≡ 1 = omega arith in
      let at : w / 2 % 2048 + 1 ≡ s = omega arith in
      other (sign_odd w odd ∙ at) in
      ne_eqb (w % 4096) (1 + (s - 1) * 2) apart ∙ sym (ne_eqb (sign_in w) s other)
]

-- what fits a sign is small
pub next_small : (w : ℕ) → next_in w < SIGN_COUNT
next_small w = omega arith

pub first_small : (w l : ℕ) → first_in w l < SIGN_COUNT
first_small w l = omega arith

-- a word with another link
pub link_same : (x l : ℕ) → link_in (x * 8 + l % 8) ≡ x
link_same x l = omega arith

pub low_same : (x l : ℕ) → (x * 8 + l % 8) % 4 ≡ l % 4
low_same x l = omega arith

pub base_same : (x l : ℕ) → base_in (x * 8 + l % 8) ≡ base_in l
base_same x l = let same : (x * 8 + l % 8) / 4 % 2 ≡ l / 4 % 2 = omega arith in ap (λ n. nat_eq n 1) same

-- words with another next and first sign
module _ (w next first upper : ℕ) (is : upper ≡ next * 4096 + first % 512 * 8388608) where
  pub value_odd : w % 2 ≡ 1 → (w % 4096 + upper) % 2 ≡ 1
  value_odd odd = omega arith

  pub value_sign : (w % 4096 + upper) / 2 % 2048 + 1 ≡ w / 2 % 2048 + 1
  value_sign = omega arith

  pub value_next : next < SIGN_COUNT → next_in (w % 4096 + upper) ≡ next
  value_next small = omega arith

pub value_first : (w l next first upper : ℕ) → upper ≡ next * 4096 + first % 512 * 8388608 → next < SIGN_COUNT → first < SIGN_COUNT
    → first_in (w % 4096 + upper) (l / 4 * 4 + first / 512) ≡ first
value_first w l next first upper is small fits =
    let high : (w % 4096 + upper) / 8388608 % 512 ≡ first % 512 = omega arith in
    let low : (l / 4 * 4 + first / 512) % 4 ≡ first / 512 = omega arith in
    omega arith

pub value_base : (l first : ℕ) → first < SIGN_COUNT → base_in (l / 4 * 4 + first / 512) ≡ base_in l
value_base l first fits = let same : (l / 4 * 4 + first / 512) / 4 % 2 ≡ l / 4 % 2 = omega arith in ap (λ n. nat_eq n 1) same

pub value_link : (l first : ℕ) → first < SIGN_COUNT → link_in (l / 4 * 4 + first / 512) ≡ link_in l
value_link l first fits = omega arith

-- words of a cell that is taken
module _ (sign next first upper : ℕ) (is : upper ≡ next * 4096 + first % 512 * 8388608) where
  pub taken_odd : (1 + (sign - 1) * 2 + upper) % 2 ≡ 1
  taken_odd = omega arith

  pub taken_sign : sign ≢ 0 → sign < SIGN_COUNT → (1 + (sign - 1) * 2 + upper) / 2 % 2048 + 1 ≡ sign
  taken_sign up small = omega arith

  pub taken_next : sign < SIGN_COUNT → next < SIGN_COUNT → next_in (1 + (sign - 1) * 2 + upper) ≡ next
  taken_next small fits = omega arith

pub taken_first : (sign child l next first upper : ℕ) → upper ≡ next * 4096 + first % 512 * 8388608 → sign < SIGN_COUNT → next < SIGN_COUNT → first < SIGN_COUNT
    → first_in (1 + (sign - 1) * 2 + upper) (child * 8 + l / 4 % 2 * 4 + first / 512) ≡ first
taken_first sign child l next first upper is small small_next fits =
    let high : (1 + (sign - 1) * 2 + upper) / 8388608 % 512 ≡ first % 512 = omega arith in
    let low : (child * 8 + l / 4 % 2 * 4 + first / 512) % 4 ≡ first / 512 = omega arith in
    omega arith

pub taken_base : (child l first : ℕ) → first < SIGN_COUNT → base_in (child * 8 + l / 4 % 2 * 4 + first / 512) ≡ base_in l
taken_base child l first fits = let same : (child * 8 + l / 4 % 2 * 4 + first / 512) / 4 % 2 ≡ l / 4 % 2 = omega arith in ap (λ n. nat_eq n 1) same

pub taken_link : (child l first : ℕ) → first < SIGN_COUNT → link_in (child * 8 + l / 4 % 2 * 4 + first / 512) ≡ child
taken_link child l first fits = omega arith
