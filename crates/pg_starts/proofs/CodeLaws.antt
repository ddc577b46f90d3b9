-- Codes of windows compare as the windows do.
use Rattle.std.proofs.Common.{◌≡◌, ℕ, zero, suc, ◌+◌, ◌*◌, ◌/◌, ◌%◌, ◌<◌, ◌≤◌, Bool, true, List, [], ◌∷◌, ◌++◌, length, get_or, Some, inl, inr, refl, sym, ap, subst, ◌∙◌, arith}
use Rattle.std.specs.Ordering.{nat_cmp, ordering_then}
use Rattle.std.specs.Cmp.Lexicographic.{slice_cmp}
use Rattle.std.proofs.lemmas.Bool.{cases_lt}
use Rattle.std.proofs.lemmas.List.{length-append}
use Rattle.std.proofs.lemmas.List.FromFn.{get_or-map-range_with_len, length-map-range_with_len}
use Rattle.std.proofs.lemmas.Nat.{div-mul-add, mod-mul-add, mul-add-lt}
use Rattle.std.proofs.lemmas.Option.{slice_get-get_or, slice_get_within}
use Rattle.std.proofs.Math.Nat.{div-add-mod, div-lt_iff_lt-mul, le-mul_of_pos_right, mod-lt, mul_comm}
use Rattle.pg_types.specs.Inside.counting.NumberedWindows.{HasNumber}
use Rattle.pg_starts.specs.Inside.Codes.{code_at, code_count, coded_windows, digits}
use Rattle.pg_starts.specs.Inside.CountsByNumber.{IsRising}
use Rattle.pg_starts.specs.Inside.Orders.{AreOrdered}
use Rattle.pg_starts.specs.Inside.Starts.{window_from, window_order}
use Rattle.pg_starts.proofs.Orders.{cmp_equal, cmp_pack, cmp_push, cmp_less, window_more}
use Rattle.pg_starts.proofs.Tallying.{rising_from}

pub length_digits : (radix len code : ℕ) → length (digits radix len code) ≡ len
length_digits radix zero code = refl
length_digits radix (suc len) code = omega (arith, length-append (digits radix len (code / radix)) (code % radix ∷ []), length_digits radix len (code / radix))

-- codes compare as their digits do
digits_compare : (radix len m n : ℕ) → 0 < radix → m < code_count radix len → n < code_count radix len
    → slice_cmp nat_cmp (digits radix len m) (digits radix len n) ≡ nat_cmp m n
digits_compare radix zero m n some x y = sym (cmp_equal m n (omega arith))
digits_compare radix (suc len) m n some x y =
    let long : length (digits radix len (m / radix)) ≡ length (digits radix len (n / radix)) = length_digits radix len (m / radix) ∙ sym (length_digits radix len (n / radix)) in
    let whole_m : m / radix * radix + m % radix ≡ m = omega (arith, div-add-mod m radix, mul_comm radix (m / radix)) in
    let whole_n : n / radix * radix + n % radix ≡ n = omega (arith, div-add-mod n radix, mul_comm radix (n / radix)) in
    cmp_push (digits radix len (m / radix)) (digits radix len (n / radix)) (m % radix) (n % radix) long
    ∙ ap (λ o. ordering_then o (nat_cmp (m % radix) (n % radix)))
    (digits_compare radix len (m / radix) (n / radix) some ((div-lt_iff_lt-mul some).1 x) ((div-lt_iff_lt-mul some).1 y))
    ∙ sym (cmp_pack radix (m / radix) (n / radix) (m % radix) (n % radix) (mod-lt m some) (mod-lt n some))
    ∙ (λ i. nat_cmp (whole_m i) (whole_n i))

module _ (signs : List ℕ) (radix : ℕ) (low : (k : ℕ) → get_or signs k 0 < radix) where
  pub code_low : (start len : ℕ) → code_at signs radix start len < code_count radix len
  code_low start zero = omega arith
  code_low start (suc len) = omega (
    arith,
    mul-add-lt (code_at signs radix start len) radix (get_or signs (start + len) 0) (code_count radix len) (code_low start len) (low (start + len)),
    mul_comm radix (code_count radix len),
  )

  -- the digits of a window's code are its signs
  pub digits_of_code : (start len : ℕ) → start + len ≤ length signs → digits radix len (code_at signs radix start len) ≡ window_from signs start len
  digits_of_code start zero ends = refl
  digits_of_code start (suc len) ends =
      let s : ℕ = get_or signs (start + len) 0 in
      let code : ℕ = code_at signs radix start len in
      let more : len + 1 ≡ suc len = omega arith in
      (λ i. digits radix len (div-mul-add code radix s (low (start + len)) i) ++ mod-mul-add code radix s (low (start + len)) i ∷ [])
      ∙ ap (λ (w : List ℕ). w ++ s ∷ []) (digits_of_code start len (omega arith))
      ∙ sym (window_more signs start len (omega arith))
      ∙ ap (window_from signs start) more

  some : 0 < radix
  some = (let first = low 0 in omega arith)

  -- codes are numbers of windows
  pub codes_ordered : (test : ℕ → Bool) (codes : List ℕ) (len : ℕ) → ((i : ℕ) → test i ≡ true → i + len ≤ length signs)
      → ((i : ℕ) → i + len ≤ length signs → get_or codes i 0 ≡ code_at signs radix i len) → AreOrdered (window_order signs len) test codes (code_count radix len)
  codes_ordered test codes len ends is = record {
    below = λ i x. subst (λ c. c < code_count radix len) (sym (is i (ends i x))) (code_low i len);
    compare = λ i j x y.
        (λ k. nat_cmp (is i (ends i x) k) (is j (ends j y) k))
        ∙ sym (digits_compare radix len (code_at signs radix i len) (code_at signs radix j len) some (code_low i len) (code_low j len))
        ∙ (λ k. slice_cmp nat_cmp (digits_of_code i len (ends i x) k) (digits_of_code j len (ends j y) k));
  }

-- each code has the window of its digits
pub window_of_code : (radix len code : ℕ) → code < code_count radix len → HasNumber (coded_windows radix len) (digits radix len code) code
window_of_code radix len code low =
    let size : length (coded_windows radix len) ≡ code_count radix len = length-map-range_with_len (digits radix len) 0 (code_count radix len) in
    slice_get-get_or (coded_windows radix len) code [] (omega arith)
    ∙ ap (λ (u : List ℕ). Some u) (get_or-map-range_with_len (digits radix len) 0 (code_count radix len) code code [] low (omega arith))

pub coded_size : (radix len : ℕ) → length (coded_windows radix len) ≡ code_count radix len
coded_size radix len = length-map-range_with_len (digits radix len) 0 (code_count radix len)

-- they stand in the order of signs
pub coded_rise : (radix len : ℕ) → 0 < radix → IsRising (coded_windows radix len)
coded_rise radix len some = rising_from (coded_windows radix len) (λ p q u v before x y.
    let size = coded_size radix len in
    let low : p < code_count radix len = (let in_p = slice_get_within (coded_windows radix len) p u x in omega arith) in
    let high : q < code_count radix len = (let in_q = slice_get_within (coded_windows radix len) q v y in omega arith) in
    let both_u : Some u ≡ Some (digits radix len p) = sym x ∙ window_of_code radix len p low in
    let both_v : Some v ≡ Some (digits radix len q) = sym y ∙ window_of_code radix len q high in
    let is_u : u ≡ digits radix len p = cc in
    let is_v : v ≡ digits radix len q = cc in
    (λ i. slice_cmp nat_cmp (is_u i) (is_v i)) ∙ digits_compare radix len p q some low high ∙ cmp_less p q before)

-- one sign more makes no fewer codes
codes_more : (radix len : ℕ) → 0 < radix → code_count radix len ≤ code_count radix (suc len)
codes_more radix len some = le-mul_of_pos_right (code_count radix len) some

pub codes_fit : (radix count len : ℕ) → 0 < radix → code_count radix 3 ≤ count → 1 ≤ len → len ≤ 3 → code_count radix len ≤ count
codes_fit radix count zero some few from upto = absurd (omega arith)
codes_fit radix count (suc zero) some few from upto = omega (arith, few, codes_more radix 1 some, codes_more radix 2 some)
codes_fit radix count (suc (suc zero)) some few from upto = omega (arith, few, codes_more radix 2 some)
codes_fit radix count (suc (suc (suc zero))) some few from upto = few
codes_fit radix count (suc (suc (suc (suc len)))) some few from upto = absurd (omega arith)

pub counts_rise : (radix a b : ℕ) → 0 < radix → a ≤ b → code_count radix a ≤ code_count radix b
counts_rise radix a zero some upto = (let none : a ≡ 0 = omega arith in omega (arith, ap (code_count radix) none))
counts_rise radix a (suc b) some upto = elim (cases_lt a (suc b)) [
  | inl less ↦ omega (arith, counts_rise radix a b some (omega arith), codes_more radix b some)
  | inr same ↦ (let is : a ≡ suc b = omega arith in omega (arith, ap (code_count radix) is))
]

-- the code of a window of one sign is the sign, and a sign more is a digit more
pub code_one : (signs : List ℕ) (radix start : ℕ) → code_at signs radix start 1 ≡ get_or signs start 0
code_one signs radix start =
    let front : 0 * radix ≡ 0 = omega arith in
    let here : start + 0 ≡ start = omega arith in
    (λ k. front k + get_or signs (here k) 0) ∙ (let e : 0 + get_or signs start 0 ≡ get_or signs start 0 = omega arith in e)

pub code_more : (signs : List ℕ) (radix start at : ℕ) → code_at signs radix start (at + 1) ≡ code_at signs radix start at * radix + get_or signs (start + at) 0
code_more signs radix start at = ap (code_at signs radix start) (let e : at + 1 ≡ suc at = omega arith in e)
