-- Steps of a walk over the clear bits of a row.
use Rattle.std.proofs.Common.{◌≡◌, ℕ, ◌+◌, ◌-◌, ◌*◌, ◌^◌, ◌%◌, ◌<◌, ◌≤◌, Bool, true, List, get_or, bit_and, inl, inr, sym, ap, ◌∙◌, arith, w64}
use Rattle.std.specs.Int.{bit_at, bit_not}
use Rattle.std.proofs.lemmas.Bool.{cases_eq, cases_lt}
use Rattle.std.proofs.lemmas.Nat.Bits.{bit_at-lt, bit_at-zero, bit_at_clear_other, bit_at_clear_same, bit_at_not}
use Rattle.pg_dots.specs.declared.walk.Walk.{Walk}
use Rattle.pg_types.specs.Inside.Bits.{has_bit}
use Rattle.pg_dots.specs.Inside.Walks.{IsAhead, IsFirstFailing}
use Rattle.pg_dots.proofs.Rows.{bit_clear, bit_set}

-- on a number of which no bit was passed
pub ahead_whole : (row : List ℕ) (at from : ℕ) → get_or row at 0 < 2 ^ 64 → from ≤ 64 * at → ((i : ℕ) → from ≤ i → i < 64 * at → has_bit row i ≡ true)
    → IsAhead (has_bit row) (record { at = at; ahead = bit_not w64 (get_or row at 0) }) from
ahead_whole row at from small low passed = record {
  upto = omega arith;
  passed = passed;
  clear = λ b inside set. (
    omega arith,
    (let place : 64 * at + b - 64 * at ≡ b = omega arith in
        let none : bit_at (get_or row at 0) b ≡ 0 = (let flipped = bit_at_not w64 (get_or row at 0) b small inside in let two = bit_at-lt (get_or row at 0) b in omega arith) in
        bit_clear row at (64 * at + b) (omega arith) (omega arith) (ap (bit_at (get_or row at 0)) place ∙ none)),
  );
  others = λ i behind high inside free. (
      let flipped = bit_at_not w64 (get_or row at 0) (i - 64 * at) small (omega arith) in
      let two = bit_at-lt (get_or row at 0) (i - 64 * at) in
      bit_set row at i high inside (omega arith));
}

-- on the next number, where none is ahead in the last one
pub ahead_next : (row : List ℕ) (w : Walk) (next from : ℕ) → w.ahead ≡ 0 → w.at + 1 ≡ next → get_or row next 0 < 2 ^ 64 → IsAhead (has_bit row) w from
    → IsAhead (has_bit row) (record { at = next; ahead = bit_not w64 (get_or row next 0) }) from
ahead_next row w next from none is small ahead =
    ahead_whole row next from small (omega (arith, ahead.upto)) (λ i behind before. elim (cases_lt i (64 * w.at)) [
      | inl early ↦ ahead.passed i behind early
      | inr late ↦ ahead.others i behind late (omega arith) (ap (λ n. bit_at n (i - 64 * w.at)) none ∙ bit_at-zero (i - 64 * w.at))
    ])

-- where none is ahead in the last number there is none
pub next_none : (test : ℕ → Bool) (w : Walk) (end from : ℕ) → w.ahead ≡ 0 → 64 * w.at + 64 ≡ end → IsAhead test w from → IsFirstFailing test end from end
next_none test w end from none is ahead = record {
  after = omega (arith, ahead.upto);
  within = omega arith;
  fails = λ less. absurd (omega arith);
  passes = λ i behind before. elim (cases_lt i (64 * w.at)) [
    | inl early ↦ ahead.passed i behind early
    | inr late ↦ ahead.others i behind late (omega arith) (ap (λ n. bit_at n (i - 64 * w.at)) none ∙ bit_at-zero (i - 64 * w.at))
  ];
}

-- the lowest bit that is ahead is the next place
module _ (test : ℕ → Bool) (w : Walk) (from lowest : ℕ) (low : lowest < 64) (is_set : bit_at w.ahead lowest ≡ 1) (before_it : (b : ℕ) → b < lowest → bit_at w.ahead b ≡ 0)
    (ahead : IsAhead test w from) where
  pub next_some : (end s : ℕ) → 64 * w.at + 64 ≤ end → s ≡ 64 * w.at + lowest → IsFirstFailing test end from s
  next_some end s inside is =
      let here = ahead.clear lowest low is_set in
      record {
        after = omega (arith, here.0);
        within = omega arith;
        fails = λ _. ap test is ∙ here.1;
        passes = λ i behind before. elim (cases_lt i (64 * w.at)) [
          | inl early ↦ ahead.passed i behind early
          | inr late ↦ ahead.others i behind late (omega arith) (before_it (i - 64 * w.at) (omega arith))
        ];
      }

  -- and the others are ahead behind it
  pub ahead_behind : (s : ℕ) → s ≡ 64 * w.at + lowest → IsAhead test (record { at = w.at; ahead = bit_and w.ahead (bit_not w64 (1 * 2 ^ lowest % 2 ^ 64)) }) (s + 1)
  ahead_behind s is =
      let here = ahead.clear lowest low is_set in
      record {
        upto = omega arith;
        passed = λ i behind before. absurd (omega arith);
        clear = λ b inside set. elim (cases_eq b lowest) [
          | inl same ↦ absurd (let none = ap (λ k. bit_at (bit_and w.ahead (bit_not w64 (1 * 2 ^ lowest % 2 ^ 64))) k) same ∙ bit_at_clear_same w64 w.ahead lowest low in omega arith)
          | inr other ↦
              let kept = bit_at_clear_other w64 w.ahead lowest low b inside other in
              let there = ahead.clear b inside (sym kept ∙ set) in (
                elim (cases_lt b lowest) [
                  | inl early ↦ absurd (let none = before_it b early in omega (arith, kept))
                  | inr late ↦ omega arith
                ],
                there.1,
              )
        ];
        others = λ i behind high inside free.
            ahead.others i (omega (arith, here.0)) high inside (sym (bit_at_clear_other w64 w.ahead lowest low (i - 64 * w.at) (omega arith) (λ same. omega arith)) ∙ free);
      }

-- what is ahead stays where the test stays
pub ahead_kept : (test new : ℕ → Bool) (w : Walk) (from end : ℕ) → 64 * w.at + 64 ≤ end → ((i : ℕ) → from ≤ i → i < end → new i ≡ test i) → IsAhead test w from → IsAhead new w from
ahead_kept test new w from end inside same ahead = record {
  upto = ahead.upto;
  passed = λ i behind before. same i behind (omega arith) ∙ ahead.passed i behind before;
  clear = λ b low set. (
      let there = ahead.clear b low set in
      (there.0, same (64 * w.at + b) there.0 (omega arith) ∙ there.1));
  others = λ i behind high before free. same i behind (omega arith) ∙ ahead.others i behind high before free;
}
