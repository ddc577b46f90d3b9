-- The rows of the dots, one after the other.
use Rattle.std.proofs.Common.{◌≡◌, ◌≢◌, ℕ, ◌+◌, ◌-◌, ◌*◌, ◌/◌, ◌%◌, ◌^◌, ◌<◌, ◌≤◌, nat_lt, nat_le, nat_eq, Bool, true, false, cond, not, ◌&&◌, ◌||◌, List, length, take, drop, get_or, replicate, ◌++◌, inl, inr, refl, sym, ap, ◌∙◌, arith}
use Rattle.std.specs.Int.{bit_at}
use Rattle.std.proofs.Math.Nat.{mul-le-mul_left}
use Rattle.std.proofs.lemmas.Bool.{eq-eqb, ne_eqb, cases_eq, cases_lt, le-leb, lt-leb, lt-ltb, le-ltb}
use Rattle.std.proofs.lemmas.List.{get_or-replicate, get_or_append_left, get_or-append_right, get_or-take}
use Rattle.std.proofs.lemmas.Nat.Bits.{bit_at_ones}
use Rattle.pg_types.specs.Inside.Bits.{has_bit}
use Rattle.pg_dots.specs.Inside.Dots.{dot_row}
use Rattle.pg_dots.proofs.Rows.{first_bit, part_bit}

-- a place of rows of one width is another where its row and its place in it are
pub same_place : (a b s i j : ℕ) → i < s → j < s → nat_eq (a * s + j) (b * s + i) ≡ (nat_eq a b && nat_eq j i)
same_place a b s i j low less = elim (cases_eq a b) [
  | inl same ↦ elim (cases_eq j i) [
    | inl is ↦
        let rows : a * s ≡ b * s = ap (λ k. k * s) same in
        eq-eqb (a * s + j) (b * s + i) (omega arith) ∙ sym (both (nat_eq a b) (nat_eq j i) (eq-eqb a b same) (eq-eqb j i is))
    | inr other ↦
        let rows : a * s ≡ b * s = ap (λ k. k * s) same in
        ne_eqb (a * s + j) (b * s + i) (λ is. other (omega arith)) ∙ sym (second (nat_eq a b) (nat_eq j i) (ne_eqb j i other))
  ]
  | inr apart ↦ ne_eqb (a * s + j) (b * s + i) (λ is. other_row apart is) ∙ sym (first (nat_eq a b) (nat_eq j i) (ne_eqb a b apart))
]
  where
    both : (x y : Bool) → x ≡ true → y ≡ true → (x && y) ≡ true
    both true y is more = more
    both false y is more = is

    first : (x y : Bool) → x ≡ false → (x && y) ≡ false
    first false y is = refl
    first true y is = absurd (let wrong : true ≡ false = is in cc)

    second : (x y : Bool) → y ≡ false → (x && y) ≡ false
    second false y is = refl
    second true y is = is

    other_row : a ≢ b → a * s + j ≡ b * s + i → ⊥
    other_row apart is = elim (cases_lt a b) [
      | inl before ↦ let rows : s * (a + 1) ≤ s * b = mul-le-mul_left s (omega arith) in omega arith
      | inr after ↦ let rows : s * (b + 1) ≤ s * a = mul-le-mul_left s (omega arith) in omega arith
    ]

-- a row that is full
pub full_bit : (width j : ℕ) → j < 64 * width → has_bit (replicate width (2 ^ 64 - 1)) j ≡ true
unfolding has_bit
full_bit width j within =
    let low : j / 64 < width = omega arith in
    ap (λ v. nat_eq (bit_at v (j % 64)) 1) (get_or-replicate width (j / 64) (2 ^ 64 - 1) 0 low)
    ∙ ap (λ b. nat_eq b 1) (bit_at_ones 64 (j % 64) (omega arith))

-- a row more, which is the first one again
pub kept_bit : (row more : List ℕ) (j : ℕ) → j < 64 * length row → has_bit (row ++ more) j ≡ has_bit row j
unfolding has_bit
kept_bit row more j within =
    let low : j / 64 < length row = omega arith in
    ap (λ v. nat_eq (bit_at v (j % 64)) 1) (get_or_append_left row more 0 (j / 64) low)

pub copied_bit : (row : List ℕ) (width j : ℕ) → j < 64 * width → has_bit (row ++ take width row) (64 * length row + j) ≡ has_bit row j
unfolding has_bit
copied_bit row width j within =
    let low : j / 64 < width = omega arith in
    let high : length row ≤ (64 * length row + j) / 64 = omega arith in
    let number : (64 * length row + j) / 64 - length row ≡ j / 64 = omega arith in
    let bit : (64 * length row + j) % 64 ≡ j % 64 = omega arith in
    ap (λ v. nat_eq (bit_at v ((64 * length row + j) % 64)) 1) (get_or-append_right row (take width row) (length row) ((64 * length row + j) / 64) 0 refl high
    ∙ ap (λ k. get_or (take width row) k 0) number ∙ get_or-take width row (j / 64) 0 low)
    ∙ ap (λ k. nat_eq (bit_at (get_or row (j / 64) 0) k) 1) bit

-- the row of a dot that is reached, and of another
pub row_reached : (reached dot : ℕ) → dot < reached → dot_row reached dot ≡ dot + 1
row_reached reached dot less = ap (λ b. cond b (dot + 1) 0) (lt-ltb dot reached less)

pub row_beyond : (reached dot : ℕ) → reached ≤ dot → dot_row reached dot ≡ 0
row_beyond reached dot more = ap (λ b. cond b (dot + 1) 0) (le-ltb dot reached more)

-- a row is among those there are
pub row_within : (reached dot : ℕ) → dot_row reached dot ≤ reached
row_within reached dot = elim (cases_lt dot reached) [
  | inl less ↦ let is = row_reached reached dot less in omega arith
  | inr more ↦ let is = row_beyond reached dot more in omega arith
]

pub place_within : (reached dot width j : ℕ) → j < 64 * width → dot_row reached dot * (64 * width) + j < 64 * ((reached + 1) * width)
place_within reached dot width j within =
    let rows : width * dot_row reached dot ≤ width * reached = mul-le-mul_left width (row_within reached dot) in
    omega arith

-- one dot more is reached
pub reached_more : (bits : List ℕ) (width reached dot j : ℕ) → length bits ≡ (reached + 1) * width → j < 64 * width
    → has_bit (bits ++ take width bits) (dot_row (reached + 1) dot * (64 * width) + j) ≡ has_bit bits (dot_row reached dot * (64 * width) + j)
reached_more bits width reached dot j size within = elim (cases_lt dot reached) [
  | inl less ↦
      ap (λ r. has_bit (bits ++ take width bits) (r * (64 * width) + j)) (row_reached (reached + 1) dot (omega arith) ∙ sym (row_reached reached dot less))
      ∙ kept_bit bits (take width bits) (dot_row reached dot * (64 * width) + j) (let low = place_within reached dot width j within in omega arith)
  | inr more ↦ elim (cases_eq dot reached) [
    | inl same ↦
        let place : (dot + 1) * (64 * width) + j ≡ 64 * length bits + j = (let rows : width * dot ≡ width * reached = ap (λ k. width * k) same in omega arith) in
        ap (λ r. has_bit (bits ++ take width bits) (r * (64 * width) + j)) (row_reached (reached + 1) dot (omega arith))
        ∙ ap (has_bit (bits ++ take width bits)) place
        ∙ copied_bit bits width j within
        ∙ ap (has_bit bits) (let zero_row : j ≡ 0 * (64 * width) + j = omega arith in zero_row)
        ∙ ap (λ r. has_bit bits (r * (64 * width) + j)) (sym (row_beyond reached dot more))
    | inr other ↦
        ap (λ r. has_bit (bits ++ take width bits) (r * (64 * width) + j)) (row_beyond (reached + 1) dot (omega arith) ∙ sym (row_beyond reached dot more))
        ∙ kept_bit bits (take width bits) (dot_row reached dot * (64 * width) + j) (let low = place_within reached dot width j within in omega arith)
  ]
]

-- a dot more is closed at a place
pub closed_more : (old new : List ℕ) (width reached dot i d j : ℕ) → dot < reached → i < 64 * width → j < 64 * width
    → ((p : ℕ) → has_bit new p ≡ (nat_eq p ((dot + 1) * (64 * width) + i) || has_bit old p))
    → has_bit new (dot_row reached d * (64 * width) + j) ≡ ((nat_eq d dot && nat_eq j i) || has_bit old (dot_row reached d * (64 * width) + j))
closed_more old new width reached dot i d j low within inside is =
    is (dot_row reached d * (64 * width) + j)
    ∙ ap (λ b. b || has_bit old (dot_row reached d * (64 * width) + j)) (same_place (dot_row reached d) (dot + 1) (64 * width) i j within inside ∙ ap (λ b. b && nat_eq j i) test)
  where
    test : nat_eq (dot_row reached d) (dot + 1) ≡ nat_eq d dot
    test = elim (cases_eq d dot) [
      | inl same ↦ eq-eqb (dot_row reached d) (dot + 1) (row_reached reached d (omega arith) ∙ ap (λ k. k + 1) same) ∙ sym (eq-eqb d dot same)
      | inr other ↦ ne_eqb (dot_row reached d) (dot + 1) (λ is. elim (cases_lt d reached) [
        | inl less ↦ let row = row_reached reached d less in other (omega arith)
        | inr more ↦ let row = row_beyond reached d more in omega arith
      ]) ∙ sym (ne_eqb d dot other)
    ]

-- the next length, for a dot that has a row in the end, and for another
pub longer_dot : (old new : List ℕ) (width reached d j : ℕ) → d < reached → j < 64 * width
    → has_bit new ((d + 1) * (64 * width) + j) ≡ (has_bit old ((d + 1) * (64 * width) + j)
    || (nat_le (128 * width) ((d + 1) * (64 * width) + j) && has_bit old ((d + 1) * (64 * width) + j - 64 * width)))
    → has_bit new (dot_row reached d * (64 * width) + j) ≡ (has_bit old (dot_row reached d * (64 * width) + j) || (nat_le 1 d && has_bit old (dot_row reached (d - 1) * (64 * width) + j)))
longer_dot old new width reached d j low within is =
    let row = row_reached reached d low in
    ap (λ r. has_bit new (r * (64 * width) + j)) row
    ∙ is
    ∙ ap (λ r. has_bit old (r * (64 * width) + j) || (nat_le (128 * width) ((d + 1) * (64 * width) + j) && has_bit old ((d + 1) * (64 * width) + j - 64 * width))) (sym row)
    ∙ ap (λ b. has_bit old (dot_row reached d * (64 * width) + j) || b) second
  where
    second : (nat_le (128 * width) ((d + 1) * (64 * width) + j) && has_bit old ((d + 1) * (64 * width) + j - 64 * width)) ≡ (nat_le 1 d && has_bit old (dot_row reached (d - 1) * (64 * width) + j))
    second = elim (cases_lt d 1) [
      | inl first ↦
          let none : width * d ≡ width * 0 = ap (λ k. width * k) (let z : d ≡ 0 = omega arith in z) in
          (λ i. lt-leb (128 * width) ((d + 1) * (64 * width) + j) (omega arith) i && has_bit old ((d + 1) * (64 * width) + j - 64 * width))
          ∙ (λ i. sym (lt-leb 1 d first) i && has_bit old (dot_row reached (d - 1) * (64 * width) + j))
      | inr later ↦
          let rows : width * 1 ≤ width * d = mul-le-mul_left width later in
          let place : (d + 1) * (64 * width) + j - 64 * width ≡ d * (64 * width) + j = omega arith in
          let before : dot_row reached (d - 1) ≡ d = row_reached reached (d - 1) (omega arith) ∙ (let z : d - 1 + 1 ≡ d = omega arith in z) in
          (λ i. le-leb (128 * width) ((d + 1) * (64 * width) + j) (omega arith) i && has_bit old (place i))
          ∙ (λ i. sym (le-leb 1 d later) i && has_bit old (sym before i * (64 * width) + j))
    ]

-- a part of the rows is the row of a dot
pub row_part : (bits : List ℕ) (width reached dot start size i : ℕ) → dot < reached → i < 64 * width → start ≡ (dot + 1) * width → size ≡ width
    → has_bit (take size (drop start bits)) i ≡ has_bit bits (dot_row reached dot * (64 * width) + i)
row_part bits width reached dot start size i low within begins is =
    part_bit bits start size i (omega arith)
    ∙ ap (has_bit bits) (let z : 64 * start + i ≡ (dot + 1) * (64 * width) + i = omega arith in z)
    ∙ ap (λ r. has_bit bits (r * (64 * width) + i)) (sym (row_reached reached dot low))

-- the next length, where one dot more is reached
pub longer_grown : (mid new : List ℕ) (width reached k d j : ℕ) (closed : ℕ → Bool) → reached ≡ k + 1 → length mid ≡ (reached + 1) * width → j < 64 * width
    → ((e : ℕ) → has_bit mid (dot_row reached e * (64 * width) + j) ≡ closed e) → ((e : ℕ) → k ≤ e → closed e ≡ closed k)
    → ((p : ℕ) → p < 64 * length mid → has_bit new p ≡ (has_bit mid p || (nat_le (128 * width) p && has_bit mid (p - 64 * width))))
    → has_bit new (dot_row reached d * (64 * width) + j) ≡ (closed d || (nat_le 1 d && closed (d - 1)))
longer_grown mid new width reached k d j closed grown size within are beyond taken = elim (cases_lt d reached) [
  | inl low ↦
      longer_dot mid new width reached d j low within (taken ((d + 1) * (64 * width) + j)
      (let rows : width * (d + 1) ≤ width * reached = mul-le-mul_left width (let z : d + 1 ≤ reached = omega arith in z) in omega arith))
      ∙ (λ i. are d i || (nat_le 1 d && are (d - 1) i))
  | inr high ↦
      let first : dot_row reached d * (64 * width) + j ≡ j = ap (λ r. r * (64 * width) + j) (row_beyond reached d high) ∙ (let z : 0 * (64 * width) + j ≡ j = omega arith in z) in
      ap (has_bit new) first
      ∙ taken j (let some : width * 1 ≤ width * (reached + 1) = mul-le-mul_left width (omega arith) in omega arith)
      ∙ ap (λ b. has_bit mid j || (b && has_bit mid (j - 64 * width))) (lt-leb (128 * width) j (omega arith))
      ∙ ap (λ b. b || false) (ap (has_bit mid) (sym first) ∙ are d)
      ∙ twice (closed d) (nat_le 1 d)
      ∙ ap (λ b. closed d || (nat_le 1 d && b)) (beyond d (omega arith) ∙ sym (beyond (d - 1) (omega arith)))
]
  where
    twice : (a b : Bool) → (a || false) ≡ (a || (b && a))
    twice true b = refl
    twice false true = refl
    twice false false = refl

-- the next length, for a dot that is not reached
pub longer_beyond : (old new : List ℕ) (width reached d j : ℕ) → reached ≤ d → length old ≡ (reached + 1) * width → j < 64 * width
    → ((p : ℕ) → p < 64 * length old → has_bit new p ≡ (has_bit old p || (nat_le (128 * width) p && has_bit old (p - 64 * width))))
    → has_bit new (dot_row reached d * (64 * width) + j) ≡ has_bit old (dot_row reached d * (64 * width) + j)
longer_beyond old new width reached d j high size within taken =
    let first : dot_row reached d * (64 * width) + j ≡ j = ap (λ r. r * (64 * width) + j) (row_beyond reached d high) ∙ (let z : 0 * (64 * width) + j ≡ j = omega arith in z) in
    ap (has_bit new) first
    ∙ taken j (let some : width * 1 ≤ width * (reached + 1) = mul-le-mul_left width (omega arith) in omega arith)
    ∙ ap (λ b. has_bit old j || (b && has_bit old (j - 64 * width))) (lt-leb (128 * width) j (omega arith))
    ∙ plain (has_bit old j)
    ∙ ap (has_bit old) (sym first)
  where
    plain : (a : Bool) → (a || false) ≡ a
    plain true = refl
    plain false = refl

-- the next level: the row of the dots that are not reached is turned, and no other is left
pub next_level_row : (bits new : List ℕ) (width reached d e j : ℕ) (kept : Bool) → reached ≤ e → j < 64 * width → has_bit new j ≡ (not (has_bit (take width bits) j) || kept)
    → has_bit new (dot_row 0 d * (64 * width) + j) ≡ (not (has_bit bits (dot_row reached e * (64 * width) + j)) || kept)
next_level_row bits new width reached d e j kept high within is =
    let none : 0 * (64 * width) + j ≡ j = omega arith in
    ap (λ r. has_bit new (r * (64 * width) + j)) (row_beyond 0 d (omega arith))
    ∙ ap (has_bit new) none
    ∙ is
    ∙ ap (λ b. not b || kept) (first_bit bits width j within ∙ ap (has_bit bits) (sym none) ∙ ap (λ r. has_bit bits (r * (64 * width) + j)) (sym (row_beyond reached e high)))

-- a place of the first row
pub first_row : (old new : List ℕ) (width d i j : ℕ) → ((p : ℕ) → has_bit new p ≡ (not (nat_eq p i) && has_bit old p))
    → has_bit new (dot_row 0 d * (64 * width) + j) ≡ (not (nat_eq j i) && has_bit old (dot_row 0 d * (64 * width) + j))
first_row old new width d i j is =
    let place : dot_row 0 d * (64 * width) + j ≡ j = ap (λ r. r * (64 * width) + j) (row_beyond 0 d (omega arith)) ∙ (let z : 0 * (64 * width) + j ≡ j = omega arith in z) in
    is (dot_row 0 d * (64 * width) + j) ∙ ap (λ p. not (nat_eq p i) && has_bit old (dot_row 0 d * (64 * width) + j)) place

-- a bit more of one row more
pub rows_more : (r row : ℕ) (e b : Bool) → ((nat_eq r row && e) || ((nat_lt r row && e) || b)) ≡ ((nat_lt r (row + 1) && e) || b)
rows_more r row e b = elim (cases_lt r row) [
  | inl less ↦
      (λ i. (ne_eqb r row (λ is. omega arith) i && e) || ((lt-ltb r row less i && e) || b))
      ∙ (λ i. (sym (lt-ltb r (row + 1) (omega arith)) i && e) || b)
  | inr more ↦ elim (cases_eq r row) [
    | inl same ↦
        (λ i. (eq-eqb r row same i && e) || ((le-ltb r row more i && e) || b))
        ∙ (λ i. (sym (lt-ltb r (row + 1) (omega arith)) i && e) || b)
    | inr other ↦
        (λ i. (ne_eqb r row other i && e) || ((le-ltb r row more i && e) || b))
        ∙ (λ i. (sym (le-ltb r (row + 1) (omega arith)) i && e) || b)
  ]
]
