-- The search for a base, 64 bases at a time: what a number with a bit for each base says.
use Rattle.std.proofs.Common.{◌≡◌, ℕ, zero, suc, ◌+◌, ◌-◌, ◌^◌, ◌<◌, ◌≤◌, ◌⊎◌, max, Bool, true, false, not, ◌&&◌, nat_eq, List, ◌∷◌, length, take, get_or, inl, inr, refl, sym, ◌∙◌, ap, arith, bit_or, w64}
use Rattle.std.specs.Int.{bit_at, trailing_ones}
use Rattle.std.specs.List.{list_all}
use Rattle.std.proofs.lemmas.Bool.{and_right, cases_lt, cases_Bool, both_ways, false≢true}
use Rattle.std.proofs.lemmas.Nat.Bits.{bit_at_or, bit_at-lt, bit_at_ones, bit_at-trailing_ones}
use Rattle.pg_types.specs.Inside.Placing.{IsLeast}
use Rattle.pg_cells.specs.declared.store.bit_set.BitSet.{BitSet}
use Rattle.pg_cells.specs.Inside.store.BitSets.{has_index}
use Rattle.pg_cells.specs.Inside.store.SetFit.{fits_sets}
use Rattle.pg_cells.proofs.FitSteps.{all_more, all_fails}

-- a bit is 0 or 1
zero_or_one : (b : ℕ) → b < 2 → (b ≡ 0) ⊎ (b ≡ 1)
zero_or_one zero lt = inl refl
zero_or_one (suc zero) lt = inr refl
zero_or_one (suc (suc b)) lt = absurd (omega arith)

pub which_bit : (n j : ℕ) → (bit_at n j ≡ 0) ⊎ (bit_at n j ≡ 1)
which_bit n j = zero_or_one (bit_at n j) (bit_at-lt n j)

max_one : (a b : ℕ) → a < 2 → b < 2 → max a b ≡ 1 → (a ≡ 1) ⊎ (b ≡ 1)
max_one zero zero x y is = absurd (omega arith)
max_one zero (suc zero) x y is = inr refl
max_one (suc zero) b x y is = inl refl
max_one (suc (suc a)) b x y is = absurd (omega arith)
max_one a (suc (suc b)) x y is = absurd (omega arith)

-- what the opposite of a truth value tells
pub not_not_true : (b : Bool) → not b ≡ true → b ≡ false
not_not_true true is = absurd (false≢true is)
not_not_true false is = refl

pub not_not_false : (b : Bool) → not b ≡ false → b ≡ true
not_not_false true is = refl
not_not_false false is = absurd (false≢true (sym is))

-- a bit of two numbers together is set where one of them has it
pub or_set : (x y j : ℕ) → bit_at (bit_or x y) j ≡ 1 → (bit_at x j ≡ 1) ⊎ (bit_at y j ≡ 1)
or_set x y j is = max_one (bit_at x j) (bit_at y j) (bit_at-lt x j) (bit_at-lt y j) (sym (bit_at_or x y j) ∙ is)

-- it is clear where both have not
pub or_clear : (x y j : ℕ) → bit_at (bit_or x y) j ≡ 0 → (bit_at x j ≡ 0) × (bit_at y j ≡ 0)
or_clear x y j is = let both : max (bit_at x j) (bit_at y j) ≡ 0 = sym (bit_at_or x y j) ∙ is in (omega arith, omega arith)

-- what a bit says of an index
pub set_says : (n j : ℕ) (insert : Bool) → nat_eq (bit_at n j) 1 ≡ insert → bit_at n j ≡ 1 → insert ≡ true
set_says n j insert says one = sym says ∙ ap (λ b. nat_eq b 1) one

pub clear_says : (n j : ℕ) (insert : Bool) → nat_eq (bit_at n j) 1 ≡ insert → bit_at n j ≡ 0 → insert ≡ false
clear_says n j insert says none = sym says ∙ ap (λ b. nat_eq b 1) none

-- a bit is clear where the index is not in the set
pub clear_bit : (n j : ℕ) (insert : Bool) → nat_eq (bit_at n j) 1 ≡ insert → nat_eq (bit_at n j) 0 ≡ not insert
clear_bit n j insert says = elim (which_bit n j) [
  | inl none ↦ ap (λ b. nat_eq b 0) none ∙ sym (ap not (clear_says n j insert says none))
  | inr one ↦ ap (λ b. nat_eq b 0) one ∙ sym (ap not (set_says n j insert says one))
]

module _ (taken bases : BitSet) (sign : ℕ) (slots : List ℕ) where
  test : ℕ → ℕ → Bool
  test b s = not (has_index taken (b + s))

  pub misfit_base : (b : ℕ) → has_index bases b ≡ true → fits_sets taken bases (sign ∷ slots) b ≡ false
  misfit_base b marked = ap (λ m. not m && list_all (λ s. not (has_index taken (b + s))) (sign ∷ slots)) marked

  pub misfit_cell : (b k x : ℕ) → k < length (sign ∷ slots) → get_or (sign ∷ slots) k 0 ≡ x → has_index taken (b + x) ≡ true → fits_sets taken bases (sign ∷ slots) b ≡ false
  misfit_cell b k x lt at marked =
      and_right (not (has_index bases b)) (list_all (λ s. not (has_index taken (b + s))) (sign ∷ slots)) (all_fails (λ s. not (has_index taken (b + s))) (sign ∷ slots) k x lt at (ap not marked))

  -- no cell of the sign and of the slots up to one is taken
  pub record IsClear (b k : ℕ) : Type 0 where
    pub sign_cell : has_index taken (b + sign) ≡ false
    pub slot_cells : list_all (λ s. not (has_index taken (b + s))) (take k slots) ≡ true

  -- the bits of a number say at which of the bases from `base` on a cell of the sign or of the first slots is taken
  pub record SaysBlocked (blocked base k : ℕ) : Type 0 where
    pub set : (j : ℕ) → j < 64 → bit_at blocked j ≡ 1 → fits_sets taken bases (sign ∷ slots) (base + j) ≡ false
    pub clear : (j : ℕ) → j < 64 → bit_at blocked j ≡ 0 → IsClear (base + j) k

  -- the sign alone
  pub says_first : (base y : ℕ) → ((j : ℕ) → j < 64 → nat_eq (bit_at y j) 1 ≡ has_index taken (base + sign + j)) → SaysBlocked y base 0
  says_first base y at_sign = record {
    set = λ j lt one. misfit_cell (base + j) 0 sign (omega arith) refl (moved j ∙ set_says y j (has_index taken (base + sign + j)) (at_sign j lt) one);
    clear = λ j lt none. record {
      sign_cell = moved j ∙ clear_says y j (has_index taken (base + sign + j)) (at_sign j lt) none;
      slot_cells = refl;
    };
  }
    where
      moved : (j : ℕ) → has_index taken (base + j + sign) ≡ has_index taken (base + sign + j)
      moved j = ap (has_index taken) (omega arith)

  -- one slot more
  pub says_more : (base blocked y k s : ℕ) → k < length slots → get_or slots k 0 ≡ s → ((j : ℕ) → j < 64 → nat_eq (bit_at y j) 1 ≡ has_index taken (base + s + j))
      → SaysBlocked blocked base k → SaysBlocked (bit_or blocked y) base (k + 1)
  says_more base blocked y k s lt at at_slot before = record {
    set = λ j within one. elim (or_set blocked y j one) [
      | inl already ↦ before.set j within already
      | inr by_slot ↦ misfit_cell (base + j) (suc k) s (omega arith) at (moved j ∙ set_says y j (has_index taken (base + s + j)) (at_slot j within) by_slot)
    ];
    clear = λ j within none. let both = or_clear blocked y j none in let was = before.clear j within both.0 in record {
      sign_cell = was.sign_cell;
      slot_cells = all_more (λ x. not (has_index taken (base + j + x))) slots k s lt at
          (ap not (moved j ∙ clear_says y j (has_index taken (base + s + j)) (at_slot j within) both.1)) was.slot_cells;
    };
  }
    where
      moved : (j : ℕ) → has_index taken (base + j + s) ≡ has_index taken (base + s + j)
      moved j = ap (has_index taken) (omega arith)

  -- where all slots were looked at and the base is free too, the signs fit
  clear_fits : (b k : ℕ) → take k slots ≡ slots → has_index bases b ≡ false → IsClear b k → fits_sets taken bases (sign ∷ slots) b ≡ true
  clear_fits b k all free clear = λ i. not (free i) && (not (clear.sign_cell i) && whole i)
    where
      whole : list_all (λ s. not (has_index taken (b + s))) slots ≡ true
      whole = sym (ap (list_all (λ s. not (has_index taken (b + s)))) all) ∙ clear.slot_cells

  -- a bit that is set already tells that the base does not fit
  pub says_blocked : (blocked base k j : ℕ) → j < 64 → SaysBlocked blocked base k → bit_at blocked j ≡ 1
      → nat_eq (bit_at blocked j) 0 ≡ fits_sets taken bases (sign ∷ slots) (base + j)
  says_blocked blocked base k j lt says one = ap (λ b. nat_eq b 0) one ∙ sym (says.set j lt one)

  -- with the bits of the bases all bits tell which of the bases fit
  pub says_fits : (blocked x base k : ℕ) → take k slots ≡ slots → SaysBlocked blocked base k → ((j : ℕ) → j < 64 → nat_eq (bit_at x j) 1 ≡ has_index bases (base + j))
      → (j : ℕ) → j < 64 → nat_eq (bit_at (bit_or blocked x) j) 0 ≡ fits_sets taken bases (sign ∷ slots) (base + j)
  says_fits blocked x base k all says at_base j lt = elim (which_bit (bit_or blocked x) j) [
    | inl none ↦
        let both = or_clear blocked x j none in
        ap (λ b. nat_eq b 0) none
        ∙ sym (clear_fits (base + j) k all (clear_says x j (has_index bases (base + j)) (at_base j lt) both.1) (says.clear j lt both.0))
    | inr one ↦ ap (λ b. nat_eq b 0) one ∙ sym (elim (or_set blocked x j one) [
      | inl by_cell ↦ says.set j lt by_cell
      | inr by_base ↦ misfit_base (base + j) (set_says x j (has_index bases (base + j)) (at_base j lt) by_base)
    ])
  ]

  -- where the signs fit, the cell of the sign is free
  pub free_sign_cell : (b : ℕ) → fits_sets taken bases (sign ∷ slots) b ≡ true → has_index taken (b + sign) ≡ false
  free_sign_cell b fits = elim (cases_Bool (has_index taken (b + sign))) [
    | inl marked ↦ absurd (both_ways (fits_sets taken bases (sign ∷ slots) b) (misfit_cell b 0 sign (omega arith) refl marked) fits)
    | inr free ↦ free
  ]

  -- no base fits up to that of the next cell of the sign that is not passed over
  pub passed_over : (low base next k : ℕ) → ((i : ℕ) → low ≤ i → i < base + 64 → fits_sets taken bases (sign ∷ slots) i ≡ false)
      → ((i : ℕ) → base + sign + 64 ≤ i → i < next → has_index taken i ≡ true) → low ≤ k → k < next - sign → fits_sets taken bases (sign ∷ slots) k ≡ false
  passed_over low base next k tried full from lt = elim (cases_lt k (base + 64)) [
    | inl near ↦ tried k from near
    | inr far ↦ misfit_cell k 0 sign (omega arith) refl (full (k + sign) (omega arith) (omega arith))
  ]

-- where all bits are set, none of the bases fits
pub none_fits : (fits : ℕ → Bool) (blocked base : ℕ) → blocked ≡ 2 ^ 64 - 1 → ((j : ℕ) → j < 64 → nat_eq (bit_at blocked j) 0 ≡ fits (base + j))
    → (k : ℕ) → base ≤ k → k < base + 64 → fits k ≡ false
none_fits fits blocked base full bits k from lt =
    let j = k - base in
    ap fits (let back : k ≡ base + j = omega arith in back)
    ∙ sym (bits j (omega arith))
    ∙ ap (λ n. nat_eq (bit_at n j) 0) full
    ∙ ap (λ b. nat_eq b 0) (bit_at_ones 64 j (omega arith))

-- a base that fits is behind them
pub fit_behind : (fits : ℕ → Bool) (blocked base room : ℕ) → blocked ≡ 2 ^ 64 - 1 → ((j : ℕ) → j < 64 → nat_eq (bit_at blocked j) 0 ≡ fits (base + j))
    → base ≤ room → fits room ≡ true → base + 64 ≤ room
fit_behind fits blocked base room full bits from fit = elim (cases_lt room (base + 64)) [
  | inl lt ↦ absurd (both_ways (fits room) (none_fits fits blocked base full bits room from lt) fit)
  | inr behind ↦ behind
]

-- the lowest clear bit tells the first index that fits
pub found_in_block : (fits : ℕ → Bool) (low base bound blocked bit : ℕ) → low ≤ base → low ≤ bound → ((k : ℕ) → low ≤ k → k < base → fits k ≡ false)
    → ((j : ℕ) → j < 64 → nat_eq (bit_at blocked j) 0 ≡ fits (base + j)) → fits bound ≡ true → blocked + 1 < 2 ^ 64 → bit ≡ trailing_ones w64 blocked
    → IsLeast fits low (base + bit) × (base + bit ≤ bound)
found_in_block fits low base bound blocked bit from within before bits fit some is = (
  record { from = omega arith; meets = here; first = first },
  elim (cases_lt bound (base + bit)) [
    | inl early ↦ absurd (both_ways (fits bound) (first bound within early) fit)
    | inr late ↦ late
  ],
)
  where
    lowest : (trailing_ones w64 blocked < 64) × (bit_at blocked (trailing_ones w64 blocked) ≡ 0) × ((i : ℕ) → i < trailing_ones w64 blocked → bit_at blocked i ≡ 1)
    lowest = bit_at-trailing_ones w64 blocked some

    small : bit < 64
    small = let low = lowest.0 in omega arith

    here : fits (base + bit) ≡ true
    here = sym (bits bit small) ∙ ap (λ b. nat_eq b 0) (ap (bit_at blocked) is ∙ lowest.1)

    first : (k : ℕ) → low ≤ k → k < base + bit → fits k ≡ false
    first k le lt = elim (cases_lt k base) [
      | inl less ↦ before k le less
      | inr more ↦
          ap fits (let back : k ≡ base + (k - base) = omega arith in back)
          ∙ sym (bits (k - base) (omega (arith, small)))
          ∙ ap (λ b. nat_eq b 0) (lowest.2 (k - base) (omega arith))
    ]
