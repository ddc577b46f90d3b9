-- Families of keys in packed cells.
use Rattle.std.proofs.Common.{◌≡◌, ◌≢◌, ℕ, ◌+◌, ◌*◌, ◌%◌, ◌-◌, ◌<◌, ◌≤◌, ◌^◌, Bool, true, List, length, get_or, set, take, drop, sym, ap, ◌∙◌, subst, arith, ⊎_elim}
use Rattle.std.specs.List.Sorted.{IsStrictlyIncreasing}
use Rattle.std.proofs.lemmas.Bool.{cases_lt}
use Rattle.std.proofs.lemmas.List.{length-take-le, length-drop, get_or-take, get_or-drop, get_or-set_other, get_or-set_same, length-set}
use Rattle.std.proofs.lemmas.List.Kept.{AllPairs-from_increasing}
use Rattle.std.proofs.lemmas.Grind.{get_or_default_zero}
use Rattle.pg_starts.specs.Inside.Orders.{AreKeys, key_at}
use Rattle.pg_starts.specs.Inside.Cells.{number_of, cell_of, IsFree, ArePacked, IsFamily}

module _ (keys : List ℕ) (rising : IsStrictlyIncreasing keys) where
  pub numbers_rise : (a b : ℕ) → a < b → b < length keys → number_of (get_or keys a 0) ≤ number_of (get_or keys b 0)
  numbers_rise a b h inside = let up = AllPairs-from_increasing keys rising a b 0 h inside in omega (arith, up)

  pub number_below : (a b : ℕ) → a < b → b < length keys → (number_of (get_or keys b 0) ≢ number_of (get_or keys a 0))
      → number_of (get_or keys a 0) < number_of (get_or keys b 0)
  number_below a b h inside ne = let up = numbers_rise a b h inside in omega (arith, up, ne)

  module _ (from upto : ℕ) (family : IsFamily keys from upto) where
    pub signs_rise : (a b : ℕ) → from ≤ a → a < b → b < upto → (get_or keys a 0) % 64 < (get_or keys b 0) % 64
    signs_rise a b low h high =
        let up = AllPairs-from_increasing keys rising a b 0 h (omega (arith, family.within)) in
        let sa = family.same a low (omega arith) in
        let sb = family.same b (omega arith) high in
        omega (arith, up, sa, sb)

    pub cells_differ : (base a b : ℕ) → from ≤ a → a < b → b < upto → cell_of base (get_or keys b 0) ≢ cell_of base (get_or keys a 0)
    cells_differ base a b low h high e = let up = signs_rise a b low h high in absurd (omega (arith, up, e))

    -- all keys before the next family have lower numbers than it
    pub boundary : upto < length keys → (k : ℕ) → k < upto → number_of (get_or keys k 0) < number_of (get_or keys upto 0)
    boundary more k h =
        let last = family.ends more in
        ⊎_elim
        (λ (below : k < from). let up = numbers_rise k from below (omega (arith, family.some, family.within)) in omega (arith, up, last))
        (λ (above : from ≤ k). let same = family.same k above h in omega (arith, same, last))
        (cases_lt k from)

    -- room for the last sign is room for the family
    pub room_for_all : (base long : ℕ) → base + (get_or keys (upto - 1) 0) % 64 + 1 ≤ long
        → (k : ℕ) → from ≤ k → k < upto → cell_of base (get_or keys k 0) < long
    room_for_all base long room k low high = ⊎_elim
        (λ (before : k < upto - 1). let up = signs_rise k (upto - 1) low before (omega (arith, family.some)) in omega (arith, up))
        (λ (at : upto - 1 ≤ k).
        let e : k ≡ upto - 1 = omega (arith, at, high) in
        let same : get_or keys k 0 ≡ get_or keys (upto - 1) 0 = ap (λ j. get_or keys j 0) e in
        let parts : (get_or keys k 0) % 64 ≡ (get_or keys (upto - 1) 0) % 64 = ap (λ n. n % 64) same in
        omega (arith, parts, room))
        (cases_lt k (upto - 1))

    -- a family more
    pub packed_more : (bases cells grown filled : List ℕ) (base : ℕ)
        → length keys < 2 ^ 32 → number_of (get_or keys from 0) < length bases
        → ((k : ℕ) → k < from → number_of (get_or keys k 0) < number_of (get_or keys from 0))
        → ((k : ℕ) → from ≤ k → k < upto → IsFree cells (cell_of base (get_or keys k 0)))
        → length cells ≤ length grown → length filled ≡ length grown
        → ((c : ℕ) → c < length cells → get_or grown c 0 ≡ get_or cells c 0)
        → ((k : ℕ) → from ≤ k → k < upto → cell_of base (get_or keys k 0) < length grown)
        → ((k : ℕ) → from ≤ k → k < upto → get_or filled (cell_of base (get_or keys k 0)) 0 ≡ k)
        → ((c : ℕ) → ((k : ℕ) → from ≤ k → k < upto → c ≢ cell_of base (get_or keys k 0)) → get_or filled c 0 ≡ get_or grown c 0)
        → ArePacked keys from bases cells
        → ArePacked keys upto (set bases (number_of (get_or keys from 0)) base) filled
    packed_more bases cells grown filled base few low_number bound free more same_long kept room placed others p = record {
      based = λ k h. let long = length-set bases n base in ⊎_elim
          (λ (old : k < from). let b = p.based k old in omega (arith, b, long))
          (λ (new : from ≤ k). let e = family.same k new h in omega (arith, e, long))
          (cases_lt k from);
      inside = λ k h. ⊎_elim
          (λ (old : k < from). let at = base_old k old in let b = p.inside k old in omega (arith, at, b, more, same_long))
          (λ (new : from ≤ k). let at = base_new k new h in let b = room k new h in omega (arith, at, b, same_long))
          (cases_lt k from);
      place = λ k h. ⊎_elim
          (λ (old : k < from).
          let b = p.inside k old in
          let c = cell_of (get_or bases (number_of (get_or keys k 0)) 0) (get_or keys k 0) in
          ap (λ x. get_or filled (cell_of x (get_or keys k 0)) 0) (base_old k old)
          ∙ others c (not_mine k old)
          ∙ kept c b
          ∙ p.place k old)
          (λ (new : from ≤ k).
          ap (λ x. get_or filled (cell_of x (get_or keys k 0)) 0) (base_new k new h) ∙ placed k new h)
          (cases_lt k from);
    }
      where
        n : ℕ
        n = number_of (get_or keys from 0)

        base_old : (k : ℕ) → k < from → get_or (set bases n base) (number_of (get_or keys k 0)) 0 ≡ get_or bases (number_of (get_or keys k 0)) 0
        base_old k h = get_or-set_other bases n (number_of (get_or keys k 0)) base 0 (λ e. let b = bound k h in absurd (omega (arith, b, e)))

        base_new : (k : ℕ) → from ≤ k → k < upto → get_or (set bases n base) (number_of (get_or keys k 0)) 0 ≡ base
        base_new k low h = ap (λ q. get_or (set bases n base) q 0) (family.same k low h) ∙ get_or-set_same bases n base 0 low_number

        not_mine : (k : ℕ) → k < from → (j : ℕ) → from ≤ j → j < upto
            → cell_of (get_or bases (number_of (get_or keys k 0)) 0) (get_or keys k 0) ≢ cell_of base (get_or keys j 0)
        not_mine k old j low high e =
            let has = p.place k old in
            let here : get_or cells (cell_of base (get_or keys j 0)) 0 ≡ k = ap (λ c. get_or cells c 0) (sym e) ∙ has in
            let b = p.inside k old in
            let none = free j low high (subst (λ c. c < length cells) e b) in
            absurd (omega (arith, here, none, family.some, family.within))

-- what the cell of a start says
module _ (test : ℕ → Bool) (part : ℕ → ℕ) (num keys bases cells : List ℕ)
    (k : AreKeys test part num keys) (p : ArePacked keys (length keys) bases cells) (i : ℕ) (live : test i ≡ true)
    (narrow : part i < 64) where
  parts : (n s key : ℕ) → s < 64 → key ≡ n * 64 + s → (number_of key ≡ n) × (key % 64 ≡ s)
  parts n s key h e = (omega (arith, h, e), omega (arith, h, e))

  pub cell_says : (get_or num i 0 < length bases) × (get_or bases (get_or num i 0) 0 + part i < length cells)
      × (get_or cells (get_or bases (get_or num i 0) 0 + part i) 0 < length keys)
      × (get_or keys (get_or cells (get_or bases (get_or num i 0) 0 + part i) 0) 0 ≡ key_at part num i)
  cell_says =
      let has = k.each i live in
      let r = has.0 in
      let is : get_or keys r 0 ≡ key_at part num i = sym (get_or_default_zero keys r (key_at part num i) has.1) ∙ has.2 in
      let ps = parts (get_or num i 0) (part i) (get_or keys r 0) narrow is in
      let cell : cell_of (get_or bases (number_of (get_or keys r 0)) 0) (get_or keys r 0) ≡ get_or bases (get_or num i 0) 0 + part i =
      ap (λ n. get_or bases n 0 + (get_or keys r 0) % 64) ps.0 ∙ ap (λ s. get_or bases (get_or num i 0) 0 + s) ps.1 in
      let value : get_or cells (get_or bases (get_or num i 0) 0 + part i) 0 ≡ r = ap (λ c. get_or cells c 0) (sym cell) ∙ p.place r has.1 in (
        subst (λ n. n < length bases) ps.0 (p.based r has.1),
        subst (λ c. c < length cells) cell (p.inside r has.1),
        subst (λ v. v < length keys) (sym value) has.1,
        ap (λ v. get_or keys v 0) value ∙ is,
      )

-- what is read on the way: the base and the cell by any default
pub read_place : (test : ℕ → Bool) (part : ℕ → ℕ) (num keys bases cells : List ℕ)
    → AreKeys test part num keys → ArePacked keys (length keys) bases cells → (i : ℕ) → test i ≡ true → part i < 64
    → (n b s r : ℕ) → n ≡ get_or num i 0 → b ≡ get_or bases n b → s ≡ part i → r ≡ get_or cells (b + s) r
    → (r < length keys) × (get_or keys r 0 ≡ key_at part num i)
read_place test part num keys bases cells k p i live narrow n b s r en eb es er =
    let says = cell_says test part num keys bases cells k p i live narrow in
    let base : b ≡ get_or bases (get_or num i 0) 0 =
    eb ∙ ap (λ m. get_or bases m b) en ∙ get_or_default_zero bases (get_or num i 0) b says.0 in
    let cell : b + s ≡ get_or bases (get_or num i 0) 0 + part i = omega (arith, base, es) in
    let value : r ≡ get_or cells (get_or bases (get_or num i 0) 0 + part i) 0 =
    er ∙ ap (λ m. get_or cells m r) cell ∙ get_or_default_zero cells _ r says.1 in (
      subst (λ v. v < length keys) (sym value) says.2,
      ap (λ v. get_or keys v 0) value ∙ says.3,
    )

-- a family as a part of the keys
pub family_free : (keys cells : List ℕ) (from upto base : ℕ) → upto ≤ length keys
    → ((k : ℕ) → k < length (take (upto - from) (drop from keys)) → IsFree cells (cell_of base (get_or (take (upto - from) (drop from keys)) k 0)))
    → (k : ℕ) → from ≤ k → k < upto → IsFree cells (cell_of base (get_or keys k 0))
family_free keys cells from upto base within free k low high =
    let j : ℕ = k - from in
    let long : length (take (upto - from) (drop from keys)) ≡ upto - from =
    length-take-le (upto - from) (drop from keys) (omega (arith, length-drop from keys)) in
    let is : get_or (take (upto - from) (drop from keys)) (k - from) 0 ≡ get_or keys k 0 =
    get_or-take (upto - from) (drop from keys) (k - from) 0 (omega arith)
    ∙ get_or-drop from keys (k - from) 0
    ∙ ap (λ m. get_or keys m 0) (omega arith) in
    subst (λ x. IsFree cells (cell_of base x)) is (free (k - from) (omega (arith, long)))
