-- The indices of the keys are the numbers of the next length.
use Rattle.std.proofs.Common.{◌≡◌, ◌≢◌, ℕ, ◌+◌, ◌*◌, ◌<◌, ◌≤◌, Bool, true, false, List, ◌++◌, length, get_or, set, take, drop, refl, sym, ap, ◌∙◌, subst, arith, ⊎_elim, below_more}
use mathlib.Core.Bool.{true≢false}
use Rattle.std.specs.declared.cmp.Ordering.{Ordering}
use Rattle.std.specs.Ordering.{nat_cmp, ordering_then}
use Rattle.std.specs.List.Sorted.{IsStrictlyIncreasing}
use Rattle.std.proofs.lemmas.Bool.{cases_lt, cases_eq}
use Rattle.std.proofs.lemmas.Cmp.{ranked, by_ranked}
use Rattle.std.proofs.lemmas.List.{take-append-le, get_or-set_other, get_or-set_same}
use Rattle.std.proofs.lemmas.List.Elements.{Contains-get_or}
use Rattle.std.proofs.lemmas.List.Kept.{AllPairs-from_increasing}
use Rattle.std.proofs.Math.Seq.{take-length}
use Rattle.pg_starts.specs.Inside.Orders.{AreKeys, AreOrdered, AreNumbers, AreRanks, key_at, then_part}
use Rattle.pg_starts.specs.Inside.Cells.{number_of}
use Rattle.pg_starts.proofs.Orders.{cmp_less, cmp_equal, cmp_greater, cmp_pack}

-- the starts below n have their ranks
pub record RankedBelow (test : ℕ → Bool) (part : ℕ → ℕ) (old keys : List ℕ) (n : ℕ) (num first : List ℕ) : Type 0 where
  pub later : (j : ℕ) → n ≤ j → get_or num j 0 ≡ get_or old j 0
  pub rank : (j : ℕ) → j < n → test j ≡ true → (get_or num j 0 < length keys) × (get_or keys (get_or num j 0) 0 ≡ key_at part old j)
  pub back : (j : ℕ) → j < n → test j ≡ true
      → (get_or first (get_or num j 0) 0 < n) × (test (get_or first (get_or num j 0) 0) ≡ true) × (get_or num (get_or first (get_or num j 0) 0) 0 ≡ get_or num j 0)

module _ (test : ℕ → Bool) (part : ℕ → ℕ) (old keys : List ℕ) where
  pub ranked_none : (num first : List ℕ) → num ≡ old → RankedBelow test part old keys 0 num first
  ranked_none num first e = record {
    later = λ j h. ap (λ l. get_or l j 0) e;
    rank = λ j h. absurd (omega arith);
    back = λ j h. absurd (omega arith);
  }

  -- no start stands between
  pub ranked_skip : (i t : ℕ) (num first : List ℕ) → i ≤ t → ((j : ℕ) → i ≤ j → j < t → test j ≡ false) → RankedBelow test part old keys i num first
      → RankedBelow test part old keys t num first
  ranked_skip i t num first le dead r = record {
    later = λ j h. r.later j (omega arith);
    rank = λ j h a. ⊎_elim (λ low. r.rank j low a) (λ high. absurd (true≢false (sym a ∙ dead j high h))) (cases_lt j i);
    back = λ j h a. ⊎_elim
        (λ low. let b = r.back j low a in let less : get_or first (get_or num j 0) 0 < i = b.0 in (omega (arith, less, le), b.1, b.2))
        (λ high. absurd (true≢false (sym a ∙ dead j high h))) (cases_lt j i);
  }

  pub ranked_step : (i r : ℕ) (num first : List ℕ) → i < length num → r < length keys → length first ≡ length keys → test i ≡ true
      → get_or keys r 0 ≡ key_at part old i → RankedBelow test part old keys i num first
      → RankedBelow test part old keys (i + 1) (set num i r) (set first r i)
  ranked_step i r num first inside low long live is b = record {
    later = λ j h. other j (omega arith) ∙ b.later j (omega arith);
    rank = below_more _ _
        (λ j h a. subst (λ q. (q < length keys) × (get_or keys q 0 ≡ key_at part old j)) (sym (other j (omega arith))) (b.rank j h a))
        (λ a. subst (λ q. (q < length keys) × (get_or keys q 0 ≡ key_at part old i)) (sym here) (low, is));
    back = below_more _ _
        (λ j h a. subst Back (sym (other j (omega arith))) (⊎_elim
        (λ e. subst Back (sym e) at_r)
        (λ ne. let old_back = b.back j h a in
        let less : get_or first (get_or num j 0) 0 < i = old_back.0 in
        subst (Leads (get_or num j 0)) (sym (get_or-set_other first r (get_or num j 0) i 0 ne))
        (omega arith, old_back.1, other _ (omega arith) ∙ old_back.2))
        (cases_eq (get_or num j 0) r)))
        (λ a. subst Back (sym here) at_r);
  }
    where
      Leads : ℕ → ℕ → Type 0
      Leads q f = (f < i + 1) × (test f ≡ true) × (get_or (set num i r) f 0 ≡ q)

      Back : ℕ → Type 0
      Back q = Leads q (get_or (set first r i) q 0)

      other : (j : ℕ) → j ≢ i → get_or (set num i r) j 0 ≡ get_or num j 0
      other j ne = get_or-set_other num i j r 0 ne

      here : get_or (set num i r) i 0 ≡ r
      here = get_or-set_same num i r 0 inside

      at_r : Back r
      at_r = subst (Leads r) (sym (get_or-set_same first r i 0 (omega arith))) (omega arith, live, here)

  -- when all starts have their ranks
  pub ranks_at_end : (n : ℕ) (num first : List ℕ) → ((i : ℕ) → test i ≡ true → i < n) → RankedBelow test part old keys n num first
      → AreRanks test part old keys num first
  ranks_at_end n num first within b = record {
    rank = λ i a. b.rank i (within i a) a;
    first_passes = λ i a. (b.back i (within i a) a).1;
    first_rank = λ i a. (b.back i (within i a) a).2;
  }

  -- distinct places of keys that rise have keys that compare as the places do
  pub cmp_places : IsStrictlyIncreasing keys → (p q : ℕ) → p < length keys → q < length keys
      → nat_cmp p q ≡ nat_cmp (get_or keys p 0) (get_or keys q 0)
  cmp_places rising p q hp hq = by_ranked (p < q) (p ≡ q) (q < p) (nat_cmp p q) (ranked p q (nat_cmp p q) refl)
      (λ e h. e ∙ sym (cmp_less _ _ (AllPairs-from_increasing keys rising p q 0 h hq)))
      (λ e h. e ∙ sym (cmp_equal _ _ (ap (λ k. get_or keys k 0) h)))
      (λ e h. e ∙ sym (cmp_greater _ _ (AllPairs-from_increasing keys rising q p 0 h hp)))

  -- equal keys have one place
  pub one_place : IsStrictlyIncreasing keys → (p q : ℕ) → p < length keys → q < length keys → get_or keys p 0 ≡ get_or keys q 0 → p ≡ q
  one_place rising p q hp hq e = by_ranked (p < q) (p ≡ q) (q < p) (nat_cmp p q) (ranked p q (nat_cmp p q) refl)
      (λ _ h. let up = AllPairs-from_increasing keys rising p q 0 h hq in absurd (omega (arith, up)))
      (λ _ h. h)
      (λ _ h. let up = AllPairs-from_increasing keys rising q p 0 h hp in absurd (omega (arith, up)))

  -- the ranks are numbers that take in the parts
  pub numbers_from_ranks : (order : ℕ → ℕ → Ordering) (next first : List ℕ) (count : ℕ) → length first ≡ length keys
      → ((k : ℕ) → part k < 64) → AreOrdered order test old count → AreKeys test part old keys
      → AreRanks test part old keys next first → AreNumbers (then_part order part) test next first
  numbers_from_ranks order next first count long narrow a k r = record {
    ordered = record {
      below = λ i live. let low = (r.rank i live).0 in omega (arith, low);
      compare = λ i j hi hj.
          let x = r.rank i hi in
          let y = r.rank j hj in
          cmp_places k.rising (get_or next i 0) (get_or next j 0) x.0 y.0
          ∙ ap (λ v. nat_cmp v (get_or keys (get_or next j 0) 0)) x.1
          ∙ ap (nat_cmp (key_at part old i)) y.1
          ∙ cmp_pack 64 (get_or old i 0) (get_or old j 0) (part i) (part j) (narrow i) (narrow j)
          ∙ ap (λ o. ordering_then o (nat_cmp (part i) (part j))) (a.compare i j hi hj);
    };
    taken = λ p low.
        let here : p < length keys = omega arith in
        let has = k.from (get_or keys p 0) (Contains-get_or keys p 0 here) in
        let x = r.rank has.0 has.1 in
        let same : get_or next has.0 0 ≡ p = one_place k.rising (get_or next has.0 0) p x.0 here (x.1 ∙ has.2) in (
          subst (λ q. test (get_or first q 0) ≡ true) same (r.first_passes has.0 has.1),
          subst (λ q. get_or next (get_or first q 0) 0 ≡ q) same (r.first_rank has.0 has.1),
        );
  }

-- a slice of a Vec that is written whole
pub written_whole : (new old : List ℕ) (n : ℕ) → length new ≡ n → take n (new ++ drop (length new) old) ≡ new
written_whole new old n e = rw (sym e) (take-append-le (length new) new (drop (length new) old) (omega arith) ∙ take-length new)

-- the numbers in keys are below the count
pub keys_low : (test : ℕ → Bool) (part : ℕ → ℕ) (num keys : List ℕ) (count : ℕ)
    → ((k : ℕ) → part k < 64) → ((i : ℕ) → test i ≡ true → get_or num i 0 < count) → AreKeys test part num keys
    → (k : ℕ) → k < length keys → number_of (get_or keys k 0) < count
keys_low test part num keys count narrow below ks k h =
    let has = ks.from (get_or keys k 0) (Contains-get_or keys k 0 h) in
    let low = below has.0 has.1 in
    let sign = narrow has.0 in
    let is : get_or num has.0 0 * 64 + part has.0 ≡ get_or keys k 0 = has.2 in
    omega (arith, low, sign, is)
