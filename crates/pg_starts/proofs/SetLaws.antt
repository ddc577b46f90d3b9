-- Sets of parts of signs, marked one start at a time.
use Rattle.std.proofs.Common.{◌≡◌, ◌≢◌, ℕ, ◌+◌, ◌*◌, ◌%◌, ◌<◌, ◌≤◌, ◌^◌, Bool, true, false, List, [], ◌∷◌, ◌++◌, length, get_or, set, sym, ap, ◌∙◌, subst, arith, ⊎_elim, below_more, bit_and, bit_or, w64, inl, inr, ◌⊎◌}
use mathlib.Core.Bool.{true≢false}
use Rattle.std.proofs.Common.{eqb, map}
use Rattle.std.specs.List.{IsDistinct, range_with_len}
use Rattle.std.specs.Cmp.{nat_eq_equiv}
use Rattle.std.proofs.lemmas.Bool.Decides.{nat_tests}
use Rattle.std.proofs.lemmas.List.Kept.{AllPairs-from_increasing}
use Rattle.std.proofs.lemmas.List.FromFn.{length-map-range_with_len, get_or-map-range_with_len}
use Rattle.std.proofs.lemmas.Map.Keys.{IsDistinct-from_apart}
use Rattle.std.proofs.lemmas.Map.Made.{length-le_from_is_member}
use Rattle.std.proofs.lemmas.Map.Views.{Contains-from_any, list_any-from_Contains}
use Rattle.std.specs.Int.{bit_at, bit_not, trailing_zeros}
use Rattle.std.specs.List.{Contains}
use Rattle.std.specs.List.Sorted.{IsStrictlyIncreasing}
use Rattle.std.proofs.lemmas.Bool.{cases_lt, cases_eq}
use Rattle.std.proofs.lemmas.List.{get_or-set_other, get_or-set_same, length-append, get_or_push}
use Rattle.std.proofs.Math.ListN.{get_or-append}
use Rattle.std.proofs.lemmas.List.Elements.{Contains-append_left, Contains-push, Contains-push_cases, Contains-get_or}
use Rattle.std.proofs.lemmas.Nat.{and_le_l}
use Rattle.std.proofs.lemmas.Nat.Bits.{bit_at-zero, bit_at_set_same, bit_at_set_other, bit_at_clear_same, bit_at_clear_other, bit_at-trailing_zeros}
use Rattle.pg_starts.specs.Inside.Orders.{AreKeys, key_at}
use Rattle.pg_starts.specs.Inside.Sets.{AreSets, AreOfSets}

-- the sets of the starts below n
pub record SetsBelow (test : ℕ → Bool) (part : ℕ → ℕ) (num : List ℕ) (n : ℕ) (sets : List ℕ) : Type 0 where
  pub each : (i : ℕ) → i < n → test i ≡ true → bit_at (get_or sets (get_or num i 0) 0) (part i) ≡ 1
  pub from : (r s : ℕ) → s < 64 → bit_at (get_or sets r 0) s ≡ 1 → (i : ℕ) × (test i ≡ true) × (get_or num i 0 ≡ r) × (part i ≡ s)

module _ (test : ℕ → Bool) (part : ℕ → ℕ) (num : List ℕ) where
  pub sets_none : (sets : List ℕ) → ((r : ℕ) → get_or sets r 0 ≡ 0) → SetsBelow test part num 0 sets
  sets_none sets zero = record {
    each = λ i h. absurd (omega arith);
    from = λ r s h bit. let none : bit_at (get_or sets r 0) s ≡ 0 = ap (λ n. bit_at n s) (zero r) ∙ bit_at-zero s in absurd (omega (arith, none, bit));
  }

  -- no start stands between
  pub sets_skip : (i t : ℕ) (sets : List ℕ) → ((j : ℕ) → i ≤ j → j < t → test j ≡ false) → SetsBelow test part num i sets → SetsBelow test part num t sets
  sets_skip i t sets dead a = record {
    each = λ j h live. ⊎_elim (λ low. a.each j low live) (λ high. absurd (true≢false (sym live ∙ dead j high h))) (cases_lt j i);
    from = a.from;
  }

  pub sets_whole : (n : ℕ) (sets : List ℕ) → ((i : ℕ) → test i ≡ true → i < n) → SetsBelow test part num n sets → AreSets test part num sets
  sets_whole n sets within a = record { each = λ i live. a.each i (within i live) live; from = a.from }

  pub sets_marked : (i r s : ℕ) (sets : List ℕ) → r ≡ get_or num i 0 → s ≡ part i → s < 64 → r < length sets → test i ≡ true
      → SetsBelow test part num i sets → SetsBelow test part num (i + 1) (set sets r (bit_or (get_or sets r 0) (1 * 2 ^ s % 2 ^ 64)))
  sets_marked i r s sets er es low inside live a = record {
    each = below_more _ _
        (λ j h jl. ⊎_elim
        (λ (same : get_or num j 0 ≡ r). ⊎_elim
        (λ (hit : part j ≡ s). mine_at (get_or num j 0) (part j) same hit)
        (λ (miss : part j ≢ s). kept_here (get_or num j 0) (part j) same miss ∙ a.each j h jl)
        (cases_eq (part j) s))
        (λ (other : get_or num j 0 ≢ r). kept_there (get_or num j 0) (part j) other ∙ a.each j h jl)
        (cases_eq (get_or num j 0) r))
        (λ jl. mine_at (get_or num i 0) (part i) (sym er) (sym es));
    from = λ q t h bit. ⊎_elim
        (λ (same : q ≡ r). ⊎_elim
        (λ (hit : t ≡ s). (i, live, sym er ∙ sym same, sym es ∙ sym hit))
        (λ (miss : t ≢ s). a.from q t h (sym (kept_here q t same miss) ∙ bit))
        (cases_eq t s))
        (λ (other : q ≢ r). a.from q t h (sym (kept_there q t other) ∙ bit))
        (cases_eq q r);
  }
    where
      mine_at : (q t : ℕ) → q ≡ r → t ≡ s → bit_at (get_or (set sets r (bit_or (get_or sets r 0) (1 * 2 ^ s % 2 ^ 64))) q 0) t ≡ 1
      mine_at q t eq et = ap (λ p. bit_at (get_or (set sets r (bit_or (get_or sets r 0) (1 * 2 ^ s % 2 ^ 64))) p 0) t) eq
          ∙ ap (λ n. bit_at n t) (get_or-set_same sets r (bit_or (get_or sets r 0) (1 * 2 ^ s % 2 ^ 64)) 0 inside)
          ∙ ap (bit_at (bit_or (get_or sets r 0) (1 * 2 ^ s % 2 ^ 64))) et
          ∙ bit_at_set_same w64 (get_or sets r 0) s low

      kept_here : (q t : ℕ) → q ≡ r → t ≢ s → bit_at (get_or (set sets r (bit_or (get_or sets r 0) (1 * 2 ^ s % 2 ^ 64))) q 0) t ≡ bit_at (get_or sets q 0) t
      kept_here q t eq ne = ap (λ p. bit_at (get_or (set sets r (bit_or (get_or sets r 0) (1 * 2 ^ s % 2 ^ 64))) p 0) t) eq
          ∙ ap (λ n. bit_at n t) (get_or-set_same sets r (bit_or (get_or sets r 0) (1 * 2 ^ s % 2 ^ 64)) 0 inside)
          ∙ bit_at_set_other w64 (get_or sets r 0) s low t ne
          ∙ ap (λ p. bit_at (get_or sets p 0) t) (sym eq)

      kept_there : (q t : ℕ) → q ≢ r → bit_at (get_or (set sets r (bit_or (get_or sets r 0) (1 * 2 ^ s % 2 ^ 64))) q 0) t ≡ bit_at (get_or sets q 0) t
      kept_there q t ne = ap (λ n. bit_at n t) (get_or-set_other sets r q (bit_or (get_or sets r 0) (1 * 2 ^ s % 2 ^ 64)) 0 ne)

-- the set of r is half gathered: the bits that are left are above all keys
pub record Emptying (sets : List ℕ) (r left : ℕ) (keys : List ℕ) : Type 0 where
  pub rising : IsStrictlyIncreasing keys
  pub low : (x : ℕ) → Contains keys x → (s : ℕ) → s < 64 → bit_at left s ≡ 1 → x < r * 64 + s
  pub top : (x : ℕ) → Contains keys x → x < (r + 1) * 64
  pub each : (q s : ℕ) → q < r → s < 64 → bit_at (get_or sets q 0) s ≡ 1 → Contains keys (q * 64 + s)
  pub here : (s : ℕ) → s < 64 → bit_at (get_or sets r 0) s ≡ 1 → Contains keys (r * 64 + s) ⊎ (bit_at left s ≡ 1)
  pub sub : (s : ℕ) → s < 64 → bit_at left s ≡ 1 → bit_at (get_or sets r 0) s ≡ 1
  pub from : (x : ℕ) → Contains keys x → (q : ℕ) × (s : ℕ) × (s < 64) × (bit_at (get_or sets q 0) s ≡ 1) × (q * 64 + s ≡ x)

increasing_push : (xs : List ℕ) (y : ℕ) → IsStrictlyIncreasing xs → ((x : ℕ) → Contains xs x → x < y) → IsStrictlyIncreasing (xs ++ y ∷ [])
increasing_push xs y rising above k h =
    let long : length (xs ++ y ∷ []) ≡ length xs + 1 = length-append xs (y ∷ []) in
    let first : get_or (xs ++ y ∷ []) k 0 ≡ get_or xs k 0 = get_or-append xs (y ∷ []) 0 k (omega arith) in
    ⊎_elim
    (λ (within : k + 1 < length xs).
    let next : get_or (xs ++ y ∷ []) (k + 1) 0 ≡ get_or xs (k + 1) 0 = get_or-append xs (y ∷ []) 0 (k + 1) within in
    let up = rising k within in omega (arith, first, next, up))
    (λ (end : length xs ≤ k + 1).
    let next : get_or (xs ++ y ∷ []) (k + 1) 0 ≡ y = get_or_push xs y 0 (k + 1) (omega arith) in
    let up : get_or xs k 0 < y = above (get_or xs k 0) (Contains-get_or xs k 0 (omega arith)) in omega (arith, first, next, up))
    (cases_lt (k + 1) (length xs))

module _ (sets : List ℕ) (r : ℕ) where
  pub emptying_begins : (left : ℕ) (keys : List ℕ) → left ≡ get_or sets r 0 → AreOfSets sets r keys → Emptying sets r left keys
  emptying_begins left keys e a = record {
    rising = a.rising;
    low = λ x h s narrow bit. let b = a.low x h in omega (arith, b);
    top = λ x h. let b = a.low x h in omega (arith, b);
    each = a.each;
    here = λ s narrow bit. inr (ap (λ n. bit_at n s) e ∙ bit);
    sub = λ s narrow bit. sym (ap (λ n. bit_at n s) e) ∙ bit;
    from = a.from;
  }

  pub emptying_ends : (left : ℕ) (keys : List ℕ) → left ≡ 0 → Emptying sets r left keys → AreOfSets sets (r + 1) keys
  emptying_ends left keys e a = record {
    rising = a.rising;
    low = a.top;
    each = λ q s h narrow bit. ⊎_elim
        (λ (before : q < r). a.each q s before narrow bit)
        (λ (at : r ≤ q).
        let same : q ≡ r = omega (arith, at, h) in
        subst (λ p. Contains keys (p * 64 + s)) (sym same)
        (⊎_elim (λ c. c)
        (λ (b : bit_at left s ≡ 1). let none : bit_at left s ≡ 0 = ap (λ n. bit_at n s) e ∙ bit_at-zero s in absurd (omega (arith, b, none)))
        (a.here s narrow (ap (λ p. bit_at (get_or sets p 0) s) (sym same) ∙ bit))))
        (cases_lt q r);
    from = a.from;
  }

  pub emptying_more : (left : ℕ) (keys keys' : List ℕ) → 0 < left → left < 2 ^ 64
      → keys' ≡ keys ++ (r * 64 + trailing_zeros w64 left) ∷ []
      → Emptying sets r left keys
      → Emptying sets r (bit_and left (bit_not w64 (1 * 2 ^ trailing_zeros w64 left % 2 ^ 64))) keys'
  emptying_more left keys keys' some fits e a = subst (Emptying sets r (bit_and left (bit_not w64 (1 * 2 ^ trailing_zeros w64 left % 2 ^ 64)))) (sym e)
      (step (trailing_zeros w64 left) (bit_at-trailing_zeros w64 left some fits))
    where
      step : (t : ℕ) → (t < 64) × (bit_at left t ≡ 1) × ((i : ℕ) → i < t → bit_at left i ≡ 0)
          → Emptying sets r (bit_and left (bit_not w64 (1 * 2 ^ t % 2 ^ 64))) (keys ++ (r * 64 + t) ∷ [])
      step t f =
          let low_t : t < 64 = f.0 in
          let kept : (s : ℕ) → s < 64 → bit_at (bit_and left (bit_not w64 (1 * 2 ^ t % 2 ^ 64))) s ≡ 1 → (s ≢ t) × (bit_at left s ≡ 1) = λ s narrow bit. ⊎_elim
          (λ (same : s ≡ t).
          let gone : bit_at (bit_and left (bit_not w64 (1 * 2 ^ t % 2 ^ 64))) s ≡ 0 =
          ap (bit_at (bit_and left (bit_not w64 (1 * 2 ^ t % 2 ^ 64)))) same ∙ bit_at_clear_same w64 left t low_t in
          absurd (omega (arith, gone, bit)))
          (λ (other : s ≢ t). (other, sym (bit_at_clear_other w64 left t low_t s narrow other) ∙ bit))
          (cases_eq s t) in
          let above : (s : ℕ) → s < 64 → bit_at (bit_and left (bit_not w64 (1 * 2 ^ t % 2 ^ 64))) s ≡ 1 → t < s = λ s narrow bit.
          let k = kept s narrow bit in
          ⊎_elim
          (λ (under : s < t). let none = f.2 s under in absurd (omega (arith, none, k.1)))
          (λ (over : t ≤ s). let ne = k.0 in omega (arith, over, ne))
          (cases_lt s t) in
          record {
            rising = increasing_push keys (r * 64 + t) a.rising (λ x h. a.low x h t low_t f.1);
            low = λ x h s narrow bit. ⊎_elim
                (λ old. a.low x old s narrow (kept s narrow bit).1)
                (λ (new : r * 64 + t ≡ x). let up = above s narrow bit in omega (arith, new, up))
                (Contains-push_cases keys (r * 64 + t) x h);
            top = λ x h. ⊎_elim
                (λ old. a.top x old)
                (λ (new : r * 64 + t ≡ x). omega (arith, new, low_t))
                (Contains-push_cases keys (r * 64 + t) x h);
            each = λ q s h narrow bit. Contains-append_left keys ((r * 64 + t) ∷ []) (q * 64 + s) (a.each q s h narrow bit);
            here = λ s narrow bit. ⊎_elim
                (λ old. inl (Contains-append_left keys ((r * 64 + t) ∷ []) (r * 64 + s) old))
                (λ (b : bit_at left s ≡ 1). ⊎_elim
                (λ (same : s ≡ t). inl (subst (λ u. Contains (keys ++ (r * 64 + t) ∷ []) (r * 64 + u)) (sym same) (Contains-push keys (r * 64 + t))))
                (λ (other : s ≢ t). inr (bit_at_clear_other w64 left t low_t s narrow other ∙ b))
                (cases_eq s t))
                (a.here s narrow bit);
            sub = λ s narrow bit. a.sub s narrow (kept s narrow bit).1;
            from = λ x h. ⊎_elim
                (λ old. a.from x old)
                (λ (new : r * 64 + t ≡ x). (r, t, low_t, a.sub t low_t f.1, new))
                (Contains-push_cases keys (r * 64 + t) x h);
          }

pub clear_smaller : (left : ℕ) → 0 < left → left < 2 ^ 64
    → bit_and left (bit_not w64 (1 * 2 ^ trailing_zeros w64 left % 2 ^ 64)) < left
clear_smaller left some fits =
    let f = bit_at-trailing_zeros w64 left some fits in
    let t : ℕ = trailing_zeros w64 left in
    let le = and_le_l left (bit_not w64 (1 * 2 ^ trailing_zeros w64 left % 2 ^ 64)) in
    let gone = bit_at_clear_same w64 left (trailing_zeros w64 left) f.0 in
    let ne : bit_and left (bit_not w64 (1 * 2 ^ trailing_zeros w64 left % 2 ^ 64)) ≢ left = λ e.
    let bit : bit_at (bit_and left (bit_not w64 (1 * 2 ^ trailing_zeros w64 left % 2 ^ 64))) (trailing_zeros w64 left) ≡ 1 = ap (λ n. bit_at n (trailing_zeros w64 left)) e ∙ f.1 in
    absurd (omega (arith, bit, gone)) in
    omega (arith, le, ne)

eqb_apart : (x y : ℕ) → x < y → eqb x y ≡ false
eqb_apart x y h = grind (arith, nat_tests)

eqb_same : (x y : ℕ) → eqb x y ≡ true → x ≡ y
eqb_same x y h = grind (arith, nat_tests)

-- keys that rise, each that of a number below n, are at most n
pub few_keys : (keys : List ℕ) (f : ℕ → ℕ) (n : ℕ) → IsStrictlyIncreasing keys
    → ((x : ℕ) → Contains keys x → (i : ℕ) × (i < n) × (f i ≡ x)) → length keys ≤ n
few_keys keys f n rising from =
    let distinct : IsDistinct eqb keys = IsDistinct-from_apart eqb keys
    (λ i j d h inside. eqb_apart (get_or keys i d) (get_or keys j d) (AllPairs-from_increasing keys rising i j d h inside)) in
    let long : length (map f (range_with_len 0 n)) ≡ n = length-map-range_with_len f 0 n in
    let most : length keys ≤ length (map f (range_with_len 0 n)) = length-le_from_is_member nat_eq_equiv keys (map f (range_with_len 0 n)) distinct
    (λ q m.
    let has = from q (Contains-from_any eqb_same q keys m) in
    let at : get_or (map f (range_with_len 0 n)) has.0 q ≡ q = get_or-map-range_with_len f 0 n has.0 has.0 q has.1 (omega arith) ∙ has.2 in
    let low : has.0 < length (map f (range_with_len 0 n)) = (let less = has.1 in omega (arith, less, long)) in
    list_any-from_Contains nat_eq_equiv q (map f (range_with_len 0 n)) (has.0, low, at)) in
    omega (arith, most, long)

pub keys_from_sets : (test : ℕ → Bool) (part : ℕ → ℕ) (num : List ℕ) (count : ℕ) (sets keys : List ℕ)
    → ((k : ℕ) → part k < 64) → ((i : ℕ) → test i ≡ true → get_or num i 0 < count)
    → AreSets test part num sets → AreOfSets sets count keys → AreKeys test part num keys
keys_from_sets test part num count sets keys narrow below a of = record {
  rising = of.rising;
  each = λ i live. of.each (get_or num i 0) (part i) (below i live) (narrow i) (a.each i live);
  from = λ x h.
      let p = of.from x h in
      let q = a.from p.0 p.1 p.2 p.3 in
      (q.0, q.1, ap (λ n. n * 64 + part q.0) q.2 ∙ ap (λ s. p.0 * 64 + s) q.3 ∙ p.4);
}

pub few_from : (test : ℕ → Bool) (part : ℕ → ℕ) (num : List ℕ) (n : ℕ) (keys : List ℕ) → ((i : ℕ) → test i ≡ true → i < n) → AreKeys test part num keys → length keys ≤ n
few_from test part num n keys within k = few_keys keys (key_at part num) n k.rising (λ x h. let i = k.from x h in (i.0, within i.0 i.1, i.2))
