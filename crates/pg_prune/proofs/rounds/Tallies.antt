-- The numbers of entries by value, with an entry and without it, and the greatest value.
use Rattle.std.proofs.Common.{◌≡◌, ◌≢◌, ℕ, zero, suc, ◌+◌, ◌-◌, ◌<◌, ◌≤◌, Bool, true, false, cond, ◌&&◌, List, [], ◌∷◌, ◌++◌, map, length, get_or, max, ◌⊎◌, inl, inr, refl, sym, subst, ap, ◌∙◌, arith}
use Rattle.std.proofs.Math.ListN.{set}
use Rattle.std.specs.Prelude.{nat_eq, nat_lt, sum_by}
use Rattle.std.specs.List.{list_all, range_with_len}
use Rattle.std.proofs.lemmas.Bool.{eq-eqb, eqb-true, lt-ltb, leb-true}
use Rattle.std.proofs.lemmas.List.Sums.{sum_by-append}
use Rattle.pg_types.proofs.BoolFacts.{and_first, and_second, no_test}
use Rattle.pg_patterns.specs.Values.{Patterns, value_at}
use Rattle.pg_patterns.specs.Inside.PatternMaps.{is_entry}
use Rattle.pg_prune.specs.Inside.positions.PositionInReach.{PositionInReach}
use Rattle.pg_prune.specs.Inside.positions.EntryPositions.{stands}
use Rattle.pg_prune.specs.Inside.rounds.Holders.{count_at, holder_counts, greatest_value_from, greatest_held, with_one, less_one}

-- where two functions agree on numbers, so do the lists that they make
map_same : (f g : ℕ → ℕ) (a n : ℕ) → ((u : ℕ) → a ≤ u → f u ≡ g u) → map f (range_with_len a n) ≡ map g (range_with_len a n)
map_same f g a zero same = refl
map_same f g a (suc n) same = ap (λ h. h ∷ map f (range_with_len (a + 1) n)) (same a (omega arith)) ∙ ap (λ t. g a ∷ t) (map_same f g (a + 1) n (λ u low. same u (omega arith)))

-- where they differ by one at one number, the lists differ there
map_more : (f g : ℕ → ℕ) (a i n : ℕ) → i < n → f (a + i) ≡ g (a + i) + 1 → ((u : ℕ) → u ≢ a + i → f u ≡ g u)
    → map f (range_with_len a n) ≡ set (map g (range_with_len a n)) i (get_or (map g (range_with_len a n)) i 0 + 1)
map_more f g a i zero inside more same = absurd (omega arith)
map_more f g a zero (suc n) inside more same =
    let here : f a ≡ g a + 1 = subst (λ k. f k ≡ g k + 1) (omega arith) more in
    ap (λ h. h ∷ map f (range_with_len (a + 1) n)) here ∙ ap (λ t. (g a + 1) ∷ t) (map_same f g (a + 1) n (λ u low. same u (omega arith)))
map_more f g a (suc i) (suc n) inside more same =
    let at : a + suc i ≡ a + 1 + i = omega arith in
    ap (λ h. h ∷ map f (range_with_len (a + 1) n)) (same a (omega arith))
    ∙ ap (λ t. g a ∷ t) (map_more f g (a + 1) i n (omega arith) (subst (λ k. f k ≡ g k + 1) at more) (λ u other. same u (subst (λ k. u ≢ k) (sym at) other)))

-- an entry in a map counts once
one_more : (before : Patterns) (e : (List ℕ × ℕ) × ℕ) (behind : Patterns) (x : PositionInReach) (v : ℕ) → count_at (before ++ e ∷ behind) x v
    ≡ count_at (before ++ behind) x v + cond (stands e x && nat_eq e.1 v) 1 0
one_more before e behind x v =
    let f : (List ℕ × ℕ) × ℕ → ℕ = λ e. cond (stands e x && nat_eq e.1 v) 1 0 in
    let whole : count_at (before ++ e ∷ behind) x v ≡ sum_by f before + sum_by f (e ∷ behind) = sum_by-append f before (e ∷ behind) in
    let first : sum_by f (e ∷ behind) ≡ 0 + cond (stands e x && nat_eq e.1 v) 1 0 + sum_by f behind = sum_by-append f (e ∷ []) behind in
    let rest : count_at (before ++ behind) x v ≡ sum_by f before + sum_by f behind = sum_by-append f before behind in
    omega arith

plus_none : (n : ℕ) (b : Bool) → b ≡ false → n + cond {A = ℕ} b 1 0 ≡ n
plus_none n true is = absurd (cc)
plus_none n false is = omega arith

plus_one : (n : ℕ) (b : Bool) → b ≡ true → n + cond {A = ℕ} b 1 0 ≡ n + 1
plus_one n true is = refl
plus_one n false is = absurd (cc)

module _ (before : Patterns) (e : (List ℕ × ℕ) × ℕ) (behind : Patterns) (x : PositionInReach) where
  pub tally_away : stands e x ≡ false → holder_counts (before ++ e ∷ behind) x ≡ holder_counts (before ++ behind) x
  tally_away away = map_same (count_at (before ++ e ∷ behind) x) (count_at (before ++ behind) x) 1 9 (λ u low.
      one_more before e behind x u ∙ plus_none (count_at (before ++ behind) x u) (stands e x && nat_eq e.1 u) (ap (λ b. b && nat_eq e.1 u) away))

  pub tally_there : 1 ≤ e.1 → e.1 ≤ 9 → stands e x ≡ true → holder_counts (before ++ e ∷ behind) x ≡ with_one (holder_counts (before ++ behind) x) e.1
  tally_there low high there =
      let at : 1 + (e.1 - 1) ≡ e.1 = omega arith in
      map_more (count_at (before ++ e ∷ behind) x) (count_at (before ++ behind) x) 1 (e.1 - 1) 9 (omega arith)
      (one_more before e behind x (1 + (e.1 - 1)) ∙ plus_one (count_at (before ++ behind) x (1 + (e.1 - 1))) (stands e x && nat_eq e.1 (1 + (e.1 - 1)))
      (ap (λ b. b && nat_eq e.1 (1 + (e.1 - 1))) there ∙ eq-eqb e.1 (1 + (e.1 - 1)) (sym at)))
      (λ u other. one_more before e behind x u ∙ plus_none (count_at (before ++ behind) x u) (stands e x && nat_eq e.1 u)
      (ap (λ b. b && nat_eq e.1 u) there ∙ no_test (nat_eq e.1 u) (λ t. absurd (other (sym (eqb-true e.1 u t) ∙ sym at)))))

-- one more and one less is as before
less_more : (c : List ℕ) (i : ℕ) → i < length c → set (set c i (get_or c i 0 + 1)) i (get_or (set c i (get_or c i 0 + 1)) i 0 - 1) ≡ c
less_more [] i inside = absurd (omega arith)
less_more (n ∷ c) zero inside = ap (λ k. k ∷ c) (omega arith)
less_more (n ∷ c) (suc i) inside = ap (λ t. n ∷ t) (less_more c i (omega arith))

pub less_with : (c : List ℕ) (v : ℕ) → v - 1 < length c → less_one (with_one c v) v ≡ c
less_with c v inside = less_more c (v - 1) inside

-- the greatest value, where one at most as great as all that follow is known
top_max : (b a n : ℕ) (cs : List ℕ) → b ≤ n → greatest_value_from (max b a) n cs ≡ max b (greatest_value_from a n cs)
top_max b a n [] low = refl
top_max b a n (c ∷ cs) low =
    elim (nat_lt 0 c) as (λ t. greatest_value_from (cond t (n + 1) (max b a)) (n + 1) cs ≡ max b (greatest_value_from (cond t (n + 1) a) (n + 1) cs)) [
      | true ↦ ap (λ k. greatest_value_from k (n + 1) cs) (omega arith) ∙ top_max b (n + 1) (n + 1) cs (omega arith)
      | false ↦ top_max b a (n + 1) cs (omega arith)
    ]

below_next : (t : Bool) (b n : ℕ) → b ≤ n → cond t (n + 1) b ≤ n + 1
below_next true b n low = omega arith
below_next false b n low = omega arith

next_is_max : (t : Bool) (b n : ℕ) → b ≤ n → n + 1 ≡ max (n + zero + 1) (cond t (n + 1) b)
next_is_max true b n low = omega arith
next_is_max false b n low = omega arith

-- the greatest value with one entry more
top_more : (b n : ℕ) (cs : List ℕ) (i : ℕ) → b ≤ n → i < length cs → greatest_value_from b n (set cs i (get_or cs i 0 + 1)) ≡ max (n + i + 1) (greatest_value_from b n cs)
top_more b n [] i low inside = absurd (omega arith)
top_more b n (c ∷ cs) zero low inside =
    let some : nat_lt 0 (c + 1) ≡ true = lt-ltb 0 (c + 1) (omega arith) in
    ap (λ t. greatest_value_from (cond t (n + 1) b) (n + 1) cs) some
    ∙ ap (λ k. greatest_value_from k (n + 1) cs) (next_is_max (nat_lt 0 c) b n low)
    ∙ top_max (n + zero + 1) (cond (nat_lt 0 c) (n + 1) b) (n + 1) cs (omega arith)
top_more b n (c ∷ cs) (suc i) low inside =
    top_more (cond (nat_lt 0 c) (n + 1) b) (n + 1) cs i (below_next (nat_lt 0 c) b n low) (omega arith)
    ∙ (let at : n + 1 + i + 1 ≡ n + suc i + 1 = omega arith in ap (λ k. max k (greatest_value_from (cond (nat_lt 0 c) (n + 1) b) (n + 1) cs)) at)

pub greatest_value_with : (c : List ℕ) (v : ℕ) → 1 ≤ v → v - 1 < length c → greatest_held (with_one c v) ≡ max v (greatest_held c)
greatest_value_with c v low inside = top_more 0 0 c (v - 1) (omega arith) inside ∙ (let at : 0 + (v - 1) + 1 ≡ v = omega arith in ap (λ k. max k (greatest_held c)) at)

-- the bounds of an entry's value
pub entry_low : (e : (List ℕ × ℕ) × ℕ) → is_entry e ≡ true → 1 ≤ e.1
entry_low e sound = leb-true _ _ (and_second _ _ (and_first _ _ sound))

pub entry_high : (e : (List ℕ × ℕ) × ℕ) → is_entry e ≡ true → e.1 ≤ 9
entry_high e sound = leb-true _ _ (and_second _ _ sound)

either : (b : Bool) → (b ≡ true) ⊎ (b ≡ false)
either true = inl refl
either false = inr refl

-- the value of a position is the greatest that some entry gives
pub greatest_value_is : (Q : Patterns) (x : PositionInReach) → list_all is_entry Q ≡ true → greatest_held (holder_counts Q x) ≡ value_at Q x.1 x.0.position
greatest_value_is [] x sound = refl
greatest_value_is (e ∷ Q) x sound =
    let low = entry_low e (and_first _ _ sound) in
    let high = entry_high e (and_first _ _ sound) in
    let others = greatest_value_is Q x (and_second _ _ sound) in
    elim (either (stands e x)) [
      | inl there ↦ ap greatest_held (tally_there [] e Q x low high there) ∙ greatest_value_with (holder_counts Q x) e.1 low (omega arith)
          ∙ ap (max e.1) others ∙ ap (λ b. max (cond b e.1 0) (value_at Q x.1 x.0.position)) (sym there)
      | inr away ↦ ap greatest_held (tally_away [] e Q x away) ∙ others ∙ (let at : value_at Q x.1 x.0.position ≡ max 0 (value_at Q x.1 x.0.position) = omega arith in at)
          ∙ ap (λ b. max (cond b e.1 0) (value_at Q x.1 x.0.position)) (sym away)
    ]
