-- What the entries of a map of patterns keep.
use Rattle.std.proofs.Common.{◌≡◌, ℕ, suc, zero, ◌<◌, ◌≤◌, true, false, cond, List, [], ◌∷◌, length, get_or, Some, unwrap_or, max, sym, refl, subst, arith}
use Rattle.std.proofs.lemmas.Bool.{leb-true, le-leb, and_from}
use Rattle.std.proofs.lemmas.List.Elements.{All-nil, All-cons}
use Rattle.std.specs.declared.cmp.Ordering.TheVariants.{Less, Equal, Greater}
use Rattle.std.specs.Ordering.{eq_by_cmp}
use Rattle.std.specs.FinMap.Entries.{put, find, by_order, is_sorted-put}
use Rattle.std.specs.List.{list_all, All}
use Rattle.pg_types.specs.declared.limits.TheConstants.{LEVEL_MAX, PATTERN_SIGNS_MAX}
use Rattle.pg_types.specs.Inside.Signs.{is_sign}
use Rattle.pg_patterns.specs.DottedSigns.{dotted_cmp}
use Rattle.pg_patterns.specs.Inside.DottedOrder.{dotted_total}
use Rattle.pg_patterns.specs.Values.{Patterns, raise, value_of, largest}
use Rattle.pg_patterns.specs.Inside.PatternMaps.{is_entry, IsPatternMap}
use Rattle.pg_types.proofs.BoolFacts.{and_first, and_second}

-- what is said of an entry
pub record EntryBounds (e : (List ℕ × ℕ) × ℕ) : Type 0 where
  pub some : 1 ≤ length e.0.0
  pub few : length e.0.0 ≤ PATTERN_SIGNS_MAX
  pub signs : list_all is_sign e.0.0 ≡ true
  pub dot : e.0.1 ≤ length e.0.0
  pub low : 1 ≤ e.1
  pub high : e.1 ≤ LEVEL_MAX

-- each sign is at least 1
pub each_sign : (q : List ℕ) → list_all is_sign q ≡ true → All (λ s. 1 ≤ s) q
each_sign [] h = All-nil _
each_sign (s ∷ q) h = All-cons (λ s. 1 ≤ s) s q (leb-true 1 s (and_first _ _ h)) (each_sign q (and_second _ _ h))

pub entry_bounds : (e : (List ℕ × ℕ) × ℕ) → is_entry e ≡ true → EntryBounds e
entry_bounds e h =
    let to_low = and_first _ _ h in
    let to_dot = and_first _ _ to_low in
    let to_each = and_first _ _ to_dot in
    let to_few = and_first _ _ to_each in
    record {
      some = leb-true 1 (length e.0.0) (and_first _ _ to_few);
      few = leb-true (length e.0.0) PATTERN_SIGNS_MAX (and_second _ _ to_few);
      signs = and_second _ _ to_each;
      dot = leb-true e.0.1 (length e.0.0) (and_second _ _ to_dot);
      low = leb-true 1 e.1 (and_second _ _ to_low);
      high = leb-true e.1 LEVEL_MAX (and_second _ _ h);
    }

pub entry_told : (e : (List ℕ × ℕ) × ℕ) → EntryBounds e → is_entry e ≡ true
entry_told e b =
    and_from _ _ (and_from _ _ (and_from _ _ (and_from _ _ (and_from _ _ (le-leb 1 (length e.0.0) b.some) (le-leb (length e.0.0) PATTERN_SIGNS_MAX b.few)) b.signs)
    (le-leb e.0.1 (length e.0.0) b.dot)) (le-leb 1 e.1 b.low)) (le-leb e.1 LEVEL_MAX b.high)

pub entry_at : (P : Patterns) (i : ℕ) (d : (List ℕ × ℕ) × ℕ) → list_all is_entry P ≡ true → i < length P → is_entry (get_or P i d) ≡ true
entry_at [] i d sound inside = absurd (omega arith)
entry_at (e ∷ es) zero d sound inside = and_first _ _ sound
entry_at (e ∷ es) (suc i) d sound inside = entry_at es i d (and_second _ _ sound) (omega arith)

-- the bounds of an entry that is lent in its parts
pub bounds_lent : (P Q : Patterns) (i : ℕ) (e : (List ℕ × ℕ) × ℕ) (q : List ℕ) (dot : ℕ) → IsPatternMap P → P ≡ Q → i < length Q → e
    ≡ get_or P i e → q ≡ e.0.0 → dot ≡ e.0.1 → EntryBounds ((q, dot), e.1)
bounds_lent P Q i e q dot map same inside is signs at =
    let within : i < length P = subst (λ x. i < length x) (sym same) inside in
    let there : is_entry e ≡ true = subst (λ x. is_entry x ≡ true) (sym is) (entry_at P i e map.sound within) in
    subst (λ x. EntryBounds ((x, dot), e.1)) (sym signs) (subst (λ x. EntryBounds ((e.0.0, x), e.1)) (sym at) (entry_bounds e there))

-- no value is greater than the greatest level
pub value_of_bound : (P : Patterns) (k : List ℕ × ℕ) → list_all is_entry P ≡ true → value_of P k ≤ LEVEL_MAX
value_of_bound [] k sound = omega arith
value_of_bound (e ∷ es) k sound =
    elim (eq_by_cmp dotted_cmp k e.0) as (λ t. unwrap_or (cond t (Some e.1) (find dotted_cmp k es)) 0 ≤ LEVEL_MAX) [
      | true ↦ (entry_bounds e (and_first _ _ sound)).high
      | false ↦ value_of_bound es k (and_second _ _ sound)
    ]

max_bound : (a b : ℕ) → a ≤ LEVEL_MAX → b ≤ LEVEL_MAX → max a b ≤ LEVEL_MAX
max_bound a b p q = omega arith

pub largest_bound : (P : Patterns) → list_all is_entry P ≡ true → largest P ≤ LEVEL_MAX
largest_bound [] sound = omega arith
largest_bound (e ∷ es) sound =
    max_bound e.1 (largest es) (entry_bounds e (and_first _ _ sound)).high (largest_bound es (and_second _ _ sound))

below_greatest : (n m g : ℕ) → max n m ≡ g → g ≤ LEVEL_MAX → n ≤ LEVEL_MAX
below_greatest n m g is bound = omega arith

-- the greatest so far is bounded as the greatest of all
pub greatest_bound : (P es : List ((List ℕ × ℕ) × ℕ)) (n m : ℕ) → IsPatternMap P → es ≡ P → max n m ≡ largest es → n ≤ LEVEL_MAX
greatest_bound P es n m map same is =
    below_greatest n m (largest es) is (largest_bound es (subst (λ x. list_all is_entry x ≡ true) (sym same) map.sound))

sound_put : (k : List ℕ × ℕ) (v : ℕ) (P : Patterns) → is_entry (k, v) ≡ true → list_all is_entry P ≡ true → list_all is_entry (put dotted_cmp k v P) ≡ true
sound_put k v [] new sound = and_from _ _ new refl
sound_put k v (e ∷ es) new sound =
    let here = entry_bounds e (and_first _ _ sound) in
    let put_in = entry_bounds (k, v) new in
    let tied : is_entry (e.0, v) ≡ true = entry_told (e.0, v) (record { some = here.some; few = here.few; signs = here.signs; dot = here.dot; low = put_in.low; high = put_in.high }) in
    elim (dotted_cmp k e.0) as (λ o. list_all is_entry (by_order o ((k, v) ∷ e ∷ es) ((e.0, v) ∷ es) (e ∷ put dotted_cmp k v es)) ≡ true) [
      | Less ↦ and_from _ _ new sound
      | Equal ↦ and_from _ _ tied (and_second _ _ sound)
      | Greater ↦ and_from _ _ (and_first _ _ sound) (sound_put k v es new (and_second _ _ sound))
    ]

-- a map stays one when a value is raised
pub raise_keeps : (P : Patterns) (k : List ℕ × ℕ) (v : ℕ) → IsPatternMap P → EntryBounds (k, v) → IsPatternMap (raise P k v)
raise_keeps P k v map new =
    let old : value_of P k ≤ LEVEL_MAX = value_of_bound P k map.sound in
    let low : 1 ≤ v = new.low in
    let high : v ≤ LEVEL_MAX = new.high in
    let bounds : EntryBounds (k, max v (value_of P k)) = record { some = new.some; few = new.few; signs = new.signs; dot = new.dot; low = omega arith; high = omega arith } in
    record {
      sorted = is_sorted-put dotted_cmp dotted_total k (max v (value_of P k)) P map.sorted;
      sound = sound_put k (max v (value_of P k)) P (entry_told (k, max v (value_of P k)) bounds) map.sound;
    }
