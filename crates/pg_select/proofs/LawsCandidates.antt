-- What each candidate of a pass has: a value below the level.
use Rattle.std.proofs.Common.{◌≡◌, ℕ, ◌+◌, ◌-◌, ◌<◌, ◌≤◌, nat_le, nat_lt, nat_eq, Bool, true, false, cond, not, ◌&&◌, List, [], ◌∷◌, length, map, fold, take, unwrap_or, Option, Some, None, max, refl, sym, ap, ◌∙◌, arith}
use Rattle.std.specs.declared.cmp.Ordering.{Ordering}
use Rattle.std.specs.declared.cmp.Ordering.TheVariants.{Less, Equal, Greater}
use Rattle.std.specs.Ordering.{eq_by_cmp}
use Rattle.std.specs.List.{list_any, list_all, flat_map, All}
use Rattle.std.specs.Cmp.Lexicographic.{pointwise}
use Rattle.std.specs.FinMap.Entries.{put, find, by_order}
use Rattle.std.proofs.lemmas.Bool.{le-leb, lt-ltb, ltb-true, leb-false, eq-eqb, and_from, or_parts}
use Rattle.std.proofs.lemmas.List.{take_all}
use Rattle.std.proofs.lemmas.List.Folds.{list_all-append}
use Rattle.std.proofs.lemmas.List.Sums.{AllPass-from_list_all}
use Rattle.pg_translate.specs.Alphabets.{Alphabet}
use Rattle.pg_dict.specs.Word.{Word}
use Rattle.pg_translate.specs.Reach.{positions}
use Rattle.pg_patterns.specs.DottedSigns.{dotted_cmp}
use Rattle.pg_patterns.specs.Inside.DottedOrder.{same_dotted, dotted_exact}
use Rattle.pg_patterns.specs.Values.{Patterns, value_of, raise, applies, stands_at}
use Rattle.pg_types.proofs.BoolFacts.{equal_is}
use Rattle.pg_patterns.proofs.Joins.{only, value_of_raise}
use Rattle.pg_select.specs.Statuses.{status_at, position_weight}
use Rattle.pg_select.specs.Windows.{Hopeless, window, fits, is_covered}
use Rattle.pg_select.specs.declared.pass.Pass.{Pass}
use Rattle.pg_select.specs.CountedPositions.{counts_as}
use Rattle.pg_select.specs.Inside.words.PositionLists.{CountedPosition, counted_positions_at, counted_positions, with_window, candidates}
use Rattle.pg_select.specs.Inside.words.WordCounts.{counted_positions_in}
use Rattle.pg_select.proofs.LawsCounts.{cmp, window_exact, counted_as}

-- a test of all windows with one more
all_put : (test : List ℕ → Bool) (u : List ℕ) (windows : List (List ℕ × Unit {0})) → list_all (λ (e : List ℕ × Unit {0}). test e.0) (put cmp u (tt {0}) windows)
    ≡ (test u && list_all (λ (e : List ℕ × Unit {0}). test e.0) windows)
all_put test u [] = refl
all_put test u (e ∷ es) =
    elim (cmp u e.0) as (λ (r : Ordering). cmp u e.0 ≡ r → list_all (λ (x : List ℕ × Unit {0}). test x.0) (by_order r ((u, tt {0}) ∷ e ∷ es) ((e.0, tt {0}) ∷ es) (e ∷ put cmp u (tt {0}) es))
    ≡ (test u && (test e.0 && list_all (λ (x : List ℕ × Unit {0}). test x.0) es))) [
      | Less ↦ λ r. refl
      | Equal ↦ λ r. twice (test u) (test e.0) (list_all (λ (x : List ℕ × Unit {0}). test x.0) es) (ap test (window_exact u e.0 r))
      | Greater ↦ λ r. ap (λ b. test e.0 && b) (all_put test u es) ∙ turned (test e.0) (test u) (list_all (λ (x : List ℕ × Unit {0}). test x.0) es)
    ] refl
  where
    twice : (a b c : Bool) → a ≡ b → (b && c) ≡ (a && (b && c))
    twice true b c e = refl
    twice false true c e = cc
    twice false false c e = refl

    turned : (a b c : Bool) → (a && (b && c)) ≡ (b && (a && c))
    turned true b c = refl
    turned false true c = refl
    turned false false c = refl

all_windows : (test : List ℕ → Bool) (windows : List (List ℕ × Unit {0})) (counted : List CountedPosition) → list_all (λ (e : List ℕ × Unit {0}). test e.0) (fold with_window windows counted)
    ≡ (list_all (λ (e : List ℕ × Unit {0}). test e.0) windows && list_all (λ (s : CountedPosition). test s.window) counted)
all_windows test windows [] = and_true (list_all (λ (e : List ℕ × Unit {0}). test e.0) windows)
  where
    and_true : (b : Bool) → b ≡ (b && true)
    and_true true = refl
    and_true false = refl
all_windows test windows (s ∷ ss) =
    all_windows test (with_window windows s) ss
    ∙ ap (λ b. b && list_all (λ (x : CountedPosition). test x.window) ss) (all_put test s.window windows)
    ∙ grouped (test s.window) (list_all (λ (e : List ℕ × Unit {0}). test e.0) windows) (list_all (λ (x : CountedPosition). test x.window) ss)
  where
    grouped : (a b c : Bool) → ((a && b) && c) ≡ (b && (a && c))
    grouped true b c = refl
    grouped false true c = refl
    grouped false false c = refl

all_keys : (test : List ℕ → Bool) (windows : List (List ℕ × Unit {0})) → list_all test (map (λ (e : List ℕ × Unit {0}). e.0) windows) ≡ list_all (λ (e : List ℕ × Unit {0}). test e.0) windows
all_keys test [] = refl
all_keys test (e ∷ es) = ap (λ b. test e.0 && b) (all_keys test es)

-- what holds of the candidates is what holds of the windows that are counted
pub all_candidates : (test : List ℕ → Bool) (counted : List CountedPosition) → list_all test (candidates counted) ≡ list_all (λ (s : CountedPosition). test s.window) counted
all_candidates test counted = all_keys test (fold with_window [] counted) ∙ all_windows test [] counted

itself : (u : List ℕ) → pointwise nat_eq u u ≡ true
itself [] = refl
itself (x ∷ xs) = and_from (nat_eq x x) (pointwise nat_eq xs xs) (eq-eqb x x refl) (itself xs)

-- a window stands in itself with its dot
pub applies_itself : (u : List ℕ) (d : ℕ) → applies u d (u, d) ≡ true
applies_itself u d =
    let none : d - d ≡ 0 = omega arith in
    let start : stands_at u u 0 ≡ true = and_from (nat_le (0 + length u) (length u)) (pointwise nat_eq u (take (length u) u)) (le-leb (0 + length u) (length u) (omega arith))
    (ap (pointwise nat_eq u) (take_all (length u) u (omega arith)) ∙ itself u) in
    and_from (nat_le d d) (stands_at u u (d - d)) (le-leb d d (omega arith)) (ap (stands_at u u) none ∙ start)

below : (level : ℕ) (P : Patterns) (u : List ℕ) (d : ℕ) → 1 ≤ level → list_any (λ (e : (List ℕ × ℕ) × ℕ). nat_le level e.1 && applies u d e.0) P ≡ false → value_of P (u, d) < level
below level [] u d low none = omega arith
below level (e ∷ es) u d low none =
    let parts = or_parts (nat_le level e.1 && applies u d e.0) (list_any (λ (x : (List ℕ × ℕ) × ℕ). nat_le level x.1 && applies u d x.0) es) none in
    elim (eq_by_cmp dotted_cmp (u, d) e.0) as (λ (b : Bool). eq_by_cmp dotted_cmp (u, d) e.0 ≡ b → unwrap_or (cond b (Some e.1) (find dotted_cmp (u, d) es)) 0 < level) [
      | true ↦ λ b.
          let there : applies u d e.0 ≡ true = ap (applies u d) (sym (dotted_exact (u, d) e.0 (equal_is (dotted_cmp (u, d) e.0) b))) ∙ applies_itself u d in
          leb-false level e.1 (first (nat_le level e.1) (applies u d e.0) there parts.0)
      | false ↦ λ b. below level es u d low parts.1
    ] refl
  where
    first : (a b : Bool) → b ≡ true → (a && b) ≡ false → a ≡ false
    first true b is none = cc
    first false b is none = refl

-- a window that is not covered has a value below the level
pub low_uncovered : (level : ℕ) (P : Patterns) (H : Hopeless) (u : List ℕ) (d : ℕ) → 1 ≤ level → is_covered level P H u d ≡ false → value_of P (u, d) < level
low_uncovered level P H u d low none = below level P u d low (or_parts (list_any (λ (e : (List ℕ × ℕ) × ℕ). nat_le level e.1 && applies u d e.0) P)
    (list_any (λ (e : (List ℕ × ℕ) × Unit {0}). applies u d e.0) H) none).0

-- what holds of all parts holds of the whole
pub all_flat : {X Y : Type 0} (test : Y → Bool) (f : X → List Y) (xs : List X) → ((x : X) → list_all test (f x) ≡ true) → list_all test (flat_map f xs) ≡ true
all_flat test f [] each = refl
all_flat test f (x ∷ xs) each = list_all-append test (f x) (flat_map f xs) ∙ and_from (list_all test (f x)) (list_all test (flat_map f xs)) (each x) (all_flat test f xs each)

-- what holds of the windows that are not covered holds of those that are counted
pub all_seen : (test : List ℕ → Bool) (m : Alphabet) (words : List Word) (pass : Pass) (P : Patterns) (H : Hopeless)
    → ((u : List ℕ) → is_covered pass.level P H u pass.dot ≡ false → test u ≡ true) → list_all (λ (s : CountedPosition). test s.window) (counted_positions m words pass P H) ≡ true
all_seen test m words pass P H each =
    all_flat (λ (s : CountedPosition). test s.window) (counted_positions_in m pass P H) words (λ w.
    all_flat (λ (s : CountedPosition). test s.window) (counted_positions_at pass P H w) (positions m.left m.right (length w.signs)) (λ p. at w p))
  where
    by_test : (u : List ℕ) (x : ℕ) (a c : Bool) (o : Option Bool) → (c ≡ false → test u ≡ true) → list_all (λ (s : CountedPosition). test s.window) (counted_as u x (cond (a && not c) o None)) ≡ true
    by_test u x false c o holds = refl
    by_test u x true true o holds = refl
    by_test u x true false None holds = refl
    by_test u x true false (Some good) holds = and_from (test u) true (holds refl) refl

    at : (w : Word) (p : ℕ) → list_all (λ (s : CountedPosition). test s.window) (counted_positions_at pass P H w p) ≡ true
    at w p =
        by_test (window w.signs p pass.len pass.dot) (position_weight w p) (fits w.signs p pass.len pass.dot) (is_covered pass.level P H (window w.signs p pass.len pass.dot) pass.dot)
        (counts_as pass.level (status_at P w p)) (each (window w.signs p pass.len pass.dot))

-- so each candidate has at the dot a value below the level
pub candidates_are_low : (m : Alphabet) (words : List Word) (pass : Pass) (P : Patterns) (H : Hopeless) → 1 ≤ pass.level
    → All (λ u. value_of P (u, pass.dot) < pass.level) (candidates (counted_positions m words pass P H))
candidates_are_low m words pass P H low i d inside =
    let all : list_all (λ (u : List ℕ). nat_lt (value_of P (u, pass.dot)) pass.level) (candidates (counted_positions m words pass P H)) ≡ true =
    all_candidates (λ (u : List ℕ). nat_lt (value_of P (u, pass.dot)) pass.level) (counted_positions m words pass P H)
    ∙ all_seen (λ (u : List ℕ). nat_lt (value_of P (u, pass.dot)) pass.level) m words pass P H
    (λ u none. lt-ltb (value_of P (u, pass.dot)) pass.level (low_uncovered pass.level P H u pass.dot low none)) in
    ltb-true _ pass.level (AllPass-from_list_all (λ (u : List ℕ). nat_lt (value_of P (u, pass.dot)) pass.level) (candidates (counted_positions m words pass P H)) all i d inside)

-- a place is the same as itself
same_itself : (k : List ℕ × ℕ) → same_dotted k k ≡ true
same_itself k = and_from (pointwise nat_eq k.0 k.0) (nat_eq k.1 k.1) (itself k.0) (eq-eqb k.1 k.1 refl)

-- and gets exactly the level when it is chosen
pub chosen_get_level : (m : Alphabet) (words : List Word) (pass : Pass) (P : Patterns) (H : Hopeless) → 1 ≤ pass.level
    → All (λ u. value_of (raise P (u, pass.dot) pass.level) (u, pass.dot) ≡ pass.level) (candidates (counted_positions m words pass P H))
chosen_get_level m words pass P H low i d inside = gets _ (candidates_are_low m words pass P H low i d inside)
  where
    greater : (a b : ℕ) → a < b → max b a ≡ b
    greater a b less = omega arith

    gets : (u : List ℕ) → value_of P (u, pass.dot) < pass.level → value_of (raise P (u, pass.dot) pass.level) (u, pass.dot) ≡ pass.level
    gets u less =
        value_of_raise P (u, pass.dot) (u, pass.dot) pass.level
        ∙ ap (λ b. max (only b pass.level) (value_of P (u, pass.dot))) (same_itself (u, pass.dot))
        ∙ greater (value_of P (u, pass.dot)) pass.level less

-- the value of a raised dotted string is the greater, and those of others stay
pub others_stay : (P : Patterns) (j k : List ℕ × ℕ) (v : ℕ) → same_dotted k j ≡ false → value_of (raise P j v) k ≡ value_of P k
others_stay P j k v other = value_of_raise P j k v ∙ ap (λ b. max (only b v) (value_of P k)) other ∙ none (value_of P k)
  where
    none : (n : ℕ) → max 0 n ≡ n
    none n = omega arith

pub none_falls : (P : Patterns) (j k : List ℕ × ℕ) (v : ℕ) → value_of P k ≤ value_of (raise P j v) k
none_falls P j k v = let is : value_of (raise P j v) k ≡ max (only (same_dotted k j) v) (value_of P k) = value_of_raise P j k v in omega arith
