-- The second law of skipped passes: what is not counted with a window is not counted with a longer one.
use Rattle.std.proofs.Common.{◌≡◌, ℕ, ◌+◌, ◌-◌, ◌≤◌, nat_le, nat_eq, Bool, true, false, not, ◌&&◌, ◌||◌, List, [], ◌∷◌, length, take, drop, Some, refl, sym, ap, ◌∙◌, arith, length-take, length-drop}
use Rattle.std.specs.List.{list_any}
use Rattle.std.specs.Cmp.Lexicographic.{pointwise}
use Rattle.std.proofs.lemmas.Bool.{and_parts, and_from, le-leb, leb-true, or_left, or_right}
use Rattle.std.proofs.lemmas.List.{take-take, drop-take, drop-drop}
use Rattle.pg_translate.specs.Alphabets.{Alphabet}
use Rattle.pg_dict.specs.Word.{Word}
use Rattle.pg_patterns.specs.Values.{Patterns, stands_at, applies}
use Rattle.pg_select.specs.Statuses.{status_at}
use Rattle.pg_select.specs.Windows.{Hopeless, window, fits, is_covered}
use Rattle.pg_select.specs.declared.pass.Pass.{Pass}
use Rattle.pg_select.specs.CountedPositions.{counts_as, counted_at}
use Rattle.pg_select.specs.Inside.words.PositionLists.{counted_positions}
use Rattle.pg_select.specs.Inside.laws.Laws.{longer_behind, longer_before}
use Rattle.pg_select.proofs.LawsLater.{some_parts, some_from, uncovered_back, closed_more}

-- what a part of a word has at a place, where it has so much
part_at : (w : List ℕ) (a len i n : ℕ) → i + n ≤ len → take n (drop i (take len (drop a w))) ≡ take n (drop (a + i) w)
part_at w a len i n inside =
    let size : len ≡ i + (len - i) = omega arith in
    let upto : n ≤ len - i = omega arith in
    ap (λ k. take n (drop i (take k (drop a w)))) size
    ∙ ap (λ (ys : List ℕ). take n ys) (drop-take i (len - i) (drop a w))
    ∙ take-take n (len - i) (drop i (drop a w)) upto
    ∙ ap (λ (ys : List ℕ). take n ys) (drop-drop i a w)

pub part_length : (w : List ℕ) (a len : ℕ) → a + len ≤ length w → length (take len (drop a w)) ≡ len
part_length w a len inside = omega (arith, length-take len (drop a w), length-drop a w)

-- what stands in a part of a word stands in another that has it
pub stands_wider : (q w : List ℕ) (a len i b n j : ℕ) → a + len ≤ length w → b + n ≤ length w → a + i ≡ b + j → (i + length q ≤ len → j + length q ≤ n)
    → stands_at q (take len (drop a w)) i ≡ true → stands_at q (take n (drop b w)) j ≡ true
stands_wider q w a len i b n j fit wide place size is =
    let parts = and_parts (nat_le (i + length q) (length (take len (drop a w)))) (pointwise nat_eq q (take (length q) (drop i (take len (drop a w))))) is in
    let part : length (take len (drop a w)) ≡ len = part_length w a len fit in
    let whole : length (take n (drop b w)) ≡ n = part_length w b n wide in
    let first : i + length q ≤ length (take len (drop a w)) = leb-true (i + length q) (length (take len (drop a w))) parts.0 in
    let inside : i + length q ≤ len = omega arith in
    let outside : j + length q ≤ n = size inside in
    and_from (nat_le (j + length q) (length (take n (drop b w)))) (pointwise nat_eq q (take (length q) (drop j (take n (drop b w)))))
    (le-leb (j + length q) (length (take n (drop b w))) (omega arith))
    (ap (pointwise nat_eq q) (part_at w b n j (length q) outside ∙ ap (λ k. take (length q) (drop k w)) (sym place) ∙ sym (part_at w a len i (length q) inside)) ∙ parts.1)

any_weaker : {X : Type 0} (t s : X → Bool) → ((x : X) → t x ≡ true → s x ≡ true) → (xs : List X) → list_any t xs ≡ true → list_any s xs ≡ true
any_weaker t s more [] is = is
any_weaker t s more (x ∷ xs) is = by_test (t x) (s x) (list_any t xs) (list_any s xs) (more x) (any_weaker t s more xs) is
  where
    by_test : (a b c d : Bool) → (a ≡ true → b ≡ true) → (c ≡ true → d ≡ true) → (a || c) ≡ true → (b || d) ≡ true
    by_test true b c d here rest is = or_left b d (here refl)
    by_test false b c d here rest is = or_right b d (rest is)

-- what covers a window covers another in which all stands that stands in it
covered_wider : (level : ℕ) (P : Patterns) (H : Hopeless) (u v : List ℕ) (d e : ℕ) → ((k : List ℕ × ℕ) → applies u d k ≡ true → applies v e k ≡ true)
    → is_covered level P H u d ≡ true → is_covered level P H v e ≡ true
covered_wider level P H u v d e more is =
    by_test (list_any (λ (x : (List ℕ × ℕ) × ℕ). nat_le level x.1 && applies u d x.0) P) (list_any (λ (x : (List ℕ × ℕ) × ℕ). nat_le level x.1 && applies v e x.0) P)
    (list_any (λ (x : (List ℕ × ℕ) × Unit {0}). applies u d x.0) H) (list_any (λ (x : (List ℕ × ℕ) × Unit {0}). applies v e x.0) H)
    (any_weaker (λ (x : (List ℕ × ℕ) × ℕ). nat_le level x.1 && applies u d x.0) (λ (x : (List ℕ × ℕ) × ℕ). nat_le level x.1 && applies v e x.0)
    (λ x pass. let parts = and_parts (nat_le level x.1) (applies u d x.0) pass in and_from (nat_le level x.1) (applies v e x.0) parts.0 (more x.0 parts.1)) P)
    (any_weaker (λ (x : (List ℕ × ℕ) × Unit {0}). applies u d x.0) (λ (x : (List ℕ × ℕ) × Unit {0}). applies v e x.0) (λ x pass. more x.0 pass) H)
    is
  where
    by_test : (a b c d : Bool) → (a ≡ true → b ≡ true) → (c ≡ true → d ≡ true) → (a || c) ≡ true → (b || d) ≡ true
    by_test true b c d here rest is = or_left b d (here refl)
    by_test false b c d here rest is = or_right b d (rest is)

-- a position that is counted in a pass is counted in another of the level whose window fits, and is covered only where the first is
counted_in : (pass other : Pass) (P : Patterns) (H : Hopeless) (w : Word) (p : ℕ) (good : Bool) → other.level ≡ pass.level
    → (fits w.signs p other.len other.dot ≡ true → (fits w.signs p pass.len pass.dot ≡ true)
    × ((k : List ℕ × ℕ) → applies (window w.signs p pass.len pass.dot) pass.dot k ≡ true → applies (window w.signs p other.len other.dot) other.dot k ≡ true))
    → counted_at other P H w p ≡ Some good → counted_at pass P H w p ≡ Some good
counted_in pass other P H w p good level inner is =
    let parts = some_parts (fits w.signs p other.len other.dot && not (is_covered other.level P H (window w.signs p other.len other.dot) other.dot))
    (counts_as other.level (status_at P w p)) good is in
    let tests = and_parts (fits w.signs p other.len other.dot) (not (is_covered other.level P H (window w.signs p other.len other.dot) other.dot)) parts.0 in
    let inside = inner tests.0 in
    some_from (fits w.signs p pass.len pass.dot && not (is_covered pass.level P H (window w.signs p pass.len pass.dot) pass.dot)) (counts_as pass.level (status_at P w p)) good
    (and_from (fits w.signs p pass.len pass.dot) (not (is_covered pass.level P H (window w.signs p pass.len pass.dot) pass.dot)) inside.0
    (uncovered_back (is_covered pass.level P H (window w.signs p pass.len pass.dot) pass.dot) (is_covered other.level P H (window w.signs p other.len other.dot) other.dot)
    (λ cover. ap (λ (l : ℕ). is_covered l P H (window w.signs p other.len other.dot) other.dot) level
    ∙ covered_wider pass.level P H (window w.signs p pass.len pass.dot) (window w.signs p other.len other.dot) pass.dot other.dot inside.1 cover)
    tests.1))
    (ap (λ (l : ℕ). counts_as l (status_at P w p)) (sym level) ∙ parts.1)

-- a window and the same with a sign behind it
behind_inner : (w : List ℕ) (p len d : ℕ) → fits w p (len + 1) d ≡ true → (fits w p len d ≡ true)
    × ((k : List ℕ × ℕ) → applies (window w p len d) d k ≡ true → applies (window w p (len + 1) d) d k ≡ true)
behind_inner w p len d fit =
    let parts = and_parts (nat_le d p) (nat_le (p - d + (len + 1)) (length w)) fit in
    let low : d ≤ p = leb-true d p parts.0 in
    let wide : p - d + (len + 1) ≤ length w = leb-true (p - d + (len + 1)) (length w) parts.1 in
    let narrow : p - d + len ≤ length w = omega arith in (
      and_from (nat_le d p) (nat_le (p - d + len) (length w)) parts.0 (le-leb (p - d + len) (length w) narrow),
      λ k is.
          let tests = and_parts (nat_le k.1 d) (stands_at k.0 (window w p len d) (d - k.1)) is in
          and_from (nat_le k.1 d) (stands_at k.0 (window w p (len + 1) d) (d - k.1)) tests.0
          (stands_wider k.0 w (p - d) len (d - k.1) (p - d) (len + 1) (d - k.1) narrow wide refl (λ inside. omega arith) tests.1),
    )

-- a window and the same with a sign before it
before_inner : (w : List ℕ) (p len d : ℕ) → fits w p (len + 1) (d + 1) ≡ true → (fits w p len d ≡ true)
    × ((k : List ℕ × ℕ) → applies (window w p len d) d k ≡ true → applies (window w p (len + 1) (d + 1)) (d + 1) k ≡ true)
before_inner w p len d fit =
    let parts = and_parts (nat_le (d + 1) p) (nat_le (p - (d + 1) + (len + 1)) (length w)) fit in
    let low : d + 1 ≤ p = leb-true (d + 1) p parts.0 in
    let wide : p - (d + 1) + (len + 1) ≤ length w = leb-true (p - (d + 1) + (len + 1)) (length w) parts.1 in
    let narrow : p - d + len ≤ length w = omega arith in (
      and_from (nat_le d p) (nat_le (p - d + len) (length w)) (le-leb d p (omega arith)) (le-leb (p - d + len) (length w) narrow),
      λ k is.
          let tests = and_parts (nat_le k.1 d) (stands_at k.0 (window w p len d) (d - k.1)) is in
          let inner : k.1 ≤ d = leb-true k.1 d tests.0 in
          let place : p - d + (d - k.1) ≡ p - (d + 1) + (d + 1 - k.1) = omega arith in
          and_from (nat_le k.1 (d + 1)) (stands_at k.0 (window w p (len + 1) (d + 1)) (d + 1 - k.1)) (le-leb k.1 (d + 1) (omega arith))
          (stands_wider k.0 w (p - d) len (d - k.1) (p - (d + 1)) (len + 1) (d + 1 - k.1) narrow wide place (λ inside. omega arith) tests.1),
    )

-- the second law
pub counted_behind : (pass : Pass) (P : Patterns) (H : Hopeless) (w : Word) (p : ℕ) (good : Bool) → counted_at (longer_behind pass) P H w p
    ≡ Some good → counted_at pass P H w p ≡ Some good
counted_behind pass P H w p good is = counted_in pass (longer_behind pass) P H w p good refl (behind_inner w.signs p pass.len pass.dot) is

pub counted_before : (pass : Pass) (P : Patterns) (H : Hopeless) (w : Word) (p : ℕ) (good : Bool) → counted_at (longer_before pass) P H w p
    ≡ Some good → counted_at pass P H w p ≡ Some good
counted_before pass P H w p good is = counted_in pass (longer_before pass) P H w p good refl (before_inner w.signs p pass.len pass.dot) is

-- so where a pass counts nothing, the longer ones count nothing
pub nothing_behind : (m : Alphabet) (words : List Word) (pass : Pass) (P : Patterns) (H : Hopeless) → counted_positions m words pass P H
    ≡ [] → counted_positions m words (longer_behind pass) P H ≡ []
nothing_behind m words pass P H is = closed_more m words pass (longer_behind pass) P P H H (λ w p g counted. counted_behind pass P H w p g counted) is

pub nothing_before : (m : Alphabet) (words : List Word) (pass : Pass) (P : Patterns) (H : Hopeless) → counted_positions m words pass P H
    ≡ [] → counted_positions m words (longer_before pass) P H ≡ []
nothing_before m words pass P H is = closed_more m words pass (longer_before pass) P P H H (λ w p g counted. counted_before pass P H w p g counted) is
