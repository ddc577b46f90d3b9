-- What values and the lengths of strings that cover are up to, from a level's start through its passes and lengths.
use Rattle.std.proofs.Common.{◌≡◌, ℕ, ◌+◌, ◌≤◌, ◌<◌, nat_le, nat_eq, Bool, true, false, cond, not, ◌||◌, List, [], ◌∷◌, length, unwrap_or, Option, Some, max, refl, sym, ap, ◌∙◌, arith}
use Rattle.std.specs.declared.cmp.Ordering.{Ordering}
use Rattle.std.specs.declared.cmp.Ordering.TheVariants.{Less, Equal, Greater}
use Rattle.std.specs.List.{filter, list_all}
use Rattle.std.specs.Ordering.{eq_by_cmp}
use Rattle.std.specs.FinMap.Entries.{put, find, by_order}
use Rattle.std.proofs.lemmas.Bool.{and_parts, and_from, or_right, le-leb, lt-leb, leb-true, leb-false, eqb-true, not-true}
use Rattle.pg_translate.specs.Alphabets.{Alphabet}
use Rattle.pg_dict.specs.Word.{Word}
use Rattle.pg_patterns.specs.DottedSigns.{dotted_cmp}
use Rattle.pg_patterns.specs.Inside.DottedOrder.{dotted_exact}
use Rattle.pg_patterns.specs.Values.{Patterns, value_of, raise, largest}
use Rattle.pg_select.specs.declared.pass.Pass.{Pass}
use Rattle.pg_select.specs.Inside.laws.Laws.{raised_all, hopeless_all}
use Rattle.pg_select.specs.Inside.laws.Steps.{CoversUpTo, IsBelow, IsUpTo, patterns_after_pass, hopeless_after_pass}
use Rattle.pg_select.specs.CountedPositions.{Candidate}
use Rattle.pg_select.specs.Inside.words.PositionLists.{counted_positions, with_sums}
use Rattle.pg_select.specs.Windows.{Hopeless}
use Rattle.pg_select.proofs.LawsNothing.{all_weaker}
use Rattle.pg_select.proofs.LawsRaised.{AreLong, passing_long}

-- a test of all entries, with one more
pub all_put : {X : Type 0} (t : (List ℕ × ℕ) × X → Bool) (k : List ℕ × ℕ) (v : X) (es : List ((List ℕ × ℕ) × X)) → t (k, v) ≡ true → list_all t es ≡ true → list_all t (put dotted_cmp k v es) ≡ true
all_put t k v [] here all = and_from (t (k, v)) true here refl
all_put {X} t k v (e ∷ es) here all =
    let parts = and_parts (t e) (list_all t es) all in
    elim (dotted_cmp k e.0) as (λ (r : Ordering). dotted_cmp k e.0 ≡ r → list_all t (by_order r ((k, v) ∷ e ∷ es) ((e.0, v) ∷ es) (e ∷ put dotted_cmp k v es)) ≡ true) [
      | Less ↦ λ r. and_from (t (k, v)) (list_all t (e ∷ es)) here all
      | Equal ↦ λ r. and_from (t (e.0, v)) (list_all t es) (ap (λ (x : List ℕ × ℕ). t (x, v)) (sym (dotted_exact k e.0 r)) ∙ here) parts.1
      | Greater ↦ λ r. and_from (t e) (list_all t (put dotted_cmp k v es)) parts.0 (all_put t k v es here parts.1)
    ] refl

-- what values are up to, through a pass
value_up_to : (level : ℕ) (k : List ℕ × ℕ) (P : Patterns) → IsUpTo level P → value_of P k ≤ level
value_up_to level k [] upto = omega arith
value_up_to level k (e ∷ es) upto =
    let parts = and_parts (nat_le e.1 level) (list_all (λ (x : (List ℕ × ℕ) × ℕ). nat_le x.1 level) es) upto in
    by_test (eq_by_cmp dotted_cmp k e.0) (find dotted_cmp k es) (leb-true e.1 level parts.0) (value_up_to level k es parts.1)
  where
    by_test : (b : Bool) (o : Option ℕ) → e.1 ≤ level → unwrap_or o 0 ≤ level → unwrap_or (cond b (Some e.1) o) 0 ≤ level
    by_test true o here rest = here
    by_test false o here rest = rest

pub up_to_raised : (level dot n : ℕ) (P : Patterns) (cs : List Candidate) → level ≤ n → IsUpTo n P → IsUpTo n (raised_all level dot P cs)
up_to_raised level dot n P [] within upto = upto
up_to_raised level dot n P (c ∷ cs) within upto =
    let low : value_of P (c.window, dot) ≤ n = value_up_to n (c.window, dot) P upto in
    up_to_raised level dot n (raise P (c.window, dot) level) cs within
    (all_put (λ (e : (List ℕ × ℕ) × ℕ). nat_le e.1 n) (c.window, dot) (max level (value_of P (c.window, dot))) P (le-leb (max level (value_of P (c.window, dot))) n (omega arith)) upto)

pub up_to_after : (m : Alphabet) (words : List Word) (pass : Pass) (P : Patterns) (H : Hopeless) (raised : Candidate → Bool) (n : ℕ) → pass.level ≤ n
    → IsUpTo n P → IsUpTo n (patterns_after_pass m words pass P H raised)
up_to_after m words pass P H raised n within upto = up_to_raised pass.level pass.dot n P (filter raised (with_sums (counted_positions m words pass P H))) within upto

-- no string that covers is longer than the length, through a pass of the length
short_raised : (level dot len : ℕ) (P : Patterns) (cs : List Candidate) → AreLong len cs → list_all (λ (e : (List ℕ × ℕ) × ℕ). not (nat_le level e.1) || nat_le (length e.0.0) len) P ≡ true
    → list_all (λ (e : (List ℕ × ℕ) × ℕ). not (nat_le level e.1) || nat_le (length e.0.0) len) (raised_all level dot P cs) ≡ true
short_raised level dot len P [] long short = short
short_raised level dot len P (c ∷ cs) long short =
    let parts = and_parts (nat_eq (length c.window) len) (list_all (λ (x : Candidate). nat_eq (length x.window) len) cs) long in
    let size : length c.window ≡ len = eqb-true (length c.window) len parts.0 in
    short_raised level dot len (raise P (c.window, dot) level) cs parts.1
    (all_put (λ (e : (List ℕ × ℕ) × ℕ). not (nat_le level e.1) || nat_le (length e.0.0) len) (c.window, dot) (max level (value_of P (c.window, dot))) P
    (or_right (not (nat_le level (max level (value_of P (c.window, dot))))) (nat_le (length c.window) len) (le-leb (length c.window) len (omega arith))) short)

short_hopeless : (dot len : ℕ) (H : Hopeless) (cs : List Candidate) → AreLong len cs → list_all (λ (e : (List ℕ × ℕ) × Unit {0}). nat_le (length e.0.0) len) H
    ≡ true → list_all (λ (e : (List ℕ × ℕ) × Unit {0}). nat_le (length e.0.0) len) (hopeless_all dot H cs) ≡ true
short_hopeless dot len H [] long short = short
short_hopeless dot len H (c ∷ cs) long short =
    let parts = and_parts (nat_eq (length c.window) len) (list_all (λ (x : Candidate). nat_eq (length x.window) len) cs) long in
    let size : length c.window ≡ len = eqb-true (length c.window) len parts.0 in
    short_hopeless dot len (put dotted_cmp (c.window, dot) (tt {0}) H) cs parts.1
    (all_put (λ (e : (List ℕ × ℕ) × Unit {0}). nat_le (length e.0.0) len) (c.window, dot) (tt {0}) H (le-leb (length c.window) len (omega arith)) short)

pub covers_up_to_longer : (level len : ℕ) (P : Patterns) (H : Hopeless) → CoversUpTo level len P H → CoversUpTo level (len + 1) P H
covers_up_to_longer level len P H short = record {
  patterns = all_weaker (λ (e : (List ℕ × ℕ) × ℕ). not (nat_le level e.1) || nat_le (length e.0.0) len) (λ (e : (List ℕ × ℕ) × ℕ). not (nat_le level e.1) || nat_le (length e.0.0) (len + 1))
      (λ e is. either (not (nat_le level e.1)) (nat_le (length e.0.0) len) (nat_le (length e.0.0) (len + 1)) (upto (length e.0.0)) is) P short.patterns;
  hopeless = all_weaker (λ (e : (List ℕ × ℕ) × Unit {0}). nat_le (length e.0.0) len) (λ (e : (List ℕ × ℕ) × Unit {0}). nat_le (length e.0.0) (len + 1))
      (λ e is. upto (length e.0.0) is) H short.hopeless;
}
  where
    upto : (n : ℕ) → nat_le n len ≡ true → nat_le n (len + 1) ≡ true
    upto n is = let low : n ≤ len = leb-true n len is in le-leb n (len + 1) (omega arith)

    either : (a b c : Bool) → (b ≡ true → c ≡ true) → (a || b) ≡ true → (a || c) ≡ true
    either true b c more is = refl
    either false b c more is = more is

pub covers_up_to_after : (m : Alphabet) (words : List Word) (pass : Pass) (P : Patterns) (H : Hopeless) (raised hopeless : Candidate → Bool) → CoversUpTo pass.level pass.len P H
    → CoversUpTo pass.level pass.len (patterns_after_pass m words pass P H raised) (hopeless_after_pass m words pass P H hopeless)
covers_up_to_after m words pass P H raised hopeless short = record {
  patterns = short_raised pass.level pass.dot pass.len P (filter raised (with_sums (counted_positions m words pass P H))) (passing_long raised m words pass P H) short.patterns;
  hopeless = short_hopeless pass.dot pass.len H (filter hopeless (with_sums (counted_positions m words pass P H))) (passing_long hopeless m words pass P H) short.hopeless;
}

-- at a level's start nothing covers
pub covers_up_to_at_start : (level len : ℕ) (P : Patterns) → IsBelow level P → CoversUpTo level len P []
covers_up_to_at_start level len P below = record {
  patterns = all_weaker (λ (e : (List ℕ × ℕ) × ℕ). not (nat_le level e.1)) (λ (e : (List ℕ × ℕ) × ℕ). not (nat_le level e.1) || nat_le (length e.0.0) len)
      (λ e is. first (not (nat_le level e.1)) (nat_le (length e.0.0) len) is) P below;
  hopeless = refl;
}
  where
    first : (a b : Bool) → a ≡ true → (a || b) ≡ true
    first true b is = refl
    first false b is = cc

pub up_to_at_start : (level : ℕ) (P : Patterns) → IsBelow level P → IsUpTo level P
up_to_at_start level P below = all_weaker (λ (e : (List ℕ × ℕ) × ℕ). not (nat_le level e.1)) (λ (e : (List ℕ × ℕ) × ℕ). nat_le e.1 level) (λ e is. lower e.1 is) P below
  where
    lower : (n : ℕ) → not (nat_le level n) ≡ true → nat_le n level ≡ true
    lower n is = let less : n < level = leb-false level n (not-true (nat_le level n) is) in le-leb n level (omega arith)

pub next_is_below : (level : ℕ) (P : Patterns) → IsUpTo level P → IsBelow (level + 1) P
next_is_below level P upto = all_weaker (λ (e : (List ℕ × ℕ) × ℕ). nat_le e.1 level) (λ (e : (List ℕ × ℕ) × ℕ). not (nat_le (level + 1) e.1)) (λ e is. above e.1 is) P upto
  where
    above : (n : ℕ) → nat_le n level ≡ true → not (nat_le (level + 1) n) ≡ true
    above n is = let low : n ≤ level = leb-true n level is in ap not (lt-leb (level + 1) n (omega arith))

-- the greatest value is the least that all are up to
pub up_to_more : (n k : ℕ) (P : Patterns) → n ≤ k → IsUpTo n P → IsUpTo k P
up_to_more n k P more upto = all_weaker (λ (e : (List ℕ × ℕ) × ℕ). nat_le e.1 n) (λ (e : (List ℕ × ℕ) × ℕ). nat_le e.1 k)
    (λ e is. let low : e.1 ≤ n = leb-true e.1 n is in le-leb e.1 k (omega arith)) P upto

pub up_to_largest : (P : Patterns) → IsUpTo (largest P) P
up_to_largest [] = refl
up_to_largest (e ∷ es) = and_from (nat_le e.1 (largest (e ∷ es))) (list_all (λ (x : (List ℕ × ℕ) × ℕ). nat_le x.1 (largest (e ∷ es))) es)
    (le-leb e.1 (largest (e ∷ es)) (omega arith)) (up_to_more (largest es) (largest (e ∷ es)) es (omega arith) (up_to_largest es))
