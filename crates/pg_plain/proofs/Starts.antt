-- The entries of a word, met from string to string and from dot to dot.
use Rattle.std.proofs.Common.{◌≡◌, ℕ, ◌+◌, ◌-◌, ◌<◌, ◌≤◌, Bool, true, false, not, List, length, take, drop, ap, subst, ◌∙◌, arith}
use Rattle.std.specs.List.{list_all, list_any}
use Rattle.pg_patterns.specs.Values.{applies}
use Rattle.pg_select.specs.Inside.words.Positions.{Positions, values_of, covers_of}
use Rattle.pg_plain.specs.Inside.Greatest.{RaisesBy}
use Rattle.pg_plain.specs.Inside.Strings.{is_string}
use Rattle.pg_plain.specs.Inside.Walks.{has_signs_at, is_extension, applies_from, applies_from_at_least, applies_not_before}
use Rattle.pg_plain.proofs.Bools.{all_not}
use Rattle.pg_plain.proofs.Greatest.{Level, level_step, level_end, level_start}
use Rattle.pg_plain.proofs.Strings.{longer_step, longer_first, longer_last, longer_out, longer_stops, later_step, later_first, later_last}
use Rattle.std.proofs.lemmas.Bool.{not-true}

-- the entries whose dotted strings pass the tests were met, beside those that are left
pub record Left {X : Type 0} (value cover : (List ℕ × ℕ) × X → ℕ) (left all : ℕ → List ℕ × ℕ → Bool) (es : List ((List ℕ × ℕ) × X)) (before now : Positions) : Type 0 where
  pub values : Level value (values_of now) left es (values_of before) all es
  pub covers : Level cover (covers_of now) left es (covers_of before) all es

-- all of them are
pub record Done {X : Type 0} (value cover : (List ℕ × ℕ) × X → ℕ) (all : ℕ → List ℕ × ℕ → Bool) (es : List ((List ℕ × ℕ) × X)) (before now : Positions) : Type 0 where
  pub values : RaisesBy value all es (values_of before) (values_of now)
  pub covers : RaisesBy cover all es (covers_of before) (covers_of now)

cut_is : (w : List ℕ) (i n : ℕ) → take ((i + n) - i) (drop i w) ≡ take n (drop i w)
cut_is w i n = let same : (i + n) - i ≡ n = omega arith in ap (λ x. take x (drop i w)) same

module _ {X : Type 0} (value cover : (List ℕ × ℕ) × X → ℕ) (w : List ℕ) (es : List ((List ℕ × ℕ) × X)) (strings : list_all (λ e. is_string e.0) es ≡ true) where
  pub start_begins : (i : ℕ) (before : Positions) → Left value cover (applies_from_at_least w i 1) (applies_from w i) es before before
  start_begins i before = record {
    values = level_start value is_string (applies_from_at_least w i 1) (applies_from w i) es (values_of before) strings (longer_first w i);
    covers = level_start cover is_string (applies_from_at_least w i 1) (applies_from w i) es (covers_of before) strings (longer_first w i);
  }

  pub start_steps : (i n : ℕ) (q : List ℕ) (before now new : Positions) → i + n ≤ length w → q ≡ take ((i + n) - i) (drop i w)
      → Left value cover (applies_from_at_least w i n) (applies_from w i) es before now
      → RaisesBy value (has_signs_at q i) es (values_of now) (values_of new) → RaisesBy cover (has_signs_at q i) es (covers_of now) (covers_of new)
      → Left value cover (applies_from_at_least w i (n + 1)) (applies_from w i) es before new
  start_steps i n q before now new inside cut left raised covered =
      let is : q ≡ take n (drop i w) = cut ∙ cut_is w i n in
      record {
        values = level_step value is_string (applies_from_at_least w i n) (has_signs_at (take n (drop i w)) i) (applies_from_at_least w i (n + 1))
            (applies_from w i) es es (values_of now) (values_of new) (values_of before) strings
            (λ p k string. longer_step w i n inside p k) left.values (subst (λ x. RaisesBy value (has_signs_at x i) es (values_of now) (values_of new)) is raised);
        covers = level_step cover is_string (applies_from_at_least w i n) (has_signs_at (take n (drop i w)) i) (applies_from_at_least w i (n + 1))
            (applies_from w i) es es (covers_of now) (covers_of new) (covers_of before) strings
            (λ p k string. longer_step w i n inside p k) left.covers (subst (λ x. RaisesBy cover (has_signs_at x i) es (covers_of now) (covers_of new)) is covered);
      }

  -- the next string would reach over the end of the word
  pub start_out : (i n : ℕ) (before now : Positions) → length w < i + n → Left value cover (applies_from_at_least w i n) (applies_from w i) es before now
      → Done value cover (applies_from w i) es before now
  start_out i n before now past left = record {
    values = level_end value is_string (applies_from_at_least w i n) (applies_from w i) es es (values_of now) (values_of before) strings (λ p k string. longer_out w i n past p k) left.values;
    covers = level_end cover is_string (applies_from_at_least w i n) (applies_from w i) es es (covers_of now) (covers_of before) strings (λ p k string. longer_out w i n past p k) left.covers;
  }

  -- no string goes on
  pub start_stops : (i n : ℕ) (q : List ℕ) (before new : Positions) → i + n ≤ length w → q ≡ take ((i + n) - i) (drop i w) → list_any (λ e. is_extension q e.0.0) es ≡ false
      → Left value cover (applies_from_at_least w i (n + 1)) (applies_from w i) es before new → Done value cover (applies_from w i) es before new
  start_stops i n q before new inside cut stops left =
      let is : q ≡ take n (drop i w) = cut ∙ cut_is w i n in
      let none : list_all (λ (e : (List ℕ × ℕ) × X). not (is_extension (take n (drop i w)) e.0.0)) es
      ≡ true = all_not (λ (e : (List ℕ × ℕ) × X). is_extension (take n (drop i w)) e.0.0) es (subst (λ x. list_any (λ (e : (List ℕ × ℕ) × X). is_extension x e.0.0) es ≡ false) is stops) in
      record {
        values = level_end value (λ k. not (is_extension (take n (drop i w)) k.0)) (applies_from_at_least w i (n + 1)) (applies_from w i) es es
            (values_of new) (values_of before) none (λ p k good. longer_stops w i n inside p k (not-true _ good)) left.values;
        covers = level_end cover (λ k. not (is_extension (take n (drop i w)) k.0)) (applies_from_at_least w i (n + 1)) (applies_from w i) es es
            (covers_of new) (covers_of before) none (λ p k good. longer_stops w i n inside p k (not-true _ good)) left.covers;
      }

  pub start_ends : (i : ℕ) (before now : Positions) → Left value cover (applies_from_at_least w i 33) (applies_from w i) es before now → Done value cover (applies_from w i) es before now
  start_ends i before now left = record {
    values = level_end value is_string (applies_from_at_least w i 33) (applies_from w i) es es (values_of now) (values_of before) strings (longer_last w i) left.values;
    covers = level_end cover is_string (applies_from_at_least w i 33) (applies_from w i) es es (covers_of now) (covers_of before) strings (longer_last w i) left.covers;
  }

  pub walk_begins : (before : Positions) → Left value cover (applies_not_before w 0) (applies w) es before before
  walk_begins before = record {
    values = level_start value is_string (applies_not_before w 0) (applies w) es (values_of before) strings (λ p k string. later_first w p k);
    covers = level_start cover is_string (applies_not_before w 0) (applies w) es (covers_of before) strings (λ p k string. later_first w p k);
  }

  pub walk_steps : (i : ℕ) (before now new : Positions) → Left value cover (applies_not_before w i) (applies w) es before now
      → RaisesBy value (applies_from w i) es (values_of now) (values_of new) → RaisesBy cover (applies_from w i) es (covers_of now) (covers_of new)
      → Left value cover (applies_not_before w (i + 1)) (applies w) es before new
  walk_steps i before now new left raised covered = record {
    values = level_step value is_string (applies_not_before w i) (applies_from w i) (applies_not_before w (i + 1)) (applies w) es es (values_of now)
        (values_of new) (values_of before) strings (λ p k string. later_step w i p k) left.values raised;
    covers = level_step cover is_string (applies_not_before w i) (applies_from w i) (applies_not_before w (i + 1)) (applies w) es es (covers_of now)
        (covers_of new) (covers_of before) strings (λ p k string. later_step w i p k) left.covers covered;
  }

  pub walk_ends : (before now : Positions) → Left value cover (applies_not_before w (length w)) (applies w) es before now → Done value cover (applies w) es before now
  walk_ends before now left = record {
    values = level_end value is_string (applies_not_before w (length w)) (applies w) es es (values_of now) (values_of before) strings (later_last w) left.values;
    covers = level_end cover is_string (applies_not_before w (length w)) (applies w) es es (covers_of now) (covers_of before) strings (later_last w) left.covers;
  }
