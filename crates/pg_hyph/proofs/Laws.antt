-- The values and the covers of a word, by the lists of its strings.
use Rattle.std.proofs.Common.{◌≡◌, ℕ, ◌+◌, ◌<◌, ◌≤◌, max, Bool, true, false, cond, ◌&&◌, nat_le, nat_lt, inl, inr, List, length, get_or, replicate, refl, sym, ap, subst, ◌∙◌, arith}
use Rattle.std.specs.List.{list_any}
use Rattle.std.proofs.lemmas.Bool.{and_parts, and_from, or_cases, or_left, or_right, le-leb, leb-true, lt-ltb}
use Rattle.std.proofs.lemmas.List.{get_or-replicate}
use Rattle.pg_types.specs.declared.limits.TheConstants.{LEVEL_MAX, WORD_LETTERS_MAX}
use Rattle.pg_patterns.specs.Values.{applies, value_at}
use Rattle.pg_patterns.specs.Inside.PatternMaps.{is_entry}
use Rattle.pg_select.specs.Windows.{window, fits, is_covered}
use Rattle.pg_select.specs.Inside.words.WindowStrings.{is_within}
use Rattle.pg_trie.specs.declared.hopeless.TheConstants.{HOPELESS}
use Rattle.pg_trie.specs.Inside.Lists.{outputs_at}
use Rattle.pg_trie.specs.Inside.Maps.{Maps, AreMaps, is_dotted}
use Rattle.pg_select.specs.declared.pass.Pass.{Pass}
use Rattle.pg_select.specs.Inside.words.Positions.{bit, Raises}
use Rattle.pg_select.proofs.Bits.{same_bits}
use Rattle.pg_hyph.specs.Inside.ListValues.{pattern_value, value_by, cover_by}
use Rattle.pg_hyph.specs.Inside.Walks.{by_starts}
use Rattle.pg_hyph.proofs.Members.{In, all_in, in_any, any_in, in_found, found_in, in_best, best_within}
use Rattle.pg_hyph.proofs.Outputs.{in_outputs, outputs_value, outputs_mark}
use Rattle.pg_hyph.proofs.Cuts.{Cut, cut_applies, applies_cut, out_of_window, within_window, into_window}
use Rattle.pg_hyph.proofs.Bounds.{word_within, word_over}

-- what an entry of the patterns keeps
record IsSound (e : (List ℕ × ℕ) × ℕ) : Type 0 where
  some : 1 ≤ length e.0.0
  dot : e.0.1 ≤ length e.0.0
  value : e.1 < HOPELESS

entry_sound : (e : (List ℕ × ℕ) × ℕ) → is_entry e ≡ true → IsSound e
entry_sound e is =
    let a = and_parts _ _ is in
    let b = and_parts _ _ a.0 in
    let c = and_parts _ _ b.0 in
    let d = and_parts _ _ c.0 in
    let f = and_parts _ _ d.0 in
    let value : e.1 ≤ LEVEL_MAX = leb-true _ _ a.1 in
    record { some = leb-true _ _ f.0; dot = leb-true _ _ c.1; value = omega arith }

-- what a hopeless dotted string keeps
record IsIn (k : List ℕ × ℕ) : Type 0 where
  some : 1 ≤ length k.0
  dot : k.1 ≤ length k.0

dotted_in : (n : ℕ) (k : List ℕ × ℕ) → is_dotted n k ≡ true → IsIn k
dotted_in n k is =
    let a = and_parts _ _ is in
    let b = and_parts _ _ a.0 in
    let c = and_parts _ _ b.0 in
    record { some = leb-true _ _ c.0; dot = leb-true _ _ a.1 }

given_within : (v n : ℕ) → v ≤ n → pattern_value v ≤ n
given_within v n low = elim (nat_lt v HOPELESS) as (λ b. cond b v 0 ≤ n) [ true ↦ low | false ↦ omega arith ]

same_number : (a b : ℕ) → a ≤ b → b ≤ a → a ≡ b
same_number a b p q = omega arith

bit_within : (b : Bool) (n : ℕ) → (b ≡ true → 1 ≤ n) → bit b ≤ n
bit_within true n one = one refl
bit_within false n one = omega arith

bit_one : (b : Bool) → b ≡ true → 1 ≤ bit b
bit_one true is = omega arith
bit_one false is = cc

module _ (m : Maps) (kept : AreMaps m) where
  abbrev lists : List ℕ → List (ℕ × ℕ)
  lists = outputs_at m.patterns m.hopeless

  -- an entry of the patterns, or a mark, is in the list of its string
  entry_listed : (e : (List ℕ × ℕ) × ℕ) → In e m.patterns → In (e.1, e.0.1) (lists e.0.0)
  entry_listed e here =
      let sound = entry_sound e (all_in is_entry m.patterns e kept.patterns.sound here) in
      outputs_value m.patterns m.hopeless e.0.0 e.1 e.0.1 sound.dot (in_found m.patterns e kept.patterns.sorted here)

  hopeless_in : (e : (List ℕ × ℕ) × Unit {0}) → In e m.hopeless → IsIn e.0
  hopeless_in e here = dotted_in m.signs e.0 (all_in (λ (x : (List ℕ × ℕ) × Unit {0}). is_dotted m.signs x.0) m.hopeless e kept.dotted here)

  mark_listed : (e : (List ℕ × ℕ) × Unit {0}) → In e m.hopeless → In (HOPELESS, e.0.1) (lists e.0.0)
  mark_listed e here = outputs_mark m.patterns m.hopeless e.0.0 e.0.1 (hopeless_in e here).dot (in_found m.hopeless e kept.sorted here)

  -- the greatest value of the lists is that of the patterns
  pub values_law : (w : List ℕ) (p : ℕ) → by_starts value_by lists 0 w p ≡ value_at m.patterns w p
  values_law w p = same_number (by_starts value_by lists 0 w p) (value_at m.patterns w p) (word_within value_by lists w p (value_at m.patterns w p) within)
      (best_within (applies w p) m.patterns (by_starts value_by lists 0 w p) over)
    where
      within : (q : List ℕ) (x : ℕ × ℕ) → Cut w q x.1 p → In x (lists q) → pattern_value x.0 ≤ value_at m.patterns w p
      within q x cut here =
          elim (in_outputs m.patterns m.hopeless q x here) [
            | inl found ↦ given_within x.0 (value_at m.patterns w p) (in_best (applies w p) m.patterns ((q, x.1), x.0) (found_in (q, x.1) x.0 m.patterns found) (cut_applies w q x.1 p cut))
            | inr mark ↦ let none : pattern_value x.0 ≡ 0 = ap pattern_value mark.0 in subst (λ n. n ≤ value_at m.patterns w p) (sym none) (omega arith)
          ]

      over : (e : (List ℕ × ℕ) × ℕ) → In e m.patterns → applies w p e.0 ≡ true → e.1 ≤ by_starts value_by lists 0 w p
      over e here stands =
          let sound = entry_sound e (all_in is_entry m.patterns e kept.patterns.sound here) in
          let is : pattern_value e.1 ≡ e.1 = ap (λ b. cond b e.1 0) (lt-ltb e.1 HOPELESS sound.value) in
          subst (λ n. n ≤ by_starts value_by lists 0 w p) is (word_over value_by lists w e.0.0 p (e.1, e.0.1) sound.some (applies_cut w e.0.0 e.0.1 p stands) (entry_listed e here))

  module _ (pass : Pass) (high : pass.level ≤ HOPELESS) (w : List ℕ) (p : ℕ) (fit : fits w p pass.len pass.dot ≡ true) where
    abbrev cover : Bool
    cover = is_covered pass.level m.patterns m.hopeless (window w p pass.len pass.dot) pass.dot

    -- what covers in the lists of the word covers in the window
    covers_within : (q : List ℕ) (x : ℕ × ℕ) → Cut w q x.1 p → In x (lists q) → cover_by pass (length q) x ≤ bit cover
    covers_within q x cut here = bit_within (nat_le pass.level x.0 && is_within pass.len pass.dot (length q) x.1) (bit cover) (λ is. bit_one cover (covers is))
      where
        covers : (nat_le pass.level x.0 && is_within pass.len pass.dot (length q) x.1) ≡ true → cover ≡ true
        covers is =
            let parts = and_parts (nat_le pass.level x.0) (is_within pass.len pass.dot (length q) x.1) is in
            let inside = and_parts (nat_le x.1 pass.dot) (nat_le (length q + pass.dot) (pass.len + x.1)) parts.1 in
            let inner = into_window w p pass.len pass.dot fit q x.1 cut (leb-true x.1 pass.dot inside.0) (leb-true (length q + pass.dot) (pass.len + x.1) inside.1) in
            let stands = cut_applies (window w p pass.len pass.dot) q x.1 pass.dot inner in
            elim (in_outputs m.patterns m.hopeless q x here) [
              | inl found ↦ or_left (list_any (λ e. nat_le pass.level e.1 && applies (window w p pass.len pass.dot) pass.dot e.0) m.patterns)
                  (list_any (λ e. applies (window w p pass.len pass.dot) pass.dot e.0) m.hopeless)
                  (in_any (λ e. nat_le pass.level e.1 && applies (window w p pass.len pass.dot) pass.dot e.0) m.patterns ((q, x.1), x.0) (found_in (q, x.1) x.0 m.patterns found)
                  (and_from (nat_le pass.level x.0) (applies (window w p pass.len pass.dot) pass.dot (q, x.1)) parts.0 stands))
              | inr mark ↦ or_right (list_any (λ e. nat_le pass.level e.1 && applies (window w p pass.len pass.dot) pass.dot e.0) m.patterns)
                  (list_any (λ e. applies (window w p pass.len pass.dot) pass.dot e.0) m.hopeless)
                  (in_any (λ e. applies (window w p pass.len pass.dot) pass.dot e.0) m.hopeless ((q, x.1), tt {0}) (found_in (q, x.1) (tt {0}) m.hopeless mark.1) stands)
            ]

    -- what stands in the window, with a value of at least the level, covers in the lists of the word
    stands_over : (q : List ℕ) (d v : ℕ) → 1 ≤ length q → pass.level ≤ v → In (v, d) (lists q) → applies (window w p pass.len pass.dot) pass.dot (q, d)
        ≡ true → 1 ≤ by_starts (cover_by pass) lists 0 w p
    stands_over q d v some strong here stands =
        let inner = applies_cut (window w p pass.len pass.dot) q d pass.dot stands in
        let inside = within_window w p pass.len pass.dot fit q d inner in
        let test : (nat_le pass.level v && is_within pass.len pass.dot (length q) d) ≡ true =
        and_from (nat_le pass.level v) (is_within pass.len pass.dot (length q) d) (le-leb pass.level v strong)
        (and_from (nat_le d pass.dot) (nat_le (length q + pass.dot) (pass.len + d)) (le-leb d pass.dot inside.0) (le-leb (length q + pass.dot) (pass.len + d) inside.1)) in
        let one : cover_by pass (length q) (v, d) ≡ 1 = ap bit test in
        subst (λ n. n ≤ by_starts (cover_by pass) lists 0 w p) one (word_over (cover_by pass) lists w q p (v, d) some (out_of_window w p pass.len pass.dot fit q d inner) here)

    covers_over : cover ≡ true → 1 ≤ by_starts (cover_by pass) lists 0 w p
    covers_over is =
        elim (or_cases (list_any (λ e. nat_le pass.level e.1 && applies (window w p pass.len pass.dot) pass.dot e.0) m.patterns)
        (list_any (λ e. applies (window w p pass.len pass.dot) pass.dot e.0) m.hopeless) is) [
          | inl value ↦
              let there = any_in (λ (e : (List ℕ × ℕ) × ℕ). nat_le pass.level e.1 && applies (window w p pass.len pass.dot) pass.dot e.0) m.patterns value in
              let e = there.0 in
              let parts = and_parts (nat_le pass.level e.1) (applies (window w p pass.len pass.dot) pass.dot e.0) there.2 in
              let sound = entry_sound e (all_in is_entry m.patterns e kept.patterns.sound there.1) in
              stands_over e.0.0 e.0.1 e.1 sound.some (leb-true pass.level e.1 parts.0) (entry_listed e there.1) parts.1
          | inr mark ↦
              let there = any_in (λ (e : (List ℕ × ℕ) × Unit {0}). applies (window w p pass.len pass.dot) pass.dot e.0) m.hopeless mark in
              let e = there.0 in
              stands_over e.0.0 e.0.1 HOPELESS (hopeless_in e there.1).some high (mark_listed e there.1) there.2
        ]

    -- the greatest cover of the lists is that of the window
    pub covers_law : by_starts (cover_by pass) lists 0 w p ≡ bit cover
    covers_law = same_number (by_starts (cover_by pass) lists 0 w p) (bit cover) (word_within (cover_by pass) lists w p (bit cover) covers_within)
        (bit_within cover (by_starts (cover_by pass) lists 0 w p) covers_over)

from_zero : (x y n : ℕ) → x ≡ 0 → y ≡ max x n → y ≡ n
from_zero x y n p q = omega arith

module _ (m : Maps) (kept : AreMaps m) (w : List ℕ) (long : length w ≤ WORD_LETTERS_MAX + 2) where
  -- the values of a word, raised from 0 by the lists
  pub values_end : (x y : List ℕ) → x ≡ replicate (WORD_LETTERS_MAX + 2) 0 → Raises (by_starts value_by (outputs_at m.patterns m.hopeless) 0 w) (λ p. get_or x p 0) (λ p. get_or y p 0)
      → (p : ℕ) → p < length w → get_or y p 0 ≡ value_at m.patterns w p
  values_end x y start raised p inside =
      let room : p < WORD_LETTERS_MAX + 2 = omega arith in
      let none : get_or x p 0 ≡ 0 = ap (λ (ys : List ℕ). get_or ys p 0) start ∙ get_or-replicate (WORD_LETTERS_MAX + 2) p 0 0 room in
      from_zero (get_or x p 0) (get_or y p 0) (by_starts value_by (outputs_at m.patterns m.hopeless) 0 w p) none (raised p room) ∙ values_law m kept w p

  -- the covers of the windows that fit
  pub covers_end : (pass : Pass) → pass.level ≤ LEVEL_MAX → (x y : List Bool) → x ≡ replicate (WORD_LETTERS_MAX + 2) false
      → Raises (by_starts (cover_by pass) (outputs_at m.patterns m.hopeless) 0 w) (λ p. bit (get_or x p false)) (λ p. bit (get_or y p false))
      → (p : ℕ) → p < length w → fits w p pass.len pass.dot ≡ true → get_or y p false ≡ is_covered pass.level m.patterns m.hopeless (window w p pass.len pass.dot) pass.dot
  covers_end pass level x y start raised p inside fit =
      let room : p < WORD_LETTERS_MAX + 2 = omega arith in
      let none : bit (get_or x p false) ≡ 0 = ap (λ (ys : List Bool). bit (get_or ys p false)) start ∙ ap bit (get_or-replicate (WORD_LETTERS_MAX + 2) p false false room) in
      let high : pass.level ≤ HOPELESS = omega arith in
      same_bits (get_or y p false) (is_covered pass.level m.patterns m.hopeless (window w p pass.len pass.dot) pass.dot)
      (from_zero (bit (get_or x p false)) (bit (get_or y p false)) (by_starts (cover_by pass) (outputs_at m.patterns m.hopeless) 0 w p) none (raised p room) ∙ covers_law m kept pass high w p fit)
