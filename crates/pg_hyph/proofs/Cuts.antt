-- A word that is cut around a string whose dot is at a position, and windows that are cut so.
use Rattle.std.proofs.Common.{◌≡◌, ℕ, suc, ◌+◌, ◌-◌, ◌≤◌, true, nat_le, nat_eq, List, [], ◌∷◌, ◌++◌, length, take, drop, refl, sym, ap, ◌∙◌, append_assoc, arith, length-append, length-drop}
use Rattle.std.specs.Cmp.Lexicographic.{pointwise, bytes_decides}
use Rattle.std.proofs.lemmas.Bool.{and_parts, and_from, le-leb, leb-true}
use Rattle.std.proofs.lemmas.List.{take-append-drop, length-take-le, take_at, drop_at, drop-append-le}
use Rattle.pg_patterns.specs.Values.{stands_at, applies}
use Rattle.pg_select.specs.Windows.{window, fits}

-- the string q stands in w with its dot d at position p
pub record Cut (w q : List ℕ) (d p : ℕ) : Type 0 where
  pub before : List ℕ
  pub after : List ℕ
  pub whole : w ≡ before ++ (q ++ after)
  pub dot : length before + d ≡ p

pub cut_applies : (w q : List ℕ) (d p : ℕ) → Cut w q d p → applies w p (q, d) ≡ true
cut_applies w q d p cut =
    let whole : w ≡ cut.before ++ (q ++ cut.after) = cut.whole in
    let dot : length cut.before + d ≡ p = cut.dot in
    let start : p - d ≡ length cut.before = omega arith in
    let rest : drop (p - d) w ≡ q ++ cut.after = ap (λ n. drop n w) start ∙ ap (λ (ys : List ℕ). drop (length cut.before) ys) whole ∙ drop_at cut.before (q ++ cut.after) (length cut.before) refl in
    let size : length w ≡ length cut.before + (length q + length cut.after) = ap (λ (ys : List ℕ). length ys) whole ∙ length-append cut.before (q ++ cut.after)
    ∙ ap (λ n. length cut.before + n) (length-append q cut.after) in
    let same : take (length q) (drop (p - d) w) ≡ q = ap (λ (ys : List ℕ). take (length q) ys) rest ∙ take_at q cut.after (length q) refl in
    and_from (nat_le d p) (stands_at q w (p - d)) (le-leb d p (omega arith))
    (and_from (nat_le (p - d + length q) (length w)) (pointwise nat_eq q (take (length q) (drop (p - d) w))) (le-leb (p - d + length q) (length w) (omega arith))
    ((bytes_decides q (take (length q) (drop (p - d) w))).1 (sym same)))

pub applies_cut : (w q : List ℕ) (d p : ℕ) → applies w p (q, d) ≡ true → Cut w q d p
applies_cut w q d p is =
    let parts = and_parts (nat_le d p) (stands_at q w (p - d)) is in
    let stands = and_parts (nat_le (p - d + length q) (length w)) (pointwise nat_eq q (take (length q) (drop (p - d) w))) parts.1 in
    let low : d ≤ p = leb-true d p parts.0 in
    let ends : p - d + length q ≤ length w = leb-true (p - d + length q) (length w) stands.0 in
    let same : q ≡ take (length q) (drop (p - d) w) = (bytes_decides q (take (length q) (drop (p - d) w))).0 stands.1 in
    let size : length (take (p - d) w) ≡ p - d = length-take-le (p - d) w (omega arith) in
    record {
      before = take (p - d) w;
      after = drop (length q) (drop (p - d) w);
      whole = sym (take-append-drop (p - d) w)
          ∙ ap (λ (ys : List ℕ). take (p - d) w ++ ys) (sym (take-append-drop (length q) (drop (p - d) w)) ∙ ap (λ (ys : List ℕ). ys ++ drop (length q) (drop (p - d) w)) (sym same));
      dot = omega arith;
    }

regroup : (x b q a r : List ℕ) → x ++ ((b ++ (q ++ a)) ++ r) ≡ (x ++ b) ++ (q ++ (a ++ r))
regroup x b q a r = simp append_assoc

take_past : (x y : List ℕ) (n : ℕ) → take (length x + n) (x ++ y) ≡ x ++ take n y
take_past [] y n = let same : 0 + n ≡ n = omega arith in ap (λ k. take k y) same
take_past (z ∷ x) y n =
    let same : suc (length x) + n ≡ suc (length x + n) = omega arith in
    ap (λ k. take k (z ∷ (x ++ y))) same ∙ ap (λ (ys : List ℕ). z ∷ ys) (take_past x y n)

module _ (w : List ℕ) (p len dot : ℕ) (fit : fits w p len dot ≡ true) where
  low : dot ≤ p
  low = leb-true dot p (and_parts (nat_le dot p) (nat_le (p - dot + len) (length w)) fit).0

  room : p - dot + len ≤ length w
  room = leb-true (p - dot + len) (length w) (and_parts (nat_le dot p) (nat_le (p - dot + len) (length w)) fit).1

  window_length : length (window w p len dot) ≡ len
  window_length =
      let left : length (drop (p - dot) w) ≡ length w - (p - dot) = length-drop (p - dot) w in
      let inside : p - dot + len ≤ length w = room in
      length-take-le len (drop (p - dot) w) (omega arith)

  -- what stands in a window that fits stands in the word
  pub out_of_window : (q : List ℕ) (d : ℕ) → Cut (window w p len dot) q d dot → Cut w q d p
  out_of_window q d cut =
      let rest : List ℕ = drop len (drop (p - dot) w) in
      let whole : w ≡ take (p - dot) w ++ (window w p len dot ++ rest) = sym (take-append-drop (p - dot) w)
      ∙ ap (λ (ys : List ℕ). take (p - dot) w ++ ys) (sym (take-append-drop len (drop (p - dot) w))) in
      let upto : dot ≤ p = low in
      let inside : p - dot + len ≤ length w = room in
      let first : length (take (p - dot) w) ≡ p - dot = length-take-le (p - dot) w (omega arith) in
      let both : length (take (p - dot) w ++ cut.before) ≡ length (take (p - dot) w) + length cut.before = length-append (take (p - dot) w) cut.before in
      let at : length cut.before + d ≡ dot = cut.dot in
      record {
        before = take (p - dot) w ++ cut.before;
        after = cut.after ++ rest;
        whole = whole ∙ ap (λ (ys : List ℕ). take (p - dot) w ++ (ys ++ rest)) cut.whole ∙ regroup (take (p - dot) w) cut.before q cut.after rest;
        dot = omega arith;
      }

  -- and ends in the window
  pub within_window : (q : List ℕ) (d : ℕ) → Cut (window w p len dot) q d dot → (d ≤ dot) × (length q + dot ≤ len + d)
  within_window q d cut =
      let size : length (window w p len dot) ≡ length cut.before + (length q + length cut.after) =
      ap (λ (ys : List ℕ). length ys) cut.whole ∙ length-append cut.before (q ++ cut.after) ∙ ap (λ n. length cut.before + n) (length-append q cut.after) in
      let whole : length (window w p len dot) ≡ len = window_length in
      let at : length cut.before + d ≡ dot = cut.dot in
      (omega arith, omega arith)

  -- what stands in the word, and begins and ends in the window, stands in the window
  pub into_window : (q : List ℕ) (d : ℕ) → Cut w q d p → d ≤ dot → length q + dot ≤ len + d → Cut (window w p len dot) q d dot
  into_window q d cut begins ends =
      let upto : dot ≤ p = low in
      let at : length cut.before + d ≡ p = cut.dot in
      let first : List ℕ = drop (p - dot) cut.before in
      let size : length first ≡ length cut.before - (p - dot) = length-drop (p - dot) cut.before in
      let n : ℕ = len - (dot - d) - length q in
      let parts : len ≡ length first + (length q + n) = omega arith in
      let from : drop (p - dot) w ≡ first ++ (q ++ cut.after) = ap (λ (ys : List ℕ). drop (p - dot) ys) cut.whole ∙ drop-append-le (p - dot) cut.before (q ++ cut.after) (omega arith) in
      record {
        before = first;
        after = take n cut.after;
        whole = ap (λ (ys : List ℕ). take len ys) from ∙ ap (λ k. take k (first ++ (q ++ cut.after))) parts ∙ take_past first (q ++ cut.after) (length q + n)
            ∙ ap (λ (ys : List ℕ). first ++ ys) (take_past q cut.after n);
        dot = omega arith;
      }
