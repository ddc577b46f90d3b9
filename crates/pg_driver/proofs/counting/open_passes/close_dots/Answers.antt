use Rattle.std.proofs.Common.{◌≡◌, ℕ, ◌+◌, ◌<◌, ◌≤◌, Bool, true, false, List, length, inl, inr, refl, sym, ap, ◌∙◌, arith}
use Rattle.std.proofs.lemmas.Bool.{cases_eq, cases_lt}
use Rattle.pg_dots.specs.Inside.Dots.{is_closed, position_count}
use Rattle.pg_dots.proofs.Walks.{ahead_kept}
use Rattle.pg_driver.specs.Inside.counting.OpenSigns.{closed_by, sign_count}
use Rattle.pg_driver.proofs.StartSteps.{numbers_at_one}
use Rattle.pg_driver.proofs.counting.open_passes.close_dots.Goals as goal

pub signs-init : goal.signs-init
signs-init c =
    let later = c.next_open-next.ensures.next 0 c.walk-walk.ensures.ahead in
    record {
      size = refl;
      reached = refl;
      inside = later.within;
      free = later.fails;
      at = c.next_open-next.ensures.within;
      ahead = c.next_open-next.ensures.ahead 0 c.walk-walk.ensures.ahead;
      later = λ d s from low. refl;
      front = λ after by d s before low. sym (by.stays s (later.passes s (omega arith) before) d);
    }

pub fate_of-fate-requires-clause-within : goal.fate_of-fate-requires-clause-within
fate_of-fate-requires-clause-within c =
    let all = ap (λ (xs : List ℕ). length xs) c.all_signs-signs.ensures in
    omega (arith, c.signs-test.true)

pub fate_of-fate-requires-clause-numbers : goal.fate_of-fate-requires-clause-numbers
fate_of-fate-requires-clause-numbers c =
    let dot = c.args.pass.dot in
    let s = c.signs.next in
    let inv = c.signs.invariant in
    let all = ap (λ (xs : List ℕ). length xs) c.all_signs-signs.ensures in
    let low : s < position_count c.args.dots.now = omega (arith, c.signs-test.true, c.requires.size) in
    let free : is_closed c.args.dots.now dot s ≡ false = sym (inv.later dot s (omega arith) low) ∙ inv.free low in
    numbers_at_one c.args.dictionary.now c.args.pass.len dot s (is_closed c.args.dots.now) c.args.counts.now.numbers c.requires.numbers free

pub close_at-requires-clause-within : goal.close_at-requires-clause-within
close_at-requires-clause-within c =
    let all = ap (λ (xs : List ℕ). length xs) c.all_signs-signs.ensures in
    omega (arith, c.signs-test.true, c.requires.size, c.signs.invariant.size)

pub signs-preserved : goal.signs-preserved
signs-preserved c =
    let inv = c.signs.invariant in
    let dot = c.args.pass.dot in
    let s = c.signs.next in
    let t = c.next_open-next-in-signs.result in
    let old : ℕ → ℕ → Bool = is_closed c.args.dots.now in
    let all = ap (λ (xs : List ℕ). length xs) c.all_signs-signs.ensures in
    let inside : s < sign_count c.args.dictionary.now = omega (arith, c.signs-test.true) in
    let low : s < position_count c.args.dots.now = omega (arith, inside, c.requires.size) in
    let wide : position_count c.signs.dots ≡ position_count c.args.dots.now = inv.size in
    let same : position_count c.close_at.new.dots ≡ position_count c.signs.dots = c.close_at.ensures.size in
    let free : old dot s ≡ false = sym (inv.later dot s (omega arith) low) ∙ inv.free low in
    let ahead = ahead_kept (is_closed c.signs.dots dot) (is_closed c.close_at.new.dots dot) c.signs.walk (s + 1) (position_count c.signs.dots)
    (omega (arith, inv.at))
    (λ i from below. c.close_at.ensures.others dot i below (λ is. omega arith)) (inv.ahead low) in
    let later = c.next_open-next-in-signs.ensures.next (s + 1) ahead in
    let kept = λ (d i : ℕ) (from : s + 1 ≤ i) (below : i < position_count c.args.dots.now).
    c.close_at.ensures.others d i (omega (arith, below, wide)) (λ is. omega arith) ∙ inv.later d i (omega (arith, from)) below in
    record {
      size = same ∙ wide;
      reached = c.close_at.ensures.reached ∙ inv.reached;
      inside = omega (arith, later.within, same, wide);
      free = λ below. later.fails (omega (arith, below, same, wide));
      at = c.next_open-next-in-signs.ensures.within;
      ahead = λ below. c.next_open-next-in-signs.ensures.ahead (s + 1) ahead (omega (arith, below, same, wide));
      later = λ d i from below. kept d i (omega (arith, from, later.after)) below;
      front = λ after by d i before little. elim (cases_eq i s) [
        | inl is ↦
            ap (is_closed c.close_at.new.dots d) is
            ∙ c.close_at.ensures.here d
            ∙ (λ k. closed_by (λ e. inv.later e s (omega arith) low k) dot c.fate_of-fate.result d)
            ∙ by.closes s inside free c.fate_of-fate.result c.fate_of-fate.ensures d
            ∙ ap (after d) (sym is)
        | inr other ↦ elim (cases_lt i s) [
          | inl earlier ↦ c.close_at.ensures.others d i (omega (arith, little, c.requires.size, wide)) other ∙ inv.front after by d i earlier little
          | inr from ↦ (let below : i < position_count c.args.dots.now = omega (arith, little, c.requires.size) in
              let shut : old dot i ≡ true = sym (kept dot i (omega arith) below) ∙ later.passes i (omega arith) before in
              kept d i (omega arith) below ∙ sym (by.stays i shut d))
        ]
      ];
    }

pub signs-smaller : goal.signs-smaller
signs-smaller c =
    let inv = c.signs.invariant in
    let dot = c.args.pass.dot in
    let s = c.signs.next in
    let all = ap (λ (xs : List ℕ). length xs) c.all_signs-signs.ensures in
    let low : s < position_count c.args.dots.now = omega (arith, c.signs-test.true, c.requires.size) in
    let wide : position_count c.signs.dots ≡ position_count c.args.dots.now = inv.size in
    let ahead = ahead_kept (is_closed c.signs.dots dot) (is_closed c.close_at.new.dots dot) c.signs.walk (s + 1) (position_count c.signs.dots)
    (omega (arith, inv.at))
    (λ i from below. c.close_at.ensures.others dot i below (λ is. omega arith)) (inv.ahead low) in
    let later = c.next_open-next-in-signs.ensures.next (s + 1) ahead in
    omega (arith, c.signs-test.true, later.after)

pub returns-clause-closed : goal.returns-clause-closed
returns-clause-closed c = λ after by d s low.
    let all = ap (λ (xs : List ℕ). length xs) c.all_signs-signs.ensures in
    c.signs.invariant.front after by d s (omega (arith, low, c.signs-test.false)) low
