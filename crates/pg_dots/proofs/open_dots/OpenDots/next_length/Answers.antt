use Rattle.std.proofs.Common.{◌≡◌, ℕ, ◌+◌, ◌-◌, ◌*◌, ◌<◌, ◌≤◌, nat_le, Bool, true, false, ◌&&◌, ◌||◌, List, length, refl, sym, ap, subst, ◌∙◌, arith, rules}
use Rattle.std.proofs.Math.Nat.{mul-le-mul_left}
use Rattle.std.proofs.lemmas.List.{with_items_is, places}
use Rattle.pg_types.specs.Inside.Bits.{has_bit}
use Rattle.pg_dots.specs.Inside.Dots.{is_closed, dot_row}
use Rattle.pg_dots.specs.declared.open_dots.OpenDots.{OpenDots}
use Rattle.pg_dots.proofs.Places.{longer_beyond, longer_dot, longer_grown, row_beyond}
use Rattle.pg_dots.proofs.open_dots.OpenDots.next_length.Goals as goal
use Rattle.pg_dots.proofs.open_dots.OpenDots.next_length.Goals.{then-self-lt-DOTS+in_ok-reach_next, else-self-lt-DOTS}

-- where no dot is reached all dots are alike
pub returns-then-self-eq0-clause-closed : goal.returns-then-self-eq0-clause-closed
unfolding is_closed
returns-then-self-eq0-clause-closed c = λ d j upto within.
    let o = c.args.self.now in
    let none : o.reached ≡ 0 = c.if-self-eq0.true in
    let alike : dot_row o.reached d ≡ dot_row o.reached (d - 1) = row_beyond o.reached d (omega arith) ∙ sym (row_beyond o.reached (d - 1) (omega arith)) in
    twice (has_bit o.bits.items (dot_row o.reached d * (64 * o.width) + j)) (nat_le 1 d)
    ∙ ap (λ r. has_bit o.bits.items (dot_row o.reached d * (64 * o.width) + j) || (nat_le 1 d && has_bit o.bits.items (r * (64 * o.width) + j))) alike
  where
    twice : (a b : Bool) → a ≡ (a || (b && a))
    twice true b = refl
    twice false true = refl
    twice false false = refl

pub returns-clause-closed : goal.returns-clause-closed
unfolding is_closed
returns-clause-closed c = λ d j upto within.
    let o = c.args.self.now in
    let m = c.if-self-lt-DOTS.self in
    let now : List ℕ = c.take_in_before.new.row in
    let same : c.deref_mut.result.now ≡ m.bits.items = c.deref_mut.ensures.value in
    let new = with_items_is m.bits now (search (rules, places)) in
    let taken : (p : ℕ) → p < 64 * length m.bits.items → has_bit now p ≡ (has_bit m.bits.items p || (nat_le (128 * m.width) p && has_bit m.bits.items (p - 64 * m.width))) = λ p low.
    c.take_in_before.ensures p (subst (λ (xs : List ℕ). p < 64 * length xs) (sym same) low) ∙ ap (λ (xs : List ℕ). has_bit xs p || (nat_le (128 * m.width) p && has_bit xs (p - 64 * m.width))) same in
    ap (λ bits. has_bit bits (dot_row m.reached d * (64 * m.width) + j)) new
    ∙ elim c.if-self-lt-DOTS.branch [
      | then-self-lt-DOTS+in_ok-reach_next w ↦
          let more = w.in_ok-reach_next.ensures in
          let wide : m.width ≡ o.width = omega (arith, ap (λ (x : OpenDots). x.width) w.self-is, more.positions) in
          let grown : m.reached ≡ o.reached + 1 = ap (λ (x : OpenDots). x.reached) w.self-is ∙ more.reached in
          longer_grown m.bits.items now m.width m.reached o.reached d j (λ e. is_closed o e j) grown m.rows (omega arith)
          (λ e. ap (λ (x : OpenDots). is_closed x e j) w.self-is ∙ more.closed e j within)
          (λ e beyond. ap (λ r. has_bit o.bits.items (r * (64 * o.width) + j)) (row_beyond o.reached e beyond ∙ sym (row_beyond o.reached o.reached (omega arith))))
          taken
      | else-self-lt-DOTS w ↦
          let wide : m.width ≡ o.width = ap (λ (x : OpenDots). x.width) w.self-is in
          let all : 16 ≤ m.reached = omega (arith, ap (λ (x : OpenDots). x.reached) w.self-is, w.if-self-lt-DOTS.false) in
          let rows : m.width * (d + 1) ≤ m.width * m.reached = mul-le-mul_left m.width (let z : d + 1 ≤ m.reached = omega (arith, upto) in z) in
          longer_dot m.bits.items now m.width m.reached d j (omega (arith, upto)) (omega arith) (taken ((d + 1) * (64 * m.width) + j) (omega (arith, m.rows)))
          ∙ (λ i. is_closed (w.self-is i) d j || (nat_le 1 d && is_closed (w.self-is i) (d - 1) j))
    ]

pub returns-clause-beyond : goal.returns-clause-beyond
unfolding is_closed
returns-clause-beyond c = λ d j high within.
    let o = c.args.self.now in
    let m = c.if-self-lt-DOTS.self in
    let now : List ℕ = c.take_in_before.new.row in
    let same : c.deref_mut.result.now ≡ m.bits.items = c.deref_mut.ensures.value in
    let new = with_items_is m.bits now (search (rules, places)) in
    let taken : (p : ℕ) → p < 64 * length m.bits.items → has_bit now p ≡ (has_bit m.bits.items p || (nat_le (128 * m.width) p && has_bit m.bits.items (p - 64 * m.width))) = λ p low.
    c.take_in_before.ensures p (subst (λ (xs : List ℕ). p < 64 * length xs) (sym same) low) ∙ ap (λ (xs : List ℕ). has_bit xs p || (nat_le (128 * m.width) p && has_bit xs (p - 64 * m.width))) same in
    ap (λ bits. has_bit bits (dot_row m.reached d * (64 * m.width) + j)) new
    ∙ elim c.if-self-lt-DOTS.branch [
      | then-self-lt-DOTS+in_ok-reach_next w ↦
          let more = w.in_ok-reach_next.ensures in
          let wide : m.width ≡ o.width = omega (arith, ap (λ (x : OpenDots). x.width) w.self-is, more.positions) in
          longer_beyond m.bits.items now m.width m.reached d j (omega (arith, m.few)) m.rows (omega arith) taken
          ∙ ap (λ (x : OpenDots). is_closed x d j) w.self-is
          ∙ more.closed d j within
      | else-self-lt-DOTS w ↦
          let wide : m.width ≡ o.width = ap (λ (x : OpenDots). x.width) w.self-is in
          longer_beyond m.bits.items now m.width m.reached d j (omega (arith, m.few)) m.rows (omega arith) taken
          ∙ ap (λ (x : OpenDots). is_closed x d j) w.self-is
    ]
