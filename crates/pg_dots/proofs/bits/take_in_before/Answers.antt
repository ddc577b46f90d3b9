use Rattle.std.proofs.Common.{◌≡◌, ℕ, ◌+◌, ◌-◌, ◌*◌, ◌/◌, ◌<◌, nat_le, cond, length, set, get_or, List, bit_or, inl, inr, sym, ap, ◌∙◌, arith}
use Rattle.std.proofs.lemmas.Bool.{cases_eq, cases_lt, le-leb, lt-leb}
use Rattle.std.proofs.lemmas.List.{get_or-set_same, get_or-set_other}
use Rattle.pg_dots.proofs.Rows.{taken_in}
use Rattle.pg_dots.proofs.bits.take_in_before.Goals as goal

pub numbers-preserved : goal.numbers-preserved
numbers-preserved c = λ y within.
    let old : List ℕ = c.args.row.now in
    let row : List ℕ = c.numbers.row in
    let width = c.args.width in
    let k = c.numbers.k in
    let end = length old in
    let x = end - 1 - k in
    let size : length row ≡ end = c.numbers.auto.row in
    let test : k < end - 2 * width = c.numbers-test.true in
    let plain : (z : ℕ) → z < end - k → get_or row z 0 ≡ get_or old z 0 = λ z less. c.numbers.invariant z (omega arith)
    ∙ ap (λ b. cond b (bit_or (get_or old z 0) (get_or old (z - width) 0)) (get_or old z 0)) (lt-leb (end - k) z less) in
    elim (cases_eq y x) [
      | inl same ↦
          ap (λ z. get_or (set row x (bit_or (get_or row x 0) (get_or row (x - width) 0))) z 0) same
          ∙ get_or-set_same row x (bit_or (get_or row x 0) (get_or row (x - width) 0)) 0 (omega arith)
          ∙ (λ i. bit_or (plain x (omega arith) i) (plain (x - width) (omega arith) i))
          ∙ ap (λ z. bit_or (get_or old z 0) (get_or old (z - width) 0)) (sym same)
          ∙ ap (λ b. cond b (bit_or (get_or old y 0) (get_or old (y - width) 0)) (get_or old y 0)) (sym (le-leb (end - (k + 1)) y (omega arith)))
      | inr other ↦
          get_or-set_other row x y (bit_or (get_or row x 0) (get_or row (x - width) 0)) 0 other
          ∙ c.numbers.invariant y within
          ∙ ap (λ b. cond b (bit_or (get_or old y 0) (get_or old (y - width) 0)) (get_or old y 0)) (elim (cases_lt y (end - k)) [
            | inl less ↦ lt-leb (end - k) y less ∙ sym (lt-leb (end - (k + 1)) y (omega arith))
            | inr more ↦ le-leb (end - k) y more ∙ sym (le-leb (end - (k + 1)) y (omega arith))
          ])
    ]

pub returns : goal.returns
returns c = λ j within.
    let old : List ℕ = c.args.row.now in
    let width = c.args.width in
    let left : length old - c.numbers.k ≡ 2 * width = omega (arith, c.numbers-test.false, c.numbers.auto.k-end, c.requires.width) in
    taken_in old c.numbers.row width j
    (c.numbers.invariant (j / 64) (omega arith)
    ∙ ap (λ n. cond (nat_le n (j / 64)) (bit_or (get_or old (j / 64) 0) (get_or old (j / 64 - width) 0)) (get_or old (j / 64) 0)) left)
