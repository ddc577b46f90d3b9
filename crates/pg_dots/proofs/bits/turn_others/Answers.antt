use Rattle.std.proofs.Common.{◌≡◌, ℕ, ◌+◌, ◌/◌, cond, length, set, get_or, List, bit_or, inl, inr, sym, ap, ◌∙◌, arith, w64}
use Rattle.std.specs.Int.{bit_not}
use Rattle.std.proofs.lemmas.Bool.{cases_eq, cases_lt, lt-ltb, le-ltb}
use Rattle.std.proofs.lemmas.List.{get_or-set_same, get_or-set_other}
use Rattle.pg_dots.proofs.Rows.{turned}
use Rattle.pg_dots.proofs.bits.turn_others.Goals as goal

pub numbers-init : goal.numbers-init
numbers-init c =
    let old : List ℕ = c.args.row.now in
    let kept : List ℕ = c.args.kept.now in
    record {
      small = λ y within. omega (arith, c.type_inv.row y);
      turned = λ y within. sym (ap (λ b. cond b (bit_or (bit_not w64 (get_or old y 0)) (get_or kept y 0)) (get_or old y 0)) (le-ltb y 0 (omega arith)));
    }

pub numbers-preserved : goal.numbers-preserved
numbers-preserved c =
    let old : List ℕ = c.args.row.now in
    let row : List ℕ = c.numbers.row in
    let kept : List ℕ = c.args.kept.now in
    let x = c.numbers.x in
    let turn : ℕ → ℕ = λ n. bit_or (bit_not w64 n) (get_or kept x 0) in
    let size : length row ≡ length old = c.numbers.auto.row in
    let plain : get_or row x 0 ≡ get_or old x 0 = c.numbers.invariant.turned x (omega arith)
    ∙ ap (λ b. cond b (bit_or (bit_not w64 (get_or old x 0)) (get_or kept x 0)) (get_or old x 0)) (le-ltb x x (omega arith)) in
    record {
      small = c.numbers.invariant.small;
      turned = λ y within. elim (cases_eq y x) [
        | inl same ↦
            ap (λ z. get_or (set row x (turn (get_or row x 0))) z 0) same
            ∙ get_or-set_same row x (turn (get_or row x 0)) 0 (omega arith)
            ∙ ap turn plain
            ∙ ap (λ z. bit_or (bit_not w64 (get_or old z 0)) (get_or kept z 0)) (sym same)
            ∙ ap (λ b. cond b (bit_or (bit_not w64 (get_or old y 0)) (get_or kept y 0)) (get_or old y 0)) (sym (lt-ltb y (x + 1) (omega arith)))
        | inr other ↦
            get_or-set_other row x y (turn (get_or row x 0)) 0 other
            ∙ c.numbers.invariant.turned y within
            ∙ ap (λ b. cond b (bit_or (bit_not w64 (get_or old y 0)) (get_or kept y 0)) (get_or old y 0)) (elim (cases_lt y x) [
              | inl less ↦ lt-ltb y x less ∙ sym (lt-ltb y (x + 1) (omega arith))
              | inr more ↦ le-ltb y x more ∙ sym (le-ltb y (x + 1) (omega arith))
            ])
      ];
    }

pub returns : goal.returns
returns c = λ j within.
    let old : List ℕ = c.args.row.now in
    let kept : List ℕ = c.args.kept.now in
    turned old kept c.numbers.row j (c.numbers.invariant.small (j / 64) (omega arith))
    (c.numbers.invariant.turned (j / 64) (omega arith)
    ∙ ap (λ b. cond b (bit_or (bit_not w64 (get_or old (j / 64) 0)) (get_or kept (j / 64) 0)) (get_or old (j / 64) 0))
    (lt-ltb (j / 64) c.numbers.x (omega (arith, c.numbers-test.false))))
