use Rattle.std.proofs.Common.{◌≡◌, ℕ, ◌+◌, Bool, true, false, get_or, ap, ◌∙◌, arith, refl}
use Rattle.pg_types.specs.declared.limits.TheConstants.{WORD_LETTERS_MAX}
use Rattle.pg_table.specs.Lookups.{table_value}
use Rattle.pg_select.specs.Inside.words.Positions.{values_of, bit}
use Rattle.pg_table.specs.Inside.view.Raising.{by_table_starts}
use Rattle.pg_table.proofs.view.CellWalks.{all_same, table_value_is}
use Rattle.pg_table.proofs.view.TableView.values.Goals as goal

pub walk-requires-clause-uncovered : goal.walk-requires-clause-uncovered
walk-requires-clause-uncovered c p low = ap bit (ap (λ l. get_or l p false) c.new.ensures.covers ∙ all_same false (WORD_LETTERS_MAX + 2) p)

pub returns-clause-values : goal.returns-clause-values
returns-clause-values c p inside =
    let none : ℕ = 0 in
    let zero : values_of c.new.result p ≡ 0 = ap (λ l. get_or l p 0) c.new.ensures.values ∙ all_same none (WORD_LETTERS_MAX + 2) p in
    let raised = c.walk.ensures.values p (omega (arith, c.requires.word)) in
    let value : by_table_starts c.args.self.now c.args.w.signs.now 0 p ≡ table_value c.args.self.now c.args.w.signs.now p = table_value_is c.args.self.now c.args.w.signs.now p in
    omega (arith, raised, zero, value)

-- a position whose cover counts 0 is not covered
not_covered : (b : Bool) → bit b ≡ 0 → b ≡ false
not_covered false is = refl
not_covered true is = cc

pub returns-clause-covers : goal.returns-clause-covers
returns-clause-covers c p inside = not_covered _ (c.walk.ensures.uncovered p (omega (arith, c.requires.word)))
