use Rattle.std.proofs.Common.{◌≡◌, [], ◌∷◌, inl, inr, sym, subst, arith}
use Rattle.std.proofs.lemmas.Bool.{cases_lt}
use Rattle.pg_table.specs.Inside.text.Rows.{HasCell}
use Rattle.pg_table.proofs.text.row.fill_signs.Goals as goal

pub signs-preserved : goal.signs-preserved
signs-preserved c = λ heads has row.
    let before = c.signs.invariant heads has row in
    let fills = c.fill_string.ensures heads has before.row in
    record {
      row = fills.row;
      each = λ x low high. elim (cases_lt x c.signs.s) [
        | inl earlier ↦ fills.keeps (x ∷ []) (before.each x low (omega arith))
        | inr here ↦ let same : x ≡ c.signs.s = omega arith in
            subst (λ y. HasCell c.args.cells.now heads c.fill_string.new.row (y ∷ [])) (sym same) (fills.fronts 1 (omega arith))
      ];
    }

pub signs-init : goal.signs-init
signs-init c = λ heads has row. record { row = row; each = λ x low high. absurd (omega arith) }

pub returns : goal.returns
returns c = λ heads has row.
    let filled = c.signs.invariant heads has row in
    record { row = filled.row; each = λ x low high. filled.each x low (omega arith) }
