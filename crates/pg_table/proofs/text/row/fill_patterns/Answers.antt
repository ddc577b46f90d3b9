use Rattle.std.proofs.Common.{◌≡◌, ℕ, List, [], ◌∷◌, inl, inr, length, take, slice_get, Some, sym, ap, subst, ◌∙◌, arith}
use Rattle.std.proofs.lemmas.Bool.{cases_lt}
use Rattle.std.proofs.lemmas.List.{take_all}
use Rattle.pg_table.specs.Inside.text.Rows.{HasHeads, HasCell}
use Rattle.pg_table.specs.Inside.text.Files.{head_in}
use Rattle.pg_table.proofs.text.EnteredStrings.{signs_within}
use Rattle.pg_table.proofs.text.Filling.{row_last}
use Rattle.pg_table.proofs.text.Groups.{Entry}
use Rattle.pg_table.proofs.text.row.fill_patterns.Goals as goal

pub fill_string-requires-clause-signs : goal.fill_string-requires-clause-signs
fill_string-requires-clause-signs c =
    signs_within c.args.packed.now.cells.signs c.args.patterns.now c.patterns.i ((c.entry.result.signs.now, c.entry.result.dot), c.entry.result.value)
    c.requires.known c.entry.ensures.value c.entry.ensures.signs

pub patterns-preserved : goal.patterns-preserved
patterns-preserved c =
    let h = c.args.packed.now.cells in
    let heads = head_in c.args.patterns.now in
    let q = c.entry.result.signs.now in
    let has : HasHeads h heads = record { each = c.requires.entered.heads } in
    let fills = c.fill_string.ensures heads has c.patterns.invariant.row in
    record {
      row = fills.row;
      signs = λ x low high. fills.keeps (x ∷ []) (c.patterns.invariant.signs x low high);
      fronts = λ j k e low at. elim (cases_lt j c.patterns.i) [
        | inl before ↦ fills.keeps (take k e.0.0) (c.patterns.invariant.fronts j k e before at)
        | inr here ↦
            let same : j ≡ c.patterns.i = omega arith in
            let found : Some e ≡ Some ((q, c.entry.result.dot), c.entry.result.value) = sym at ∙ ap (slice_get c.args.patterns.now) same ∙ c.entry.ensures.value in
            let is : e ≡ ((q, c.entry.result.dot), c.entry.result.value) = cc in
            subst (λ (r : List ℕ). HasCell h heads c.fill_string.new.row (take k r)) (sym (ap (λ (f : Entry). f.0.0) is)) (elim (cases_lt (length q) k) [
              | inr short ↦ fills.fronts k short
              | inl long ↦ subst (HasCell h heads c.fill_string.new.row) (take_all (length q) q (omega arith) ∙ sym (take_all k q (omega arith))) (fills.fronts (length q) (omega arith))
            ])
      ];
    }

pub returns : goal.returns
returns c =
    row_last c.args.packed.now.cells.signs c.args.patterns.now c.args.packed.now.cells c.args.packed.now.outputs c.patterns.row c.requires.entered c.patterns.invariant.row c.patterns.invariant.signs
    (λ j k e low at. c.patterns.invariant.fronts j k e (omega (arith, c.len-i-end.ensures.value)) at)

pub fill_string-requires-clause-held : goal.fill_string-requires-clause-held
fill_string-requires-clause-held c = c.requires.entered.packed.held

pub fill_string-requires-clause-size : goal.fill_string-requires-clause-size
fill_string-requires-clause-size c = c.patterns.invariant.row.size

pub patterns-init : goal.patterns-init
patterns-init c = record { row = c.requires.signs.row; signs = c.requires.signs.each; fronts = λ j k e low. absurd (omega arith) }
