use Rattle.std.proofs.Common.{◌≡◌, ◌+◌, ◌++◌, ℕ, List, length, take, drop, get_or, replicate, inl, ap, ◌∙◌, arith}
use Rattle.std.proofs.lemmas.List.{length-replicate, get_or-replicate, take-append-le, take_all}
use Rattle.pg_types.specs.Placement.{top}
use Rattle.pg_cells.specs.Inside.linked.ValuedFamilies.{ValuedFamilies}
use Rattle.pg_table.specs.declared.parts.cell.Cell.{Cell}
use Rattle.pg_table.specs.Inside.text.Cells.{unused_cell}
use Rattle.pg_table.specs.Inside.text.Rows.{IsPartRow}
use Rattle.pg_table.specs.Inside.text.Files.{head_in}
use Rattle.pg_table.proofs.text.row.table_cells.Goals as goal

-- a row of unused cells
unused_row : (h : ValuedFamilies ℕ) (heads : List ℕ → ℕ) (row : List Cell) (n : ℕ) → row ≡ replicate n unused_cell → n ≡ top h.families + 1 → IsPartRow h heads row
unused_row h heads row n is size = record {
  size = ap length is ∙ length-replicate n unused_cell ∙ size;
  each = λ at low. inl (ap (λ (r : List Cell). get_or r at unused_cell) is ∙ get_or-replicate n at unused_cell unused_cell (omega arith));
}

-- what is written back over a whole row
whole_row : (len : ℕ) (new old : List Cell) → length new ≡ length old → len ≡ length old → take len (new ++ drop (length new) old) ≡ new
whole_row len new old same size = take-append-le len new (drop (length new) old) (omega arith) ∙ take_all len new (omega arith)

pub fill-requires-clause-row : goal.fill-requires-clause-row
fill-requires-clause-row c = unused_row c.args.packed.now.cells (head_in c.args.patterns.now) c.deref_mut.result.now (c.top.result + 1)
    (c.deref_mut.ensures.value ∙ c.in_ok-row.ensures.items_if_clones_equal (λ y is. is)) (ap (λ n. n + 1) c.top.ensures.top)

pub returns : goal.returns
returns c = whole_row c.in_ok-row.row.len c.fill.new.row c.in_ok-row.row.items (c.fill.auto.row ∙ ap length c.deref_mut.ensures.value) c.in_ok-row.row.ok.0 ∙ c.fill.ensures
