use Rattle.std.proofs.Common.{◌≡◌, ◌+◌, ◌∷◌, [], ◌++◌, ℕ, List, take, get_or, sym, ap, ◌∙◌, append_assoc}
use Rattle.std.specs.List.{flat_map}
use Rattle.std.proofs.lemmas.List.{append-nil, take_more, take_all, flat_map_more}
use Rattle.pg_table.specs.declared.parts.cell.Cell.{Cell}
use Rattle.pg_table.specs.Inside.text.Cells.{unused_cell}
use Rattle.pg_table.specs.Numbers.{bytes_of_number}
use Rattle.pg_table.specs.Inside.text.Files.{cell_bytes}
use Rattle.pg_table.proofs.text.push_cells.Goals as goal

-- one more cell is behind the text
more : (old mid first second new : List ℕ) (cells : List Cell) (i : ℕ) (x : Cell) → mid ≡ old ++ flat_map cell_bytes (take i cells)
    → take (i + 1) cells ≡ take i cells ++ x ∷ [] → first ≡ mid ++ bytes_of_number 2 x.sign → second ≡ first ++ bytes_of_number 4 x.child → new ≡ second ++ bytes_of_number 4 x.head
    → new ≡ old ++ flat_map cell_bytes (take (i + 1) cells)
more old mid first second new cells i x before front sign child head =
    head
    ∙ ap (λ (l : List ℕ). l ++ bytes_of_number 4 x.head) (child ∙ ap (λ (l : List ℕ). l ++ bytes_of_number 4 x.child) sign)
    ∙ ap (λ (l : List ℕ). l ++ bytes_of_number 4 x.head) (append_assoc mid (bytes_of_number 2 x.sign) (bytes_of_number 4 x.child))
    ∙ append_assoc mid (bytes_of_number 2 x.sign ++ bytes_of_number 4 x.child) (bytes_of_number 4 x.head)
    ∙ ap (λ (l : List ℕ). l ++ cell_bytes x) before
    ∙ flat_map_more cell_bytes old (take i cells) x
    ∙ ap (λ (l : List Cell). old ++ flat_map cell_bytes l) (sym front)

pub loop-cell-preserved : goal.loop-cell-preserved
loop-cell-preserved c =
    let i = c.loop-cell.cell-index in
    let cells = c.args.cells.now in
    more c.args.text.now.items c.loop-cell.text.items c.push_u16.new.text.items c.push_u32.new.text.items c.push_u32-in-loop-cell.new.text.items cells i (get_or cells i unused_cell)
    c.loop-cell.invariant (take_more cells i unused_cell c.loop-cell-test.true) c.in_ok-push_u16.ensures c.in_ok-push_u32.ensures c.in_ok-push_u32-2.ensures

pub loop-cell-init : goal.loop-cell-init
loop-cell-init c = sym (append-nil c.args.text.now.items)

pub returns : goal.returns
returns c = c.loop-cell.invariant ∙ ap (λ (l : List Cell). c.args.text.now.items ++ flat_map cell_bytes l) (take_all c.loop-cell.cell-index c.args.cells.now c.loop-cell-test.false)
