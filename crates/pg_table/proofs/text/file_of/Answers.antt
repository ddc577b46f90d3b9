use Rattle.std.proofs.Common.{◌++◌, ℕ, List, length, ap, ◌∙◌, arith}
use Rattle.std.specs.List.{flat_map}
use Rattle.pg_table.specs.Inside.text.Files.{cell_bytes, record_bytes, signature}
use Rattle.pg_table.specs.Numbers.{bytes_of_number}
use Rattle.pg_table.proofs.text.file_of.Goals as goal

pub returns : goal.returns
returns c =
    c.in_ok-push_records.ensures
    ∙ ap (λ (l : List ℕ). l ++ flat_map record_bytes c.args.outputs.now) (c.in_ok-push_cells.ensures
    ∙ ap (λ (l : List ℕ). l ++ flat_map cell_bytes c.args.cells.now) (c.in_ok-push_u32-3.ensures
    ∙ ap (λ (n : ℕ). c.push_u32-2.new.text.items ++ bytes_of_number 4 n) c.len-records.ensures.len
    ∙ ap (λ (l : List ℕ). l ++ bytes_of_number 4 (length c.args.outputs.now)) (c.in_ok-push_u32-2.ensures
    ∙ ap (λ (l : List ℕ). l ++ bytes_of_number 4 (length c.args.cells.now)) (c.in_ok-push_u32.ensures
    ∙ ap (λ (n : ℕ). c.extend_from_slice.new.self.items ++ bytes_of_number 4 n) c.from.ensures
    ∙ ap (λ (l : List ℕ). l ++ bytes_of_number 4 c.args.signs) (c.in_ok-extend_from_slice.ensures.items
    ∙ ap (λ (l : List ℕ). l ++ signature) c.in_ok-text.ensures.items)))))

pub overflow_mul-size : goal.overflow_mul-size
overflow_mul-size c = omega (arith, c.requires.cells)

pub overflow_add-size : goal.overflow_add-size
overflow_add-size c = omega (arith, c.requires.cells)

pub overflow_mul-size-2 : goal.overflow_mul-size-2
overflow_mul-size-2 c = omega (arith, c.len-records.ensures.len, c.requires.records)

pub overflow_add-size-2 : goal.overflow_add-size-2
overflow_add-size-2 c = omega (arith, c.requires.cells, c.len-records.ensures.len, c.requires.records)

pub overflow_cast-cells : goal.overflow_cast-cells
overflow_cast-cells c = omega (arith, c.requires.cells)

pub overflow_cast-records : goal.overflow_cast-records
overflow_cast-records c = omega (arith, c.len-records.ensures.len, c.requires.records)
