use Rattle.std.proofs.Common.{◌≡◌, ◌+◌, length, ap, ◌∙◌, arith}
use Rattle.pg_types.specs.Placement.{top}
use Rattle.pg_table.proofs.text.TableText.{text_size, fits, length-table_cells, text_of}
use Rattle.pg_table.proofs.text.packed_text.Goals as goal

pub returns-then-is_too_long-clause-too_long : goal.returns-then-is_too_long-clause-too_long
returns-then-is_too_long-clause-too_long c is =
    let size = text_size c.args.signs c.args.patterns.now c.args.packed.now.cells c.args.packed.now.outputs c.requires.entered.sound c.requires.entered in
    let long = c.is_too_long.ensures.0 c.if-is_too_long.true in
    omega (arith, size, long)

pub table_cells-requires-clause-cells : goal.table_cells-requires-clause-cells
table_cells-requires-clause-cells c =
    let size = text_size c.args.signs c.args.patterns.now c.args.packed.now.cells c.args.packed.now.outputs c.requires.entered.sound c.requires.entered in
    let short = fits c.args.signs c.args.patterns.now c.args.packed.now.cells c.args.packed.now.outputs c.requires.entered.sound c.requires.entered
    c.is_too_long.result c.is_too_long.ensures.1 c.if-is_too_long.false in
    omega (arith, size, short)

pub table_cells-requires-clause-records : goal.table_cells-requires-clause-records
table_cells-requires-clause-records c =
    let size = text_size c.args.signs c.args.patterns.now c.args.packed.now.cells c.args.packed.now.outputs c.requires.entered.sound c.requires.entered in
    let short = fits c.args.signs c.args.patterns.now c.args.packed.now.cells c.args.packed.now.outputs c.requires.entered.sound c.requires.entered
    c.is_too_long.result c.is_too_long.ensures.1 c.if-is_too_long.false in
    omega (arith, size, short)

pub file_of-requires-clause-records : goal.file_of-requires-clause-records
file_of-requires-clause-records c =
    let size = text_size c.args.signs c.args.patterns.now c.args.packed.now.cells c.args.packed.now.outputs c.requires.entered.sound c.requires.entered in
    let short = fits c.args.signs c.args.patterns.now c.args.packed.now.cells c.args.packed.now.outputs c.requires.entered.sound c.requires.entered
    c.is_too_long.result c.is_too_long.ensures.1 c.if-is_too_long.false in
    omega (arith, size, short)

pub file_of-requires-clause-cells : goal.file_of-requires-clause-cells
file_of-requires-clause-cells c =
    let size = text_size c.args.signs c.args.patterns.now c.args.packed.now.cells c.args.packed.now.outputs c.requires.entered.sound c.requires.entered in
    let short = fits c.args.signs c.args.patterns.now c.args.packed.now.cells c.args.packed.now.outputs c.requires.entered.sound c.requires.entered
    c.is_too_long.result c.is_too_long.ensures.1 c.if-is_too_long.false in
    let count : length c.deref.result.now ≡ top c.args.packed.now.cells.families + 1 =
    ap length (c.deref.ensures.value ∙ c.in_ok-row.ensures) ∙ length-table_cells c.args.signs c.args.patterns.now c.args.packed.now.cells c.requires.entered.sound c.requires.entered.packed in
    omega (arith, size, short, count)

pub returns-clause-text : goal.returns-clause-text
returns-clause-text c =
    text_of c.args.signs c.args.patterns.now c.deref.result.now c.args.packed.now.outputs c.in_ok-text.text.items c.requires.entered.sound c.in_ok-text.ensures
    (c.deref.ensures.value ∙ c.in_ok-row.ensures) c.requires.entered.records_are

pub returns-clause-short : goal.returns-clause-short
returns-clause-short c = fits c.args.signs c.args.patterns.now c.args.packed.now.cells c.args.packed.now.outputs c.requires.entered.sound c.requires.entered
    c.is_too_long.result c.is_too_long.ensures.1 c.if-is_too_long.false
