use Rattle.pg_table.proofs.text.TableText.{sound_text, entries_text, on_any}
use Rattle.pg_table.proofs.text.table_text.Goals as goal

pub returns-clause-text : goal.returns-clause-text
returns-clause-text c = c.packed_text.ensures.text

pub returns-clause-well_formed : goal.returns-clause-well_formed
returns-clause-well_formed c =
    sound_text c.args.signs c.args.patterns.now c.in_ok-packed.packed.cells c.in_ok-packed.packed.outputs c.in_ok-packed.ensures c.requires.signs.0
    c.requires.signs.1 c.packed_text.result c.packed_text.ensures.short c.packed_text.ensures.text

pub returns-clause-values : goal.returns-clause-values
returns-clause-values c =
    entries_text c.args.signs c.args.patterns.now c.in_ok-packed.packed.cells c.in_ok-packed.packed.outputs c.in_ok-packed.ensures c.requires.signs.0
    c.requires.signs.1 c.packed_text.result c.packed_text.ensures.short c.packed_text.ensures.text

pub returns-clause-map : goal.returns-clause-map
returns-clause-map c = on_any c.packed_text.result c.in_ok-packed.ensures.sound

pub returns-clause-short : goal.returns-clause-short
returns-clause-short c = c.packed_text.ensures.short

pub returns-clause-too_long : goal.returns-clause-too_long
returns-clause-too_long c = c.packed_text.ensures.too_long
