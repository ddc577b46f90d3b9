use Rattle.std.proofs.Common.{◌∙◌, ap, sym, subst}
use Rattle.pg_patterns.specs.Inside.PatternMaps.{SignsUpTo}
use Rattle.pg_table.specs.Inside.text.Files.{table_cells, head_in}
use Rattle.pg_table.specs.Inside.text.PackedTrie.{IsEntered}
use Rattle.pg_table.specs.Inside.text.Rows.{HasHeads, FillsSigns}
use Rattle.pg_table.proofs.text.row.fill.Goals as goal

pub fill_patterns-requires-clause-known : goal.fill_patterns-requires-clause-known
fill_patterns-requires-clause-known c = subst (λ n. SignsUpTo n c.args.patterns.now) (sym c.requires.entered.packed.signs) c.requires.known

pub fill_patterns-requires-clause-entered : goal.fill_patterns-requires-clause-entered
fill_patterns-requires-clause-entered c =
    subst (λ n. IsEntered n c.args.patterns.now c.args.packed.now.cells c.args.packed.now.outputs) (sym c.requires.entered.packed.signs) c.requires.entered

pub fill_patterns-requires-clause-signs : goal.fill_patterns-requires-clause-signs
fill_patterns-requires-clause-signs c =
    let h = c.args.packed.now.cells in
    let heads = head_in c.args.patterns.now in
    let has : HasHeads h heads = record { each = c.requires.entered.heads } in
    subst (λ n. FillsSigns h heads n c.fill_signs.new.row) (sym c.requires.entered.packed.signs) (c.fill_signs.ensures heads has c.requires.row)

pub returns : goal.returns
returns c = c.fill_patterns.ensures ∙ ap (λ n. table_cells n c.args.patterns.now) c.requires.entered.packed.signs
