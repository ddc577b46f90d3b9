use Rattle.std.proofs.Common.{◌≡◌, ◌∙◌, ◌++◌, OnOk, sym, subst}
use Rattle.pg_types.specs.declared.marks.Layout.{Layout}
use Rattle.pg_top.specs.Inside.selection.SelectionAccounts.{work_line, selected_cells, last_layout}
use Rattle.pg_top.proofs.Selections.{last_is}
use Rattle.pg_top.proofs.generate.outputs.push_end.Goals as goal

pub unreachable-requires : goal.unreachable-requires
unreachable-requires c =
    let there = sym c.in-None.is ∙ c.last_layout.ensures ∙ last_is (selected_cells c.args.inputs.now) c.args.run.now c.requires.cells in
    cc

pub returns : goal.returns
returns c =
    let end = sym c.in-Some.is ∙ c.last_layout.ensures ∙ last_is (selected_cells c.args.inputs.now) c.args.run.now c.requires.cells in
    let same : c.in-Some.layout ≡ last_layout (selected_cells c.args.inputs.now) = cc in
    subst (λ n. OnOk c.push_work.result (c.push_work.new.lines.items ≡ c.args.lines.now.items ++ work_line n (last_layout (selected_cells c.args.inputs.now))))
    (c.begun.ensures ∙ c.requires.told.begun)
    (subst (λ (l : Layout). OnOk c.push_work.result (c.push_work.new.lines.items ≡ c.args.lines.now.items ++ work_line c.begun.result l)) same c.push_work.ensures)
