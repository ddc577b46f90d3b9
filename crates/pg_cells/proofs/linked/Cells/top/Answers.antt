use Rattle.std.proofs.Common.{◌∙◌, ap, arith}
use Rattle.pg_types.specs.Placement.{top}
use Rattle.pg_cells.specs.Inside.linked.ValuedFamilies.{ValuedFamilies}
use Rattle.pg_cells.proofs.LayoutLaws.{top_same}
use Rattle.pg_cells.proofs.linked.Cells.top.Goals as goal

pub returns-clause-top : goal.returns-clause-top
returns-clause-top g c =
    let h = c.self.inside.placed in
    top_same h.signs c.store.result.now h.families c.store.ensures.trie.sorted c.store.ensures.trie.layout c.top.result c.top.ensures
    ∙ ap (λ (k : ValuedFamilies g.row.V.Denot). top k.families) c.self.view_is

pub returns-clause-small : goal.returns-clause-small
returns-clause-small g c = let within = c.top.ensures.within in let small = c.store.ensures.row.small in omega arith
