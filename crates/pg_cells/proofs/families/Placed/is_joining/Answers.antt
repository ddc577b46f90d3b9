use Rattle.std.proofs.Common.{◌≡◌, Some, ap, sym, subst, ◌∙◌, arith}
use Rattle.pg_types.specs.Inside.Placing.{cell_of, joins_at}
use Rattle.pg_cells.specs.Inside.families.Adding.{CanTakeSign}
use Rattle.pg_cells.specs.Inside.linked.ValuedFamilies.{ValuedFamilies}
use Rattle.pg_cells.specs.declared.store.member.Member.{Member}
use Rattle.pg_cells.proofs.StringCells.{cells_apart, cell_taken}
use Rattle.pg_cells.proofs.AddTrie.{child_within}
use Rattle.pg_cells.proofs.GivenMembers.{extends_itself, joins_told}
use Rattle.pg_cells.proofs.families.Placed.is_joining.Goals as goal

pub child-base-requires : goal.child-base-requires
child-base-requires g c =
    let can : CanTakeSign c.self.inside.signs c.self.inside.layout.0.families c.args.parent c.args.s =
    subst (λ (h : ValuedFamilies (Member g.row.V.Denot)). CanTakeSign h.signs h.families c.args.parent c.args.s) (sym c.self.view_is) c.requires in
    cell_taken c.self.inside.signs c.self.inside.store c.self.inside.layout.0 c.self.invariant.trie can.prefix c.args.parent can.at

pub joins-requires : goal.joins-requires
joins-requires g c =
    let can : CanTakeSign c.self.inside.signs c.self.inside.layout.0.families c.args.parent c.args.s =
    subst (λ (h : ValuedFamilies (Member g.row.V.Denot)). CanTakeSign h.signs h.families c.args.parent c.args.s) (sym c.self.view_is) c.requires in
    let within = child_within c.self.inside.signs c.self.inside.store c.self.inside.store c.self.inside.layout.0 c.self.invariant.trie
    (extends_itself c.self.inside.store) can.prefix c.args.parent can.at c.args.s can.low can.high can.lacks c.child-base.result c.child-base.ensures c.self.invariant.row.bases in
    let small = c.self.invariant.row.small in omega arith

pub returns : goal.returns
returns g c q e =
    let can : CanTakeSign c.self.inside.signs c.self.inside.layout.0.families c.args.parent c.args.s =
    subst (λ (h : ValuedFamilies (Member g.row.V.Denot)). CanTakeSign h.signs h.families c.args.parent c.args.s) (sym c.self.view_is) c.requires in
    let same : can.prefix ≡ q = cells_apart c.self.inside.signs c.self.inside.store c.self.inside.layout.0 c.self.invariant.trie can.prefix q c.args.parent can.at
    (subst (λ (h : ValuedFamilies (Member g.row.V.Denot)). cell_of h.families q ≡ Some c.args.parent) (sym c.self.view_is) e) in
    c.joins.ensures ∙ joins_told c.self.inside.signs c.self.inside.store c.self.inside.store c.self.inside.layout.0 c.self.invariant.trie
    (extends_itself c.self.inside.store) can.prefix c.args.parent can.at c.args.s can.low can.high can.lacks c.child-base.result c.child-base.ensures
    ∙ ap (λ (h : ValuedFamilies (Member g.row.V.Denot)). joins_at h.families can.prefix c.args.s) c.self.view_is
    ∙ ap (λ p. joins_at c.args.self.now.families p c.args.s) same
