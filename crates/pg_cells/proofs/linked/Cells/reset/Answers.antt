use Rattle.std.proofs.Common.{ap, subst}
use Rattle.pg_cells.specs.declared.store.member.Member.{Member}
use Rattle.pg_cells.specs.Inside.linked.ValuedFamilies.{ValuedFamilies}
use Rattle.pg_cells.specs.Inside.linked.Links.{values_alone}
use Rattle.pg_cells.specs.Inside.families.Root.{IsRootAlone}
use Rattle.pg_cells.proofs.RootLinks.{root_links, root_seen}
use Rattle.pg_cells.proofs.linked.Cells.reset.Goals as goal

pub invariant_of-self : goal.invariant_of-self
invariant_of-self g c = root_links c.self.inside.placed.signs c.alone.result c.reset.new.self (ap (λ (m : Member g.row.V.Denot). m.first) c.alone.ensures) c.reset.ensures

pub returns : goal.returns
returns g c =
    subst (λ (h : ValuedFamilies g.row.V.Denot). IsRootAlone h.signs c.args.blank (values_alone c.reset.new.self)) c.self.view_is
    (root_seen c.self.inside.placed.signs c.alone.result c.args.blank c.reset.new.self (ap (λ (m : Member g.row.V.Denot). m.value) c.alone.ensures) c.reset.ensures)
