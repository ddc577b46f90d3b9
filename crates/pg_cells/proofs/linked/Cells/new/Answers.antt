use Rattle.std.proofs.Common.{ap}
use Rattle.pg_cells.specs.declared.store.member.Member.{Member}
use Rattle.pg_cells.proofs.RootLinks.{root_links, root_seen}
use Rattle.pg_cells.proofs.linked.Cells.new.Goals as goal

pub invariant_of-result : goal.invariant_of-result
invariant_of-result g c = root_links c.args.signs c.alone.result c.in_ok-placed.placed (ap (λ (m : Member g.row.V.Denot). m.first) c.alone.ensures) c.in_ok-placed.ensures

pub returns : goal.returns
returns g c = root_seen c.args.signs c.alone.result c.args.blank c.in_ok-placed.placed (ap (λ (m : Member g.row.V.Denot). m.value) c.alone.ensures) c.in_ok-placed.ensures
