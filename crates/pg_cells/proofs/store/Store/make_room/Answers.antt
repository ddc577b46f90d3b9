use Rattle.std.proofs.lemmas.List.{length-map}
use Rattle.std.proofs.Common.{◌≡◌, subst, arith, refl}
use Rattle.std.proofs.lemmas.Result.{on_ok_weaker}
use Rattle.pg_cells.specs.Inside.store.CellRows.{sign_seen, Row, sign_at}
use Rattle.pg_cells.specs.declared.store.member.Member.{Member}
use Rattle.pg_cells.proofs.store.Store.make_room.Goals as goal

pub returns-clause-room : goal.returns-clause-room
returns-clause-room g c =
    on_ok_weaker c.grow.result (λ long i up.
    let le = c.self.invariant.kept.greatest.most i (λ z. up (subst (λ (r : Row (Member g.row.V.Denot)). sign_at r i ≡ 0) c.self.view_is z)) in omega arith) c.grow.ensures.length

pub returns-clause-row : goal.returns-clause-row
returns-clause-row g c = c.grow.ensures.row

pub overflow_add-count : goal.overflow_add-count
overflow_add-count g c =
    let top = c.self.invariant.kept.greatest.within in
    let small = c.self.invariant.kept.small in
    record { fits = omega (arith, c.requires, length-map c.self.inside.cells.items sign_seen) }

pub same-self : goal.same-self
same-self g c = refl

pub returns-clause-extends : goal.returns-clause-extends
returns-clause-extends g c = c.grow.ensures.extends
