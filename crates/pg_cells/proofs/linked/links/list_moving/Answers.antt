use Rattle.std.proofs.Common.{◌≡◌, true, false, length, ap, sym, ◌∙◌, arith}
use Rattle.pg_cells.specs.Inside.linked.Members.{goes_on, has_sign}
use Rattle.pg_cells.proofs.GivenMembers.{passing_alike}
use Rattle.pg_cells.proofs.LinkLaws.{goes_has}
use Rattle.pg_cells.proofs.linked.links.list_moving.Goals as goal

pub returns-clause-signs : goal.returns-clause-signs
returns-clause-signs g c q e no_join =
    let h = c.args.cells.now in
    passing_alike (goes_on h.values q) (has_sign h.families q) c.list_signs.new.signs.items (λ z up. goes_has h c.requires.links.held q z) (c.in_ok-list_signs.ensures.signs q e)

pub is_joining-requires : goal.is_joining-requires
is_joining-requires g c = c.requires.can

pub returns-then-is_joining-clause-positive : goal.returns-then-is_joining-clause-positive
returns-then-is_joining-clause-positive g c k lt = absurd (let size = ap length c.clear.ensures.items in omega arith)

pub returns-then-is_joining-clause-signs : goal.returns-then-is_joining-clause-signs
returns-then-is_joining-clause-signs g c q e apart = absurd (let z : true ≡ false = sym (sym (c.is_joining.ensures q e) ∙ c.if-is_joining.true) ∙ apart in cc)

pub list_signs-requires : goal.list_signs-requires
list_signs-requires g c = record { links = c.requires.links; parent = (c.requires.can.prefix, c.requires.can.at); base = c.requires.base }

pub returns-clause-positive : goal.returns-clause-positive
returns-clause-positive g c = c.in_ok-list_signs.ensures.positive
