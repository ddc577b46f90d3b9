use Rattle.std.proofs.Common.{[], ◌∷◌, ◌++◌}
use Rattle.std.proofs.lemmas.Bool.{ne_eqb}
use Rattle.pg_cells.proofs.linked.links.set_next.Goals as goal

pub returns-clause-linked : goal.returns-clause-linked
returns-clause-linked g c q s other e =
    rw (ne_eqb s 0 other) (rw (c.value-member.ensures.value (q ++ s ∷ []) e) (c.set_value.ensures.held (q ++ s ∷ []) e))

pub value-member-requires : goal.value-member-requires
value-member-requires g c = c.requires.taken

pub set_value-requires : goal.set_value-requires
set_value-requires g c = record { taken = c.requires.taken; fits = (c.requires.fits, c.value-member.ensures.fits.1) }
