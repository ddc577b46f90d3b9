use Rattle.pg_cells.proofs.linked.links.set_first.Goals as goal

pub returns-clause-linked : goal.returns-clause-linked
returns-clause-linked g c q e = rw (c.value-member.ensures.value q e) (c.set_value.ensures.held q e)

pub value-member-requires : goal.value-member-requires
value-member-requires g c = c.requires.taken

pub set_value-requires : goal.set_value-requires
set_value-requires g c = record { taken = c.requires.taken; fits = (c.value-member.ensures.fits.0, c.requires.fits) }
