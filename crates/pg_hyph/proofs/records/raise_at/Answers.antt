use Rattle.pg_hyph.proofs.records.raise_at.Goals as goal

pub returns-clause-values : goal.returns-clause-values
returns-clause-values c = rw (c.from.ensures, c.pattern_value.ensures) at c.raise.ensures.values

pub returns-clause-covers : goal.returns-clause-covers
returns-clause-covers c = rw (c.from.ensures, c.is_covering-covered.ensures) at c.raise.ensures.covers
