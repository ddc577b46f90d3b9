use Rattle.std.proofs.Common.{sym, ◌∙◌}
use Rattle.pg_patterns.proofs.Raises.{raised_there, raised_gap}
use Rattle.pg_patterns.proofs.entries.raise_in.Goals as goal

pub returns-then-is_entry_of-clause-ok : goal.returns-then-is_entry_of-clause-ok
returns-then-is_entry_of-clause-ok c =
    raised_there c.args.dotted c.args.value c.args.entries.now.items _ _ c.seek-at.result c.index_mut.result.now c.index.result.now c.max.result
    c.as_slice.ensures.value c.as_slice-2.ensures.value c.seek-at.ensures.bound c.seek-at.ensures.point (sym c.if-is_entry_of.ensures) c.index_mut.ensures.value c.index.ensures c.max.ensures

pub returns-clause-ok : goal.returns-clause-ok
returns-clause-ok c =
    c.in_ok-insert.ensures.items ∙ raised_gap c.args.dotted c.args.value c.args.entries.now.items _ _ c.seek-at.result c.as_slice.ensures.value
    c.as_slice-2.ensures.value c.requires c.seek-at.ensures.bound c.seek-at.ensures.point (sym c.if-is_entry_of.ensures)
