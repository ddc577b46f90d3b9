use Rattle.std.proofs.Common.{ap, sym, ◌∙◌}
use Rattle.pg_patterns.specs.Inside.Search.{is_after}
use Rattle.pg_patterns.proofs.Raises.{told_by_last}
use Rattle.pg_patterns.proofs.entries.comes_last.Goals as goal

pub returns-then-not-is_empty : goal.returns-then-not-is_empty
returns-then-not-is_empty c =
    told_by_last c.args.dotted.now c.args.entries.now c.index-entries-entries.result c.gt.result c.requires c.index-entries-entries.is
    (c.gt.ensures ∙ ap (is_after c.args.dotted.now) (sym c.index-entries-entries.is))
