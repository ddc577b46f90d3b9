use Rattle.std.proofs.Common.{◌∙◌}
use Rattle.pg_types.proofs.Separated.{unwrap_or-position}
use Rattle.pg_types.proofs.items.separators_len.Goals as goal

pub returns : goal.returns
returns c = c.unwrap_or.ensures ∙ unwrap_or-position _ _ _ c.first_item_byte.ensures
