use Rattle.std.proofs.Common.{rules}
use Rattle.pg_types.proofs.items.Items.end.Goals as goal

pub returns-in-Some-next_item-clause-passed : goal.returns-in-Some-next_item-clause-passed
returns-in-Some-next_item-clause-passed c = search rules
