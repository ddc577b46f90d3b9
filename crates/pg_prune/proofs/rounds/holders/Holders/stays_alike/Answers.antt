use Rattle.std.proofs.Common.{rules}
use Rattle.pg_prune.proofs.rounds.holders.Holders.stays_alike.Goals as goal

pub returns : goal.returns
returns c = search rules
