use Rattle.std.proofs.Common.{refl, rules}
use Rattle.pg_visible.proofs.places.Spot.new.Goals as goal

pub returns : goal.returns
returns c = record { line = refl; column = refl; text = search rules }
