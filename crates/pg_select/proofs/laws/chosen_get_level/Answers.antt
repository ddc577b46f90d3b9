use Rattle.pg_select.proofs.LawsCandidates.{candidates_are_low, chosen_get_level}
use Rattle.pg_select.proofs.laws.chosen_get_level.Goals as goal

pub returns : goal.returns
returns c = record { low = candidates_are_low; chosen = chosen_get_level }
