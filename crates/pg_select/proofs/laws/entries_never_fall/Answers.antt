use Rattle.pg_select.proofs.LawsCandidates.{others_stay, none_falls}
use Rattle.pg_select.proofs.LawsValues.{raised_value}
use Rattle.pg_select.proofs.laws.entries_never_fall.Goals as goal

pub returns : goal.returns
returns c = record { others = others_stay; falls = none_falls; values = raised_value }
