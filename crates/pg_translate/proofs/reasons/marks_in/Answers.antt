use Rattle.std.proofs.Common.{◌∷◌, []}
use Rattle.pg_translate.proofs.reasons.marks_in.Goals as goal

pub returns : goal.returns
returns c = λ i. c.mark_in-error.ensures i ∷ c.mark_in-missed.ensures i ∷ c.mark_in-found.ensures i ∷ c.mark_in-dont_care.ensures i ∷ []
