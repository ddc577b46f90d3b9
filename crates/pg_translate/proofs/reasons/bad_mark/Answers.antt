use Rattle.std.proofs.Common.{◌≡◌, ℕ, List, [], ◌∷◌, Err, IfSome, MatchOption, subst}
use Rattle.pg_translate.specs.Inside.tables.Checks.{first_failure, marks_of, mark_checks}
use Rattle.pg_translate.specs.Inside.tables.BadHeads.{mark_refusal, IsMarkIn}
use Rattle.pg_translate.proofs.reasons.bad_mark.Goals as goal

pub returns-clause-answer : goal.returns-clause-answer
returns-clause-answer c =
    let marks : c.mark_in-error.result ∷ c.mark_in-missed.result ∷ c.mark_in-found.result ∷ c.mark_in-dont_care.result ∷ []
    ≡ marks_of c.args.head.now = (λ i. c.mark_in-error.ensures i ∷ c.mark_in-missed.ensures i ∷ c.mark_in-found.ensures i ∷ c.mark_in-dont_care.ensures i ∷ []) in
    subst (λ (ms : List ℕ). MatchOption c.first_bad_mark.result (mark_checks ms ≡ []) (λ bad. first_failure (mark_checks ms) ≡ Err (mark_refusal bad))) marks c.first_bad_mark.ensures.answer

pub returns-clause-mark : goal.returns-clause-mark
returns-clause-mark c =
    let marks : c.mark_in-error.result ∷ c.mark_in-missed.result ∷ c.mark_in-found.result ∷ c.mark_in-dont_care.result ∷ []
    ≡ marks_of c.args.head.now = (λ i. c.mark_in-error.ensures i ∷ c.mark_in-missed.ensures i ∷ c.mark_in-found.ensures i ∷ c.mark_in-dont_care.ensures i ∷ []) in
    subst (λ (ms : List ℕ). IfSome c.first_bad_mark.result (IsMarkIn ms)) marks c.first_bad_mark.ensures.mark
