use Rattle.std.proofs.Common.{◌≡◌, ◌++◌, ◌∷◌, [], List, ℕ, Err, sym, subst}
use Rattle.std.proofs.lemmas.Result.{err_from_is_err_and}
use Rattle.pg_types.specs.declared.refusals.Refusal.{Refusal}
use Rattle.pg_translate.specs.Inside.tables.Checks.{marks_of, first_failure, minima_checks, mark_checks}
use Rattle.pg_translate.proofs.head.Head.read.Goals as goal

-- checks of which one fails first fail so before others
failure_on : (first others : List Refusal) (refusal : Refusal) → first_failure first ≡ Err refusal → first_failure (first ++ others) ≡ Err refusal
failure_on [] others refusal is = absurd (cc)
failure_on (one ∷ first) others refusal is = is

pub returns-in_err-left-clause-answer : goal.returns-in_err-left-clause-answer
returns-in_err-left-clause-answer c =
    let line = c.args.line.now in
    let err = err_from_is_err_and c.from_residual.result c.from_residual.ensures.1 in
    rw (err.1, err.2) (failure_on (minima_checks line) (mark_checks (marks_of line)) c.in_err-left.field-0.0 c.in_err-left.ensures.answer)

pub returns-in_err-check_marks-clause-answer : goal.returns-in_err-check_marks-clause-answer
returns-in_err-check_marks-clause-answer c =
    let line = c.args.line.now in
    let refusal = c.in_err-check_marks.field-0.0 in
    let err = err_from_is_err_and c.from_residual-in_err-check_marks.result c.from_residual-in_err-check_marks.ensures.1 in
    let marks : c.mark_in-error.result ∷ c.mark_in-missed.result ∷ c.mark_in-found.result ∷ c.mark_in-dont_care.result ∷ []
    ≡ marks_of line = (λ i. c.mark_in-error.ensures i ∷ c.mark_in-missed.ensures i ∷ c.mark_in-found.ensures i ∷ c.mark_in-dont_care.ensures i ∷ []) in
    rw (err.1, err.2) (subst (λ (checks : List Refusal). first_failure (checks ++ mark_checks (marks_of line)) ≡ Err refusal) (sym c.in_ok-left.ensures.answer.0)
    (subst (λ (ms : List ℕ). first_failure (mark_checks ms) ≡ Err refusal) marks c.in_err-check_marks.ensures))

pub returns-clause-answer : goal.returns-clause-answer
returns-clause-answer c =
    let line = c.args.line.now in
    let marks : c.mark_in-error.result ∷ c.mark_in-missed.result ∷ c.mark_in-found.result ∷ c.mark_in-dont_care.result ∷ []
    ≡ marks_of line = (λ i. c.mark_in-error.ensures i ∷ c.mark_in-missed.ensures i ∷ c.mark_in-found.ensures i ∷ c.mark_in-dont_care.ensures i ∷ []) in
    record {
      minima_pass = c.in_ok-left.ensures.answer.0;
      marks_pass = subst (λ (ms : List ℕ). mark_checks ms ≡ []) marks c.in_ok-check_marks.ensures;
      left_is = c.in_ok-left.ensures.answer.1;
      right_is = c.in_ok-left.ensures.answer.2;
      marks_are = marks;
    }

pub returns-clause-sound : goal.returns-clause-sound
returns-clause-sound c =
    record {
      left_some = c.in_ok-left.ensures.range.0;
      left_few = c.in_ok-left.ensures.range.1;
      right_some = c.in_ok-left.ensures.range.2;
      right_few = c.in_ok-left.ensures.range.3;
      marks_pass = c.in_ok-check_marks.ensures;
    }
