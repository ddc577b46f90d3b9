use Rattle.std.proofs.Common.{ℕ, ◌+◌, Err, refl, ap, sym, subst, ◌∙◌, arith, rules}
use Rattle.std.proofs.lemmas.Result.{err_from_is_err_and}
use Rattle.pg_types.specs.declared.limits.TheConstants.{EDGE}
use Rattle.pg_types.specs.declared.refusals.Kind.TheVariants.{PatternTooLong}
use Rattle.pg_translate.specs.Alphabets.{letters_of}
use Rattle.pg_types.specs.ValuesOrRefusals.{refusal_at}
use Rattle.pg_translate.specs.Tokens.{Letter, Edge}
use Rattle.pg_patterns.specs.Inside.Drafts.{IsDraft, draft_left}
use Rattle.pg_patterns.proofs.Steps.{sign_step, sign_refused, keeps_sign}
use Rattle.pg_translate.specs.declared.items.Place.TheVariants.{Patterns}
use Rattle.pg_translate.proofs.LineSteps.{shorter}
use Rattle.pg_patterns.proofs.reader.take_item.Goals as goal

pub returns-in_ok-add_sign-in-Letter-clause-step : goal.returns-in_ok-add_sign-in-Letter-clause-step
returns-in_ok-add_sign-in-Letter-clause-step c = (
  sign_step c.args.table.now c.args.line c.args.size c.args.draft.now c.args.rest.now c.in-Letter.after.now
      (Letter c.in-Letter.sign) c.in-Letter.sign c.in-Letter.ensures.item c.requires.rest refl refl c.in_ok-add_sign-in-Letter.ensures.0
      ∙ ap (λ d. draft_left c.args.table.now c.args.line c.args.size d c.in-Letter.after.now) (sym c.in_ok-add_sign-in-Letter.ensures.1),
  shorter c.args.table.now Patterns c.args.rest.now c.in-Letter.after.now (Letter c.in-Letter.sign) c.in-Letter.ensures.item,
)

pub returns-in_ok-add_sign-in-Letter-clause-kept : goal.returns-in_ok-add_sign-in-Letter-clause-kept
returns-in_ok-add_sign-in-Letter-clause-kept c =
    subst (IsDraft (letters_of c.args.table.now + 1)) (sym c.in_ok-add_sign-in-Letter.ensures.1)
    (keeps_sign (letters_of c.args.table.now + 1) c.args.draft.now c.in-Letter.sign c.requires.kept c.in_ok-add_sign-in-Letter.ensures.0
    (omega (arith, c.in-Letter.ensures.range)) c.in-Letter.ensures.range.1)

pub returns-in_err-add_sign-in-Letter-clause-step : goal.returns-in_err-add_sign-in-Letter-clause-step
returns-in_err-add_sign-in-Letter-clause-step c =
    let p = err_from_is_err_and c.from_residual.result c.from_residual.ensures.1 in
    rw (p.1, p.2) (sign_refused c.args.table.now c.args.line c.args.size c.args.draft.now c.args.rest.now c.in-Letter.after.now
    (Letter c.in-Letter.sign) c.in-Letter.sign c.in-Letter.ensures.item c.requires.rest refl c.in_err-add_sign-in-Letter.ensures.0
    ∙ ap (λ (k : ℕ). Err (refusal_at c.args.line PatternTooLong k)) (sym c.column_of-column.ensures) ∙ ap Err (sym c.in_err-add_sign-in-Letter.ensures.1))

pub returns-in_ok-add_sign-in-Edge-clause-step : goal.returns-in_ok-add_sign-in-Edge-clause-step
returns-in_ok-add_sign-in-Edge-clause-step c = (
  sign_step c.args.table.now c.args.line c.args.size c.args.draft.now c.args.rest.now c.in-Edge.after.now Edge EDGE c.in-Edge.ensures.item c.requires.rest refl refl c.in_ok-add_sign-in-Edge.ensures.0
      ∙ ap (λ d. draft_left c.args.table.now c.args.line c.args.size d c.in-Edge.after.now) (sym c.in_ok-add_sign-in-Edge.ensures.1),
  shorter c.args.table.now Patterns c.args.rest.now c.in-Edge.after.now Edge c.in-Edge.ensures.item,
)

pub returns-in_ok-add_sign-in-Edge-clause-kept : goal.returns-in_ok-add_sign-in-Edge-clause-kept
returns-in_ok-add_sign-in-Edge-clause-kept c =
    subst (IsDraft (letters_of c.args.table.now + 1)) (sym c.in_ok-add_sign-in-Edge.ensures.1)
    (keeps_sign (letters_of c.args.table.now + 1) c.args.draft.now EDGE c.requires.kept c.in_ok-add_sign-in-Edge.ensures.0 (omega arith) (omega arith))

pub returns-in_err-add_sign-in-Edge-clause-step : goal.returns-in_err-add_sign-in-Edge-clause-step
returns-in_err-add_sign-in-Edge-clause-step c =
    let p = err_from_is_err_and c.from_residual-in_err-add_sign-in-Edge.result c.from_residual-in_err-add_sign-in-Edge.ensures.1 in
    rw (p.1, p.2) (sign_refused c.args.table.now c.args.line c.args.size c.args.draft.now c.args.rest.now c.in-Edge.after.now Edge EDGE c.in-Edge.ensures.item
    c.requires.rest refl c.in_err-add_sign-in-Edge.ensures.0 ∙ ap (λ (k : ℕ). Err (refusal_at c.args.line PatternTooLong k)) (sym c.column_of-column.ensures)
    ∙ ap Err (sym c.in_err-add_sign-in-Edge.ensures.1))

pub returns-in-Bad-clause-step : goal.returns-in-Bad-clause-step
returns-in-Bad-clause-step c = rw c.column_of-column.ensures (search rules)
