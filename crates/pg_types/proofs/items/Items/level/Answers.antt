use Rattle.std.proofs.Common.{ℕ, ◌∙◌, arith}
use Rattle.std.proofs.lemmas.Result.{err_from_is_err_and, IfOk-from_err}
use Rattle.pg_types.specs.declared.limits.TheConstants.{LENGTH_MAX, COST_MAX}
use Rattle.pg_types.specs.declared.parameters.LevelParams.{LevelParams}
use Rattle.pg_types.specs.Parameters.{Reading, number_then}
use Rattle.pg_types.proofs.items.Items.level.Goals as goal

-- what comes after each of the five numbers
abbrev fifth : (LevelParams → Reading) → ℕ → ℕ → ℕ → ℕ → ℕ → Reading
fifth next a b c d e = next (record { pat_start = a; pat_finish = b; good_wt = c; bad_wt = d; thresh = e })

abbrev fourth : (LevelParams → Reading) → ℕ → ℕ → ℕ → ℕ → Reading
fourth next a b c d = number_then 1 COST_MAX (fifth next a b c d)

abbrev third : (LevelParams → Reading) → ℕ → ℕ → ℕ → Reading
third next a b c = number_then 1 COST_MAX (fourth next a b c)

abbrev second : (LevelParams → Reading) → ℕ → ℕ → Reading
second next a b = number_then 1 COST_MAX (third next a b)

abbrev first : (LevelParams → Reading) → ℕ → Reading
first next a = number_then a LENGTH_MAX (second next a)

pub returns-in_err-pat_start : goal.returns-in_err-pat_start
returns-in_err-pat_start c = record {
  ranges = IfOk-from_err _ _ c.from_residual.ensures.0;
  item_number = IfOk-from_err _ _ c.from_residual.ensures.0;
  taken = IfOk-from_err _ _ c.from_residual.ensures.0;
  refused = let p = err_from_is_err_and c.from_residual.result c.from_residual.ensures.1 in
      rw (p.1, p.2) (λ next. c.in_err-pat_start.ensures.refused (first next));
}

pub returns-in_err-pat_finish : goal.returns-in_err-pat_finish
returns-in_err-pat_finish c = record {
  ranges = IfOk-from_err _ _ c.from_residual-in_err-pat_finish.ensures.0;
  item_number = IfOk-from_err _ _ c.from_residual-in_err-pat_finish.ensures.0;
  taken = IfOk-from_err _ _ c.from_residual-in_err-pat_finish.ensures.0;
  refused = let p = err_from_is_err_and c.from_residual-in_err-pat_finish.result c.from_residual-in_err-pat_finish.ensures.1 in
      rw (p.1, p.2) (λ next. c.in_ok-pat_start.ensures.taken (first next) ∙ c.in_err-pat_finish.ensures.refused (second next c.in_ok-pat_start.pat_start));
}

pub returns-in_err-good_wt : goal.returns-in_err-good_wt
returns-in_err-good_wt c = record {
  ranges = IfOk-from_err _ _ c.from_residual-in_err-good_wt.ensures.0;
  item_number = IfOk-from_err _ _ c.from_residual-in_err-good_wt.ensures.0;
  taken = IfOk-from_err _ _ c.from_residual-in_err-good_wt.ensures.0;
  refused = let p = err_from_is_err_and c.from_residual-in_err-good_wt.result c.from_residual-in_err-good_wt.ensures.1 in
      rw (p.1, p.2) (λ next. c.in_ok-pat_start.ensures.taken (first next) ∙ c.in_ok-pat_finish.ensures.taken (second next c.in_ok-pat_start.pat_start)
      ∙ c.in_err-good_wt.ensures.refused (third next c.in_ok-pat_start.pat_start c.in_ok-pat_finish.pat_finish));
}

pub returns-in_err-bad_wt : goal.returns-in_err-bad_wt
returns-in_err-bad_wt c = record {
  ranges = IfOk-from_err _ _ c.from_residual-in_err-bad_wt.ensures.0;
  item_number = IfOk-from_err _ _ c.from_residual-in_err-bad_wt.ensures.0;
  taken = IfOk-from_err _ _ c.from_residual-in_err-bad_wt.ensures.0;
  refused = let p = err_from_is_err_and c.from_residual-in_err-bad_wt.result c.from_residual-in_err-bad_wt.ensures.1 in
      rw (p.1, p.2) (λ next. c.in_ok-pat_start.ensures.taken (first next) ∙ c.in_ok-pat_finish.ensures.taken (second next c.in_ok-pat_start.pat_start)
      ∙ c.in_ok-good_wt.ensures.taken (third next c.in_ok-pat_start.pat_start c.in_ok-pat_finish.pat_finish)
      ∙ c.in_err-bad_wt.ensures.refused (fourth next c.in_ok-pat_start.pat_start c.in_ok-pat_finish.pat_finish c.in_ok-good_wt.good_wt));
}

pub returns-in_err-thresh : goal.returns-in_err-thresh
returns-in_err-thresh c = record {
  ranges = IfOk-from_err _ _ c.from_residual-in_err-thresh.ensures.0;
  item_number = IfOk-from_err _ _ c.from_residual-in_err-thresh.ensures.0;
  taken = IfOk-from_err _ _ c.from_residual-in_err-thresh.ensures.0;
  refused = let p = err_from_is_err_and c.from_residual-in_err-thresh.result c.from_residual-in_err-thresh.ensures.1 in
      rw (p.1, p.2) (λ next. c.in_ok-pat_start.ensures.taken (first next) ∙ c.in_ok-pat_finish.ensures.taken (second next c.in_ok-pat_start.pat_start)
      ∙ c.in_ok-good_wt.ensures.taken (third next c.in_ok-pat_start.pat_start c.in_ok-pat_finish.pat_finish)
      ∙ c.in_ok-bad_wt.ensures.taken (fourth next c.in_ok-pat_start.pat_start c.in_ok-pat_finish.pat_finish c.in_ok-good_wt.good_wt)
      ∙ c.in_err-thresh.ensures.refused (fifth next c.in_ok-pat_start.pat_start c.in_ok-pat_finish.pat_finish c.in_ok-good_wt.good_wt c.in_ok-bad_wt.bad_wt));
}

pub returns-clause-taken : goal.returns-clause-taken
returns-clause-taken c next =
    c.in_ok-pat_start.ensures.taken (first next) ∙ c.in_ok-pat_finish.ensures.taken (second next c.in_ok-pat_start.pat_start)
    ∙ c.in_ok-good_wt.ensures.taken (third next c.in_ok-pat_start.pat_start c.in_ok-pat_finish.pat_finish)
    ∙ c.in_ok-bad_wt.ensures.taken (fourth next c.in_ok-pat_start.pat_start c.in_ok-pat_finish.pat_finish c.in_ok-good_wt.good_wt)
    ∙ c.in_ok-thresh.ensures.taken (fifth next c.in_ok-pat_start.pat_start c.in_ok-pat_finish.pat_finish c.in_ok-good_wt.good_wt c.in_ok-bad_wt.bad_wt)

pub returns-clause-refused : goal.returns-clause-refused
returns-clause-refused c = tt

pub returns-clause-item_number : goal.returns-clause-item_number
returns-clause-item_number c =
    omega (
      arith,
      c.in_ok-pat_start.ensures.item_number,
      c.in_ok-pat_finish.ensures.item_number,
      c.in_ok-good_wt.ensures.item_number,
      c.in_ok-bad_wt.ensures.item_number,
      c.in_ok-thresh.ensures.item_number,
    )
