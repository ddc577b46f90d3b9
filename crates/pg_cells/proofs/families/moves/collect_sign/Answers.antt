use Rattle.std.proofs.Common.{◌≡◌, ◌+◌, nat_eq, inl, inr, refl, sym, subst, ◌∙◌, arith}
use Rattle.std.proofs.lemmas.Bool.{eqb-true, eq-eqb, both_ways}
use Rattle.std.proofs.lemmas.Result.{err_from_is_err_and}
use Rattle.pg_cells.specs.Inside.store.CellRows.{sign_at}
use Rattle.pg_cells.specs.Inside.families.Moves.{AllFit}
use Rattle.pg_cells.proofs.Slots.{fit_push}
use Rattle.pg_cells.proofs.families.moves.collect_sign.Goals as goal

pub returns-clause-collects : goal.returns-clause-collects
returns-clause-collects g c =
    inr (
      record { value = c.value-value.result; child = c.child-child.result; sign = c.args.sign },
      record { sign = eqb-true _ _ (sym c.has_sign.ensures ∙ c.if-not-has_sign.false); child = c.child-child.ensures; value = c.value-value.ensures.value },
      refl,
      c.in_ok-push.ensures.items,
    )

pub returns-clause-fits : goal.returns-clause-fits
returns-clause-fits g c all =
    subst AllFit (sym c.in_ok-push.ensures.items)
    (fit_push c.args.slots.now.items (record { value = c.value-value.result; child = c.child-child.result; sign = c.args.sign }) all c.value-value.ensures.fits)

pub has_sign-requires : goal.has_sign-requires
has_sign-requires g c z = let up = c.requires.sign in omega arith

pub child-child-requires : goal.child-child-requires
child-child-requires g c z =
    let is : sign_at c.args.store.now (c.args.base + c.args.sign) ≡ c.args.sign = eqb-true _ _ (sym c.has_sign.ensures ∙ c.if-not-has_sign.false) in
    let up = c.requires.sign in
    omega arith

pub value-value-requires : goal.value-value-requires
value-value-requires g c z =
    let is : sign_at c.args.store.now (c.args.base + c.args.sign) ≡ c.args.sign = eqb-true _ _ (sym c.has_sign.ensures ∙ c.if-not-has_sign.false) in
    let up = c.requires.sign in
    omega arith

pub returns-then-not-has_sign-clause-collects : goal.returns-then-not-has_sign-clause-collects
returns-then-not-has_sign-clause-collects g c =
    let sign = sign_at c.args.store.now (c.args.base + c.args.sign) in
    inl ((λ z. both_ways (nat_eq sign c.args.sign) (sym c.has_sign.ensures ∙ c.if-not-has_sign.true) (eq-eqb sign c.args.sign z)), refl)

pub returns-then-not-has_sign-clause-fits : goal.returns-then-not-has_sign-clause-fits
returns-then-not-has_sign-clause-fits g c all = all

pub returns-in_err-push-clause-collects : goal.returns-in_err-push-clause-collects
returns-in_err-push-clause-collects g c = let err = err_from_is_err_and c.from_residual.result c.from_residual.ensures.1 in rw err.1 tt

pub returns-in_err-push-clause-fits : goal.returns-in_err-push-clause-fits
returns-in_err-push-clause-fits g c = λ all. let err = err_from_is_err_and c.from_residual.result c.from_residual.ensures.1 in rw err.1 tt
