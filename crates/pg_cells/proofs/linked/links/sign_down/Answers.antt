use Rattle.std.proofs.Common.{inl, inr, ap, sym, ◌∙◌, arith}
use Rattle.std.proofs.lemmas.Bool.{cases_eq}
use Rattle.pg_cells.specs.Inside.linked.Members.{goes_on}
use Rattle.pg_cells.proofs.linked.links.sign_down.Goals as goal

pub down-preserved : goal.down-preserved
down-preserved g c = record {
  from = (let lt = c.down-test.true in omega arith);
  to = (let to = c.down.invariant.to in omega arith);
  free = λ q told z late le. elim (cases_eq z c.down.sign) [
    | inl e ↦ ap (goes_on c.args.cells.now.values q) e ∙ sym (c.has_sign.ensures q told) ∙ c.if-has_sign.false
    | inr other ↦ c.down.invariant.free q told z (omega arith) le
  ];
}

pub down-init : goal.down-init
down-init g c = record { from = c.requires.low; to = omega arith; free = λ q told z late le. absurd (omega arith) }

pub returns-then-has_sign-clause-within : goal.returns-then-has_sign-clause-within
returns-then-has_sign-clause-within g c = (c.down.invariant.from, c.down.invariant.to)

pub returns-then-has_sign-clause-there : goal.returns-then-has_sign-clause-there
returns-then-has_sign-clause-there g c q told up = sym (c.has_sign.ensures q told) ∙ c.if-has_sign.true

pub returns-then-has_sign-clause-most : goal.returns-then-has_sign-clause-most
returns-then-has_sign-clause-most g c = c.down.invariant.free

pub returns-clause-within : goal.returns-clause-within
returns-clause-within g c = (c.down.invariant.from, c.down.invariant.to)

pub returns-clause-there : goal.returns-clause-there
returns-clause-there g c q told up = absurd (let past = c.down-test.false in omega arith)

pub returns-clause-most : goal.returns-clause-most
returns-clause-most g c = c.down.invariant.free
