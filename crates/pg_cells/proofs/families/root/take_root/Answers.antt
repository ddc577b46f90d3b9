use Rattle.pg_cells.specs.Inside.families.Root.{IsRootTo}
use Rattle.std.proofs.Common.{◌∙◌, arith, ◌≡◌, ◌+◌, refl, subst}
use Rattle.pg_cells.proofs.RootSteps.{planted_more, free_here}
use Rattle.pg_cells.proofs.families.root.take_root.Goals as goal

pub loop-sign-preserved : goal.loop-sign-preserved
loop-sign-preserved g c = record {
  root_to = planted_more c.args.blank c.loop-sign.sign c.loop-sign.store c.take.new.self (omega arith) c.loop-sign.invariant.root_to c.take.ensures.takes;
  size = c.take.ensures.takes.elsewhere.size ∙ c.loop-sign.invariant.size;
}

pub overflow_add-sign-end : goal.overflow_add-sign-end
overflow_add-sign-end g c = let few = c.requires.signs in record { fits = omega arith }

pub loop-sign-init : goal.loop-sign-init
loop-sign-init g c = record { root_to = c.requires.empty; size = refl }

pub take-requires-clause-free : goal.take-requires-clause-free
take-requires-clause-free g c = let size = c.loop-sign.invariant.size in let long = c.requires.length in
    free_here c.args.blank c.loop-sign.sign c.loop-sign.store c.loop-sign.invariant.root_to (omega arith)

pub take-requires-clause-sign : goal.take-requires-clause-sign
take-requires-clause-sign g c z = omega arith

pub take-requires-clause-child : goal.take-requires-clause-child
take-requires-clause-child g c = let size = c.loop-sign.invariant.size in let long = c.requires.length in omega arith

pub returns-clause-root_to : goal.returns-clause-root_to
returns-clause-root_to g c = let at : c.loop-sign.sign ≡ c.args.signs + 1 = omega arith in subst (λ k. IsRootTo k c.args.blank c.loop-sign.store) at c.loop-sign.invariant.root_to

pub returns-clause-size : goal.returns-clause-size
returns-clause-size g c = c.loop-sign.invariant.size

pub take-requires-clause-sign_fits : goal.take-requires-clause-sign_fits
take-requires-clause-sign_fits g c = let few = c.requires.signs in omega arith

pub take-requires-clause-fits : goal.take-requires-clause-fits
take-requires-clause-fits g c = c.requires.fits
