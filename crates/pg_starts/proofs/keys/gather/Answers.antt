use Rattle.std.proofs.Common.{arith, rules, ◌<◌, ◌+◌, ◌*◌, ◌^◌, ℕ, ◌++◌, ◌∷◌, [], Fits, w64, get_or, ap, ◌∙◌, refl, subst}
use Rattle.pg_starts.specs.Inside.Sets.{AreOfSets}
use Rattle.pg_starts.proofs.SetLaws.{emptying_begins, emptying_more, emptying_ends, clear_smaller}
use Rattle.pg_starts.proofs.keys.gather.Goals as goal

fits64 : (x : ℕ) → Fits w64 x → x < 2 ^ 64
fits64 x h = omega (arith, h)

pub parts-init : goal.parts-init
parts-init c = emptying_begins c.args.sets.now c.numbers.number (get_or c.args.sets.now c.numbers.number 0) c.numbers.keys.items refl c.numbers.invariant

pub parts-smaller : goal.parts-smaller
parts-smaller c = clear_smaller c.parts.left (omega arith) (fits64 _ c.parts.auto.left-fits)

pub parts-preserved : goal.parts-preserved
parts-preserved c = emptying_more c.args.sets.now c.numbers.number c.parts.left c.parts.keys.items c.push.new.self.items (omega arith) (fits64 _ c.parts.auto.left-fits)
    (c.in_ok-push.ensures.items ∙ ap (λ s. c.parts.keys.items ++ (c.numbers.number * 64 + s) ∷ []) c.from.ensures) c.parts.invariant

pub numbers-preserved : goal.numbers-preserved
numbers-preserved c = emptying_ends c.args.sets.now c.numbers.number c.parts.left c.parts.keys.items (search rules) c.parts.invariant

pub returns : goal.returns
returns c = subst (λ (n : ℕ). AreOfSets c.args.sets.now n c.numbers.keys.items) (omega (arith, c.numbers.auto.number-end, c.numbers-test.false)) c.numbers.invariant
