use Rattle.std.proofs.Common.{ℕ, ◌≤◌, List, [], refl, sym, subst, arith}
use Rattle.std.proofs.lemmas.List.{take_all}
use Rattle.std.specs.List.{All}
use Rattle.std.proofs.lemmas.Result.{IfOk-from_err}
use Rattle.pg_packed.specs.Inside.EnteredPatterns.{AreEntered}
use Rattle.pg_packed.proofs.Steps.{signs_within, entered_next}
use Rattle.pg_packed.proofs.start.enter_all.Goals as goal

pub enter-requires-clause-signs : goal.enter-requires-clause-signs
enter-requires-clause-signs c =
    subst (λ (n : ℕ). All (λ s. (1 ≤ s) × (s ≤ n)) c.entry-dot.result.signs.now) (sym c.loop-i.invariant.signs)
    (signs_within c.args.signs c.args.start.now c.loop-i.i c.entry-dot.result.signs.now c.entry-dot.result.dot c.entry-dot.result.value c.requires.known
    c.entry-dot.ensures.value c.entry-dot.ensures.signs)

pub loop-i-preserved : goal.loop-i-preserved
loop-i-preserved c =
    entered_next c.args.signs c.args.start.now c.loop-i.i (c.entry-dot.result.signs.now, c.entry-dot.result.dot) c.entry-dot.result.value c.loop-i.trie
    c.enter.new.self c.len-i-end.ensures.kept c.entry-dot.ensures.value c.loop-i.invariant
    (c.in_ok-enter.ensures.raised c.entry-dot.ensures.bounds.1)

pub returns-in_err-trie : goal.returns-in_err-trie
returns-in_err-trie c = IfOk-from_err c.from_residual.result _ c.from_residual.ensures.0

pub returns-in_err-enter : goal.returns-in_err-enter
returns-in_err-enter c = IfOk-from_err c.from_residual-in_err-enter.result _ c.from_residual-in_err-enter.ensures.0

pub loop-i-init : goal.loop-i-init
loop-i-init c = subst (AreEntered c.args.signs []) (sym c.in_ok-trie.ensures) (record { signs = refl; families = refl; patterns = refl; hopeless = refl })

pub enter-requires-clause-some : goal.enter-requires-clause-some
enter-requires-clause-some c = c.entry-dot.ensures.some

pub enter-requires-clause-few : goal.enter-requires-clause-few
enter-requires-clause-few c = c.entry-dot.ensures.few

pub enter-requires-clause-dot : goal.enter-requires-clause-dot
enter-requires-clause-dot c = c.entry-dot.ensures.dot

pub returns : goal.returns
returns c =
    let past = c.loop-i-test.false in
    subst (λ P. AreEntered c.args.signs P c.loop-i.trie) (take_all c.loop-i.i c.args.start.now (omega (arith, c.len-i-end.ensures.value))) c.loop-i.invariant
