use Rattle.std.proofs.Common.{ℕ, ◌≤◌, length, refl, sym, ap, subst, arith}
use Rattle.std.proofs.lemmas.Result.{err_from_is_err_and}
use Rattle.pg_types.specs.declared.limits.TheConstants.{SIGNS_MAX}
use Rattle.pg_trie.specs.Inside.IsPatternTrie.{IsPatternTrie}
use Rattle.pg_trie.specs.Inside.Maps.{Maps}
use Rattle.pg_trie.proofs.DeletingLaws.Ended.{short, level_end}
use Rattle.pg_trie.proofs.trie.PatternTrie.delete_hopeless.Goals as goal

pub fresh_heads-requires-clause-trie : goal.fresh_heads-requires-clause-trie
fresh_heads-requires-clause-trie c = subst (IsPatternTrie c.self.inside.cells) (sym c.outputs.ensures) c.self.invariant

pub renew-requires-clause-heads : goal.renew-requires-clause-heads
renew-requires-clause-heads c q u at =
    let inside = (c.self.invariant.heads q u at).inside in
    let size = c.in_ok-heads.ensures.1.size in
    let seen = ap length c.outputs.ensures in
    let same = ap length c.deref.ensures.value in
    omega arith

pub prune-requires-clause-short : goal.prune-requires-clause-short
prune-requires-clause-short c = short c.self.inside.cells c.self.inside.lists c.self.invariant c.outputs.result.now c.outputs.ensures c.fresh_heads.new.fresh
    c.in_ok-heads.heads.items c.deref.result.now c.in_ok-heads.ensures c.deref.ensures.value c.renew.new.cells c.renew.ensures

pub invariant_of-self : goal.invariant_of-self
invariant_of-self c =
    (level_end c.self.inside.cells c.self.inside.lists c.self.invariant c.outputs.result.now c.outputs.ensures c.fresh_heads.new.fresh c.in_ok-heads.heads.items
    c.deref.result.now c.in_ok-heads.ensures c.deref.ensures.value c.renew.new.cells c.renew.ensures
    c.prune.new.cells c.prune.ensures c.args.self.now c.self.view_is c.new.result c.new.ensures).trie

pub returns : goal.returns
returns c =
    let end = level_end c.self.inside.cells c.self.inside.lists c.self.invariant c.outputs.result.now c.outputs.ensures c.fresh_heads.new.fresh
    c.in_ok-heads.heads.items c.deref.result.now c.in_ok-heads.ensures c.deref.ensures.value c.renew.new.cells c.renew.ensures
    c.prune.new.cells c.prune.ensures c.args.self.now c.self.view_is c.new.result c.new.ensures in
    record { ok = end.view; tails = end.tails_are; err = tt; signs = ap (λ (m : Maps). m.signs) end.view }

pub fresh_heads-requires-clause-empty : goal.fresh_heads-requires-clause-empty
fresh_heads-requires-clause-empty c = ap length c.new-fresh.ensures.empty

pub renew-requires-clause-held : goal.renew-requires-clause-held
renew-requires-clause-held c = c.self.invariant.held

pub prune-requires-clause-held : goal.prune-requires-clause-held
prune-requires-clause-held c = c.renew.ensures.held

pub prune-requires-clause-signs : goal.prune-requires-clause-signs
prune-requires-clause-signs c = subst (λ (n : ℕ). n ≤ SIGNS_MAX) (sym c.renew.ensures.signs) c.self.invariant.signs

pub returns-in_err-heads-clause-ok : goal.returns-in_err-heads-clause-ok
returns-in_err-heads-clause-ok c = let err = err_from_is_err_and c.from_residual.result c.from_residual.ensures.1 in rw err.1 tt

pub returns-in_err-heads-clause-tails : goal.returns-in_err-heads-clause-tails
returns-in_err-heads-clause-tails c = let err = err_from_is_err_and c.from_residual.result c.from_residual.ensures.1 in rw err.1 tt

pub returns-in_err-heads-clause-err : goal.returns-in_err-heads-clause-err
returns-in_err-heads-clause-err c = let err = err_from_is_err_and c.from_residual.result c.from_residual.ensures.1 in rw err.1 refl

pub returns-in_err-heads-clause-signs : goal.returns-in_err-heads-clause-signs
returns-in_err-heads-clause-signs c = refl
