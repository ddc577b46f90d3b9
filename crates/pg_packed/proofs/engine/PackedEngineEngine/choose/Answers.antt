use Rattle.std.proofs.Common.{rules, ◌≡◌, ◌<◌, ◌≤◌, ℕ, List, length, sym, ap, subst, ◌∙◌, arith}
use Rattle.pg_types.specs.Inside.Signs.{SignsWithin}
use Rattle.pg_packed.proofs.Entering.{enters_len, enters_signs}
use Rattle.pg_packed.proofs.engine.PackedEngineEngine.choose.Goals as goal
use Rattle.pg_packed.proofs.engine.PackedEngineEngine.choose.Goals.{After-signs}

size_of : (c : After-signs) → length c.signs.result.now ≡ c.args.self.now.pass.len
size_of c = ap (λ (xs : List ℕ). length xs) c.signs.ensures.value
    ∙ enters_len c.args.self.now.counts c.args.at.now c.args.self.now.trie.signs c.args.self.now.pass.len c.window_len-len.ensures.kept c.requires c.args.self.now.window_len

pub enter-requires-clause-some : goal.enter-requires-clause-some
enter-requires-clause-some c = omega (arith, size_of c, c.args.self.now.len_bounds)

pub enter-requires-clause-few : goal.enter-requires-clause-few
enter-requires-clause-few c = omega (arith, size_of c, c.args.self.now.len_bounds)

pub enter-requires-clause-dot : goal.enter-requires-clause-dot
enter-requires-clause-dot c = omega (arith, size_of c, c.args.self.now.dot_inside)

pub enter-requires-clause-signs : goal.enter-requires-clause-signs
enter-requires-clause-signs c =
    subst (SignsWithin c.args.self.now.trie.signs) (sym c.signs.ensures.value)
    (enters_signs c.args.self.now.counts c.args.at.now c.args.self.now.trie.signs c.args.self.now.pass.len c.window_len-len.ensures.kept c.requires c.args.self.now.one_alphabet)

pub returns : goal.returns
returns c = search rules
