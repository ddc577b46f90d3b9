use Rattle.std.proofs.Common.{◌≡◌, ℕ, [], length, take, replicate, refl, arith, length-take}
use Rattle.pg_cells.proofs.LinkLaws.{root_first}
use Rattle.pg_count.proofs.Nexting.{none_next, least_next}
use Rattle.pg_count.proofs.counts.CountTrie.next.Goals as goal

pub least-requires-clause-base : goal.least-requires-clause-base
least-requires-clause-base c = ([], (c.self.invariant.held.root, root_first c.self.inside.cells c.self.invariant.held))

pub set-requires-clause-signs : goal.set-requires-clause-signs
set-requires-clause-signs c = (c.in-Some.ensures [] c.self.invariant.held.root 0).are_signs

pub returns-in-None : goal.returns-in-None
returns-in-None c =
    let most = c.self.invariant.counting.len in
    let size : length (take c.from.result (replicate 15 0)) ≡ c.self.inside.len = omega (arith, length-take {A = ℕ} c.from.result (replicate 15 0)) in (
      none_next c.args.self.now c.self.inside.cells c.self.inside.len c.args.at.now c.signs.result.now (length (take c.from.result (replicate 15 0))) c.self.view_is c.self.invariant c.signs.ensures.value size
          (c.in-None.ensures [] c.self.invariant.held.root),
      refl,
    )

pub returns-in-Some : goal.returns-in-Some
returns-in-Some c =
    let most = c.self.invariant.counting.len in
    let size : length c.least.new.path ≡ c.self.inside.len = omega (arith, length-take {A = ℕ} c.from.result (replicate 15 0)) in
    least_next c.args.self.now c.self.inside.cells c.self.inside.len c.args.at.now c.signs.result.now c.least.new.path c.set.new.self c.in-Some.sums c.self.view_is c.self.invariant c.signs.ensures.value size c.set.ensures
    (c.in-Some.ensures [] c.self.invariant.held.root)
