use Rattle.std.proofs.Common.{rules, ◌≡◌, ◌<◌, ℕ, Bool, length, get_or, sym, subst}
use Rattle.pg_starts.specs.Inside.Starts.{has_window, part_behind}
use Rattle.pg_starts.specs.Inside.Orders.{AreNumbers, AreRanks, then_part}
use Rattle.pg_starts.specs.Inside.Cells.{number_of}
use Rattle.pg_starts.proofs.Orders.{part_low}
use Rattle.pg_starts.proofs.Ranks.{numbers_from_ranks, written_whole, keys_low}
use Rattle.pg_starts.proofs.steps.refine.Goals as goal

pub place-requires-clause-below : goal.place-requires-clause-below
place-requires-clause-below c = subst (λ l. (k : ℕ) → k < length l → number_of (get_or l k 0) < c.args.count) (sym c.deref.ensures.value)
    (keys_low (has_window c.args.signs.now c.args.starts.now c.args.len) (part_behind c.args.signs.now c.args.at c.args.part) c.args.numbers.now c.in_ok-keys.keys.items c.args.count
    (part_low c.args.signs.now c.args.at c.args.part c.type_inv.signs) c.requires.below c.in_ok-keys.ensures.keys)

pub returns-clause-ok : goal.returns-clause-ok
returns-clause-ok c = λ order ordered.
    let test : ℕ → Bool = has_window c.args.signs.now c.args.starts.now c.args.len in
    let part : ℕ → ℕ = part_behind c.args.signs.now c.args.at c.args.part in
    let long : length c.rank.new.firsts ≡ c.in_ok-firsts.firsts.len = search rules in
    subst (AreNumbers (then_part order part) test c.rank.new.numbers)
    (sym (written_whole c.rank.new.firsts c.in_ok-firsts.firsts.items c.in_ok-firsts.firsts.len long))
    (numbers_from_ranks test part c.args.numbers.now c.in_ok-keys.keys.items order c.rank.new.numbers c.rank.new.firsts c.args.count (search rules)
    (part_low c.args.signs.now c.args.at c.args.part c.type_inv.signs) ordered c.in_ok-keys.ensures.keys
    (subst (λ k. AreRanks test part c.args.numbers.now k c.rank.new.numbers c.rank.new.firsts)
    c.deref-2.ensures.value c.rank.ensures))
