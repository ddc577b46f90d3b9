use Rattle.std.proofs.Common.{◌≡◌, ℕ, ◌+◌, ◌<◌, ◌≤◌, ◌*◌, Bool, true, length, get_or, refl, arith}
use Rattle.pg_starts.specs.Inside.Starts.{has_window, part_behind}
use Rattle.pg_starts.proofs.Families.{read_place}
use Rattle.pg_starts.proofs.Ranks.{ranked_none, ranked_skip, ranked_step, ranks_at_end}
use Rattle.pg_starts.proofs.Tests.{has_it, left_out, window_ends}
use Rattle.pg_starts.proofs.steps.rank.Goals as goal

pub starts-init : goal.starts-init
starts-init c =
    let later = c.next-next.ensures.next 0 c.walk-walk.ensures.ahead in
    record {
      ranks = ranked_skip (has_window c.args.signs.now c.args.starts.now c.args.len) (part_behind c.args.signs.now c.args.at c.args.part) c.args.numbers.now c.args.keys.now 0 c.next-next.result
          c.args.numbers.now c.args.firsts.now later.after
          (λ j from before. left_out c.args.signs.now c.args.starts.now c.args.len j (later.passes j from before))
          (ranked_none (has_window c.args.signs.now c.args.starts.now c.args.len) (part_behind c.args.signs.now c.args.at c.args.part) c.args.numbers.now c.args.keys.now
          c.args.numbers.now c.args.firsts.now refl);
      walk = record {
        inside = later.within;
        free = later.fails;
        at = c.next-next.ensures.within;
        ahead = c.next-next.ensures.ahead 0 c.walk-walk.ensures.ahead;
      };
    }

pub starts-preserved : goal.starts-preserved
starts-preserved c =
    let signs = c.args.signs.now in
    let s = c.args.starts.now in
    let i = c.starts.next in
    let test : ℕ → Bool = has_window signs s c.args.len in
    let part : ℕ → ℕ = part_behind signs c.args.at c.args.part in
    let inv = c.starts.invariant in
    let ends : i + c.args.len ≤ length signs = omega (arith, c.starts-test.true) in
    let within : i < 64 * length s.bits.items = omega (arith, ends, c.requires.room, c.requires.at) in
    let live : test i ≡ true = has_it signs s c.args.len i (inv.walk.free within) ends in
    let later = c.next-next-in-starts.ensures.next (i + 1) (inv.walk.ahead within) in
    let read = read_place test part c.args.numbers.now c.args.keys.now c.args.packed.now.bases.items c.args.packed.now.cells.items c.requires.are_keys c.requires.are_packed i live
    (omega (arith, c.part_of-follows.ensures.value, c.part_of-follows.ensures.low)) (get_or c.starts.numbers i 0) c.index.result.now c.part_of-follows.result c.index-index.result.now
    (inv.ranks.later i (omega arith)) c.index.ensures c.part_of-follows.ensures.value c.index-index.ensures in
    record {
      ranks = ranked_skip test part c.args.numbers.now c.args.keys.now (i + 1) c.next-next-in-starts.result _ _ later.after
          (λ j from before. left_out signs s c.args.len j (later.passes j from before))
          (ranked_step test part c.args.numbers.now c.args.keys.now i c.index-index.result.now c.starts.numbers c.starts.firsts (omega (arith, ends, c.requires.at)) read.0 (omega arith) live read.1 inv.ranks);
      walk = record {
        inside = later.within;
        free = later.fails;
        at = c.next-next-in-starts.ensures.within;
        ahead = c.next-next-in-starts.ensures.ahead (i + 1) (inv.walk.ahead within);
      };
    }

pub returns : goal.returns
returns c =
    ranks_at_end (has_window c.args.signs.now c.args.starts.now c.args.len) (part_behind c.args.signs.now c.args.at c.args.part) c.args.numbers.now c.args.keys.now c.starts.next
    c.starts.numbers c.starts.firsts
    (λ i live. let ends = window_ends c.args.signs.now c.args.starts.now c.args.len i live in omega (arith, ends, c.starts-test.false))
    c.starts.invariant.ranks

pub starts-smaller : goal.starts-smaller
starts-smaller c =
    let s = c.args.starts.now in
    let i = c.starts.next in
    let ends : i + c.args.len ≤ length c.args.signs.now = omega (arith, c.starts-test.true) in
    let within : i < 64 * length s.bits.items = omega (arith, ends, c.requires.room, c.requires.at) in
    let later = c.next-next-in-starts.ensures.next (i + 1) (c.starts.invariant.walk.ahead within) in
    omega (arith, c.starts-test.true, later.after)

pub bounds-firsts-index : goal.bounds-firsts-index
bounds-firsts-index c =
    let signs = c.args.signs.now in
    let s = c.args.starts.now in
    let i = c.starts.next in
    let inv = c.starts.invariant in
    let ends : i + c.args.len ≤ length signs = omega (arith, c.starts-test.true) in
    let within : i < 64 * length s.bits.items = omega (arith, ends, c.requires.room, c.requires.at) in
    let live = has_it signs s c.args.len i (inv.walk.free within) ends in
    let read = read_place (has_window signs s c.args.len) (part_behind signs c.args.at c.args.part) c.args.numbers.now c.args.keys.now
    c.args.packed.now.bases.items c.args.packed.now.cells.items c.requires.are_keys c.requires.are_packed i live
    (omega (arith, c.part_of-follows.ensures.value, c.part_of-follows.ensures.low)) (get_or c.starts.numbers i 0) c.index.result.now c.part_of-follows.result c.index-index.result.now
    (inv.ranks.later i (omega arith)) c.index.ensures c.part_of-follows.ensures.value c.index-index.ensures in
    omega (arith, read.0)
