use Rattle.std.proofs.Common.{◌≡◌, ℕ, ◌+◌, ◌<◌, ◌≤◌, ◌*◌, Bool, true, length, get_or, arith, rules}
use Rattle.pg_starts.specs.Inside.Starts.{has_window, part_behind}
use Rattle.pg_starts.proofs.SetLaws.{sets_none, sets_skip, sets_marked, sets_whole}
use Rattle.pg_starts.proofs.Tests.{has_it, left_out, window_ends}
use Rattle.pg_starts.proofs.keys.mark.Goals as goal

pub starts-init : goal.starts-init
starts-init c =
    let later = c.next-next.ensures.next 0 c.walk-walk.ensures.ahead in
    record {
      sets = sets_skip (has_window c.args.signs.now c.args.starts.now c.args.len) (part_behind c.args.signs.now c.args.at c.args.part) c.args.numbers.now 0 c.next-next.result c.args.sets.now
          (λ j from before. left_out c.args.signs.now c.args.starts.now c.args.len j (later.passes j from before))
          (sets_none (has_window c.args.signs.now c.args.starts.now c.args.len) (part_behind c.args.signs.now c.args.at c.args.part) c.args.numbers.now c.args.sets.now c.requires.none);
      walk = record {
        inside = later.within;
        free = later.fails;
        at = c.next-next.ensures.within;
        ahead = c.next-next.ensures.ahead 0 c.walk-walk.ensures.ahead;
      };
    }

pub starts-preserved : goal.starts-preserved
starts-preserved c =
    let signs = c.args.signs.now in
    let s = c.args.starts.now in
    let i = c.starts.next in
    let test : ℕ → Bool = has_window signs s c.args.len in
    let part : ℕ → ℕ = part_behind signs c.args.at c.args.part in
    let inv = c.starts.invariant in
    let ends : i + c.args.len ≤ length signs = omega (arith, c.starts-test.true) in
    let within : i < 64 * length s.bits.items = omega (arith, ends, c.requires.room, c.requires.at) in
    let live : test i ≡ true = has_it signs s c.args.len i (inv.walk.free within) ends in
    let later = c.next-next-in-starts.ensures.next (i + 1) (inv.walk.ahead within) in
    record {
      sets = sets_skip test part c.args.numbers.now (i + 1) c.next-next-in-starts.result _
          (λ j from before. left_out signs s c.args.len j (later.passes j from before))
          (sets_marked test part c.args.numbers.now i (get_or c.args.numbers.now i 0) c.part_of-follows.result c.starts.sets
          (search rules) c.part_of-follows.ensures.value c.part_of-follows.ensures.low (let low = c.requires.below i live in omega (arith, low)) live inv.sets);
      walk = record {
        inside = later.within;
        free = later.fails;
        at = c.next-next-in-starts.ensures.within;
        ahead = c.next-next-in-starts.ensures.ahead (i + 1) (inv.walk.ahead within);
      };
    }

pub returns : goal.returns
returns c =
    sets_whole (has_window c.args.signs.now c.args.starts.now c.args.len) (part_behind c.args.signs.now c.args.at c.args.part) c.args.numbers.now c.starts.next c.starts.sets
    (λ i live. let ends = window_ends c.args.signs.now c.args.starts.now c.args.len i live in omega (arith, ends, c.starts-test.false))
    c.starts.invariant.sets

pub starts-smaller : goal.starts-smaller
starts-smaller c =
    let s = c.args.starts.now in
    let i = c.starts.next in
    let ends : i + c.args.len ≤ length c.args.signs.now = omega (arith, c.starts-test.true) in
    let within : i < 64 * length s.bits.items = omega (arith, ends, c.requires.room, c.requires.at) in
    let later = c.next-next-in-starts.ensures.next (i + 1) (c.starts.invariant.walk.ahead within) in
    omega (arith, c.starts-test.true, later.after)
