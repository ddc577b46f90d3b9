use Rattle.std.proofs.Common.{◌≡◌, ℕ, ◌+◌, ◌-◌, ◌≤◌, ◌<◌, Bool, false}
use Rattle.pg_dict.specs.Inside.Store.{all_signs}
use Rattle.pg_dots.specs.Inside.Dots.{HasWalk, is_closed, position_count}
use Rattle.pg_dots.specs.Inside.Walks.{IsAhead}
use Rattle.pg_starts.specs.Inside.StartCountings.{windows_in}
use Rattle.pg_driver.specs.Inside.counting.OpenSigns.{ClosesBy, sign_count}
use Rattle.pg_driver.proofs.counting.open_passes.close_dots.Given as goal

abbrev pub invariant-signs : goal.invariant-signs
invariant-signs l =
    let old = is_closed l.fn.dots in
    let now = is_closed l.dots in
    record {
      size : position_count l.dots ≡ position_count l.fn.dots;
      reached : l.dots.reached ≡ l.fn.dots.reached;
      inside : l.next ≤ position_count l.fn.dots;
      free : l.next < position_count l.fn.dots → now l.pass.dot l.next ≡ false;
      at : HasWalk l.dots l.walk;
      ahead : l.next < position_count l.fn.dots → IsAhead (now l.pass.dot) l.walk (l.next + 1);
      later : (d s : ℕ) → l.next ≤ s → s < position_count l.fn.dots → now d s ≡ old d s;
      front : (after : ℕ → ℕ → Bool) → ClosesBy after l.pass l.dictionary (windows_in (all_signs l.dictionary) l.counts) l.fates old → (d s : ℕ) → s < l.next → s < sign_count l.dictionary
          → now d s ≡ after d s;
    }

abbrev pub decreases-signs : goal.decreases-signs
decreases-signs l = l.end - l.next
