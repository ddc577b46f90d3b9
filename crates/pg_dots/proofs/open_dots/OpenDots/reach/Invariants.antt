use Rattle.std.proofs.Common.{◌≡◌, ℕ, ◌-◌, ◌<◌}
use Rattle.pg_dots.specs.Inside.Dots.{is_closed, position_count}
use Rattle.pg_dots.proofs.open_dots.OpenDots.reach.Given as goal

abbrev pub invariant-loop-self : goal.invariant-loop-self
invariant-loop-self l = record {
  size : position_count l.self ≡ position_count l.fn.self;
  closed : (d j : ℕ) → j < position_count l.fn.self → is_closed l.self d j ≡ is_closed l.fn.self d j;
}

abbrev pub decreases-loop-self : goal.decreases-loop-self
decreases-loop-self l = 16 - l.self.reached
