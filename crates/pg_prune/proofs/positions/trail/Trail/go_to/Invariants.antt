use Rattle.std.proofs.Common.{◌≡◌, take, map}
use Rattle.pg_prune.specs.Inside.positions.Trails.{trail_upto}
use Rattle.pg_prune.proofs.positions.trail.Trail.go_to.Given as goal

abbrev pub invariant-signs : goal.invariant-signs
invariant-signs l = record {
  signs : l.self.signs.items ≡ take l.i l.signs;
  starts : map (λ t. t.items) l.self.starts.items ≡ trail_upto l.dictionary l.all l.signs l.i;
}
