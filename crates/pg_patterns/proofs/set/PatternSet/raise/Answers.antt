use Rattle.std.proofs.Common.{sym, subst}
use Rattle.pg_patterns.specs.Inside.PatternMaps.{IsPatternMap}
use Rattle.pg_patterns.proofs.Sound.{EntryBounds, raise_keeps}
use Rattle.pg_patterns.proofs.set.PatternSet.raise.Goals as goal

pub invariant_of-self-2 : goal.invariant_of-self-2
invariant_of-self-2 c =
    let bounds : EntryBounds (c.new.result, c.args.value) =
    subst (λ k. EntryBounds (k, c.args.value)) (sym c.new.ensures)
    (record { some = c.requires.some; few = c.requires.few; signs = c.requires.signs; dot = c.requires.dot; low = c.requires.value.0; high = c.requires.value.1 }) in
    subst IsPatternMap (sym c.in_ok-raise_in.ensures.ok)
    (raise_keeps c.self.inside.held.items c.new.result c.args.value c.self.invariant bounds)
