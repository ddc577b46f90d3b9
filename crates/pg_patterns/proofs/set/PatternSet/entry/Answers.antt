use Rattle.pg_patterns.proofs.Sound.{bounds_lent}
use Rattle.pg_patterns.proofs.set.PatternSet.entry.Goals as goal

pub returns-clause-some : goal.returns-clause-some
returns-clause-some c = (bounds_lent c.self.inside.held.items c.args.self.now c.args.i c.index-held.result.now c.signs.result.now c.dot.result
    c.self.invariant c.self.view_is c.requires c.index-held.ensures c.signs.ensures.value c.dot.ensures).some

pub returns-clause-signs : goal.returns-clause-signs
returns-clause-signs c = (bounds_lent c.self.inside.held.items c.args.self.now c.args.i c.index-held.result.now c.signs.result.now c.dot.result
    c.self.invariant c.self.view_is c.requires c.index-held.ensures c.signs.ensures.value c.dot.ensures).signs

pub returns-clause-dot : goal.returns-clause-dot
returns-clause-dot c = (bounds_lent c.self.inside.held.items c.args.self.now c.args.i c.index-held.result.now c.signs.result.now c.dot.result c.self.invariant
    c.self.view_is c.requires c.index-held.ensures c.signs.ensures.value c.dot.ensures).dot

pub returns-clause-bounds : goal.returns-clause-bounds
returns-clause-bounds c =
    let bounds = bounds_lent c.self.inside.held.items c.args.self.now c.args.i c.index-held.result.now c.signs.result.now c.dot.result c.self.invariant
    c.self.view_is c.requires c.index-held.ensures c.signs.ensures.value c.dot.ensures in
    (bounds.low, bounds.high)
