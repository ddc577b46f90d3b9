use Rattle.pg_plain.proofs.Covers.{entries_are_strings, values_end, covers_end}
use Rattle.pg_plain.proofs.engine.PlainEngineEngine.hyphenate.Goals as goal

pub walk-requires-clause-strings : goal.walk-requires-clause-strings
walk-requires-clause-strings c = entries_are_strings c.args.self.now.patterns.entries c.args.self.now.entries.sound

pub returns-clause-values : goal.returns-clause-values
returns-clause-values c =
    values_end c.args.self.now.patterns.entries c.args.self.now.hopeless.entries c.args.w.signs.now c.new.result.values c.walk.new.out.values
    c.walk-2.new.out.values c.requires.len c.new.ensures.values c.walk.ensures.values c.walk-2.ensures.values

pub returns-clause-covers : goal.returns-clause-covers
returns-clause-covers c =
    covers_end c.args.self.now.patterns.entries c.args.self.now.hopeless.entries c.args.self.now.pass.level c.args.self.now.pass.len c.args.self.now.pass.dot
    c.args.w.signs.now c.new.result.covers c.walk.new.out.covers c.walk-2.new.out.covers c.requires.len c.new.ensures.covers c.walk.ensures.covers c.walk-2.ensures.covers
