use Rattle.pg_hyph.proofs.Laws.{values_end, covers_end}
use Rattle.pg_hyph.proofs.word.hyphenate.Goals as goal

pub returns-clause-values : goal.returns-clause-values
returns-clause-values c =
    values_end c.args.trie.now c.outputs-outputs.ensures.kept c.args.w.signs.now c.requires.word c.new.result.values c.walk.new.out.values c.new.ensures.values c.walk.ensures.values

pub returns-clause-covers : goal.returns-clause-covers
returns-clause-covers c =
    covers_end c.args.trie.now c.outputs-outputs.ensures.kept c.args.w.signs.now c.requires.word
    (record { level = c.args.level; len = c.args.len; dot = c.args.dot }) c.requires.level.1 c.new.result.covers c.walk.new.out.covers c.new.ensures.covers c.walk.ensures.covers
