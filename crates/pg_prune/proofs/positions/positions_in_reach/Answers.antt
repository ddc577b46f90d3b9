use Rattle.std.proofs.Common.{◌∙◌, ◌++◌, map, ap}
use Rattle.pg_dict.specs.Inside.LentWords.{lent_word}
use Rattle.std.proofs.Common.{arith, ◌<◌, length}
use Rattle.pg_prune.specs.Inside.positions.WordPositions.{positions_from}
use Rattle.pg_prune.specs.Inside.positions.PositionInReach.{need_at}
use Rattle.pg_prune.proofs.positions.PositionSteps.{word_more}
use Rattle.pg_prune.proofs.positions.PositionForms.{positions_as}
use Rattle.pg_prune.proofs.positions.positions_in_reach.Goals as goal

pub words-init : goal.words-init
words-init c =
    ap (λ ns. ns ++ map need_at (positions_from c.args.table.now 1 c.args.dictionary.now)) c.new-all.ensures.items
    ∙ ap (map need_at) (positions_as c.args.table.now c.args.dictionary.now)

pub words-preserved : goal.words-preserved
words-preserved c =
    let inside : c.words.i < length c.args.dictionary.now = omega (arith, c.len-i-end.ensures.len) in
    word_more c.args.table.now c.words.i c.args.dictionary.now
    (lent_word c.word.result) c.words.all.items c.add_word.new.all.items inside c.word.ensures.lent c.in_ok-add_word.ensures ∙ c.words.invariant
