use Rattle.std.proofs.Common.{true, List, refl, sym, subst}
use Rattle.pg_dict.specs.Inside.Store.{all_signs}
use Rattle.pg_starts.specs.Inside.StartCountings.{counts_in, windows_in}
use Rattle.pg_driver.specs.declared.pass_windows.WordPosition.{WordPosition}
use Rattle.pg_driver.specs.declared.counting.word_level.WordLevel.{WordLevel}
use Rattle.pg_driver.specs.Inside.level.PassWindows.{HaveNumbers, is_counted_at}
use Rattle.pg_driver.specs.Inside.records.RunAccounts.{known_of}
use Rattle.pg_driver.specs.Inside.counting.WordLevels.{IsWordsAt}
use Rattle.pg_driver.proofs.AboveNumbers.{numbered_as_counted}
use Rattle.pg_driver.proofs.WordLevels.{words_counted}
use Rattle.pg_driver.proofs.counting.word_level.WordLevel.count_each_word.Goals as goal

pub returns-clause-did : goal.returns-clause-did
returns-clause-did g c =
    record {
      counts = c.in_ok-before.ensures.ok;
      room = c.in_ok-before.ensures.room;
      totals = c.in_ok-before.ensures.totals;
      small = c.in_ok-before.ensures.small;
    }

pub returns-clause-ready : goal.returns-clause-ready
returns-clause-ready g c =
    words_counted c.args.table.now c.args.dictionary.now c.args.pass.level (known_of (g.E.Engine.meaning c.args.engine.now)) c.args.self.now
    (record { is_counted = true; above = c.count_words.new.above; totals = c.in_ok-before.before }) c.requires.ready refl c.in_ok-before.ensures.above
    c.in_ok-before.ensures.totals c.in_ok-before.ensures.bounded

pub returns-clause-numbers : goal.returns-clause-numbers
returns-clause-numbers g c =
    let m = g.E.Engine.meaning c.args.engine.now in
    let words = c.args.dictionary.now in
    let pass = c.args.pass in
    let minima = c.args.table.now in
    let counts = counts_in (all_signs words) c.count_words.new.counts in
    let ws = windows_in (all_signs words) c.count_words.new.counts in
    let after : WordLevel = record { is_counted = true; above = c.count_words.new.above; totals = c.in_ok-before.before } in
    let ready : IsWordsAt c.args.table.now words pass.level (known_of m) after =
    words_counted c.args.table.now words pass.level (known_of m) c.args.self.now after c.requires.ready refl c.in_ok-before.ensures.above
    c.in_ok-before.ensures.totals c.in_ok-before.ensures.bounded in
    subst (λ (es : List WordPosition). HaveNumbers pass (is_counted_at pass counts) words ws es c.count_words.new.numbers.items) (sym ready.above)
    (numbered_as_counted minima words pass m.patterns m.hopeless counts ws _ _ c.in_ok-before.ensures.ok c.in_ok-before.ensures.numbers)
