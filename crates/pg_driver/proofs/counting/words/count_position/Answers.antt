use Rattle.std.proofs.Common.{◌≡◌, false, true, is_some, cond, Bool, List, ℕ, ◌++◌, ◌∷◌, [], sym, ap, ◌∙◌, arith}
use Rattle.pg_dict.specs.Inside.LentWords.{lent_word}
use Rattle.pg_dict.specs.Inside.Store.{all_signs}
use Rattle.pg_starts.specs.Inside.StartCountings.{windows_in}
use Rattle.pg_select.specs.CountedPositions.{counts_as}
use Rattle.pg_select.specs.Inside.laws.AboveLevel.{counts_above}
use Rattle.pg_driver.proofs.AboveNumbers.{above_found, is_some_above, number_noted}
use Rattle.std.specs.List.{slice_index_or}
use Rattle.pg_types.specs.declared.marks.Mark.{Mark}
use Rattle.pg_select.specs.Statuses.{status, status_at}
use Rattle.pg_select.proofs.MarkSteps.{weight_small}
use Rattle.pg_driver.proofs.counting.words.count_position.Goals as goal

pub returns-in_ok-push-clause-numbers : goal.returns-in_ok-push-clause-numbers
returns-in_ok-push-clause-numbers g c = λ words entries at have.
    let m = g.E.Engine.meaning c.args.engine.now in
    let w = lent_word c.args.w.now in
    let pass = c.args.pass in
    let ws = windows_in (all_signs c.args.dictionary.now) c.count_at-number.new.counts in
    let ns : List ℕ = c.args.numbers.now.items in
    let above : is_some (counts_above pass.level m.patterns w c.args.p) ≡ true =
    sym (above_found m w c.args.found.now pass.level c.args.p c.mark_at-mark.result c.requires.read c.requires.within c.mark_at-mark.ensures)
    ∙ sym (c.is_above.ensures ∙ ap (is_some_above pass.level c.args.found.now c.args.p) c.counts_as-good.ensures) ∙ c.if-is_above.true in
    number_noted pass m.patterns m.hopeless words ws entries ns c.push.new.self.items
    w c.args.word c.args.p c.count_at-number.result at c.count_at-number.ensures.number
    (c.in_ok-push.ensures.items ∙ ap (λ (b : Bool). cond b (ns ++ c.count_at-number.result ∷ []) ns) (sym above)) have

pub returns-else-is_above-clause-numbers : goal.returns-else-is_above-clause-numbers
returns-else-is_above-clause-numbers g c = λ words entries at have.
    let m = g.E.Engine.meaning c.args.engine.now in
    let w = lent_word c.args.w.now in
    let pass = c.args.pass in
    let ws = windows_in (all_signs c.args.dictionary.now) c.count_at-number.new.counts in
    let ns : List ℕ = c.args.numbers.now.items in
    let above = sym (above_found m w c.args.found.now pass.level c.args.p c.mark_at-mark.result c.requires.read c.requires.within c.mark_at-mark.ensures)
    ∙ sym (c.is_above.ensures ∙ ap (is_some_above pass.level c.args.found.now c.args.p) c.counts_as-good.ensures) ∙ c.if-is_above.false in
    number_noted pass m.patterns m.hopeless words ws entries ns ns w c.args.word c.args.p
    c.count_at-number.result at c.count_at-number.ensures.number
    (ap (λ (b : Bool). cond b (ns ++ c.count_at-number.result ∷ []) ns) (sym above)) have

pub count_at-number-requires-clause-ranges : goal.count_at-number-requires-clause-ranges
count_at-number-requires-clause-ranges g c = c.requires.ranges

pub count_at-number-requires-clause-pass : goal.count_at-number-requires-clause-pass
count_at-number-requires-clause-pass g c = c.requires.pass

pub count_at-number-requires-clause-read : goal.count_at-number-requires-clause-read
count_at-number-requires-clause-read g c = c.requires.read

pub count_at-number-requires-clause-within : goal.count_at-number-requires-clause-within
count_at-number-requires-clause-within g c = c.requires.within

pub count_at-number-requires-clause-room : goal.count_at-number-requires-clause-room
count_at-number-requires-clause-room g c = c.requires.room

pub mark_at-mark-requires-clause-within : goal.mark_at-mark-requires-clause-within
mark_at-mark-requires-clause-within g c = c.requires.within

pub mark_at-mark-requires-clause-short : goal.mark_at-mark-requires-clause-short
mark_at-mark-requires-clause-short g c = c.requires.read.word.short

pub is_above-requires : goal.is_above-requires
is_above-requires g c = omega (arith, c.requires.within, c.requires.read.word.short)

pub add_mark-requires : goal.add_mark-requires
add_mark-requires g c = omega (arith, weight_small (lent_word c.args.w.now) c.args.p c.requires.read.word c.requires.within, c.requires.room_for)

pub count_at-number-requires-clause-good : goal.count_at-number-requires-clause-good
count_at-number-requires-clause-good g c =
    let w = lent_word c.args.w.now in
    let P = (g.E.Engine.meaning c.args.engine.now).patterns in
    let mark : c.mark_at-mark.result ≡ status_at P w c.args.p = c.mark_at-mark.ensures
    ∙ ap (λ (v : ℕ). status (slice_index_or w.hyphens c.args.p false) (slice_index_or w.cares c.args.p true) v) (c.requires.read.values c.args.p c.requires.within) in
    c.counts_as-good.ensures ∙ ap (λ (x : Mark). counts_as c.args.pass.level x) mark
