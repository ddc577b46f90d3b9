use Rattle.std.proofs.Common.{◌≡◌, ◌<◌, ◌+◌, length, refl, ap, sym, ◌∙◌, arith}
use Rattle.pg_dict.specs.Inside.LentWords.{lent_word}
use Rattle.pg_select.specs.Inside.laws.ClosedDots.{is_good}
use Rattle.pg_select.specs.Statuses.{position_weight}
use Rattle.pg_select.proofs.MarkSteps.{weight_small}
use Rattle.pg_driver.proofs.AboveNumbers.{chosen_by_number, kept_more}
use Rattle.pg_driver.proofs.counting.above_positions.add_kept.Goals as goal

pub bounds-w-p : goal.bounds-w-p
bounds-w-p c =
    let within : c.args.position.at < length (lent_word c.word-w.result).signs = c.requires.placed.within (lent_word c.word-w.result) c.word-w.ensures.lent in
    omega (arith, c.from-p.ensures, c.word-w.result.weights_len)

pub bounds-w-p-2 : goal.bounds-w-p-2
bounds-w-p-2 c =
    let within : c.args.position.at < length (lent_word c.word-w.result).signs = c.requires.placed.within (lent_word c.word-w.result) c.word-w.ensures.lent in
    omega (arith, c.from-p.ensures, c.word-w.result.hyphens_len)

pub returns-then-not-is_chosen_by-clause-value : goal.returns-then-not-is_chosen_by-clause-value
returns-then-not-is_chosen_by-clause-value c = λ params counts ws decided is.
    let w = lent_word c.word-w.result in
    let e = c.args.position in
    let pass = c.args.pass in
    kept_more params pass counts c.args.dictionary.now e w c.word-w.ensures.lent c.args.kept c.args.kept _ _ _
    (sym c.if-not-is_chosen_by.true ∙ c.is_chosen_by.ensures ∙ chosen_by_number params counts ws c.args.fates.now decided c.requires.few pass
    c.args.dictionary.now e c.args.number w c.word-w.ensures.lent is)
    (refl {a = is_good pass.level w e.at}) (refl {a = position_weight w e.at}) (omega arith) (omega arith)

pub returns-then-is_good-clause-value : goal.returns-then-is_good-clause-value
returns-then-is_good-clause-value c = λ params counts ws decided is.
    let w = lent_word c.word-w.result in
    let e = c.args.position in
    let pass = c.args.pass in
    let at : c.from-p.result ≡ e.at = omega (arith, c.from-p.ensures) in
    kept_more params pass counts c.args.dictionary.now e w c.word-w.ensures.lent c.args.kept (record { good = c.args.kept.good + c.from-weight.result; bad = c.args.kept.bad }) _ _ _
    (sym c.if-not-is_chosen_by.false ∙ c.is_chosen_by.ensures ∙ chosen_by_number params counts ws c.args.fates.now decided c.requires.few pass
    c.args.dictionary.now e c.args.number w c.word-w.ensures.lent is)
    (sym c.if-is_good.true ∙ c.is_good.ensures ∙ ap (is_good pass.level w) at) (c.from-weight.ensures ∙ ap (position_weight w) at) refl (omega arith)

pub returns-else-is_good-clause-value : goal.returns-else-is_good-clause-value
returns-else-is_good-clause-value c = λ params counts ws decided is.
    let w = lent_word c.word-w.result in
    let e = c.args.position in
    let pass = c.args.pass in
    let at : c.from-p.result ≡ e.at = omega (arith, c.from-p.ensures) in
    kept_more params pass counts c.args.dictionary.now e w c.word-w.ensures.lent c.args.kept (record { good = c.args.kept.good; bad = c.args.kept.bad + c.from-weight.result }) _ _ _
    (sym c.if-not-is_chosen_by.false ∙ c.is_chosen_by.ensures ∙ chosen_by_number params counts ws c.args.fates.now decided c.requires.few pass
    c.args.dictionary.now e c.args.number w c.word-w.ensures.lent is)
    (sym c.if-is_good.false ∙ c.is_good.ensures ∙ ap (is_good pass.level w) at) (c.from-weight.ensures ∙ ap (position_weight w) at) (omega arith) refl

pub returns-then-not-is_chosen_by-clause-took : goal.returns-then-not-is_chosen_by-clause-took
returns-then-not-is_chosen_by-clause-took c = omega arith

pub overflow_add-result : goal.overflow_add-result
overflow_add-result c =
    let w = lent_word c.word-w.result in
    let at : c.from-p.result ≡ c.args.position.at = omega (arith, c.from-p.ensures) in
    let small = weight_small w c.from-p.result c.word-w.ensures.word (omega (arith, at, c.requires.placed.within w c.word-w.ensures.lent)) in
    omega (arith, c.from-weight.ensures, small, c.requires.room)

pub overflow_add-result-else-is_good : goal.overflow_add-result-else-is_good
overflow_add-result-else-is_good c =
    let w = lent_word c.word-w.result in
    let at : c.from-p.result ≡ c.args.position.at = omega (arith, c.from-p.ensures) in
    let small = weight_small w c.from-p.result c.word-w.ensures.word (omega (arith, at, c.requires.placed.within w c.word-w.ensures.lent)) in
    omega (arith, c.from-weight.ensures, small, c.requires.room)

pub returns-then-is_good-clause-took : goal.returns-then-is_good-clause-took
returns-then-is_good-clause-took c =
    let w = lent_word c.word-w.result in
    let at : c.from-p.result ≡ c.args.position.at = omega (arith, c.from-p.ensures) in
    let small = weight_small w c.from-p.result c.word-w.ensures.word (omega (arith, at, c.requires.placed.within w c.word-w.ensures.lent)) in
    omega (arith, c.from-weight.ensures, small)

pub returns-else-is_good-clause-took : goal.returns-else-is_good-clause-took
returns-else-is_good-clause-took c =
    let w = lent_word c.word-w.result in
    let at : c.from-p.result ≡ c.args.position.at = omega (arith, c.from-p.ensures) in
    let small = weight_small w c.from-p.result c.word-w.ensures.word (omega (arith, at, c.requires.placed.within w c.word-w.ensures.lent)) in
    omega (arith, c.from-weight.ensures, small)
