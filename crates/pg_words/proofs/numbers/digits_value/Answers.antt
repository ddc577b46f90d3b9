use Rattle.std.proofs.Common.{◌≡◌, ℕ, ◌+◌, ◌<◌, ◌∙◌, true, drop, get_or, sym, ap, arith}
use Rattle.std.specs.Char.{is_ascii_digit}
use Rattle.std.proofs.lemmas.Grind.{common_steps}
use Rattle.std.proofs.lemmas.List.{drop_more}
use Rattle.pg_types.specs.Numbers.{with_digit}
use Rattle.pg_types.specs.Inside.reading.Parts.{number_from}
use Rattle.pg_words.specs.Inside.Numbers.{at_most}
use Rattle.pg_words.proofs.DigitValues.{digit_more, too_great}
use Rattle.pg_words.proofs.numbers.digits_value.Goals as goal

pub returns-then-longer-from-clause-value : goal.returns-then-longer-from-clause-value
returns-then-longer-from-clause-value c =
    let l = c.digits in
    let digits = c.args.digits.now in
    let b : ℕ = get_or digits l.digit-index 0 in
    let rest = drop (l.digit-index + 1) digits in
    let digit : is_ascii_digit b ≡ true = grind (arith, common_steps) in
    let great : c.args.most < with_digit l.value b = omega arith in
    sym (too_great c.args.most (with_digit l.value b) rest great)
    ∙ sym (ap (at_most c.args.most) (ap (number_from l.value) (drop_more digits l.digit-index 0 (omega arith)) ∙ digit_more l.value b rest digit))
    ∙ l.invariant.rest
