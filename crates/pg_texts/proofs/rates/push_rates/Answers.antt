use Rattle.std.proofs.Common.{◌≡◌, ◌≢◌, ◌+◌, ◌++◌, ℕ, [], List, cond, codes, ap, sym, ◌∙◌}
use Rattle.std.proofs.lemmas.Bool.{eq-eqb, ne_eqb}
use Rattle.std.proofs.lemmas.List.{append-nil}
use Rattle.std.proofs.lemmas.Result.{IfOk-from_err, on_ok_weaker}
use Rattle.pg_types.specs.declared.marks.Totals.{Totals}
use Rattle.pg_texts.specs.ReportTexts.{rate, rate_text}
use Rattle.pg_texts.specs.Inside.ReportLines.{hundredths}
use Rattle.pg_texts.proofs.Joins.{three_texts, appended}
use Rattle.pg_texts.proofs.rates.push_rates.Goals as goal

-- the line of rates, where there is one
abbrev line_of_rates : Totals → List ℕ
line_of_rates t = codes "rate: " ++ rate t t.good ++ codes " % good, " ++ rate t t.bad ++ codes " % bad, " ++ rate t t.missed ++ codes " % missed\n"

rates_none : (t : Totals) (text : List ℕ) → t.good + t.missed ≡ 0 → text ≡ text ++ rate_text t
rates_none t text none = sym (append-nil text) ∙ ap (λ b. text ++ cond b [] (line_of_rates t)) (sym (eq-eqb (t.good + t.missed) 0 none))

rates_some : (t : Totals) (text whole : List ℕ) → t.good + t.missed ≢ 0 → whole ≡ text ++ line_of_rates t → whole ≡ text ++ rate_text t
rates_some t text whole some is = is ∙ ap (λ b. text ++ cond b [] (line_of_rates t)) (sym (ne_eqb (t.good + t.missed) 0 some))

pub returns-then-whole-eq0 : goal.returns-then-whole-eq0
returns-then-whole-eq0 c = rates_none c.args.totals.now c.args.text.now.items c.if-whole-eq0.true

pub returns : goal.returns
returns c =
    let t = c.args.totals.now in
    let old = c.args.text.now.items in
    let one = c.push_hundredths.new.text.items in
    let two = c.push_hundredths-2.new.text.items in
    let three = c.push_hundredths-3.new.text.items in
    let all = c.extend_from_slice.new.self.items in
    on_ok_weaker c.extend_from_slice.result
    (λ is. rates_some t old all c.if-whole-eq0.false
    (three_texts old (codes "rate: ") (rate t t.good) (codes " % good, ") (rate t t.bad) (codes " % bad, ") (rate t t.missed) (codes " % missed\n") one two three all
    (c.in_ok-push_hundredths.ensures ∙ ap (λ n. old ++ codes "rate: " ++ hundredths n) c.rate.ensures)
    (c.in_ok-push_hundredths-2.ensures ∙ ap (λ n. one ++ codes " % good, " ++ hundredths n) c.rate-2.ensures)
    (c.in_ok-push_hundredths-3.ensures ∙ ap (λ n. two ++ codes " % bad, " ++ hundredths n) c.rate-3.ensures) is))
    (appended c.extend_from_slice.result all (three ++ codes " % missed\n") three c.extend_from_slice.ensures.items)

pub returns-in_err-push_hundredths : goal.returns-in_err-push_hundredths
returns-in_err-push_hundredths c = IfOk-from_err c.from_residual.result _ c.from_residual.ensures.0

pub returns-in_err-push_hundredths-2 : goal.returns-in_err-push_hundredths-2
returns-in_err-push_hundredths-2 c = IfOk-from_err c.from_residual-in_err-push_hundredths-2.result _ c.from_residual-in_err-push_hundredths-2.ensures.0

pub returns-in_err-push_hundredths-3 : goal.returns-in_err-push_hundredths-3
returns-in_err-push_hundredths-3 c = IfOk-from_err c.from_residual-in_err-push_hundredths-3.result _ c.from_residual-in_err-push_hundredths-3.ensures.0
