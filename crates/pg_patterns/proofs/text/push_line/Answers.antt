use Rattle.std.proofs.Common.{◌≡◌, ℕ, ◌≤◌, [], ◌∷◌, ◌++◌, List, length, drop, append_assoc, ap, sym, ◌∙◌, arith}
use Rattle.std.proofs.lemmas.Grind.{common_steps}
use Rattle.std.proofs.lemmas.List.{drop_all}
use Rattle.pg_translate.specs.Alphabets.{Alphabet}
use Rattle.pg_patterns.specs.Values.{Patterns}
use Rattle.pg_patterns.specs.Inside.PatternLines.{value_digit, line_from}
use Rattle.pg_patterns.proofs.LineForms.{line_as}
use Rattle.pg_patterns.proofs.text.push_line.Goals as goal

-- the digit of the last dot and the line feed
line_ends : (t : Alphabet) (P : Patterns) (q : List ℕ) (dot : ℕ) (old mid new all : List ℕ) → length q ≤ dot → dot ≤ length q → mid ≡ old
    ++ value_digit P (q, length q) → new ≡ mid ++ 10 ∷ [] → old ++ line_from t P q dot (drop dot q) ≡ all → new ≡ all
line_ends t P q dot old mid new all past within a c so =
    let same : length q ≡ dot = omega arith in
    c
    ∙ ap (λ x. x ++ 10 ∷ []) a
    ∙ append_assoc old (value_digit P (q, length q)) (10 ∷ [])
    ∙ ap (λ d. old ++ (value_digit P (q, d) ++ 10 ∷ [])) same
    ∙ ap (λ ys. old ++ line_from t P q dot ys) (sym (drop_all dot q past))
    ∙ so

pub signs-init : goal.signs-init
signs-init c = record {
  text = ap (λ line. c.args.text.now.items ++ line) (sym (line_as c.args.table.now c.args.entries.now c.args.signs.now 0 c.args.signs.now));
  point = c.requires.point;
}

pub signs-preserved : goal.signs-preserved
signs-preserved c = grind (arith, common_steps)

pub returns-clause-text : goal.returns-clause-text
returns-clause-text c =
    line_ends c.args.table.now c.args.entries.now c.args.signs.now c.signs.dot c.signs.text.items c.push_digit-2.new.text.items c.push.new.self.items _ c.signs-test.false c.signs.auto.dot-end
    c.in_ok-next-2.ensures.text c.in_ok-push.ensures.items c.signs.invariant.text

pub returns-clause-next : goal.returns-clause-next
returns-clause-next c = c.in_ok-next-2.ensures.next
