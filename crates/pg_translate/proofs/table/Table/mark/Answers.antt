use Rattle.std.proofs.Common.{◌≡◌, ℕ, List, Some, ap, subst}
use Rattle.pg_types.specs.declared.marks.Mark.TheVariants.{Error, Missed, Found, DontCare}
use Rattle.pg_translate.specs.Alphabets.{Alphabet}
use Rattle.pg_translate.specs.Tokens.{Marked}
use Rattle.pg_translate.specs.Inside.items.Kinds.{mark_at}
use Rattle.pg_translate.specs.Inside.tables.Heads.{head_marks}
use Rattle.pg_translate.proofs.RuleLaws.{keeps}
use Rattle.pg_translate.proofs.Unbroken.{mark_begun, first_mark, second_mark, third_mark, fourth_mark}
use Rattle.pg_translate.proofs.table.Table.mark.Goals as goal

pub returns-then-byte-self-clause-mark : goal.returns-then-byte-self-clause-mark
returns-then-byte-self-clause-mark c =
    subst (λ (marks : List ℕ). mark_at marks c.args.text.now ≡ Some (Marked Error, 1)) (ap (λ (t : Alphabet). t.marks) c.self.view_is)
    (first_mark (head_marks c.self.inside.head) c.args.text.now c.requires c.if-byte-self.true)

pub returns-then-byte-self-clause-begun : goal.returns-then-byte-self-clause-begun
returns-then-byte-self-clause-begun c =
    mark_begun _ (keeps c.self.inside.head c.self.inside.index c.self.invariant) c.args.text.now _ (first_mark (head_marks c.self.inside.head) c.args.text.now c.requires c.if-byte-self.true)

pub returns-then-byte-self-2-clause-mark : goal.returns-then-byte-self-2-clause-mark
returns-then-byte-self-2-clause-mark c =
    subst (λ (marks : List ℕ). mark_at marks c.args.text.now ≡ Some (Marked Missed, 1)) (ap (λ (t : Alphabet). t.marks) c.self.view_is)
    (second_mark (head_marks c.self.inside.head) c.args.text.now c.requires c.if-byte-self.false c.if-byte-self-2.true)

pub returns-then-byte-self-2-clause-begun : goal.returns-then-byte-self-2-clause-begun
returns-then-byte-self-2-clause-begun c =
    mark_begun _ (keeps c.self.inside.head c.self.inside.index c.self.invariant) c.args.text.now _
    (second_mark (head_marks c.self.inside.head) c.args.text.now c.requires c.if-byte-self.false c.if-byte-self-2.true)

pub returns-then-byte-self-3-clause-mark : goal.returns-then-byte-self-3-clause-mark
returns-then-byte-self-3-clause-mark c =
    subst (λ (marks : List ℕ). mark_at marks c.args.text.now ≡ Some (Marked Found, 1)) (ap (λ (t : Alphabet). t.marks) c.self.view_is)
    (third_mark (head_marks c.self.inside.head) c.args.text.now c.requires c.if-byte-self.false c.if-byte-self-2.false c.if-byte-self-3.true)

pub returns-then-byte-self-3-clause-begun : goal.returns-then-byte-self-3-clause-begun
returns-then-byte-self-3-clause-begun c =
    mark_begun _ (keeps c.self.inside.head c.self.inside.index c.self.invariant) c.args.text.now _
    (third_mark (head_marks c.self.inside.head) c.args.text.now c.requires c.if-byte-self.false c.if-byte-self-2.false c.if-byte-self-3.true)

pub returns-then-byte-self-4-clause-mark : goal.returns-then-byte-self-4-clause-mark
returns-then-byte-self-4-clause-mark c =
    subst (λ (marks : List ℕ). mark_at marks c.args.text.now ≡ Some (Marked DontCare, 1)) (ap (λ (t : Alphabet). t.marks) c.self.view_is)
    (fourth_mark (head_marks c.self.inside.head) c.args.text.now c.requires c.if-byte-self.false c.if-byte-self-2.false c.if-byte-self-3.false c.if-byte-self-4.true)

pub returns-then-byte-self-4-clause-begun : goal.returns-then-byte-self-4-clause-begun
returns-then-byte-self-4-clause-begun c =
    mark_begun _ (keeps c.self.inside.head c.self.inside.index c.self.invariant) c.args.text.now _
    (fourth_mark (head_marks c.self.inside.head) c.args.text.now c.requires c.if-byte-self.false c.if-byte-self-2.false c.if-byte-self-3.false c.if-byte-self-4.true)
