use Rattle.std.proofs.Common.{◌≡◌, ◌+◌, ◌∷◌, Some, slice_get, sym, ap, subst, ◌∙◌, rules}
use Rattle.pg_outputs.specs.Lists.{list_of}
use Rattle.pg_outputs.proofs.ListLaws.{list_of-at, list_of-zero}
use Rattle.pg_outputs.proofs.lists.Outputs.first.Goals as goal

pub returns-in_err-index-clause-list : goal.returns-in_err-index-clause-list
returns-in_err-index-clause-list c =
    let none : c.args.head ≡ 0 = search rules in
    rw c.from_residual.ensures (ap (list_of c.args.self.now) none ∙ list_of-zero c.args.self.now)

pub returns-clause-list : goal.returns-clause-list
returns-clause-list c =
    let r = c.in_ok-record.record.now in
    let at : slice_get c.self.inside.records.keys c.in_ok-index.index ≡ Some r = sym c.in_ok-record.ensures.key in
    let head : c.in_ok-index.index + 1 ≡ c.args.head = search rules in
    let list = list_of-at _ _ r at (c.self.invariant.back _ r at) in
    subst (λ h. list_of c.args.self.now h ≡ (r.value, r.dot) ∷ list_of c.args.self.now r.next) head
    (subst (λ l. list_of l (c.in_ok-index.index + 1) ≡ (r.value, r.dot) ∷ list_of l r.next) c.self.view_is list)

pub returns-clause-at_head : goal.returns-clause-at_head
returns-clause-at_head c = search rules
