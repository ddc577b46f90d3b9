use Rattle.std.proofs.Common.{◌≡◌, ◌+◌, Ok, Some, slice_get, sym, ap, subst, ◌∙◌}
use Rattle.pg_outputs.specs.Inside.Heads.{OneHeadEach}
use Rattle.pg_outputs.proofs.ListLaws.{one_head_each}
use Rattle.pg_outputs.proofs.RecordLaws.{nowhere}
use Rattle.pg_outputs.proofs.InsertLaws.{inserted, again}
use Rattle.pg_outputs.proofs.lists.Outputs.cons.Goals as goal

pub returns-in_err-index-clause-there : goal.returns-in_err-index-clause-there
returns-in_err-index-clause-there c i at =
    absurd (nowhere _ _ i c.in_err-index.ensures.absent (subst (λ l. slice_get l i ≡ Some (record { value = c.args.value; dot = c.args.dot; next = c.args.next })) (sym c.self.view_is) at))

pub returns-in_err-index-clause-one_head : goal.returns-in_err-index-clause-one_head
returns-in_err-index-clause-one_head c = rw c.in_err-index.ensures.err (one_head_each _ c.self.invariant)

pub invariant_of-self-2 : goal.invariant_of-self-2
invariant_of-self-2 c = (inserted _ _ _ (record { value = c.args.value; dot = c.args.dot; next = c.args.next }) _ c.self.view_is c.self.invariant
    c.requires c.in_ok-index.ensures.keys c.in_ok-index.ensures.index).shared

pub returns-clause-list : goal.returns-clause-list
returns-clause-list c =
    let put = (inserted _ _ _ (record { value = c.args.value; dot = c.args.dot; next = c.args.next }) _ c.self.view_is c.self.invariant c.requires
    c.in_ok-index.ensures.keys c.in_ok-index.ensures.index) in
    rw c.head_at-2.ensures put.list

pub returns-clause-there : goal.returns-clause-there
returns-clause-there c i at =
    let put = (inserted _ _ _ (record { value = c.args.value; dot = c.args.dot; next = c.args.next }) _ c.self.view_is c.self.invariant c.requires
    c.in_ok-index.ensures.keys c.in_ok-index.ensures.index) in
    let there = put.there i at in
    (ap Ok (c.head_at-2.ensures ∙ ap (λ n. n + 1) there.0), there.1)

pub returns-clause-added : goal.returns-clause-added
returns-clause-added c lacks =
    let put = (inserted _ _ _ (record { value = c.args.value; dot = c.args.dot; next = c.args.next }) _ c.self.view_is c.self.invariant c.requires
    c.in_ok-index.ensures.keys c.in_ok-index.ensures.index) in
    let added = put.added lacks in
    (c.head_at-2.ensures ∙ ap (λ n. n + 1) added.0, added.1)

pub returns-clause-grows : goal.returns-clause-grows
returns-clause-grows c = (inserted _ _ _ (record { value = c.args.value; dot = c.args.dot; next = c.args.next }) _ c.self.view_is c.self.invariant
    c.requires c.in_ok-index.ensures.keys c.in_ok-index.ensures.index).grows

pub returns-clause-one_head : goal.returns-clause-one_head
returns-clause-one_head c = one_head_each _ (inserted _ _ _ (record { value = c.args.value; dot = c.args.dot; next = c.args.next }) _ c.self.view_is
    c.self.invariant c.requires c.in_ok-index.ensures.keys c.in_ok-index.ensures.index).shared

pub returns-in_err-index-clause-shared : goal.returns-in_err-index-clause-shared
returns-in_err-index-clause-shared c = rw c.in_err-index.ensures.err c.self.invariant

pub returns-clause-at_head : goal.returns-clause-at_head
returns-clause-at_head c =
    let put = (inserted _ _ _ (record { value = c.args.value; dot = c.args.dot; next = c.args.next }) _ c.self.view_is c.self.invariant c.requires
    c.in_ok-index.ensures.keys c.in_ok-index.ensures.index) in
    (c.in_ok-index.index, c.head_at-2.ensures, put.at)

pub returns-clause-adds : goal.returns-clause-adds
returns-clause-adds c = (inserted _ _ _ (record { value = c.args.value; dot = c.args.dot; next = c.args.next }) _ c.self.view_is c.self.invariant
    c.requires c.in_ok-index.ensures.keys c.in_ok-index.ensures.index).adds

pub returns-clause-shared : goal.returns-clause-shared
returns-clause-shared c = (inserted _ _ _ (record { value = c.args.value; dot = c.args.dot; next = c.args.next }) _ c.self.view_is c.self.invariant
    c.requires c.in_ok-index.ensures.keys c.in_ok-index.ensures.index).shared

pub returns-then-has_at-clause-list : goal.returns-then-has_at-clause-list
returns-then-has_at-clause-list c =
    let put = again _ _ (record { value = c.args.value; dot = c.args.dot; next = c.args.next }) _ c.self.view_is c.self.invariant (c.has_at.ensures.at c.if-has_at.true) in
    rw c.head_at.ensures put.list

pub returns-then-has_at-clause-one_head : goal.returns-then-has_at-clause-one_head
returns-then-has_at-clause-one_head c = subst OneHeadEach c.self.view_is (one_head_each _ c.self.invariant)
