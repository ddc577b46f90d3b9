use Rattle.std.proofs.lemmas.Result.{err_from_is_err_and, IfOk-weaker}
use Rattle.std.proofs.Common.{sym, ap, ◌∙◌, refl, arith, ◌≡◌, ℕ, List, ◌∷◌, subst}
use Rattle.std.proofs.lemmas.Bool.{lt-ltb, le-ltb}
use Rattle.pg_outputs.specs.Lists.{list_of}
use Rattle.pg_outputs.proofs.ListLaws.{list_of-zero}
use Rattle.pg_trie.specs.declared.hopeless.TheConstants.{HOPELESS}
use Rattle.pg_trie.specs.Inside.FreshLists.{values_in, AreNeeded}
use Rattle.pg_trie.proofs.TrieLaws.Listing.{on_value}
use Rattle.pg_trie.proofs.DeletingLaws.Renewing.{mark_left, needed_value, needed_mark, value_kept}
use Rattle.std.specs.Prelude.{IfOk}
use Rattle.pg_outputs.specs.declared.records.Record.{Record}
use Rattle.pg_outputs.specs.Inside.Heads.{Grows, OneHeadEach}
use Rattle.pg_trie.proofs.deleting.renew.+fresh_head.Goals as goal

-- what grows twice grows
grows_twice : (old mid new : List Record) → Grows old mid → Grows mid new → Grows old new
grows_twice old mid new one two = record {
  longer = (let first = one.longer in let second = two.longer in omega arith);
  same = λ h within. two.same h (let first = one.longer in omega arith) ∙ one.same h within;
}

pub returns-in_default-clause-list : goal.returns-in_default-clause-list
returns-in_default-clause-list t c = list_of-zero c.args.fresh.now ∙ sym (ap values_in c.in_default.ensures.list)

pub returns-then-value-lt-HOPELESS-clause-needed : goal.returns-then-value-lt-HOPELESS-clause-needed
returns-then-value-lt-HOPELESS-clause-needed t c =
    on_value (AreNeeded c.args.fresh.now c.cons.new.self (values_in (list_of c.args.outputs.now c.args.head))) c.cons.result
    (λ h e.
    needed_value c.args.fresh.now c.fresh_head.new.fresh c.cons.new.self c.in-Some.value c.in-Some.dot c.in_ok-rest.rest (list_of c.args.outputs.now c.in-Some.next)
    (list_of c.args.outputs.now c.args.head) c.in-Some.ensures.list
    (lt-ltb c.in-Some.value HOPELESS c.if-value-lt-HOPELESS.true) c.in_ok-rest.ensures.needed c.in_ok-rest.ensures.list c.cons.ensures.grows
    (λ i at. (c.cons.ensures.there i at).1)
    (λ lacks. (let added = c.cons.ensures.added lacks in rw e at added).1))

pub returns-else-value-lt-HOPELESS-clause-list : goal.returns-else-value-lt-HOPELESS-clause-list
returns-else-value-lt-HOPELESS-clause-list t c =
    c.in_ok-rest.ensures.list ∙ sym (ap values_in c.in-Some.ensures.list
    ∙ mark_left c.in-Some.value c.in-Some.dot (list_of c.args.outputs.now c.in-Some.next) (le-ltb c.in-Some.value HOPELESS c.if-value-lt-HOPELESS.false))

pub returns-else-value-lt-HOPELESS-clause-needed : goal.returns-else-value-lt-HOPELESS-clause-needed
returns-else-value-lt-HOPELESS-clause-needed t c =
    needed_mark c.args.fresh.now c.fresh_head.new.fresh c.in-Some.value c.in-Some.dot (list_of c.args.outputs.now c.in-Some.next) (list_of c.args.outputs.now c.args.head) c.in-Some.ensures.list
    (le-ltb c.in-Some.value HOPELESS c.if-value-lt-HOPELESS.false) c.in_ok-rest.ensures.needed

pub first-requires : goal.first-requires
first-requires t c = c.requires

pub cons-requires : goal.cons-requires
cons-requires t c = c.in_ok-rest.ensures.inside

pub returns-in_err-rest : goal.returns-in_err-rest
returns-in_err-rest t c =
    let err = err_from_is_err_and c.from_residual.result c.from_residual.ensures.1 in
    record { list = rw err.1 tt; inside = rw err.1 tt; grows = c.in_err-rest.ensures.grows; one_head = rw err.1 tt; needed = rw err.1 tt }

pub returns-in_default-clause-inside : goal.returns-in_default-clause-inside
returns-in_default-clause-inside t c = omega arith

pub returns-in_default-clause-grows : goal.returns-in_default-clause-grows
returns-in_default-clause-grows t c = record { longer = omega arith; same = λ h within. refl }

pub returns-in_default-clause-one_head : goal.returns-in_default-clause-one_head
returns-in_default-clause-one_head t c = λ one. one

pub returns-in_default-clause-needed : goal.returns-in_default-clause-needed
returns-in_default-clause-needed t c = λ h low high. absurd (omega arith)

pub returns-else-value-lt-HOPELESS-clause-inside : goal.returns-else-value-lt-HOPELESS-clause-inside
returns-else-value-lt-HOPELESS-clause-inside t c = c.in_ok-rest.ensures.inside

pub returns-else-value-lt-HOPELESS-clause-grows : goal.returns-else-value-lt-HOPELESS-clause-grows
returns-else-value-lt-HOPELESS-clause-grows t c = c.in_ok-rest.ensures.grows

pub returns-else-value-lt-HOPELESS-clause-one_head : goal.returns-else-value-lt-HOPELESS-clause-one_head
returns-else-value-lt-HOPELESS-clause-one_head t c = c.in_ok-rest.ensures.one_head

pub returns-then-value-lt-HOPELESS-clause-list : goal.returns-then-value-lt-HOPELESS-clause-list
returns-then-value-lt-HOPELESS-clause-list t c =
    subst (λ (l : List (ℕ × ℕ)). IfOk c.cons.result (λ h. list_of c.cons.new.self h ≡ l))
    (ap (λ (l : List (ℕ × ℕ)). (c.in-Some.value, c.in-Some.dot) ∷ l) c.in_ok-rest.ensures.list
    ∙ sym (ap values_in c.in-Some.ensures.list
    ∙ value_kept c.in-Some.value c.in-Some.dot (list_of c.args.outputs.now c.in-Some.next) (lt-ltb c.in-Some.value HOPELESS c.if-value-lt-HOPELESS.true)))
    c.cons.ensures.list

pub returns-then-value-lt-HOPELESS-clause-inside : goal.returns-then-value-lt-HOPELESS-clause-inside
returns-then-value-lt-HOPELESS-clause-inside t c = IfOk-weaker c.cons.result _ _ (λ h head. head.1) c.cons.ensures.head

pub returns-then-value-lt-HOPELESS-clause-grows : goal.returns-then-value-lt-HOPELESS-clause-grows
returns-then-value-lt-HOPELESS-clause-grows t c = grows_twice c.args.fresh.now c.fresh_head.new.fresh c.cons.new.self c.in_ok-rest.ensures.grows c.cons.ensures.grows

pub returns-then-value-lt-HOPELESS-clause-one_head : goal.returns-then-value-lt-HOPELESS-clause-one_head
returns-then-value-lt-HOPELESS-clause-one_head t c = on_value (OneHeadEach c.args.fresh.now → OneHeadEach c.cons.new.self) c.cons.result (λ h e _. c.cons.ensures.one_head)
