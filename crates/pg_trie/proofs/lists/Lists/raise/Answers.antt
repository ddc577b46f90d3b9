use Rattle.std.proofs.Common.{◌≡◌, ◌<◌, ◌≤◌, ◌%◌, List, length, get_or, ap, sym, subst, ◌∙◌, arith}
use Rattle.std.proofs.lemmas.List.Elements.{All-set}
use Rattle.std.proofs.lemmas.Result.{err_from_is_err_and}
use Rattle.pg_outputs.specs.Lists.{list_of}
use Rattle.pg_outputs.specs.declared.records.Record.{Record}
use Rattle.pg_outputs.specs.Inside.Heads.{Grows}
use Rattle.pg_trie.specs.declared.lists.RaisedHead.{RaisedHead}
use Rattle.pg_trie.specs.Inside.Lists.{list_with}
use Rattle.pg_trie.specs.Inside.RaisedHeads.{AreRaised, IsRaised}
use Rattle.pg_trie.proofs.lists.Lists.raise.Goals as goal

-- the heads that were raised last stay right as records are added
raised_kept : (old new : List Record) (raised : List RaisedHead) → Grows old new → AreRaised old raised → AreRaised new raised
raised_kept old new raised grows are = λ k d lt some.
    let r = get_or raised k d in
    let is = are k d lt some in
    record {
      before = (let le = is.before in let longer = grows.longer in omega arith);
      after = (let le = is.after in let longer = grows.longer in omega arith);
      list = grows.same r.after is.after ∙ is.list ∙ ap (list_with (r.value, r.dot)) (sym (grows.same r.before is.before));
    }

pub invariant_of-self : goal.invariant_of-self
invariant_of-self c = raised_kept c.self.inside.outputs c.head_with.new.outputs c.self.inside.raised c.in_err-after.ensures.grows c.self.invariant

pub invariant_of-self-2 : goal.invariant_of-self-2
invariant_of-self-2 c =
    let old = c.self.inside.outputs in
    let new = c.head_with.new.outputs in
    let grows = c.in_ok-after.ensures.grows in
    let head = subst (λ (l : List Record). c.args.head ≤ length l) (sym c.self.view_is) c.requires.head in
    All-set (λ (r : RaisedHead). 0 < r.value → IsRaised new r) c.self.inside.raised (c.args.head % 64)
    (record { value = c.args.value; dot = c.args.dot; before = c.args.head; after = c.in_ok-after.after })
    (λ _. record {
      before = (let longer = grows.longer in omega (arith, head));
      after = c.in_ok-after.ensures.inside;
      list = c.in_ok-after.ensures.list ∙ ap (list_with (c.args.value, c.args.dot)) (sym (grows.same c.args.head head));
    })
    (raised_kept old new c.self.inside.raised grows c.self.invariant)

pub returns-in_err-after-clause-list : goal.returns-in_err-after-clause-list
returns-in_err-after-clause-list c = let err = err_from_is_err_and c.from_residual.result c.from_residual.ensures.1 in rw err.1 tt

pub returns-in_err-after-clause-inside : goal.returns-in_err-after-clause-inside
returns-in_err-after-clause-inside c = let err = err_from_is_err_and c.from_residual.result c.from_residual.ensures.1 in rw err.1 tt

pub returns-in_err-after-clause-grows : goal.returns-in_err-after-clause-grows
returns-in_err-after-clause-grows c = subst (λ (l : List Record). Grows l c.head_with.new.outputs) c.self.view_is c.in_err-after.ensures.grows

pub returns-clause-list : goal.returns-clause-list
returns-clause-list c =
    subst (λ (l : List Record). list_of c.head_with.new.outputs c.in_ok-after.after ≡ list_with (c.args.value, c.args.dot) (list_of l c.args.head)) c.self.view_is
    c.in_ok-after.ensures.list

pub returns-clause-inside : goal.returns-clause-inside
returns-clause-inside c = c.in_ok-after.ensures.inside

pub returns-clause-grows : goal.returns-clause-grows
returns-clause-grows c = subst (λ (l : List Record). Grows l c.head_with.new.outputs) c.self.view_is c.in_ok-after.ensures.grows
