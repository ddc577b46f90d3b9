use Rattle.std.proofs.lemmas.Result.{err_from_is_err_and}
use Rattle.std.proofs.Common.{ap, get_or, set, ◌∙◌, subst, arith, ◌≡◌, ℕ, ◌+◌, List, Some, inl, inr, refl}
use Rattle.pg_outputs.specs.Lists.{list_of}
use Rattle.pg_trie.specs.Inside.FreshLists.{values_in, AreNeeded, AreFreshTo}
use Rattle.pg_trie.proofs.DeletingLaws.Renewing.{fresh_known, fresh_step}
use Rattle.std.proofs.lemmas.Bool.{cases_lt}
use Rattle.pg_types.specs.Inside.Placing.{cell_of}
use Rattle.pg_outputs.specs.declared.records.Record.{Record}
use Rattle.pg_cells.specs.Inside.linked.ValuedFamilies.{ValuedFamilies}
use Rattle.pg_trie.proofs.deleting.renew.renew_cell.Goals as goal

-- where no string has the cell, nothing is left to tell of it
no_string : (cells : ValuedFamilies ℕ) (records fresh : List Record) (cell : ℕ) (heads : List ℕ) → AreFreshTo cells records cell fresh heads
    → ((q : List ℕ) → cell_of cells.families q ≡ Some cell → ⊥) → AreFreshTo cells records (cell + 1) fresh heads
no_string cells records fresh cell heads are none = record {
  size = are.size;
  one_head = are.one_head;
  lists = λ q k u at lt there. elim (cases_lt k cell) [
    | inl less ↦ are.lists q k u at less there
    | inr le ↦ absurd (none q (at ∙ ap Some (let same : k ≡ cell = omega arith in same)))
  ];
  known = are.known;
  needed = are.needed;
}

pub fresh_head-requires : goal.fresh_head-requires
fresh_head-requires c =
    let s = c.in-Some.ensures.some in
    let head = (c.requires.trie.heads s.0 c.in-Some.head s.2).inside in
    omega (arith, c.number-old_head.ensures, head)

pub bounds-heads-old_head : goal.bounds-heads-old_head
bounds-heads-old_head c =
    let s = c.in-Some.ensures.some in
    let head = (c.requires.trie.heads s.0 c.in-Some.head s.2).inside in
    omega (arith, c.requires.heads.size, c.number-old_head.ensures, head)

pub offset_bounds-heads-old_head : goal.offset_bounds-heads-old_head
offset_bounds-heads-old_head c =
    let s = c.in-Some.ensures.some in
    let head = (c.requires.trie.heads s.0 c.in-Some.head s.2).inside in
    omega (arith, c.requires.heads.size, c.number-old_head.ensures, head)

pub returns-then-heads-old_head : goal.returns-then-heads-old_head
returns-then-heads-old_head c =
    let s = c.in-Some.ensures.some in
    let head = (c.requires.trie.heads s.0 c.in-Some.head s.2).inside in
    fresh_known c.args.cells.now c.args.outputs.now c.requires.trie.held c.args.cell c.args.fresh.now c.args.heads.now s.0 c.in-Some.head
    c.requires.heads s.1 s.2 (omega (arith, c.requires.heads.size, head))
    (λ z. c.if-heads-old_head.true (ap (λ h. get_or c.args.heads.now h 0) c.number-old_head.ensures ∙ z))

pub returns : goal.returns
returns c =
    let s = c.in-Some.ensures.some in
    fresh_step c.args.cells.now c.args.outputs.now c.requires.trie.held c.args.cell c.args.fresh.now c.fresh_head.new.fresh c.args.heads.now _ s.0 c.in-Some.head c.in_ok-number.number
    c.requires.heads s.1 s.2 (c.requires.trie.heads s.0 c.in-Some.head s.2).inside c.in_ok-number.ensures.grows (c.in_ok-number.ensures.one_head c.requires.heads.one_head)
    c.in_ok-number.ensures.inside
    (c.in_ok-number.ensures.list ∙ ap (λ h. values_in (list_of c.args.outputs.now h)) c.number-old_head.ensures)
    (subst (λ h. AreNeeded c.args.fresh.now c.fresh_head.new.fresh (values_in (list_of c.args.outputs.now h))) c.number-old_head.ensures c.in_ok-number.ensures.needed)
    (λ t. set c.args.heads.now (c.number-old_head.ensures t) (c.in_ok-new_head.ensures t))

pub returns-in_err-number : goal.returns-in_err-number
returns-in_err-number c = let err = err_from_is_err_and c.from_residual.result c.from_residual.ensures.1 in rw err.1 tt

pub returns-in_err-new_head : goal.returns-in_err-new_head
returns-in_err-new_head c = let err = err_from_is_err_and c.from_residual-in_err-new_head.result c.from_residual-in_err-new_head.ensures.1 in rw err.1 tt

pub returns-in_default : goal.returns-in_default
returns-in_default c = no_string c.args.cells.now c.args.outputs.now c.args.fresh.now c.args.cell c.args.heads.now c.requires.heads (c.in_default.ensures.none refl)

pub bounds-heads-old_head-2 : goal.bounds-heads-old_head-2
bounds-heads-old_head-2 c =
    let s = c.in-Some.ensures.some in
    let head = (c.requires.trie.heads s.0 c.in-Some.head s.2).inside in
    omega (arith, c.requires.heads.size, c.number-old_head.ensures, head)

pub offset_bounds-heads-old_head-2 : goal.offset_bounds-heads-old_head-2
offset_bounds-heads-old_head-2 c =
    let s = c.in-Some.ensures.some in
    let head = (c.requires.trie.heads s.0 c.in-Some.head s.2).inside in
    omega (arith, c.requires.heads.size, c.number-old_head.ensures, head)
