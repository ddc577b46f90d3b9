use Rattle.std.proofs.Common.{◌≡◌, ℕ, Some, ap, sym, subst, ◌∙◌, arith}
use Rattle.std.proofs.lemmas.Bool.{le-ltb, lt-ltb}
use Rattle.std.proofs.lemmas.Result.{err_from_is_err_and}
use Rattle.pg_types.specs.Placement.{enter}
use Rattle.pg_cells.specs.Inside.linked.ValuedFamilies.{ValuedFamilies}
use Rattle.pg_cells.specs.Inside.linked.Walks.{AddsBlanks}
use Rattle.pg_outputs.specs.Inside.Heads.{Grows}
use Rattle.pg_trie.specs.declared.hopeless.TheConstants.{HOPELESS}
use Rattle.pg_trie.specs.Inside.Lists.{list_with}
use Rattle.pg_trie.specs.Inside.Maps.{Maps}
use Rattle.pg_trie.proofs.TrieLaws.Changes.{SameMaps, blanks_stay, records_stay, both_stay, Enters, enters, same_view, raised_view, given_up_view, part_seen, whole_seen}
use Rattle.pg_trie.proofs.trie.PatternTrie.enter.Goals as goal

pub invariant_of-self : goal.invariant_of-self
invariant_of-self c = (blanks_stay c.self.inside.cells c.enter.new.cells c.self.inside.lists c.args.signs.now c.self.invariant c.enter.ensures.held c.enter.ensures.signs c.requires.few
    (subst (λ b. AddsBlanks c.args.signs.now b c.self.inside.cells.values c.enter.new.cells.values) c.none.ensures c.enter.ensures.blanks)).trie

pub returns-in_err-cell-clause-err : goal.returns-in_err-cell-clause-err
returns-in_err-cell-clause-err c =
    let err = err_from_is_err_and c.from_residual.result c.from_residual.ensures.1 in
    let same = blanks_stay c.self.inside.cells c.enter.new.cells c.self.inside.lists c.args.signs.now c.self.invariant c.enter.ensures.held c.enter.ensures.signs c.requires.few
    (subst (λ b. AddsBlanks c.args.signs.now b c.self.inside.cells.values c.enter.new.cells.values) c.none.ensures c.enter.ensures.blanks) in
    rw (err.1) (same_view c.self.inside.cells c.self.inside.lists c.enter.new.cells c.self.inside.lists c.args.self.now c.self.view_is same c.enter.ensures.signs)

pub raised_head-requires-clause-head : goal.raised_head-requires-clause-head
raised_head-requires-clause-head c =
    let same = blanks_stay c.self.inside.cells c.enter.new.cells c.self.inside.lists c.args.signs.now c.self.invariant c.enter.ensures.held c.enter.ensures.signs c.requires.few
    (subst (λ b. AddsBlanks c.args.signs.now b c.self.inside.cells.values c.enter.new.cells.values) c.none.ensures c.enter.ensures.blanks) in
    let there = (c.value.ensures c.args.signs.now c.in_ok-cell.ensures.cell ∙ ap Some (sym c.number-old.ensures)) in
    (same.trie.heads c.args.signs.now c.number-old.result there).inside

pub invariant_of-self-in_err-head : goal.invariant_of-self-in_err-head
invariant_of-self-in_err-head c =
    let same = blanks_stay c.self.inside.cells c.enter.new.cells c.self.inside.lists c.args.signs.now c.self.invariant c.enter.ensures.held c.enter.ensures.signs c.requires.few
    (subst (λ b. AddsBlanks c.args.signs.now b c.self.inside.cells.values c.enter.new.cells.values) c.none.ensures c.enter.ensures.blanks) in
    (records_stay c.enter.new.cells c.self.inside.lists c.raised_head.new.lists same.trie c.raised_head.ensures.grows).trie

pub returns-in_err-head-clause-err : goal.returns-in_err-head-clause-err
returns-in_err-head-clause-err c =
    let err = err_from_is_err_and c.from_residual-in_err-head.result c.from_residual-in_err-head.ensures.1 in
    let same = blanks_stay c.self.inside.cells c.enter.new.cells c.self.inside.lists c.args.signs.now c.self.invariant c.enter.ensures.held c.enter.ensures.signs c.requires.few
    (subst (λ b. AddsBlanks c.args.signs.now b c.self.inside.cells.values c.enter.new.cells.values) c.none.ensures c.enter.ensures.blanks) in
    let more = records_stay c.enter.new.cells c.self.inside.lists c.raised_head.new.lists same.trie c.raised_head.ensures.grows in
    rw (err.1)
    (same_view c.self.inside.cells c.self.inside.lists c.enter.new.cells c.raised_head.new.lists c.args.self.now c.self.view_is
    (both_stay c.self.inside.cells c.enter.new.cells c.enter.new.cells c.self.inside.lists c.self.inside.lists c.raised_head.new.lists same more) c.enter.ensures.signs)

-- the string's new head
entering : (c : goal.After-set_value) → Enters c.enter.new.cells c.raised_head.new.lists c.args.signs.now (c.args.value, c.args.dot) c.set_value.new.self
entering c =
    let there = (c.value.ensures c.args.signs.now c.in_ok-cell.ensures.cell ∙ ap Some (sym c.number-old.ensures)) in
    let more = records_stay c.enter.new.cells c.self.inside.lists c.raised_head.new.lists (entered_cells c).trie c.raised_head.ensures.grows in
    enters c.enter.new.cells c.set_value.new.self c.raised_head.new.lists c.args.signs.now c.number-old.result c.in_ok-head.head (c.args.value, c.args.dot) more.trie c.set_value.ensures.kept
    (c.set_value.ensures.held c.args.signs.now c.in_ok-cell.ensures.cell)
    there c.in_ok-head.ensures.inside
    (c.in_ok-head.ensures.list ∙ ap (list_with (c.args.value, c.args.dot))
    (sym (c.raised_head.ensures.grows.same c.number-old.result ((entered_cells c).trie.heads c.args.signs.now c.number-old.result there).inside)))
    c.requires.value.0 c.requires.value.1 c.requires.dot
  where
    entered_cells : (c : goal.After-set_value) → SameMaps c.self.inside.cells c.self.inside.lists c.enter.new.cells c.self.inside.lists
    entered_cells c = blanks_stay c.self.inside.cells c.enter.new.cells c.self.inside.lists c.args.signs.now c.self.invariant c.enter.ensures.held c.enter.ensures.signs c.requires.few
        (subst (λ b. AddsBlanks c.args.signs.now b c.self.inside.cells.values c.enter.new.cells.values) c.none.ensures c.enter.ensures.blanks)

-- and what it stands on
standing : (c : goal.After-set_value) → SameMaps c.self.inside.cells c.self.inside.lists c.enter.new.cells c.raised_head.new.lists
standing c =
    let same = blanks_stay c.self.inside.cells c.enter.new.cells c.self.inside.lists c.args.signs.now c.self.invariant c.enter.ensures.held c.enter.ensures.signs c.requires.few
    (subst (λ b. AddsBlanks c.args.signs.now b c.self.inside.cells.values c.enter.new.cells.values) c.none.ensures c.enter.ensures.blanks) in
    both_stay c.self.inside.cells c.enter.new.cells c.enter.new.cells c.self.inside.lists c.self.inside.lists c.raised_head.new.lists same
    (records_stay c.enter.new.cells c.self.inside.lists c.raised_head.new.lists same.trie c.raised_head.ensures.grows)

signs_kept : (c : goal.After-set_value) → c.set_value.new.self.signs ≡ c.self.inside.cells.signs
signs_kept c = ap (λ (h : ValuedFamilies ℕ). h.signs) (c.set_value.ensures.held c.args.signs.now c.in_ok-cell.ensures.cell) ∙ c.enter.ensures.signs

families_kept : (c : goal.After-set_value) → c.set_value.new.self.families ≡ enter c.self.inside.cells.signs c.self.inside.cells.families c.args.signs.now
families_kept c = ap (λ (h : ValuedFamilies ℕ). h.families) (c.set_value.ensures.held c.args.signs.now c.in_ok-cell.ensures.cell) ∙ c.in_ok-cell.ensures.families

pub invariant_of-self-2 : goal.invariant_of-self-2
invariant_of-self-2 c = (entering c).trie

pub returns-clause-raised : goal.returns-clause-raised
returns-clause-raised c le =
    raised_view c.self.inside.cells c.enter.new.cells c.set_value.new.self c.self.inside.lists c.raised_head.new.lists c.args.signs.now
    (c.args.value, c.args.dot) c.args.self.now c.self.view_is (standing c) (entering c)
    (lt-ltb c.args.value HOPELESS (omega arith)) (signs_kept c) (families_kept c)

pub returns-clause-hopeless : goal.returns-clause-hopeless
returns-clause-hopeless c is =
    given_up_view c.self.inside.cells c.enter.new.cells c.set_value.new.self c.self.inside.lists c.raised_head.new.lists c.args.signs.now
    (c.args.value, c.args.dot) c.args.self.now c.self.view_is (standing c) (entering c)
    (le-ltb c.args.value HOPELESS (omega arith)) (signs_kept c) (families_kept c)

pub returns-in_err-cell-clause-signs : goal.returns-in_err-cell-clause-signs
returns-in_err-cell-clause-signs c = c.enter.ensures.signs ∙ ap (λ (m : Maps). m.signs) c.self.view_is

pub returns-in_err-head-clause-signs : goal.returns-in_err-head-clause-signs
returns-in_err-head-clause-signs c = c.enter.ensures.signs ∙ ap (λ (m : Maps). m.signs) c.self.view_is

pub returns-clause-signs : goal.returns-clause-signs
returns-clause-signs c = signs_kept c ∙ ap (λ (m : Maps). m.signs) c.self.view_is

-- where the cells find no memory
pub returns-in_err-cell-clause-part : goal.returns-in_err-cell-clause-part
returns-in_err-cell-clause-part c =
    let err = err_from_is_err_and c.from_residual.result c.from_residual.ensures.1 in
    rw (err.1) (part_seen c.self.inside.cells c.enter.new.cells c.self.inside.lists c.args.self.now c.args.signs.now c.self.view_is c.in_err-cell.ensures.part)

-- where the records find none, the whole string is entered
pub returns-in_err-head-clause-part : goal.returns-in_err-head-clause-part
returns-in_err-head-clause-part c =
    let err = err_from_is_err_and c.from_residual-in_err-head.result c.from_residual-in_err-head.ensures.1 in
    rw (err.1) (whole_seen c.self.inside.cells c.enter.new.cells c.self.inside.lists c.args.self.now c.args.signs.now c.self.view_is c.in_ok-cell.ensures.families)

-- a clause on one kind of answer asks nothing where the answer is of the other kind
pub returns-in_err-cell-clause-raised : goal.returns-in_err-cell-clause-raised
returns-in_err-cell-clause-raised c = let err = err_from_is_err_and c.from_residual.result c.from_residual.ensures.1 in rw err.1 tt

pub returns-in_err-cell-clause-hopeless : goal.returns-in_err-cell-clause-hopeless
returns-in_err-cell-clause-hopeless c = let err = err_from_is_err_and c.from_residual.result c.from_residual.ensures.1 in rw err.1 tt

pub returns-in_err-head-clause-raised : goal.returns-in_err-head-clause-raised
returns-in_err-head-clause-raised c = let err = err_from_is_err_and c.from_residual-in_err-head.result c.from_residual-in_err-head.ensures.1 in rw err.1 tt

pub returns-in_err-head-clause-hopeless : goal.returns-in_err-head-clause-hopeless
returns-in_err-head-clause-hopeless c = let err = err_from_is_err_and c.from_residual-in_err-head.result c.from_residual-in_err-head.ensures.1 in rw err.1 tt

pub returns-clause-err : goal.returns-clause-err
returns-clause-err c = tt

pub returns-clause-part : goal.returns-clause-part
returns-clause-part c = tt

-- the records grow
pub returns-in_err-head-clause-grows : goal.returns-in_err-head-clause-grows
returns-in_err-head-clause-grows c = subst (λ (m : Maps). Grows m.records c.raised_head.new.lists) c.self.view_is c.raised_head.ensures.grows

pub returns-clause-grows : goal.returns-clause-grows
returns-clause-grows c = subst (λ (m : Maps). Grows m.records c.raised_head.new.lists) c.self.view_is c.raised_head.ensures.grows
