use Rattle.std.proofs.Common.{◌≡◌, Some, sym, subst}
use Rattle.std.specs.FinMap.{find}
use Rattle.pg_types.specs.Inside.Placing.{cell_of}
use Rattle.pg_cells.specs.Inside.linked.ValuedFamilies.{ValuedFamilies, trie_in}
use Rattle.pg_cells.proofs.StringCells.{cell_taken, string_there}
use Rattle.pg_cells.proofs.StringMaps.{order}
use Rattle.pg_cells.proofs.Unlinked.{found_plain}
use Rattle.pg_cells.proofs.linked.Cells.value_if_taken.Goals as goal

pub value-requires : goal.value-requires
value-requires g c =
    let h = c.self.inside.placed in
    string_there h.signs c.store.result.now (trie_in h) c.store.ensures.trie c.args.cell (c.is_taken.ensures.taken c.if-is_taken.true)

pub returns-then-is_taken-clause-some : goal.returns-then-is_taken-clause-some
returns-then-is_taken-clause-some g c =
    let h = c.self.inside.placed in
    let there = string_there h.signs c.store.result.now (trie_in h) c.store.ensures.trie c.args.cell (c.is_taken.ensures.taken c.if-is_taken.true) in (
      there.0,
      subst (λ (k : ValuedFamilies g.row.V.Denot). cell_of k.families there.0 ≡ Some c.args.cell) c.self.view_is there.1,
      subst (λ (k : ValuedFamilies g.row.V.Denot). find order there.0 k.values ≡ Some c.value.result.value) c.self.view_is
          (found_plain there.0 c.value.result h.values (c.value.ensures.value there.0 there.1)),
    )

pub returns-else-is_taken-clause-none : goal.returns-else-is_taken-clause-none
returns-else-is_taken-clause-none g c none q e =
    let h = c.self.inside.placed in
    cell_taken h.signs c.store.result.now (trie_in h) c.store.ensures.trie q c.args.cell
    (subst (λ (k : ValuedFamilies g.row.V.Denot). cell_of k.families q ≡ Some c.args.cell) (sym c.self.view_is) e) (c.is_taken.ensures.free c.if-is_taken.false)
