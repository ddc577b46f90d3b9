use Rattle.std.proofs.Common.{◌≡◌, Some, sym, subst}
use Rattle.std.specs.FinMap.{put}
use Rattle.pg_types.specs.Inside.Placing.{cell_of}
use Rattle.pg_cells.specs.Inside.linked.ValuedFamilies.{ValuedFamilies}
use Rattle.pg_cells.specs.Inside.linked.CellValues.{SetsValue}
use Rattle.pg_cells.specs.Inside.families.Layouts.{AreKept}
use Rattle.pg_cells.specs.Inside.families.OneTrie.{TrieOfRow, kept_is_only, held_is_kept}
use Rattle.pg_cells.specs.declared.store.member.Member.{Member}
use Rattle.pg_cells.specs.Inside.store.Store.{member_code}
use Rattle.pg_cells.proofs.PlacedSigns.{seen, placed_written}
use Rattle.pg_cells.proofs.StringMaps.{order}
use Rattle.pg_cells.proofs.StringCells.{cell_taken, value_written}
use Rattle.pg_cells.proofs.families.Placed.set_value.Goals as goal

pub set_value-requires-clause-taken : goal.set_value-requires-clause-taken
set_value-requires-clause-taken g c = cell_taken c.self.inside.signs c.self.inside.store c.self.inside.layout.0 c.self.invariant.trie c.requires.taken.0 c.args.cell
    (subst (λ (h : ValuedFamilies (Member g.row.V.Denot)). cell_of h.families c.requires.taken.0 ≡ Some c.args.cell) (sym c.self.view_is) c.requires.taken.1)

pub invariant_of-self-inside : goal.invariant_of-self-inside
invariant_of-self-inside g c =
    let at = subst (λ (h : ValuedFamilies (Member g.row.V.Denot)). cell_of h.families c.requires.taken.0 ≡ Some c.args.cell) (sym c.self.view_is) c.requires.taken.1 in (
      (
        record { families = c.self.inside.layout.0.families; values = put order c.requires.taken.0 c.args.v c.self.inside.layout.0.values },
        ∣ value_written c.self.inside.signs c.self.inside.store c.self.inside.layout.0 c.self.invariant.trie c.requires.taken.0 c.args.cell
            c.args.v c.set_value.new.self at c.set_value.ensures.sets ∣₁,
      ),
      tt,
    )

pub invariant_of-self : goal.invariant_of-self
invariant_of-self g c =
    let at = subst (λ (h : ValuedFamilies (Member g.row.V.Denot)). cell_of h.families c.requires.taken.0 ≡ Some c.args.cell) (sym c.self.view_is) c.requires.taken.1 in
    let trie = value_written c.self.inside.signs c.self.inside.store c.self.inside.layout.0 c.self.invariant.trie c.requires.taken.0 c.args.cell
    c.args.v c.set_value.new.self at c.set_value.ensures.sets in
    let all : (d : TrieOfRow c.self.inside.signs c.set_value.new.self) → AreKept c.self.inside.signs c.set_value.new.self d.0 =
    λ d. record {
      row = c.set_value.ensures.row;
      trie = held_is_kept (member_code g.row.V.coded) c.self.inside.signs c.set_value.new.self d _ trie;
      some = c.self.invariant.some;
      few = c.self.invariant.few;
    } in
    search all

pub returns : goal.returns
returns g c =
    let at = subst (λ (h : ValuedFamilies (Member g.row.V.Denot)). cell_of h.families c.requires.taken.0 ≡ Some c.args.cell) (sym c.self.view_is) c.requires.taken.1 in
    let trie = value_written c.self.inside.signs c.self.inside.store c.self.inside.layout.0 c.self.invariant.trie c.requires.taken.0 c.args.cell
    c.args.v c.set_value.new.self at c.set_value.ensures.sets in
    let all : (d : TrieOfRow c.self.inside.signs c.set_value.new.self) → SetsValue c.args.self.now (seen c.self.inside.signs d.0) c.args.cell c.args.v =
    λ d. placed_written c.self.inside.signs c.self.inside.store c.set_value.new.self c.self.inside.layout.0 c.self.invariant.trie c.set_value.ensures.row.values
    c.args.self.now c.self.view_is c.requires.taken.0 c.args.cell c.args.v at trie d.0 (kept_is_only (member_code g.row.V.coded) c.self.inside.signs c.set_value.new.self d _ trie) in
    search all

pub set_value-requires-clause-fits : goal.set_value-requires-clause-fits
set_value-requires-clause-fits g c = c.requires.fits
