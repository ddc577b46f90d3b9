use Rattle.std.proofs.Common.{sym, subst, arith}
use Rattle.pg_cells.specs.Inside.linked.ValuedFamilies.{ValuedFamilies}
use Rattle.pg_cells.specs.Inside.families.Removing.{CanRemoveSign, RemovesSign}
use Rattle.pg_cells.specs.Inside.families.Layouts.{AreKept}
use Rattle.pg_cells.specs.Inside.families.OneTrie.{TrieOfRow, kept_is_only, held_is_kept}
use Rattle.pg_cells.specs.declared.store.member.Member.{Member}
use Rattle.pg_cells.specs.Inside.store.Store.{member_code}
use Rattle.pg_cells.proofs.StringCells.{cell_taken}
use Rattle.pg_cells.proofs.GivenMembers.{removed_alone}
use Rattle.pg_cells.proofs.PlacedSigns.{seen, placed_removed}
use Rattle.pg_cells.proofs.RemoveTrie.{removed, sign_taken, base_in, parent_kept, trie_removed}
use Rattle.pg_cells.proofs.families.Placed.remove.Goals as goal

pub child-base-requires : goal.child-base-requires
child-base-requires g c =
    let can : CanRemoveSign c.self.inside.layout.0.families c.args.parent c.args.s =
    subst (λ (h : ValuedFamilies (Member g.row.V.Denot)). CanRemoveSign h.families c.args.parent c.args.s) (sym c.self.view_is) c.requires.can in
    cell_taken c.self.inside.signs c.self.inside.store c.self.inside.layout.0 c.self.invariant.trie can.prefix c.args.parent can.at

pub overflow_add-base : goal.overflow_add-base
overflow_add-base g c =
    let can : CanRemoveSign c.self.inside.layout.0.families c.args.parent c.args.s =
    subst (λ (h : ValuedFamilies (Member g.row.V.Denot)). CanRemoveSign h.families c.args.parent c.args.s) (sym c.self.view_is) c.requires.can in
    let within = base_in c.self.inside.signs c.self.inside.store c.self.inside.layout.0 c.self.invariant.trie c.args.parent c.args.s can c.child-base.result c.child-base.ensures
    c.self.invariant.row.bases in
    let small = c.self.invariant.row.small in let range = c.ranges.s in omega arith

pub free-requires-clause-cell : goal.free-requires-clause-cell
free-requires-clause-cell g c =
    let can : CanRemoveSign c.self.inside.layout.0.families c.args.parent c.args.s =
    subst (λ (h : ValuedFamilies (Member g.row.V.Denot)). CanRemoveSign h.families c.args.parent c.args.s) (sym c.self.view_is) c.requires.can in
    let up = (sign_taken c.self.inside.signs c.self.inside.store c.self.inside.layout.0 c.self.invariant.trie c.args.parent c.args.s can c.child-base.result c.child-base.ensures).0 in omega arith

pub free-requires-clause-taken : goal.free-requires-clause-taken
free-requires-clause-taken g c =
    let can : CanRemoveSign c.self.inside.layout.0.families c.args.parent c.args.s =
    subst (λ (h : ValuedFamilies (Member g.row.V.Denot)). CanRemoveSign h.families c.args.parent c.args.s) (sym c.self.view_is) c.requires.can in
    (sign_taken c.self.inside.signs c.self.inside.store c.self.inside.layout.0 c.self.invariant.trie c.args.parent c.args.s can c.child-base.result c.child-base.ensures).1

pub drop_family-requires-clause-base : goal.drop_family-requires-clause-base
drop_family-requires-clause-base g c =
    let can : CanRemoveSign c.self.inside.layout.0.families c.args.parent c.args.s =
    subst (λ (h : ValuedFamilies (Member g.row.V.Denot)). CanRemoveSign h.families c.args.parent c.args.s) (sym c.self.view_is) c.requires.can in
    let within = base_in c.self.inside.signs c.self.inside.store c.self.inside.layout.0 c.self.invariant.trie c.args.parent c.args.s can c.child-base.result c.child-base.ensures
    c.self.invariant.row.bases in
    let size = c.free.ensures.frees.elsewhere.size in omega arith

pub drop_family-requires-clause-parent : goal.drop_family-requires-clause-parent
drop_family-requires-clause-parent g c =
    let can : CanRemoveSign c.self.inside.layout.0.families c.args.parent c.args.s =
    subst (λ (h : ValuedFamilies (Member g.row.V.Denot)). CanRemoveSign h.families c.args.parent c.args.s) (sym c.self.view_is) c.requires.can in
    parent_kept c.self.inside.signs c.self.inside.store c.self.inside.layout.0 c.self.invariant.trie c.args.parent c.args.s can c.child-base.result c.child-base.ensures
    c.free.new.self c.free.ensures.frees

pub invariant_of-self-inside : goal.invariant_of-self-inside
invariant_of-self-inside g c =
    let can : CanRemoveSign c.self.inside.layout.0.families c.args.parent c.args.s =
    subst (λ (h : ValuedFamilies (Member g.row.V.Denot)). CanRemoveSign h.families c.args.parent c.args.s) (sym c.self.view_is) c.requires.can in (
      (
        removed c.self.inside.layout.0 can.prefix c.args.s,
        ∣ trie_removed c.self.inside.signs c.self.inside.store c.self.inside.layout.0
            c.self.invariant.trie c.args.parent c.args.s can c.child-base.result c.child-base.ensures
            c.free.new.self c.drop_family.new.store c.free.ensures.frees (c.drop_family.ensures.prunes c.self.inside.signs
            (removed_alone c.self.inside.signs c.self.inside.store c.self.inside.layout.0 c.self.invariant.trie c.args.parent c.args.s can c.child-base.result c.child-base.ensures
            c.args.self.now c.self.view_is c.args.is_alone c.requires.alone c.free.new.self c.free.ensures.frees)) ∣₁,
      ),
      tt,
    )

pub invariant_of-self : goal.invariant_of-self
invariant_of-self g c =
    let can : CanRemoveSign c.self.inside.layout.0.families c.args.parent c.args.s =
    subst (λ (h : ValuedFamilies (Member g.row.V.Denot)). CanRemoveSign h.families c.args.parent c.args.s) (sym c.self.view_is) c.requires.can in
    let trie = trie_removed c.self.inside.signs c.self.inside.store c.self.inside.layout.0 c.self.invariant.trie c.args.parent c.args.s can c.child-base.result c.child-base.ensures
    c.free.new.self c.drop_family.new.store c.free.ensures.frees
    (c.drop_family.ensures.prunes c.self.inside.signs (removed_alone c.self.inside.signs c.self.inside.store c.self.inside.layout.0 c.self.invariant.trie
    c.args.parent c.args.s can c.child-base.result c.child-base.ensures c.args.self.now
    c.self.view_is c.args.is_alone c.requires.alone c.free.new.self c.free.ensures.frees)) in
    let all : (d : TrieOfRow c.self.inside.signs c.drop_family.new.store) → AreKept c.self.inside.signs c.drop_family.new.store d.0 =
    λ d. record {
      row = c.drop_family.ensures.row;
      trie = held_is_kept (member_code g.row.V.coded) c.self.inside.signs c.drop_family.new.store d _ trie;
      some = c.self.invariant.some;
      few = c.self.invariant.few;
    } in
    search all

pub returns : goal.returns
returns g c =
    let can : CanRemoveSign c.self.inside.layout.0.families c.args.parent c.args.s =
    subst (λ (h : ValuedFamilies (Member g.row.V.Denot)). CanRemoveSign h.families c.args.parent c.args.s) (sym c.self.view_is) c.requires.can in
    let trie = trie_removed c.self.inside.signs c.self.inside.store c.self.inside.layout.0 c.self.invariant.trie c.args.parent c.args.s can c.child-base.result c.child-base.ensures
    c.free.new.self c.drop_family.new.store c.free.ensures.frees (c.drop_family.ensures.prunes c.self.inside.signs
    (removed_alone c.self.inside.signs c.self.inside.store c.self.inside.layout.0 c.self.invariant.trie c.args.parent c.args.s can c.child-base.result c.child-base.ensures
    c.args.self.now c.self.view_is c.args.is_alone c.requires.alone c.free.new.self c.free.ensures.frees)) in
    let all : (d : TrieOfRow c.self.inside.signs c.drop_family.new.store) → RemovesSign c.args.self.now (seen c.self.inside.signs d.0) c.args.parent c.args.s =
    λ d. placed_removed c.self.inside.signs c.self.inside.store c.drop_family.new.store c.self.inside.layout.0 c.self.invariant.trie c.drop_family.ensures.row.values
    c.args.self.now c.self.view_is c.args.parent c.args.s can trie d.0 (kept_is_only (member_code g.row.V.coded) c.self.inside.signs c.drop_family.new.store d _ trie) in
    search all

pub drop_family-requires-clause-row : goal.drop_family-requires-clause-row
drop_family-requires-clause-row g c = c.free.ensures.row
