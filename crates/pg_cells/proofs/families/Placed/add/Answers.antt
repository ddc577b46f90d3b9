use Rattle.std.proofs.Common.{sym, subst, refl}
use Rattle.pg_cells.specs.Inside.linked.ValuedFamilies.{ValuedFamilies}
use Rattle.pg_cells.specs.Inside.families.Adding.{CanTakeSign, AddsSign}
use Rattle.pg_cells.specs.Inside.families.Layouts.{AreKept}
use Rattle.pg_cells.specs.Inside.families.OneTrie.{TrieOfRow, kept_is_only, held_is_kept}
use Rattle.pg_cells.specs.declared.store.member.Member.{Member}
use Rattle.pg_cells.specs.Inside.store.Store.{member_code}
use Rattle.pg_cells.proofs.AddedSlot.{after, after_held, can_add}
use Rattle.pg_cells.proofs.PlacedSigns.{seen, placed_added}
use Rattle.pg_cells.proofs.families.Placed.add.Goals as goal

pub add_slot-requires-clause-can : goal.add_slot-requires-clause-can
add_slot-requires-clause-can g c =
    let can : CanTakeSign c.self.inside.signs c.self.inside.layout.0.families c.args.parent c.args.s =
    subst (λ (h : ValuedFamilies (Member g.row.V.Denot)). CanTakeSign h.signs h.families c.args.parent c.args.s) (sym c.self.view_is) c.requires.can in
    let adds = can_add c.self.inside.signs c.self.inside.store c.self.inside.layout.0 c.self.invariant.trie c.args.self.now c.self.view_is
    c.args.parent c.args.s can c.args.members.now c.requires.members in
    (c.self.inside.layout.0, can.prefix, adds)

pub add_slot-requires-clause-sign : goal.add_slot-requires-clause-sign
add_slot-requires-clause-sign g c =
    let can : CanTakeSign c.self.inside.signs c.self.inside.layout.0.families c.args.parent c.args.s =
    subst (λ (h : ValuedFamilies (Member g.row.V.Denot)). CanTakeSign h.signs h.families c.args.parent c.args.s) (sym c.self.view_is) c.requires.can in
    (can.low, can.high)

pub invariant_of-self-inside : goal.invariant_of-self-inside
invariant_of-self-inside g c =
    let can : CanTakeSign c.self.inside.signs c.self.inside.layout.0.families c.args.parent c.args.s =
    subst (λ (h : ValuedFamilies (Member g.row.V.Denot)). CanTakeSign h.signs h.families c.args.parent c.args.s) (sym c.self.view_is) c.requires.can in
    let adds = can_add c.self.inside.signs c.self.inside.store c.self.inside.layout.0 c.self.invariant.trie c.args.self.now c.self.view_is
    c.args.parent c.args.s can c.args.members.now c.requires.members in
    let trie = after_held c.self.inside.signs c.self.inside.store c.add_slot.new.store c.self.inside.layout.0 can.prefix c.args.s c.args.v c.add_slot.result c.self.invariant.trie
    (c.add_slot.ensures.trie c.self.inside.layout.0 can.prefix adds) c.add_slot.ensures.err in
    ((after c.self.inside.signs c.self.inside.layout.0 can.prefix c.args.s c.args.v c.add_slot.result, ∣ trie ∣₁), tt)

pub invariant_of-self : goal.invariant_of-self
invariant_of-self g c =
    let can : CanTakeSign c.self.inside.signs c.self.inside.layout.0.families c.args.parent c.args.s =
    subst (λ (h : ValuedFamilies (Member g.row.V.Denot)). CanTakeSign h.signs h.families c.args.parent c.args.s) (sym c.self.view_is) c.requires.can in
    let adds = can_add c.self.inside.signs c.self.inside.store c.self.inside.layout.0 c.self.invariant.trie c.args.self.now c.self.view_is
    c.args.parent c.args.s can c.args.members.now c.requires.members in
    let trie = after_held c.self.inside.signs c.self.inside.store c.add_slot.new.store c.self.inside.layout.0 can.prefix c.args.s c.args.v c.add_slot.result c.self.invariant.trie
    (c.add_slot.ensures.trie c.self.inside.layout.0 can.prefix adds) c.add_slot.ensures.err in
    let all : (d : TrieOfRow c.self.inside.signs c.add_slot.new.store) → AreKept c.self.inside.signs c.add_slot.new.store d.0 =
    λ d. record {
      row = c.add_slot.ensures.row;
      trie = held_is_kept (member_code g.row.V.coded) c.self.inside.signs c.add_slot.new.store d _ trie;
      some = c.self.invariant.some;
      few = c.self.invariant.few;
    } in
    search all

pub returns : goal.returns
returns g c =
    let can : CanTakeSign c.self.inside.signs c.self.inside.layout.0.families c.args.parent c.args.s =
    subst (λ (h : ValuedFamilies (Member g.row.V.Denot)). CanTakeSign h.signs h.families c.args.parent c.args.s) (sym c.self.view_is) c.requires.can in
    let adds = can_add c.self.inside.signs c.self.inside.store c.self.inside.layout.0 c.self.invariant.trie c.args.self.now c.self.view_is
    c.args.parent c.args.s can c.args.members.now c.requires.members in
    let trie = after_held c.self.inside.signs c.self.inside.store c.add_slot.new.store c.self.inside.layout.0 can.prefix c.args.s c.args.v c.add_slot.result c.self.invariant.trie
    (c.add_slot.ensures.trie c.self.inside.layout.0 can.prefix adds) c.add_slot.ensures.err in
    let all : (d : TrieOfRow c.self.inside.signs c.add_slot.new.store) → AddsSign c.args.self.now (seen c.self.inside.signs d.0) c.args.parent c.args.s c.args.v c.add_slot.result =
    λ d. placed_added c.self.inside.signs c.self.inside.store c.add_slot.new.store c.self.inside.layout.0 c.self.invariant.trie c.add_slot.ensures.row.values
    c.args.self.now c.self.view_is c.args.parent c.args.s can c.args.v c.add_slot.result
    (c.add_slot.ensures.trie c.self.inside.layout.0 can.prefix adds) (c.add_slot.ensures.cell c.self.inside.layout.0 can.prefix adds)
    d.0 (kept_is_only (member_code g.row.V.coded) c.self.inside.signs c.add_slot.new.store d _ trie) in
    search all

pub add_slot-requires-clause-signs : goal.add_slot-requires-clause-signs
add_slot-requires-clause-signs g c = c.self.invariant.few

pub add_slot-requires-clause-child : goal.add_slot-requires-clause-child
add_slot-requires-clause-child g c = refl

pub add_slot-requires-clause-positive : goal.add_slot-requires-clause-positive
add_slot-requires-clause-positive g c = c.requires.positive

pub add_slot-requires-clause-fits : goal.add_slot-requires-clause-fits
add_slot-requires-clause-fits g c = c.requires.fits
