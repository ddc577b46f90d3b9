-- A slot is added to a family: what the steps need, and what they leave.
use Rattle.std.proofs.Common.{◌≡◌, ◌≢◌, ℕ, ◌+◌, ◌<◌, ◌≤◌, true, false, ◌&&◌, nat_eq, nat_lt, List, [], ◌∷◌, ◌++◌, length, Result, Ok, Err, OnOk, OnErr, Some, sym, ◌∙◌, subst}
use Rattle.std.proofs.lemmas.Bool.{and_parts, and_from, ltb-true, lt-ltb, eqb-true, eq-eqb, both_ways}
use Rattle.pg_types.specs.Inside.PlacementSteps.{with_new_sign}
use Rattle.pg_types.specs.Inside.Placing.{cell_of, joins_at}
use Rattle.pg_cells.specs.declared.store.fit.Slot.{Slot}
use Rattle.pg_cells.specs.Inside.store.CellRows.{Row, sign_at, child_at, IsFree}
use Rattle.pg_cells.specs.Inside.store.Store.{Extends}
use Rattle.pg_cells.specs.Inside.store.Writes.{Takes}
use Rattle.pg_cells.specs.Inside.families.Moves.{CanPlace, MovesFamily, AreSlotsOf}
use Rattle.pg_cells.specs.Inside.linked.Members.{ArePassing, has_sign}
use Rattle.pg_cells.specs.Inside.families.Adding.{CanAdd, CanTakeSign, with_sign_below}
use Rattle.pg_cells.specs.Inside.families.Layouts.{IsTrie}
use Rattle.pg_cells.specs.Inside.linked.ValuedFamilies.{Trie, ValuedFamilies}
use Rattle.pg_cells.proofs.AddTrie.{grown, trie_extended, joins_trie, joins_cell, joins_free, settles_can, settles_trie, settles_cell}
use Rattle.pg_cells.proofs.GivenMembers.{joins_told, given_none, given_some}

module _ {V : Type 0} (n : ℕ) (old r : Row V) (t : Trie V) (p : List ℕ) (parent s : ℕ) (members : List ℕ) (can : CanAdd n old t p parent s members) (more : Extends old r)
    (low : 1 ≤ s) (high : s ≤ n) (base : ℕ) (base_is : base ≡ child_at r parent) where
  -- the sign joins in place
  module _ (test : (nat_lt 0 base && nat_eq (sign_at r (base + s)) 0) ≡ true) where
    up : 0 < base
    up = ltb-true 0 base (and_parts (nat_lt 0 base) (nat_eq (sign_at r (base + s)) 0) test).0

    free : sign_at r (base + s) ≡ 0
    free = eqb-true (sign_at r (base + s)) 0 (and_parts (nat_lt 0 base) (nat_eq (sign_at r (base + s)) 0) test).1

    pub joining_free : ((i : ℕ) → sign_at old i ≢ 0 → i + (n + 2) ≤ length r.signs) → IsFree r (base + s)
    joining_free room = joins_free n old r t can.trie more p parent can.at s low high can.lacks base base_is up free room

    pub joining_trie : (new : Row V) (v : V) (child : ℕ) → child ≡ 0 → Takes r new (base + s) s v child → IsTrie n new (with_sign_below n t p s v)
    joining_trie new v child none takes =
        joins_trie n old r t can.trie more p parent can.at s low high can.lacks base base_is up free new v (subst (Takes r new (base + s) s v) none takes)

    pub joining_cell : cell_of (with_new_sign n t.families p s) (p ++ s ∷ []) ≡ Some (base + s)
    joining_cell = joins_cell n old r t can.trie more p parent can.at s low high can.lacks base base_is up free

  -- it does not join, and the family is put at another base
  module _ (test : (nat_lt 0 base && nat_eq (sign_at r (base + s)) 0) ≡ false) (slots : List (Slot V)) (none : members ≡ [] → slots ≡ [])
      (some : (m : ℕ) → ((i : ℕ) → sign_at r i ≤ m) → ArePassing (λ x. nat_eq (sign_at r (base + x)) x) members → AreSlotsOf m r base slots) where
    are : ArePassing (has_sign t.families p) members
    are = can.are (sym (joins_told n old r t can.trie more p parent can.at s low high can.lacks base base_is) ∙ test)

    empty : base ≡ 0 → slots ≡ []
    empty z = none (given_none n old r t can.trie more p parent can.at s low high can.lacks base base_is members z are)

    full : 0 < base → AreSlotsOf n r base slots
    full up =
        some n (grown n old r t can.trie more p parent can.at s low high can.lacks base base_is).layout.small
        (given_some n old r t can.trie more p parent can.at s low high can.lacks base base_is members up are)

    stays : 0 < base → sign_at r (base + s) ≢ 0
    stays up z = both_ways (nat_lt 0 base && nat_eq (sign_at r (base + s)) 0) test
        (and_from (nat_lt 0 base) (nat_eq (sign_at r (base + s)) 0) (lt-ltb 0 base up) (eq-eqb (sign_at r (base + s)) 0 z))

    pub moving_can : (slot : Slot V) → slot.sign ≡ s → slot.child ≡ 0 → length r.bases ≡ length r.signs → ((i : ℕ) → sign_at old i ≢ 0 → i + (n + 2) ≤ length r.signs)
        → CanPlace n r base slots slot parent
    moving_can slot is no_child even room =
        settles_can n old r t can.trie more p parent can.at s low high can.lacks base base_is slots empty full stays slot is no_child even room

    module _ (new : Row V) (at : ℕ) (slot : Slot V) (is : slot.sign ≡ s) (place : CanPlace n r base slots slot parent) (moved : MovesFamily n r new base at slots slot parent) where
      pub moving_trie : IsTrie n new (with_sign_below n t p s slot.value)
      moving_trie = settles_trie n old r t can.trie more p parent can.at s low high can.lacks base base_is slots empty full stays new at slot is place moved

      pub moving_cell : cell_of (with_new_sign n t.families p s) (p ++ s ∷ []) ≡ Some (at + s)
      moving_cell = settles_cell n old r t can.trie more p parent can.at s low high can.lacks base base_is slots empty full stays new at slot is place moved

-- the trie that is held after an answer
abbrev pub after : {V E : Type 0} → ℕ → Trie V → List ℕ → ℕ → V → Result ℕ E → Trie V
after n t p s v (Ok cell) = with_sign_below n t p s v
after n t p s v (Err e) = t

pub after_held : {V E : Type 0} (n : ℕ) (old new : Row V) (t : Trie V) (p : List ℕ) (s : ℕ) (v : V) (answer : Result ℕ E) → IsTrie n old t
    → OnOk answer (IsTrie n new (with_sign_below n t p s v)) → OnErr answer (Extends old new) → IsTrie n new (after n t p s v answer)
after_held n old new t p s v (Ok cell) before ok err = ok
after_held n old new t p s v (Err e) before ok err = trie_extended n old new t before err

-- what is required of the view holds of the trie behind it
pub can_add : {V : Type 0} (n : ℕ) (r : Row V) (t : Trie V) → IsTrie n r t → (h : ValuedFamilies V) → ◌≡◌ {A = ValuedFamilies V} (record { signs = n; families = t.families; values = t.values }) h
    → (parent s : ℕ) (can : CanTakeSign n t.families parent s) (members : List ℕ)
    → ((q : List ℕ) → cell_of h.families q ≡ Some parent → joins_at h.families q s ≡ false → ArePassing (has_sign h.families q) members) → CanAdd n r t can.prefix parent s members
can_add {V} n r t trie h view parent s can members owed = record {
  trie = trie;
  at = can.at;
  lacks = can.lacks;
  are = subst (λ (k : ValuedFamilies V). (q : List ℕ) → cell_of k.families q ≡ Some parent → joins_at k.families q s ≡ false → ArePassing (has_sign k.families q) members) (sym view) owed
      can.prefix can.at;
}
