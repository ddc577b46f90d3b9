-- What holds after the cells of a family are collected, given up, and put at another base.
use Rattle.std.specs.Prelude.{◌≡◌, ◌≢◌, ℕ, ◌+◌, ◌<◌, ◌≤◌, ◌⊎◌, max, true, false, List, [], ◌∷◌, ◌++◌, length, take, get_or, slice_get, None, Some}
use Rattle.pg_types.specs.Inside.PlacementSteps.{lowest_base}
use Rattle.pg_cells.specs.declared.store.fit.Slot.{Slot}
use Rattle.pg_cells.specs.declared.store.member.Member.{Member}
use Rattle.pg_cells.specs.Inside.store.CellRows.{Row, FitsCell, sign_at, child_at, base_at}
use Rattle.pg_types.specs.Inside.Placing.{IsLeast}
use Rattle.pg_cells.specs.Inside.store.Store.{taken_in, IsTop}
use Rattle.pg_cells.specs.Inside.store.Writes.{Takes, SetsBase, SetsChild}
use Rattle.pg_cells.specs.Inside.store.Fit.{slot_signs, slot_of, fits_row}
use Rattle.pg_cells.specs.Inside.families.Layouts.{signs_at_base}

module _ {V : Type 0} where
  -- no two slots have one sign
  abbrev pub AreDistinct : List (Slot V) → Type 0
  AreDistinct slots = (k : ℕ) → k < length slots
      → slot_of (take k slots) (get_or (slot_signs slots) k 0) ≡ None

  -- the value of each slot has room in a cell
  abbrev pub AllFit : List (Slot (Member V)) → Type 0
  AllFit slots = (x : ℕ) (k : Slot (Member V)) → slot_of slots x ≡ Some k → FitsCell k.value

  -- the cell is none of those that the slots have at the base
  abbrev pub IsOutsideFamily : ℕ → List (Slot V) → ℕ → Type 0
  IsOutsideFamily base slots i = (x : ℕ) → i ≡ base + x → slot_of slots x ≡ None

  -- cells outside of the slots', and all flags, are as before
  pub record KeepsOtherCells (old new : Row V) (base : ℕ) (slots : List (Slot V)) : Type 0 where
    pub signs : (i : ℕ) → IsOutsideFamily base slots i → sign_at new i ≡ sign_at old i
    pub children : (i : ℕ) → IsOutsideFamily base slots i → child_at new i ≡ child_at old i
    pub values : (i : ℕ) → IsOutsideFamily base slots i
        → slice_get new.values i ≡ slice_get old.values i
    pub bases : (b : ℕ) → base_at new b ≡ base_at old b
    pub size : length new.signs ≡ length old.signs

  -- the cells of the slots are given up
  pub record GivesUp (old new : Row V) (base : ℕ) (slots : List (Slot V)) : Type 0 where
    pub others : KeepsOtherCells old new base slots
    pub free : (x : ℕ) (slot : Slot V) → slot_of slots x ≡ Some slot → sign_at new (base + x) ≡ 0
    pub count : taken_in new + length slots ≡ taken_in old

  -- the slots stand in their cells at the base
  pub record PutsSlots (old new : Row V) (base : ℕ) (slots : List (Slot V)) : Type 0 where
    pub others : KeepsOtherCells old new base slots
    pub at : (x : ℕ) (slot : Slot V) → slot_of slots x ≡ Some slot
        → (sign_at new (base + x) ≡ x) × (child_at new (base + x) ≡ slot.child)
        × (slice_get new.values (base + x) ≡ Some slot.value)
    pub count : taken_in new ≡ taken_in old + length slots

  -- what a slot tells of the cell of the sign x at the base
  pub record TellsCell (r : Row V) (base x : ℕ) (slot : Slot V) : Type 0 where
    pub sign : sign_at r (base + x) ≡ x
    pub child : slot.child ≡ child_at r (base + x)
    pub value : slice_get r.values (base + x) ≡ Some slot.value

  -- the slots are those of the family at the base, up to the sign n
  pub record AreSlotsOf (n : ℕ) (r : Row V) (base : ℕ) (slots : List (Slot V)) : Type 0 where
    pub signs : slot_signs slots ≡ signs_at_base n r base
    pub told : (x : ℕ) (slot : Slot V) → slot_of slots x ≡ Some slot → TellsCell r base x slot
    pub distinct : AreDistinct slots
    pub late : (y : ℕ) → n < y → slot_of slots y ≡ None

  -- the slot of the cell of the sign x is added, where the sign stands at the base
  abbrev pub Collects : Row V → ℕ → ℕ → List (Slot V) → List (Slot V) → Type 0
  Collects r base x old new =
      ((sign_at r (base + x) ≢ x) × (new ≡ old)) ⊎
      ((slot : Slot V) × (TellsCell r base x slot) × (slot.sign ≡ x) × (new ≡ old ++ slot ∷ []))

  -- the base of a family is dropped, where there is one
  abbrev pub DropsBase : Row V → Row V → ℕ → Type 0
  DropsBase old new was = ((was ≡ 0) × (new ≡ old)) ⊎ ((0 < was) × (SetsBase old new was false))

  -- a family can be placed: its slots are in taken cells, and there is room past the last cell
  pub record CanPlace (n : ℕ) (r : Row V) (was : ℕ)
      (slots : List (Slot V)) (slot : Slot V) (parent : ℕ) : Type 0 where
    pub distinct : AreDistinct slots
    pub stand : (x : ℕ) (k : Slot V) → slot_of slots x ≡ Some k
        → (0 < x) × (x ≤ n) × (sign_at r (was + x) ≢ 0) × (k.child < length r.signs)
    pub new : slot_of slots slot.sign ≡ None
    pub sign : (0 < slot.sign) × (slot.sign ≤ n)
    pub child : slot.child ≡ 0
    pub parent_taken : sign_at r parent ≢ 0
    pub parent_other : IsOutsideFamily was slots parent
    pub room : (i : ℕ) → sign_at r i ≢ 0 → i + n + 1 < length r.signs
    pub rooted : (b : ℕ) → base_at r b ≡ true → b ≢ was
        → 0 < b → (y : ℕ) × (0 < y) × (sign_at r (b + y) ≢ 0) × (IsOutsideFamily was slots (b + y))
    -- at `was`, each slot's sign stands, and no other; the new sign's cell is taken; and each taken
    -- cell belongs to a base
    pub stands : (x : ℕ) (k : Slot V) → slot_of slots x ≡ Some k → sign_at r (was + x) ≡ x
    pub owns : (x : ℕ) → 0 < was → 0 < x → sign_at r (was + x) ≡ x
        → (k : Slot V) × (slot_of slots x ≡ Some k)
    pub sign_taken : 0 < was → sign_at r (was + slot.sign) ≢ 0
    pub based : (i : ℕ) → sign_at r i ≢ 0 → (b : ℕ) × (base_at r b ≡ true) × (i ≡ b + sign_at r i)

  -- a family gave up its cells and its base, and was put with one sign more at the least base
  pub record MovesFamily (n : ℕ) (old new : Row V) (was base : ℕ)
      (slots : List (Slot V)) (slot : Slot V) (parent : ℕ) : Type 0 where
    pub gave : Row V
    pub dropped : Row V
    pub settled : Row V
    pub took : Row V
    pub flagged : Row V
    pub gives : GivesUp old gave was slots
    pub drops : DropsBase gave dropped was
    pub top : ℕ
    pub is_top : IsTop dropped.signs top
    pub least : IsLeast (fits_row dropped (slot.sign ∷ slot_signs slots))
        (lowest_base n (length slots + 1) top) base
    pub near : base ≤ max 1 top
    pub puts : PutsSlots dropped settled base slots
    pub takes : Takes settled took (base + slot.sign) slot.sign slot.value slot.child
    pub flags : SetsBase took flagged base true
    pub links : SetsChild flagged new parent base

  -- the family at the base is taken away from its parent, where no sign stands there
  abbrev pub DropsEmptyFamily : ℕ → Row V → Row V → ℕ → ℕ → Type 0
  DropsEmptyFamily n old new base parent =
      ((signs_at_base n old base ≢ []) × (new ≡ old))
      ⊎ ((mid : Row V) × (signs_at_base n old base ≡ [])
      × (SetsChild old mid parent 0) × (SetsBase mid new base false))
