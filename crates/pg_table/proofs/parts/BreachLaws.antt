-- What the first rule that a file breaks tells of its form.
use Rattle.std.proofs.Common.{◌≡◌, ℕ, ◌<◌, Bool, true, false, not, ◌&&◌, ◌||◌, nat_eq, nat_lt, nat_le, List, None, Some, is_some, refl, sym, subst, ◌∙◌, ap, arith}
use Rattle.std.specs.Prelude.{if◌then◌else◌}
use Rattle.pg_types.specs.declared.limits.TheConstants.{LEVEL_MAX, PATTERN_SIGNS_MAX}
use Rattle.pg_outputs.specs.declared.records.Record.{Record}
use Rattle.pg_table.specs.declared.parts.breach.CellRule.{CellRule}
use Rattle.pg_table.specs.declared.parts.breach.CellRule.TheVariants.{OwnSign, Unused, Sign, Child, Head}
use Rattle.pg_table.specs.declared.parts.breach.RecordRule.{RecordRule}
use Rattle.pg_table.specs.declared.parts.breach.RecordRule.TheVariants.{Value, Dot, Back}
use Rattle.pg_table.specs.declared.parts.breach.Breach.TheVariants as breach
use Rattle.pg_table.specs.declared.parts.cell.Cell.{Cell}
use Rattle.pg_table.specs.declared.parts.sizes.Sizes.{Sizes}
use Rattle.pg_table.specs.Forms.{sizes_of, cell_at, has_sizes, is_sound_cell, is_sound_record}
use Rattle.pg_table.specs.Inside.Extents.{read_record, record_start}
use Rattle.pg_table.specs.Inside.Breaches.{cell_breach, record_breach, IsBreach}
use Rattle.pg_table.proofs.parts.FormLaws.{cells_pass, records_pass}
use Rattle.pg_table.proofs.parts.Ranges.{range_passes, range_fails, range_tells}

sound_none : (s : Bool) → false ≡ not s → s ≡ true
sound_none true e = refl
sound_none false e = e

sound_some : (s : Bool) → true ≡ not s → s ≡ false
sound_some true e = e
sound_some false e = refl

cell_tests : (a b c d e : Bool) → is_some (if not a then Some OwnSign else if not b then Some Unused
    else if not c then Some Sign else if not d then Some Child else if not e then Some Head else None) ≡ not (a && b && c && d && e)
cell_tests false b c d e = refl
cell_tests true false c d e = refl
cell_tests true true false d e = refl
cell_tests true true true false e = refl
cell_tests true true true true false = refl
cell_tests true true true true true = refl

cell_tells : (h : Sizes) (at : ℕ) (c : Cell) → is_some (cell_breach h at c) ≡ not (is_sound_cell h at c)
cell_tells h at c =
    cell_tests (nat_lt h.signs at || nat_eq c.sign at) (not (nat_eq c.sign 0) || (nat_eq c.child 0 && nat_eq c.head 0))
    (nat_le c.sign h.signs) (nat_lt c.child h.cells) (nat_le c.head h.records)

-- a cell that breaks no rule may stand at its place, and no other
pub cell_sound : (h : Sizes) (at : ℕ) (c : Cell) → cell_breach h at c ≡ None → is_sound_cell h at c ≡ true
cell_sound h at c none = sound_none (is_sound_cell h at c) (ap is_some (sym none) ∙ cell_tells h at c)

pub cell_broken : (h : Sizes) (at : ℕ) (c : Cell) (rule : CellRule) → cell_breach h at c ≡ Some rule → is_sound_cell h at c ≡ false
cell_broken h at c rule some = sound_some (is_sound_cell h at c) (ap is_some (sym some) ∙ cell_tells h at c)

record_tests : (a b c : Bool) → is_some (if not a then Some Value else if not b then Some Dot else if not c then Some Back else None) ≡ not (a && b && c)
record_tests false b c = refl
record_tests true false c = refl
record_tests true true false = refl
record_tests true true true = refl

record_tells : (i : ℕ) (r : Record) → is_some (record_breach i r) ≡ not (is_sound_record i r)
record_tells i r = record_tests (nat_le 1 r.value && nat_le r.value LEVEL_MAX) (nat_le r.dot PATTERN_SIGNS_MAX) (nat_le r.next i)

pub record_sound : (i : ℕ) (r : Record) → record_breach i r ≡ None → is_sound_record i r ≡ true
record_sound i r none = sound_none (is_sound_record i r) (ap is_some (sym none) ∙ record_tells i r)

pub record_broken : (i : ℕ) (r : Record) (rule : RecordRule) → record_breach i r ≡ Some rule → is_sound_record i r ≡ false
record_broken i r rule some = sound_some (is_sound_record i r) (ap is_some (sym some) ∙ record_tells i r)

-- a cell that breaks a rule fails the test of all cells
pub bad_cell : (b : List ℕ) (h : Sizes) (at : ℕ) (c : Cell) (rule : CellRule) → at < h.cells → c ≡ cell_at b at → cell_breach h at c ≡ Some rule → cells_pass b h ≡ false
bad_cell b h at c rule inside is broken =
    range_fails (λ k. is_sound_cell h k (cell_at b k)) h.cells at inside (ap (is_sound_cell h at) (sym is) ∙ cell_broken h at c rule broken)

-- a record that breaks a rule fails the test of all records
pub bad_record : (b : List ℕ) (h : Sizes) (i : ℕ) (r : Record) (rule : RecordRule) → i < h.records → r ≡ read_record b (record_start h.cells i) → record_breach i r ≡ Some rule → records_pass b h ≡ false
bad_record b h i r rule inside is broken =
    range_fails (λ k. is_sound_record k (read_record b (record_start h.cells k))) h.records i inside (ap (is_sound_record i) (sym is) ∙ record_broken i r rule broken)

-- all cells or records pass where each does
pub all_cells : (b : List ℕ) (h : Sizes) → ((k : ℕ) → k < h.cells → is_sound_cell h k (cell_at b k) ≡ true) → cells_pass b h ≡ true
all_cells b h each = range_passes (λ k. is_sound_cell h k (cell_at b k)) 0 h.cells (λ i low inside. each i (omega arith))

pub all_records : (b : List ℕ) (h : Sizes) → ((k : ℕ) → k < h.records → is_sound_record k (read_record b (record_start h.cells k)) ≡ true) → records_pass b h ≡ true
all_records b h each = range_passes (λ k. is_sound_record k (read_record b (record_start h.cells k))) 0 h.records (λ i low inside. each i (omega arith))

-- the first record that breaks a rule behind sound cells is the first breach
pub record_is : (b : List ℕ) (h : Sizes) (i : ℕ) (rule : RecordRule) → h ≡ sizes_of b → has_sizes b ≡ true → cells_pass b h ≡ true → i < h.records
    → ((k : ℕ) → k < i → is_sound_record k (read_record b (record_start h.cells k)) ≡ true) → record_breach i (read_record b (record_start h.cells i)) ≡ Some rule
    → IsBreach b (breach.Record i rule)
record_is b h i rule same sizes =
    let P : Sizes → Type 0 = λ h. cells_pass b h ≡ true → i < h.records → ((k : ℕ) → k < i → is_sound_record k (read_record b (record_start h.cells k)) ≡ true)
    → record_breach i (read_record b (record_start h.cells i)) ≡ Some rule → IsBreach b (breach.Record i rule) in
    subst P (sym same)
    (λ cells inside before broken. (sizes, (λ k low. range_tells (λ j. is_sound_cell (sizes_of b) j (cell_at b j)) (sizes_of b).cells k cells low), inside, before, broken))
