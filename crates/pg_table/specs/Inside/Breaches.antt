-- The first rule of packed tables that a file breaks.
use Rattle.std.specs.Prelude.{◌≡◌, ℕ, ◌<◌, ◌&&◌, ◌||◌, not, true, nat_eq, nat_lt, nat_le, if◌then◌else◌, List, length, Option, None, Some}
use Rattle.std.specs.List.{starts_with}
use Rattle.pg_types.specs.declared.limits.TheConstants.{LEVEL_MAX, PATTERN_SIGNS_MAX, SIGNS_MAX}
use Rattle.pg_types.specs.declared.packed_table.TheConstants.{HEAD_LEN, TABLE_MAX}
use Rattle.pg_outputs.specs.declared.records.Record.{Record}
use Rattle.pg_table.specs.declared.parts.breach.Breach.{Breach}
use Rattle.pg_table.specs.declared.parts.breach.CellRule.{CellRule}
use Rattle.pg_table.specs.declared.parts.breach.CellRule.TheVariants.{OwnSign, Unused, Sign, Child, Head}
use Rattle.pg_table.specs.declared.parts.breach.RecordRule.{RecordRule}
use Rattle.pg_table.specs.declared.parts.breach.RecordRule.TheVariants.{Value, Dot, Back}
use Rattle.pg_table.specs.declared.parts.breach.Breach.TheVariants as breach
use Rattle.pg_table.specs.declared.parts.cell.Cell.{Cell}
use Rattle.pg_table.specs.declared.parts.sizes.Sizes.{Sizes}
use Rattle.pg_table.specs.Forms.{sizes_of, cell_at, record_at, has_sizes, is_sound_cell, is_sound_record}
use Rattle.pg_table.specs.Inside.Extents.{file_len}
use Rattle.pg_table.specs.Inside.text.Files.{signature}

-- the first rule on sizes that these break in a file of some length
abbrev pub sizes_breach : Sizes → ℕ → Option Breach
sizes_breach h len = if not (nat_eq len (file_len h)) then Some (breach.Length (file_len h))
    else if not (nat_le len TABLE_MAX) then Some breach.TooLong
    else if not (nat_le 1 h.signs && nat_le h.signs SIGNS_MAX && nat_lt h.signs h.cells)
    then Some (breach.Signs h.signs h.cells) else None

-- the first rule on the head that a file breaks
abbrev pub head_breach : List ℕ → Option Breach
head_breach b = if nat_eq (length b) 0 then Some breach.Empty
    else if not (starts_with nat_eq b signature) then Some breach.Signature
    else if nat_lt (length b) HEAD_LEN then Some breach.Head
    else sizes_breach (sizes_of b) (length b)

-- the first rule that a cell breaks at its place
abbrev pub cell_breach : Sizes → ℕ → Cell → Option CellRule
cell_breach h at c = if not (nat_lt h.signs at || nat_eq c.sign at) then Some OwnSign
    else if not (not (nat_eq c.sign 0) || (nat_eq c.child 0 && nat_eq c.head 0)) then Some Unused
    else if not (nat_le c.sign h.signs) then Some Sign
    else if not (nat_lt c.child h.cells) then Some Child
    else if not (nat_le c.head h.records) then Some Head else None

-- the first rule that a record breaks at its place
abbrev pub record_breach : ℕ → Record → Option RecordRule
record_breach i r = if not (nat_le 1 r.value && nat_le r.value LEVEL_MAX) then Some Value
    else if not (nat_le r.dot PATTERN_SIGNS_MAX) then Some Dot
    else if not (nat_le r.next i) then Some Back else None

-- all cells before this one may stand at their places
abbrev pub HasSoundCells : List ℕ → ℕ → Type 0
HasSoundCells b n = (k : ℕ) → k < n → is_sound_cell (sizes_of b) k (cell_at b k) ≡ true

-- all records before this one may stand at their places
abbrev pub HasSoundRecords : List ℕ → ℕ → Type 0
HasSoundRecords b n = (k : ℕ) → k < n → is_sound_record k (record_at b k) ≡ true

-- this is the first rule that a file breaks: one on its head, on a cell, or on a record
abbrev pub IsBreach : List ℕ → Breach → Type 0
IsBreach b (breach.Cell at rule) = (has_sizes b ≡ true) × (at < (sizes_of b).cells)
    × HasSoundCells b at × (cell_breach (sizes_of b) at (cell_at b at) ≡ Some rule)
IsBreach b (breach.Record i rule) = (has_sizes b ≡ true) × HasSoundCells b (sizes_of b).cells
    × (i < (sizes_of b).records) × HasSoundRecords b i
    × (record_breach i (record_at b i) ≡ Some rule)
IsBreach b breach.Empty = head_breach b ≡ Some breach.Empty
IsBreach b breach.Signature = head_breach b ≡ Some breach.Signature
IsBreach b breach.Head = head_breach b ≡ Some breach.Head
IsBreach b (breach.Length n) = head_breach b ≡ Some (breach.Length n)
IsBreach b breach.TooLong = head_breach b ≡ Some breach.TooLong
IsBreach b (breach.Signs signs cells) = head_breach b ≡ Some (breach.Signs signs cells)
