-- What the tests of the form of a file tell.
use Rattle.std.proofs.Common.{◌≡◌, ℕ, ◌<◌, ◌≤◌, Bool, true, false, not, ◌&&◌, ◌||◌, nat_eq, nat_lt, nat_le, List, length, refl, sym, ◌∙◌, ap, arith, inl, inr}
use Rattle.std.specs.List.{list_all, range_with_len, starts_with}
use Rattle.std.proofs.lemmas.Bool.{and_parts, and_from, or_cases, or_left, or_right, cases_lt, cases_eq, ltb-true, leb-true, eqb-true, lt-ltb, le-leb, eq-eqb, ne_eqb, not_from_true, not_from_false}
use Rattle.pg_types.specs.declared.limits.TheConstants.{LEVEL_MAX, PATTERN_SIGNS_MAX, SIGNS_MAX}
use Rattle.pg_outputs.specs.declared.records.Record.{Record}
use Rattle.pg_table.specs.declared.parts.cell.Cell.{Cell}
use Rattle.pg_table.specs.declared.parts.sizes.Sizes.{Sizes}
use Rattle.pg_types.specs.declared.packed_table.TheConstants.{TABLE_MAX}
use Rattle.pg_table.specs.Forms.{sizes_of, cell_at, record_at, has_sizes, is_sound_cell, is_sound_record, is_well_formed}
use Rattle.pg_table.specs.Inside.text.Files.{signature}
use Rattle.pg_table.specs.Inside.Extents.{read_record, record_start, file_len, sizes_fit}
use Rattle.pg_table.proofs.parts.Ranges.{range_passes, range_tells}

pub record SizesFit (h : Sizes) (len : ℕ) : Type 0 where
  pub whole : len ≡ file_len h
  pub small : len ≤ TABLE_MAX
  pub some : 1 ≤ h.signs
  pub few : h.signs ≤ SIGNS_MAX
  pub rooted : h.signs < h.cells

pub record IsSoundCell (h : Sizes) (at : ℕ) (c : Cell) : Type 0 where
  pub own : at ≤ h.signs → c.sign ≡ at
  pub unused : c.sign ≡ 0 → (c.child ≡ 0) × (c.head ≡ 0)
  pub sign : c.sign ≤ h.signs
  pub child : c.child < h.cells
  pub head : c.head ≤ h.records

pub record IsSoundRecord (i : ℕ) (r : Record) : Type 0 where
  pub low : 1 ≤ r.value
  pub high : r.value ≤ LEVEL_MAX
  pub dot : r.dot ≤ PATTERN_SIGNS_MAX
  pub back : r.next ≤ i

pub record IsWellFormed (b : List ℕ) : Type 0 where
  pub mark : starts_with nat_eq b signature ≡ true
  pub sizes : SizesFit (sizes_of b) (length b)
  pub cells : (at : ℕ) → at < (sizes_of b).cells → IsSoundCell (sizes_of b) at (cell_at b at)
  pub records : (i : ℕ) → i < (sizes_of b).records → IsSoundRecord i (record_at b i)

pub fits_told : (h : Sizes) (len : ℕ) → sizes_fit h len ≡ true → SizesFit h len
fits_told h len is =
    let a = and_parts (nat_eq len (file_len h) && nat_le len TABLE_MAX && nat_le 1 h.signs && nat_le h.signs SIGNS_MAX) (nat_lt h.signs h.cells) is in
    let b = and_parts (nat_eq len (file_len h) && nat_le len TABLE_MAX && nat_le 1 h.signs) (nat_le h.signs SIGNS_MAX) a.0 in
    let d = and_parts (nat_eq len (file_len h) && nat_le len TABLE_MAX) (nat_le 1 h.signs) b.0 in
    let e = and_parts (nat_eq len (file_len h)) (nat_le len TABLE_MAX) d.0 in
    record {
      whole = eqb-true len (file_len h) e.0;
      small = leb-true len TABLE_MAX e.1;
      some = leb-true 1 h.signs d.1;
      few = leb-true h.signs SIGNS_MAX b.1;
      rooted = ltb-true h.signs h.cells a.1;
    }

pub fits_from : (h : Sizes) (len : ℕ) → SizesFit h len → sizes_fit h len ≡ true
fits_from h len is =
    and_from (nat_eq len (file_len h) && nat_le len TABLE_MAX && nat_le 1 h.signs && nat_le h.signs SIGNS_MAX) (nat_lt h.signs h.cells)
    (and_from (nat_eq len (file_len h) && nat_le len TABLE_MAX && nat_le 1 h.signs) (nat_le h.signs SIGNS_MAX)
    (and_from (nat_eq len (file_len h) && nat_le len TABLE_MAX) (nat_le 1 h.signs)
    (and_from (nat_eq len (file_len h)) (nat_le len TABLE_MAX) (eq-eqb len (file_len h) is.whole) (le-leb len TABLE_MAX is.small))
    (le-leb 1 h.signs is.some))
    (le-leb h.signs SIGNS_MAX is.few))
    (lt-ltb h.signs h.cells is.rooted)

pub cell_told : (h : Sizes) (at : ℕ) (c : Cell) → is_sound_cell h at c ≡ true → IsSoundCell h at c
cell_told h at c is =
    let own = nat_lt h.signs at || nat_eq c.sign at in
    let unused = not (nat_eq c.sign 0) || (nat_eq c.child 0 && nat_eq c.head 0) in
    let a = and_parts (own && unused && nat_le c.sign h.signs && nat_lt c.child h.cells) (nat_le c.head h.records) is in
    let b = and_parts (own && unused && nat_le c.sign h.signs) (nat_lt c.child h.cells) a.0 in
    let d = and_parts (own && unused) (nat_le c.sign h.signs) b.0 in
    let e = and_parts own unused d.0 in
    record {
      own = λ low. elim (or_cases (nat_lt h.signs at) (nat_eq c.sign at) e.0) [
        | inl past ↦ let p : h.signs < at = ltb-true h.signs at past in absurd (omega arith)
        | inr same ↦ eqb-true c.sign at same
      ];
      unused = λ zero. elim (or_cases (not (nat_eq c.sign 0)) (nat_eq c.child 0 && nat_eq c.head 0) e.1) [
        | inl not_zero ↦ let z : not (nat_eq c.sign 0) ≡ false = not_from_true (nat_eq c.sign 0) (eq-eqb c.sign 0 zero) in cc
        | inr both ↦ let p = and_parts (nat_eq c.child 0) (nat_eq c.head 0) both in (eqb-true c.child 0 p.0, eqb-true c.head 0 p.1)
      ];
      sign = leb-true c.sign h.signs d.1;
      child = ltb-true c.child h.cells b.1;
      head = leb-true c.head h.records a.1;
    }

pub cell_from : (h : Sizes) (at : ℕ) (c : Cell) → IsSoundCell h at c → is_sound_cell h at c ≡ true
cell_from h at c is =
    let own = nat_lt h.signs at || nat_eq c.sign at in
    let unused = not (nat_eq c.sign 0) || (nat_eq c.child 0 && nat_eq c.head 0) in
    let own_is : own ≡ true = elim (cases_lt h.signs at) [
      | inl past ↦ or_left (nat_lt h.signs at) (nat_eq c.sign at) (lt-ltb h.signs at past)
      | inr low ↦ or_right (nat_lt h.signs at) (nat_eq c.sign at) (eq-eqb c.sign at (is.own low))
    ] in
    let unused_is : unused ≡ true = elim (cases_eq c.sign 0) [
      | inl zero ↦
          let p = is.unused zero in
          or_right (not (nat_eq c.sign 0)) (nat_eq c.child 0 && nat_eq c.head 0) (and_from (nat_eq c.child 0) (nat_eq c.head 0) (eq-eqb c.child 0 p.0) (eq-eqb c.head 0 p.1))
      | inr other ↦ or_left (not (nat_eq c.sign 0)) (nat_eq c.child 0 && nat_eq c.head 0) (not_from_false (nat_eq c.sign 0) (ne_eqb c.sign 0 other))
    ] in
    and_from (own && unused && nat_le c.sign h.signs && nat_lt c.child h.cells) (nat_le c.head h.records)
    (and_from (own && unused && nat_le c.sign h.signs) (nat_lt c.child h.cells)
    (and_from (own && unused) (nat_le c.sign h.signs)
    (and_from own unused own_is unused_is)
    (le-leb c.sign h.signs is.sign))
    (lt-ltb c.child h.cells is.child))
    (le-leb c.head h.records is.head)

pub record_told : (i : ℕ) (r : Record) → is_sound_record i r ≡ true → IsSoundRecord i r
record_told i r is =
    let a = and_parts (nat_le 1 r.value && nat_le r.value LEVEL_MAX && nat_le r.dot PATTERN_SIGNS_MAX) (nat_le r.next i) is in
    let b = and_parts (nat_le 1 r.value && nat_le r.value LEVEL_MAX) (nat_le r.dot PATTERN_SIGNS_MAX) a.0 in
    let d = and_parts (nat_le 1 r.value) (nat_le r.value LEVEL_MAX) b.0 in
    record { low = leb-true 1 r.value d.0; high = leb-true r.value LEVEL_MAX d.1; dot = leb-true r.dot PATTERN_SIGNS_MAX b.1; back = leb-true r.next i a.1 }

pub record_from : (i : ℕ) (r : Record) → IsSoundRecord i r → is_sound_record i r ≡ true
record_from i r is =
    and_from (nat_le 1 r.value && nat_le r.value LEVEL_MAX && nat_le r.dot PATTERN_SIGNS_MAX) (nat_le r.next i)
    (and_from (nat_le 1 r.value && nat_le r.value LEVEL_MAX) (nat_le r.dot PATTERN_SIGNS_MAX)
    (and_from (nat_le 1 r.value) (nat_le r.value LEVEL_MAX) (le-leb 1 r.value is.low) (le-leb r.value LEVEL_MAX is.high))
    (le-leb r.dot PATTERN_SIGNS_MAX is.dot))
    (le-leb r.next i is.back)

pub form_told : (b : List ℕ) → is_well_formed b ≡ true → IsWellFormed b
unfolding is_well_formed
form_told b is =
    let cells = list_all (λ at. is_sound_cell (sizes_of b) at (cell_at b at)) (range_with_len 0 (sizes_of b).cells) in
    let records = list_all (λ i. is_sound_record i (record_at b i)) (range_with_len 0 (sizes_of b).records) in
    let a = and_parts (has_sizes b && cells) records is in
    let d = and_parts (has_sizes b) cells a.0 in
    let e = and_parts (starts_with nat_eq b signature) (sizes_fit (sizes_of b) (length b)) d.0 in
    record {
      mark = e.0;
      sizes = fits_told (sizes_of b) (length b) e.1;
      cells = λ at inside. cell_told (sizes_of b) at (cell_at b at) (range_tells (λ k. is_sound_cell (sizes_of b) k (cell_at b k)) (sizes_of b).cells at d.1 inside);
      records = λ i inside. record_told i (record_at b i) (range_tells (λ k. is_sound_record k (record_at b k)) (sizes_of b).records i a.1 inside);
    }

pub form_from : (b : List ℕ) → IsWellFormed b → is_well_formed b ≡ true
unfolding is_well_formed
form_from b is =
    let cells = list_all (λ at. is_sound_cell (sizes_of b) at (cell_at b at)) (range_with_len 0 (sizes_of b).cells) in
    let records = list_all (λ i. is_sound_record i (record_at b i)) (range_with_len 0 (sizes_of b).records) in
    and_from (has_sizes b && cells) records
    (and_from (has_sizes b) cells
    (and_from (starts_with nat_eq b signature) (sizes_fit (sizes_of b) (length b)) is.mark (fits_from (sizes_of b) (length b) is.sizes))
    (range_passes (λ k. is_sound_cell (sizes_of b) k (cell_at b k)) 0 (sizes_of b).cells (λ i low inside. cell_from (sizes_of b) i (cell_at b i) (is.cells i (omega arith)))))
    (range_passes (λ k. is_sound_record k (record_at b k)) 0 (sizes_of b).records (λ i low inside. record_from i (record_at b i) (is.records i (omega arith))))

-- the tests of all cells and of all records, by the sizes of a table
abbrev pub cells_pass : List ℕ → Sizes → Bool
cells_pass b h = list_all (λ at. is_sound_cell h at (cell_at b at)) (range_with_len 0 h.cells)

abbrev pub records_pass : List ℕ → Sizes → Bool
records_pass b h = list_all (λ i. is_sound_record i (read_record b (record_start h.cells i))) (range_with_len 0 h.records)

-- the test of the form by its three parts
pub form_is : (b : List ℕ) (h : Sizes) (x y z : Bool) → has_sizes b ≡ x → h ≡ sizes_of b → cells_pass b h ≡ y → records_pass b h ≡ z → is_well_formed b ≡ (x && y && z)
unfolding is_well_formed
form_is b h x y z sizes same cells records =
    ap (λ k. has_sizes b && cells_pass b k && records_pass b k) (sym same) ∙ ap (λ w. w && cells_pass b h && records_pass b h) sizes
    ∙ ap (λ w. x && w && records_pass b h) cells ∙ ap (λ w. x && y && w) records

pub no_sizes : (b : List ℕ) → has_sizes b ≡ false → is_well_formed b ≡ false
no_sizes b none = form_is b (sizes_of b) false (cells_pass b (sizes_of b)) (records_pass b (sizes_of b)) none refl refl refl

pub no_cells : (b : List ℕ) (h : Sizes) → has_sizes b ≡ true → h ≡ sizes_of b → cells_pass b h ≡ false → is_well_formed b ≡ false
no_cells b h some same none = form_is b h true false (records_pass b h) some same none refl

pub no_records : (b : List ℕ) (h : Sizes) → has_sizes b ≡ true → h ≡ sizes_of b → cells_pass b h ≡ true → records_pass b h ≡ false → is_well_formed b ≡ false
no_records b h some same cells none = form_is b h true true false some same cells none
