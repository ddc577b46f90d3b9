-- The cells and records of a file that was made of them.
use Rattle.std.proofs.Common.{◌≡◌, ℕ, ◌+◌, ◌<◌, ◌≤◌, true, nat_eq, List, [], ◌∷◌, ◌++◌, length, get_or, slice_index, refl, sym, ◌∙◌, ap, subst, arith, map, length-append}
use Rattle.std.specs.List.{flat_map, range_with_len, starts_with}
use Rattle.std.proofs.lemmas.List.{append-nil, get_or_default}
use Rattle.std.proofs.lemmas.List.FromFn.{fill_by_all}
use Rattle.pg_types.specs.declared.limits.TheConstants.{SIGNS_MAX}
use Rattle.pg_outputs.specs.declared.records.Record.{Record}
use Rattle.pg_table.specs.declared.parts.cell.Cell.{Cell}
use Rattle.pg_table.specs.declared.parts.sizes.Sizes.{Sizes}
use Rattle.pg_types.specs.declared.packed_table.TheConstants.{TABLE_MAX}
use Rattle.pg_table.specs.Numbers.{number_of_bytes, bytes_of_number}
use Rattle.pg_table.specs.Forms.{sizes_of, cell_at, record_at, records_of}
use Rattle.pg_table.specs.Inside.Extents.{cell_start, record_start, read_record, file_len}
use Rattle.pg_table.specs.Inside.text.Files.{file_of, cell_bytes, record_bytes, signature}
use Rattle.pg_table.proofs.parts.FormLaws.{IsSoundCell, IsSoundRecord, IsWellFormed}
use Rattle.pg_table.proofs.ByteParts.{HasPart, part_first, part_rest, part_byte, part_of, u16_part, u32_part, length-parts, length-bytes}

pub length-cell_bytes : (c : Cell) → length (cell_bytes c) ≡ 10
length-cell_bytes c =
    omega (
      arith,
      length-append (bytes_of_number 2 c.sign ++ bytes_of_number 4 c.child) (bytes_of_number 4 c.head),
      length-append (bytes_of_number 2 c.sign) (bytes_of_number 4 c.child),
      length-bytes 2 c.sign,
      length-bytes 4 c.child,
      length-bytes 4 c.head,
    )

pub length-record_bytes : (r : Record) → length (record_bytes r) ≡ 6
length-record_bytes r = omega (arith, length-bytes 4 r.next)

-- the sizes that a file with these cells and records has
abbrev pub sizes_with : ℕ → List Cell → List Record → Sizes
sizes_with n cells records = record { signs = n; cells = length cells; records = length records }

-- the bytes before the cells
abbrev front : ℕ → List Cell → List Record → List ℕ
front n cells records = signature ++ bytes_of_number 4 n ++ bytes_of_number 4 (length cells) ++ bytes_of_number 4 (length records)

length-front : (n : ℕ) (cells : List Cell) (records : List Record) → length (front n cells records) ≡ 16
length-front n cells records =
    omega (
      arith,
      length-append (signature ++ bytes_of_number 4 n ++ bytes_of_number 4 (length cells)) (bytes_of_number 4 (length records)),
      length-append (signature ++ bytes_of_number 4 n) (bytes_of_number 4 (length cells)),
      length-append signature (bytes_of_number 4 n),
      length-bytes 4 n,
      length-bytes 4 (length cells),
      length-bytes 4 (length records),
    )

pub length-file_of : (n : ℕ) (cells : List Cell) (records : List Record) → length (file_of n cells records) ≡ file_len (sizes_with n cells records)
length-file_of n cells records =
    omega (
      arith,
      length-append (front n cells records ++ flat_map cell_bytes cells) (flat_map record_bytes records),
      length-append (front n cells records) (flat_map cell_bytes cells),
      length-front n cells records,
      length-parts cell_bytes 10 length-cell_bytes cells,
      length-parts record_bytes 6 length-record_bytes records,
    )

pub has_mark : (n : ℕ) (cells : List Cell) (records : List Record) → starts_with nat_eq (file_of n cells records) signature ≡ true
has_mark n cells records = refl

-- the numbers of a file are below 2^32
pub record AreSmall (n : ℕ) (cells : List Cell) (records : List Record) : Type 0 where
  pub short : file_len (sizes_with n cells records) ≤ TABLE_MAX
  pub some : 1 ≤ n
  pub few : n ≤ SIGNS_MAX
  pub rooted : n < length cells
  pub cells_sound : (at : ℕ) (c : Cell) → at < length cells → get_or cells at c ≡ c → IsSoundCell (sizes_with n cells records) at c
  pub records_sound : (i : ℕ) (r : Record) → i < length records → get_or records i r ≡ r → IsSoundRecord i r

module _ (n : ℕ) (cells : List Cell) (records : List Record) (small : AreSmall n cells records) where
  abbrev b : List ℕ
  b = file_of n cells records

  whole : HasPart b 0 (file_of n cells records)
  whole = record { before = []; after = []; whole = sym (append-nil (file_of n cells records)); at = refl }

  in_front : HasPart b 0 (front n cells records)
  in_front = part_first b 0 (front n cells records) (flat_map cell_bytes cells) (part_first b 0 (front n cells records ++ flat_map cell_bytes cells) (flat_map record_bytes records) whole)

  three : HasPart b 0 (signature ++ bytes_of_number 4 n ++ bytes_of_number 4 (length cells))
  three = part_first b 0 (signature ++ bytes_of_number 4 n ++ bytes_of_number 4 (length cells)) (bytes_of_number 4 (length records)) in_front

  two : HasPart b 0 (signature ++ bytes_of_number 4 n)
  two = part_first b 0 (signature ++ bytes_of_number 4 n) (bytes_of_number 4 (length cells)) three

  pub sizes_are : sizes_of b ≡ sizes_with n cells records
  sizes_are =
      let len_two : length (signature ++ bytes_of_number 4 n) ≡ 8 = omega (arith, length-append signature (bytes_of_number 4 n), length-bytes 4 n) in
      let len_three : length (signature ++ bytes_of_number 4 n ++ bytes_of_number 4 (length cells)) ≡ 12 =
      omega (arith, length-append (signature ++ bytes_of_number 4 n) (bytes_of_number 4 (length cells)), length-bytes 4 (length cells)) in
      let signs : number_of_bytes 4 b 4 ≡ n = u32_part b 4 n (part_rest b 0 4 signature (bytes_of_number 4 n) two refl) (omega (arith, small.few)) in
      let count : number_of_bytes 4 b 8 ≡ length cells = u32_part b 8 (length cells) (part_rest b 0 8 (signature ++ bytes_of_number 4 n) (bytes_of_number 4 (length cells)) three (omega arith)) (omega (arith, small.short)) in
      let listed : number_of_bytes 4 b 12 ≡ length records =
      u32_part b 12 (length records) (part_rest b 0 12 (signature ++ bytes_of_number 4 n ++ bytes_of_number 4 (length cells)) (bytes_of_number 4 (length records)) in_front (omega arith)) (omega (arith, small.short)) in
      λ i. record { signs = signs i; cells = count i; records = listed i }

  in_cells : HasPart b 16 (flat_map cell_bytes cells)
  in_cells =
      part_rest b 0 16 (front n cells records) (flat_map cell_bytes cells) (part_first b 0 (front n cells records ++ flat_map cell_bytes cells) (flat_map record_bytes records) whole)
      (omega (arith, length-front n cells records))

  pub cell_is : (at : ℕ) (c : Cell) → at < length cells → get_or cells at c ≡ c → cell_at b at ≡ c
  cell_is at c inside is =
      let sound = small.cells_sound at c inside is in
      let has : HasPart b (cell_start at) (cell_bytes c) = part_of cell_bytes 10 length-cell_bytes b 16 (cell_start at) cells at c in_cells inside is refl in
      let first = part_first b (cell_start at) (bytes_of_number 2 c.sign ++ bytes_of_number 4 c.child) (bytes_of_number 4 c.head) has in
      let len : length (bytes_of_number 2 c.sign ++ bytes_of_number 4 c.child) ≡ 6 = omega (arith, length-append (bytes_of_number 2 c.sign) (bytes_of_number 4 c.child), length-bytes 2 c.sign, length-bytes 4 c.child) in
      let sign : number_of_bytes 2 b (cell_start at) ≡ c.sign = u16_part b (cell_start at) c.sign (part_first b (cell_start at) (bytes_of_number 2 c.sign) (bytes_of_number 4 c.child) first)
      (omega (arith, sound.sign, small.few)) in
      let child : number_of_bytes 4 b (cell_start at + 2) ≡ c.child =
      u32_part b (cell_start at + 2) c.child (part_rest b (cell_start at) (cell_start at + 2) (bytes_of_number 2 c.sign) (bytes_of_number 4 c.child) first (omega (arith, length-bytes 2 c.sign)))
      (omega (arith, sound.child, small.short)) in
      let head : number_of_bytes 4 b (cell_start at + 6) ≡ c.head =
      u32_part b (cell_start at + 6) c.head (part_rest b (cell_start at) (cell_start at + 6) (bytes_of_number 2 c.sign ++ bytes_of_number 4 c.child) (bytes_of_number 4 c.head) has (omega arith))
      (omega (arith, sound.head, small.short)) in
      λ i. record { sign = sign i; child = child i; head = head i }

  in_records : HasPart b (cell_start (length cells)) (flat_map record_bytes records)
  in_records =
      part_rest b 0 (cell_start (length cells)) (front n cells records ++ flat_map cell_bytes cells) (flat_map record_bytes records) whole
      (omega (arith, length-append (front n cells records) (flat_map cell_bytes cells), length-front n cells records, length-parts cell_bytes 10 length-cell_bytes cells))

  pub record_is : (i : ℕ) (r : Record) → i < length records → get_or records i r ≡ r → record_at b i ≡ r
  record_is i r inside is =
      let sound = small.records_sound i r inside is in
      let start : ℕ = record_start (length cells) i in
      let has : HasPart b start (record_bytes r) = part_of record_bytes 6 length-record_bytes b (cell_start (length cells)) start records i r in_records inside is refl in
      let zero : start + 0 ≡ start = omega arith in
      let size : length (record_bytes r) ≡ 6 = length-record_bytes r in
      let value : slice_index b start ≡ r.value = ap (slice_index b) (sym zero) ∙ part_byte b start 0 (record_bytes r) has (omega arith) in
      let dot : slice_index b (start + 1) ≡ r.dot = part_byte b start 1 (record_bytes r) has (omega arith) in
      let next : number_of_bytes 4 b (start + 2) ≡ r.next = u32_part b (start + 2) r.next (part_rest b start (start + 2) (r.value ∷ r.dot ∷ []) (bytes_of_number 4 r.next) has refl)
      (omega (arith, sound.back, small.short)) in
      let here : record_at b i ≡ read_record b start = ap (λ (h : Sizes). read_record b (record_start h.cells i)) sizes_are in
      here ∙ (λ t. record { value = value t; dot = dot t; next = next t })

  pub file_sound : IsWellFormed b
  file_sound = record {
    mark = has_mark n cells records;
    sizes = record {
      whole = length-file_of n cells records ∙ ap file_len (sym sizes_are);
      small = omega (arith, length-file_of n cells records, small.short);
      some = omega (arith, signs_is, small.some);
      few = omega (arith, signs_is, small.few);
      rooted = omega (arith, signs_is, cells_are, small.rooted);
    };
    cells = λ at inside.
        let within : at < length cells = omega (arith, cells_are) in
        let c : Cell = get_or cells at (record { sign = 0; child = 0; head = 0 }) in
        let is : get_or cells at c ≡ c = get_or_default cells at c (record { sign = 0; child = 0; head = 0 }) within in
        subst (λ h. IsSoundCell h at (cell_at b at)) (sym sizes_are) (subst (λ x. IsSoundCell (sizes_with n cells records) at x) (sym (cell_is at c within is)) (small.cells_sound at c within is));
    records = λ i inside.
        let within : i < length records = omega (arith, records_are) in
        let r : Record = get_or records i (record { value = 0; dot = 0; next = 0 }) in
        let is : get_or records i r ≡ r = get_or_default records i r (record { value = 0; dot = 0; next = 0 }) within in
        subst (λ x. IsSoundRecord i x) (sym (record_is i r within is)) (small.records_sound i r within is);
  }
    where
      signs_is : (sizes_of b).signs ≡ n
      signs_is = ap (λ (h : Sizes). h.signs) sizes_are

      cells_are : (sizes_of b).cells ≡ length cells
      cells_are = ap (λ (h : Sizes). h.cells) sizes_are

      records_are : (sizes_of b).records ≡ length records
      records_are = ap (λ (h : Sizes). h.records) sizes_are

  -- the records of the file are those that it was made of
  pub records_are_those : records_of b ≡ records
  records_are_those =
      let count : (sizes_of b).records ≡ length records = ap (λ (h : Sizes). h.records) sizes_are in
      ap (λ k. map (record_at b) (range_with_len 0 k)) count ∙ sym (fill_by_all (record_at b) records (length records) (record { value = 0; dot = 0; next = 0 }) refl (λ k inside.
      let r : Record = get_or records k (record { value = 0; dot = 0; next = 0 }) in
      let is : get_or records k r ≡ r = get_or_default records k r (record { value = 0; dot = 0; next = 0 }) inside in
      sym (record_is k r inside is)))
