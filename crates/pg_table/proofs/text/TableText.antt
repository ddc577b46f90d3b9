-- The packed table file of patterns is well formed, and gives each string the values of the patterns.
use Rattle.std.proofs.Common.{◌≡◌, ℕ, Vec, Global, Result, Ok, Err, IfOk, OnOk, ◌+◌, ◌*◌, ◌<◌, ◌≤◌, inl, inr, Bool, true, false, List, [], ◌∷◌, length, map, get_or, slice_get, Option, None, Some, refl, sym, ◌∙◌, ap, subst, arith}
use Rattle.std.specs.List.{range_with_len}
use Rattle.std.specs.Option.{option_map}
use Rattle.std.proofs.lemmas.Bool.{cases_lt, false≢true}
use Rattle.std.proofs.lemmas.List.{length-map}
use Rattle.std.proofs.lemmas.List.FromFn.{length-map-range_with_len, get_or-map-range_with_len}
use Rattle.std.proofs.lemmas.Option.{slice_get-map, slice_get-get_or, get_or_from_slice_get}
use Rattle.pg_types.specs.declared.limits.TheConstants.{SIGNS_MAX}
use Rattle.pg_types.specs.Placement.{top}
use Rattle.pg_types.specs.Inside.Placing.{cell_of}
use Rattle.pg_types.specs.Tails.{outputs_of}
use Rattle.pg_patterns.specs.Values.{Patterns, value_of}
use Rattle.pg_patterns.specs.Inside.PatternMaps.{IsPatternMap}
use Rattle.pg_cells.specs.Inside.linked.ValuedFamilies.{ValuedFamilies}
use Rattle.pg_outputs.specs.declared.records.Record.{Record}
use Rattle.pg_outputs.specs.Lists.{list_of}
use Rattle.pg_table.specs.declared.parts.cell.Cell.{Cell}
use Rattle.pg_table.specs.declared.error.TableError.{TableError}
use Rattle.pg_types.specs.declared.packed_table.TheConstants.{CELL_LEN, HEAD_LEN, RECORD_LEN, TABLE_MAX}
use Rattle.pg_table.specs.Inside.Laws.{HasEntries}
use Rattle.pg_table.specs.Forms.{is_well_formed}
use Rattle.pg_table.specs.Lookups.{lookup, table_entry}
use Rattle.pg_table.specs.Inside.view.Greatest.{value_in_list}
use Rattle.pg_table.proofs.laws.Greatest.{entry_as}
use Rattle.pg_table.specs.Inside.text.PackedTrie.{IsPacked, IsEntered}
use Rattle.pg_table.specs.Inside.text.Sharing.{value_and_dot}
use Rattle.pg_table.specs.Texts.{recorded_lists, table_text}
use Rattle.pg_table.specs.Inside.text.Files.{table_cells, table_records, file_of, cell_of_table, head_in, record_of}
use Rattle.pg_table.proofs.parts.FormLaws.{IsSoundCell, IsSoundRecord, form_from}
use Rattle.pg_table.proofs.text.FileParts.{AreSmall, sizes_with, sizes_are, cell_is, file_sound, records_are_those, length-file_of}
use Rattle.pg_table.proofs.text.Recorded.{head_within}
use Rattle.pg_table.proofs.text.RecordedStrings.{recorded_ordered, recorded_known}
use Rattle.pg_table.proofs.text.TableBytes.{text_parts}
use Rattle.pg_table.proofs.text.TableCells.{cell_within, cells_sound}
use Rattle.pg_table.proofs.view.TableLookups.{HasCells, lookup_with, lookup_without}
use Rattle.pg_table.proofs.text.TableRecords.{sound_record, listed, entry_is}

module _ (n : ℕ) (P : Patterns) (h : ValuedFamilies ℕ) (sound : IsPatternMap P) (packed : IsPacked n P h) where
  abbrev cells : List Cell
  cells = map (cell_of_table h.families (head_in P)) (range_with_len 0 (top h.families + 1))

  abbrev records : List Record
  records = table_records P

  pub cells_are : table_cells n P ≡ cells
  cells_are = ap (λ fs. map (cell_of_table fs (head_in P)) (range_with_len 0 (top fs + 1))) (sym packed.families)

  pub text_is : table_text n P ≡ file_of n cells records
  text_is = sym (text_parts n P sound) ∙ ap (λ c. file_of n c records) cells_are

  length-cells : length cells ≡ top h.families + 1
  length-cells = length-map-range_with_len (cell_of_table h.families (head_in P)) 0 (top h.families + 1)

  length-records : length records ≡ length (recorded_lists P)
  length-records = length-map (recorded_lists P) (record_of (recorded_lists P))

  pub length-text : length (table_text n P) ≡ HEAD_LEN + CELL_LEN * (top h.families + 1) + RECORD_LEN * length (recorded_lists P)
  length-text =
      ap length text_is ∙ length-file_of n cells records ∙ ap (λ k. HEAD_LEN + CELL_LEN * k + RECORD_LEN * length records) length-cells
      ∙ ap (λ k. HEAD_LEN + CELL_LEN * (top h.families + 1) + RECORD_LEN * k) length-records

  cell_there : (at : ℕ) (d : Cell) → at < top h.families + 1 → get_or cells at d ≡ cell_of_table h.families (head_in P) at
  cell_there at d inside = get_or-map-range_with_len (cell_of_table h.families (head_in P)) 0 (top h.families + 1) at at d inside (omega arith)

  module _ (some : 1 ≤ n) (few : n ≤ SIGNS_MAX) (short : length (table_text n P) ≤ TABLE_MAX) where
    small : AreSmall n cells records
    small = record {
      short = omega (arith, length-text, length-cells, length-records);
      some = some;
      few = few;
      rooted = omega (arith, length-cells, packed.signs, cell_within h packed.held (n ∷ []) n (packed.held.alone n some (omega (arith, packed.signs))));
      cells_sound = λ at c inside is.
          let within : at < top h.families + 1 = omega (arith, length-cells) in
          let that : cell_of_table h.families (head_in P) at ≡ c = sym (cell_there at c within) ∙ is in
          subst (IsSoundCell (sizes_with n cells records) at) that
          (cells_sound h packed.held (head_in P) (length records) (λ q. omega (arith, head_within (recorded_lists P) (outputs_of P q), length-records))
          (sizes_with n cells records) (sym packed.signs) length-cells refl at);
      records_sound = λ i r inside is.
          let within : i < length (recorded_lists P) = omega (arith, length-records) in
          let l : List (ℕ × ℕ) = get_or (recorded_lists P) i [] in
          let at : slice_get (recorded_lists P) i ≡ Some l = slice_get-get_or (recorded_lists P) i [] within in
          let there : slice_get records i ≡ Some (record_of (recorded_lists P) l) = slice_get-map (record_of (recorded_lists P)) (recorded_lists P) i
          ∙ ap (option_map (record_of (recorded_lists P))) at in
          let that : record_of (recorded_lists P) l ≡ r = sym (get_or_from_slice_get records i (record_of (recorded_lists P) l) r there) ∙ is in
          subst (IsSoundRecord i) that (sound_record (recorded_lists P) (recorded_ordered P sound.sound) i l at);
    }

    pub text_sound : is_well_formed (table_text n P) ≡ true
    text_sound = ap is_well_formed text_is ∙ form_from (file_of n cells records) (file_sound n cells records small)

    has_cells : HasCells (file_of n cells records) h.families (head_in P)
    has_cells = record {
      count = ap (λ k. k.cells) (sizes_are n cells records small) ∙ length-cells;
      each = λ at inside.
          let c : Cell = cell_of_table h.families (head_in P) at in cell_is n cells records small at c (omega (arith, length-cells)) (cell_there at c inside);
    }

    -- the list of each string
    pub text_lists : (q : List ℕ) → lookup (table_text n P) q ≡ map value_and_dot (outputs_of P q)
    text_lists q = ap (λ b. lookup b q) text_is ∙ by (cell_of h.families q) refl
      where
        by : (o : Option ℕ) → cell_of h.families q ≡ o → lookup (file_of n cells records) q ≡ map value_and_dot (outputs_of P q)
        by (Some c) is =
            lookup_with (file_of n cells records) h packed.held (head_in P) has_cells q c is
            ∙ ap (λ rs. list_of rs (head_in P q)) (records_are_those n cells records small)
            ∙ listed (recorded_lists P) (recorded_ordered P sound.sound) (outputs_of P q) (recorded_known P sound.sound q)
        by None none =
            lookup_without (file_of n cells records) h packed.held (head_in P) has_cells q none ∙ sym (ap (map value_and_dot) nothing)
          where
            nothing : outputs_of P q ≡ []
            nothing = none_from (outputs_of P q) refl
              where
                none_from : (l : List (ℕ × ℕ)) → outputs_of P q ≡ l → outputs_of P q ≡ []
                none_from [] e = e
                none_from (x ∷ l) e = let cell = packed.entered q (λ z. cc) in let f : None ≡ Some cell.0 = sym none ∙ cell.1 in cc

    -- and its values are those of the patterns
    pub text_entries : (q : List ℕ) (d : ℕ) → table_entry (table_text n P) q d ≡ value_of P (q, d)
    text_entries q d = entry_as (table_text n P) q d ∙ ap (value_in_list d) (text_lists q) ∙ entry_is P q d sound

-- the length of the file
pub text_size : (n : ℕ) (P : Patterns) (h : ValuedFamilies ℕ) (rs : List Record) → IsPatternMap P → IsEntered n P h rs → length (table_text n P)
    ≡ HEAD_LEN + CELL_LEN * (top h.families + 1) + RECORD_LEN * length rs
text_size n P h rs sound entered =
    let size : length rs ≡ length (recorded_lists P) = ap length entered.records_are ∙ length-map (recorded_lists P) (record_of (recorded_lists P)) in
    length-text n P h sound entered.packed ∙ ap (λ k. HEAD_LEN + CELL_LEN * (top h.families + 1) + RECORD_LEN * k) (sym size)

pub length-table_cells : (n : ℕ) (P : Patterns) (h : ValuedFamilies ℕ) → IsPatternMap P → IsPacked n P h → length (table_cells n P) ≡ top h.families + 1
length-table_cells n P h sound packed = ap length (cells_are n P h sound packed) ∙ length-cells n P h sound packed

-- the text by its parts
pub text_of : (n : ℕ) (P : Patterns) (cs : List Cell) (rs : List Record) (text : List ℕ) → IsPatternMap P → text ≡ file_of n cs rs → cs ≡ table_cells n P → rs ≡ table_records P → text ≡ table_text n P
text_of n P cs rs text sound is cells_is records_is = is ∙ ap (λ c. file_of n c rs) cells_is ∙ ap (file_of n (table_cells n P)) records_is ∙ text_parts n P sound

-- a result that is the text, where there is one, is a table that gives the values of the patterns
module _ (n : ℕ) (P : Patterns) (h : ValuedFamilies ℕ) (records : List Record) (entered : IsEntered n P h records) (some : 1 ≤ n) (few : n ≤ SIGNS_MAX) where
  pub sound_text : (r : Result (Vec ℕ Global) TableError) → OnOk r (length (table_text n P) ≤ TABLE_MAX) → IfOk r (λ text. text.items ≡ table_text n P)
      → IfOk r (λ text. is_well_formed text.items ≡ true)
  sound_text (Ok text) short is = ap is_well_formed is ∙ text_sound n P h entered.sound entered.packed some few short
  sound_text (Err e) short is = tt

  pub entries_text : (r : Result (Vec ℕ Global) TableError) → OnOk r (length (table_text n P) ≤ TABLE_MAX) → IfOk r (λ text. text.items ≡ table_text n P) → IfOk r (λ text. HasEntries text.items P)
  entries_text (Ok text) short is = λ q d. ap (λ b. table_entry b q d) is ∙ text_entries n P h entered.sound entered.packed some few short q d
  entries_text (Err e) short is = tt

-- what holds in any case, holds of a table that is made
pub on_any : {T E P : Type 0} (result : Result T E) → P → IfOk result (λ _. P)
on_any (Ok value) holds = holds
on_any (Err error) holds = tt

-- a file that a test does not find too long is short enough
pub fits : (n : ℕ) (P : Patterns) (h : ValuedFamilies ℕ) (rs : List Record) → IsPatternMap P → IsEntered n P h rs → (b : Bool)
    → (TABLE_MAX < HEAD_LEN + CELL_LEN * (top h.families + 1) + RECORD_LEN * length rs → b ≡ true) → b ≡ false → length (table_text n P) ≤ TABLE_MAX
fits n P h rs sound entered b long fails = elim (cases_lt TABLE_MAX (HEAD_LEN + CELL_LEN * (top h.families + 1) + RECORD_LEN * length rs)) [
  | inl past ↦ absurd (false≢true (sym fails ∙ long past))
  | inr low ↦ omega (arith, text_size n P h rs sound entered)
]
