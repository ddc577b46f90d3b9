-- The records of a file as a list.
use Rattle.std.proofs.Common.{◌≡◌, ℕ, ◌+◌, ◌<◌, List, [], ◌∷◌, length, slice_get, Some, ◌∙◌, ap, arith}
use Rattle.std.proofs.lemmas.List.FromFn.{length-map-range_with_len, get_or-map-range_with_len}
use Rattle.std.proofs.lemmas.Option.{slice_get-get_or}
use Rattle.pg_outputs.proofs.ListLaws.{list_of-at, list_of-zero}
use Rattle.pg_table.specs.Forms.{sizes_of, record_at, records_of}
use Rattle.pg_table.specs.Inside.view.ListsOf.{list_in}
use Rattle.pg_table.proofs.parts.FormLaws.{IsWellFormed}

pub length-records : (b : List ℕ) → length (records_of b) ≡ (sizes_of b).records
length-records b = length-map-range_with_len (record_at b) 0 (sizes_of b).records

pub record_there : (b : List ℕ) (i : ℕ) → i < (sizes_of b).records → slice_get (records_of b) i ≡ Some (record_at b i)
record_there b i inside =
    let size : length (records_of b) ≡ (sizes_of b).records = length-records b in
    let within : i < length (records_of b) = omega arith in
    let at : 0 + i ≡ i = omega arith in
    slice_get-get_or (records_of b) i (record_at b i) within ∙ ap Some (get_or-map-range_with_len (record_at b) 0 (sizes_of b).records i i (record_at b i) inside at)

-- head 0 is the empty list
pub list_in-zero : (b : List ℕ) → list_in b 0 ≡ []
list_in-zero b = list_of-zero (records_of b)

-- and each other head that of its record, before the list at its next
pub list_in-at : (b : List ℕ) → IsWellFormed b → (i : ℕ) → i < (sizes_of b).records → list_in b (i + 1) ≡ ((record_at b i).value, (record_at b i).dot) ∷ list_in b (record_at b i).next
list_in-at b form i inside = list_of-at (records_of b) i (record_at b i) (record_there b i inside) (form.records i inside).back
