-- The files of a list: what they hold by name, and their room.
use Rattle.std.specs.Prelude.{◌≡◌, ℕ, ◌<◌, List, [], ◌∷◌, ◌++◌, Bool, cond, map, length, slice_index_or, slice_set, Some, None, vec_capacity, string_bytes}
use Rattle.std.specs.Str.{bytes_eq}
use Rattle.std.specs.FinMap as fin
use Rattle.pg_outside.specs.Content.{FileMap}
use Rattle.pg_outside.specs.Inside.ToldFiles.{file_at}
use Rattle.pg_outside.specs.Inside.NameFaults.{NoneFell, SameCounts}
use Rattle.pg_outside.specs.declared.memory.stored.StoredFile.{StoredFile}

-- whether the file has this name
abbrev pub has_name : List ℕ → StoredFile → Bool
has_name name file = bytes_eq (string_bytes file.name) name

-- a file as its name and its bytes
abbrev pub name_and_bytes : StoredFile → List ℕ × List ℕ
name_and_bytes file = (string_bytes file.name, file.bytes.items)

-- what the files hold by name; of two files of one name the first counts
abbrev pub file_map : List StoredFile → FileMap
file_map files = fin.from_entries (map name_and_bytes files)

-- the view of the first file of this name, or the other value where there is none
abbrev pub of_name : {A : Type 0} → (StoredFile → A) → A → List StoredFile → List ℕ → A
of_name view none [] name = none
of_name view none (file ∷ files) name =
    cond (has_name name file) (view file) (of_name view none files name)

-- how many bytes the file of this name holds without more memory, and 0 where there is none
abbrev pub room_in : List StoredFile → List ℕ → ℕ
room_in files name = of_name (λ file. vec_capacity file.bytes) 0 files name

-- the first file of this name has this index, and this is what setting it anew does
pub record IsIndexOf (name : List ℕ) (files : List StoredFile) (index : ℕ) : Type 0 where
  pub within : index < length files
  pub there : (file : StoredFile) → file ≡ slice_index_or files index file
      → file_at (file_map files) name ≡ Some file.bytes.items
  pub room : (file : StoredFile) → file ≡ slice_index_or files index file
      → room_in files name ≡ vec_capacity file.bytes
  pub set_map : (file : StoredFile) → string_bytes file.name
      ≡ string_bytes (slice_index_or files index file).name
      → file_map (slice_set files index file) ≡ fin.insert (file_map files) name file.bytes.items
  pub set_room : (file : StoredFile) → string_bytes file.name
      ≡ string_bytes (slice_index_or files index file).name
      → (other : List ℕ) → room_in (slice_set files index file) other
      ≡ cond (bytes_eq other name) (vec_capacity file.bytes) (room_in files other)
  pub same_rooms : (file : StoredFile) → string_bytes file.name
      ≡ string_bytes (slice_index_or files index file).name
      → vec_capacity file.bytes ≡ vec_capacity (slice_index_or files index file).bytes
      → SameCounts (room_in files) (room_in (slice_set files index file))

-- no file has this name, and this is what one more file of this name does
pub record IsMissing (name : List ℕ) (files : List StoredFile) : Type 0 where
  pub missing : file_at (file_map files) name ≡ None
  pub push_map : (file : StoredFile) → string_bytes file.name ≡ name
      → file_map (files ++ file ∷ []) ≡ fin.insert (file_map files) name file.bytes.items
  pub push_room : (file : StoredFile) → string_bytes file.name ≡ name → (other : List ℕ)
      → room_in (files ++ file ∷ []) other
      ≡ cond (bytes_eq other name) (vec_capacity file.bytes) (room_in files other)
  pub rooms : (file : StoredFile) → string_bytes file.name ≡ name
      → NoneFell (room_in files) (room_in (files ++ file ∷ []))
