-- What a call reads, writes and puts, where it is told, and what every read and write leaves.
use Rattle.std.specs.Prelude.{◌≡◌, ℕ, ◌+◌, ◌<◌, ◌≤◌, List, [], ◌∷◌, ◌++◌, take, length, Option, Some, MatchOption, IfSome, Result, OnOk, OnErr, IsErrOf}
use Rattle.std.specs.FinMap as map
use Rattle.pg_outside.specs.Content.{FileMap, FilesShown, Told, HasPart}
use Rattle.pg_outside.specs.FilesCalls.{Reads, Writes}
use Rattle.pg_outside.specs.Inside.NameFaults.{RoseFor, NoneFell}
use Rattle.pg_outside.specs.declared.outside.ReadError.{ReadError}
use Rattle.pg_outside.specs.declared.outside.ReadError.TheVariants as error

-- the file of this name, if there is one
abbrev pub file_at : FileMap → List ℕ → Option (List ℕ)
file_at files name = map.get files name

-- files that are told after the call were told before it, and are the same
abbrev pub KeepsHeld : Option FileMap → Option FileMap → Type 0
KeepsHeld old new = IfSome new (λ files. old ≡ Some files)

-- where the sink's bytes are told after the call, they are those told before it and then this text
abbrev pub WasPut : Option (List ℕ) → Option (List ℕ) → List ℕ → Type 0
WasPut old new text = Told old new (λ before after. after ≡ before ++ text)

-- where the sink's bytes are told, they are those told before and then a prefix of this text
abbrev pub WasPartPut : Option (List ℕ) → Option (List ℕ) → List ℕ → Type 0
WasPartPut old new text =
    Told old new (λ before after. (kept : ℕ) × (after ≡ before ++ take kept text))

-- the file has more bytes than the limit, and these are its first limit + 1 bytes
abbrev pub IsTooLong : Option (List ℕ) → ℕ → List ℕ → Type 0
IsTooLong file limit front = MatchOption file ⊥
    (λ bytes. (limit < length bytes) × (front ≡ take (limit + 1) bytes))

-- where files are told, the file of this name is these bytes
abbrev pub IsFile : Option FileMap → List ℕ → List ℕ → Type 0
IsFile held name bytes = IfSome held (λ files. file_at files name ≡ Some bytes)

-- where files are told, this one is longer than the limit, and these are its first limit + 1 bytes
abbrev pub IsFileCut : Option FileMap → List ℕ → ℕ → List ℕ → Type 0
IsFileCut held name limit front = IfSome held (λ files. IsTooLong (file_at files name) limit front)

-- where files are told after the call, they are those told before with these bytes in this file
abbrev pub WasWritten : Option FileMap → Option FileMap → List ℕ → List ℕ → Type 0
WasWritten old new name bytes = Told old new (λ before after. after ≡ map.insert before name bytes)

-- where files are told, this one is as it was or a prefix of these bytes, and no other changed
abbrev pub WasPartWritten : Option FileMap → Option FileMap → List ℕ → List ℕ → Type 0
WasPartWritten old new name bytes = Told old new (λ before after. HasPart before after name bytes)

-- what a read of at most so many bytes gives, and what it leaves of what files show
pub record IsReadOf {T : Type 0} (result : Result T ReadError) (name : List ℕ) (limit : ℕ)
    (bytes : List ℕ) (old new : FilesShown) : Type 0 where
  -- every read leaves the files as they were, and no count falls
  pub held : KeepsHeld old.held new.held
  pub reads : NoneFell old.read_faults new.read_faults
  pub writes : NoneFell old.write_faults new.write_faults
  -- the call is one more
  pub calls : new.calls ≡ old.calls ++ Reads name ∷ []
  -- the lengths hold whether the files are told or not
  pub fits : OnOk result (length bytes ≤ limit)
  pub cut : IsErrOf result error.TooLong → length bytes ≡ limit + 1
  -- where the files are told, the bytes are those of the file
  pub file : OnOk result (IsFile new.held name bytes)
  pub cut_file : IsErrOf result error.TooLong → IsFileCut new.held name limit bytes
  -- it fails only where a fault of reading this name is counted
  pub failed : IsErrOf result error.Failed → RoseFor old.read_faults new.read_faults name

-- what a write of these bytes leaves of what files show
pub record IsWriteOf {T E : Type 0} (result : Result T E) (name bytes : List ℕ)
    (old new : FilesShown) : Type 0 where
  -- where the files are told, the file is these bytes, or else as it was or a prefix of them
  pub whole : OnOk result (WasWritten old.held new.held name bytes)
  pub part : OnErr result (WasPartWritten old.held new.held name bytes)
  -- no count falls, and it fails only where a fault of writing this name is counted
  pub reads : NoneFell old.read_faults new.read_faults
  pub writes : NoneFell old.write_faults new.write_faults
  pub failed : OnErr result (RoseFor old.write_faults new.write_faults name)
  -- the call is one more
  pub calls : new.calls ≡ old.calls ++ Writes name ∷ []
