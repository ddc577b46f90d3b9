-- What one call on files or on a sink leaves. No count ever falls.
use Rattle.std.specs.Prelude.{◌≡◌, ℕ, ◌≤◌, List, [], ◌∷◌, ◌++◌, take, Some, ◌⊎◌, codes}
use Rattle.std.specs.FinMap as map
use Rattle.pg_outside.specs.Content.{FileMap, FilesShown, SinkShown, Told, HasPart}
use Rattle.pg_outside.specs.Faults.{Rose, next_count}
use Rattle.pg_outside.specs.FilesCalls.{FilesCall, Reads, Writes}

-- this call was made on files, and P holds of the files before and after it
pub record Makes (call : FilesCall) (P : FileMap → FileMap → Type 0)
    (old new : FilesShown) : Type 0 where
  pub calls : new.calls ≡ old.calls ++ call ∷ []
  pub held : Told old.held new.held P
  pub reads : (name : List ℕ) → old.read_faults name ≤ new.read_faults name
  pub writes : (name : List ℕ) → old.write_faults name ≤ new.write_faults name

-- a file was asked for, and no file changed
abbrev pub Asks : List ℕ → FilesShown → FilesShown → Type 0
Asks name = Makes (Reads name) (λ before after. after ≡ before)

-- a file was read, and these are its bytes
abbrev pub Gets : List ℕ → List ℕ → FilesShown → FilesShown → Type 0
Gets name bytes = Makes (Reads name)
    (λ before after. (after ≡ before) × (map.get before name ≡ Some bytes))

-- a file was set to these bytes
abbrev pub Sets : List ℕ → List ℕ → FilesShown → FilesShown → Type 0
Sets name bytes = Makes (Writes name) (λ before after. after ≡ map.insert before name bytes)

-- a file could not be written: it is as before or a part of these bytes
abbrev pub SetsPart : List ℕ → List ℕ → FilesShown → FilesShown → Type 0
SetsPart name bytes old new = Rose (old.write_faults name) (new.write_faults name)
    × Makes (Writes name) (λ before after. HasPart before after name bytes) old new

-- one put was made, and P holds of the text before and after it
pub record MakesPut (P : List ℕ → List ℕ → Type 0) (old new : SinkShown) : Type 0 where
  pub puts : new.puts ≡ next_count old.puts
  pub text : Told old.text new.text P
  pub faults : old.faults ≤ new.faults

-- a text was put
abbrev pub Puts : List ℕ → SinkShown → SinkShown → Type 0
Puts text = MakesPut (λ before after. after ≡ before ++ text)

-- a text could not be put, and a part of it was
abbrev pub PutsPart : List ℕ → SinkShown → SinkShown → Type 0
PutsPart text old new = Rose old.faults new.faults
    × MakesPut (λ before after. (kept : ℕ) × (after ≡ before ++ take kept text)) old new

-- texts were put one after the other, up to the first that could not be
abbrev pub PutsEach : List (List ℕ) → SinkShown → SinkShown → Type 0
PutsEach [] old new = new ≡ old
PutsEach (text ∷ texts) old new = PutsPart text old new
    ⊎ ((mid : SinkShown) × Puts text old mid × PutsEach texts mid new)

-- the line of a fault was put, in its three parts
abbrev pub PutsFault : List ℕ → List ℕ → SinkShown → SinkShown → Type 0
PutsFault front name = PutsEach (front ∷ name ∷ codes "\n" ∷ [])
