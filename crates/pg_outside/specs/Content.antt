-- What files and sinks hold, told or not, and what a call may change of it.
use Rattle.std.specs.Prelude.{◌≡◌, ℕ, List, take, Option, MatchOption, IfSome, ◌⊎◌}
use Rattle.std.specs.Cmp.Lexicographic.{slice_cmp}
use Rattle.std.specs.Ordering.{nat_cmp}
use Rattle.std.specs.FinMap as map
use Rattle.pg_outside.specs.FilesCalls.{FilesCall}

-- the files by their names: a finite map from the bytes of a name to the bytes of the file
abbrev pub FileMap : Type 0
FileMap = map.FinMap (slice_cmp nat_cmp) (List ℕ)

-- what files show at a moment: what they hold, the counts of their faults, and the calls so far
pub record FilesShown : Type 0 where
  pub held : Option FileMap
  pub read_faults : List ℕ → ℕ
  pub write_faults : List ℕ → ℕ
  pub calls : List FilesCall

-- what a sink shows at a moment: what was put, the count of its faults, and the number of puts
pub record SinkShown : Type 0 where
  pub text : Option (List ℕ)
  pub faults : ℕ
  pub puts : ℕ

-- what is told after a call was told before it, and P holds of both
abbrev pub Told : {X : Type 0} → Option X → Option X → (X → X → Type 0) → Type 0
Told old new P = IfSome new (λ after. MatchOption old ⊥ (λ before. P before after))

-- these files are those before, with this file as it was or set to a prefix of these bytes
abbrev pub HasPart : FileMap → FileMap → List ℕ → List ℕ → Type 0
HasPart before after name bytes = (after ≡ before)
    ⊎ ((kept : ℕ) × (after ≡ map.insert before name (take kept bytes)))
