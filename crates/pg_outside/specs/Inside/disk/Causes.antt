-- Why a write failed.
use Rattle.std.specs.Prelude.{◌≡◌, ℕ}
use Rattle.pg_outside.specs.Faults.{Rose}
use Rattle.pg_outside.specs.declared.disk.error.WriteError.{WriteError}
use Rattle.pg_outside.specs.declared.disk.error.WriteError.TheVariants as error

-- each error's cause: a failed call; or none, and a file kept in mind, a link to an open file, deep
-- links, or no free name
abbrev pub IsCauseOf : ℕ → ℕ → Type 0 → Type 0 → Type 0 → Type 0 → WriteError → Type 0
IsCauseOf before now kept opened deep taken error.Failed = Rose before now
IsCauseOf before now kept opened deep taken error.Kept = (now ≡ before) × kept
IsCauseOf before now kept opened deep taken error.Opened = (now ≡ before) × opened
IsCauseOf before now kept opened deep taken error.Unfollowed = (now ≡ before) × deep
IsCauseOf before now kept opened deep taken error.Taken = (now ≡ before) × taken
IsCauseOf before now kept opened deep taken error.Memory = now ≡ before
