-- What files and sinks in memory tell, while they tell anything.
use Rattle.std.proofs.Common.{◌≡◌, ℕ, ◌+◌, ◌≤◌, List, ◌++◌, length, Bool, true, false, cond, Option, Some, None, Result, OnOk, IfSome, refl, ap}
use Rattle.std.specs.FinMap as fin
use Rattle.std.proofs.lemmas.Result.{on_ok_weaker}
use Rattle.pg_outside.specs.Content.{FileMap}
use Rattle.pg_outside.specs.Inside.ToldFiles.{KeepsHeld, WasPut, file_at, IsFile, IsFileCut, IsTooLong, WasWritten}

pub keeps_same : (held : Option FileMap) → KeepsHeld held held
keeps_same None = tt
keeps_same (Some files) = refl

-- what was read is what they tell
pub is_file : {T E : Type 0} (result : Result T E) (told : Bool) (files : FileMap) (name into : List ℕ) → OnOk result (file_at files name ≡ Some into)
    → OnOk result (IsFile (cond told (Some files) None) name into)
is_file result true files name into is = is
is_file result false files name into is = on_ok_weaker result (λ _. tt) is

pub is_file_cut : (told : Bool) (files : FileMap) (name into : List ℕ) (limit : ℕ) → IsTooLong (file_at files name) limit into → IsFileCut (cond told (Some files) None) name limit into
is_file_cut true files name into limit is = is
is_file_cut false files name into limit is = tt

-- what was written is what they tell
pub was_written : (told : Bool) (before after : FileMap) (name bytes : List ℕ) → after ≡ fin.insert before name bytes
    → WasWritten (cond told (Some before) None) (cond told (Some after) None) name bytes
was_written true before after name bytes is = is
was_written false before after name bytes is = tt

-- what was put is what the sink tells
pub was_put : (told : Bool) (before after bytes : List ℕ) → after ≡ before ++ bytes → WasPut (cond told (Some before) None) (cond told (Some after) None) bytes
was_put true before after bytes is = is
was_put false before after bytes is = tt

pub puts_within : (told : Bool) (before after bytes : List ℕ) (room : ℕ) → after ≡ before ++ bytes
    → IfSome (cond told (Some before) None) (λ text. length text + length bytes ≤ room → cond told (Some after) None ≡ Some (text ++ bytes))
puts_within true before after bytes room is = λ within. ap (λ (l : List ℕ). Some l) is
puts_within false before after bytes room is = tt

-- a sink that tells nothing goes on so
pub stays_untold : (told : Bool) (before after : List ℕ) → cond told (Some before) None ≡ None → cond told (Some after) None ≡ None
stays_untold true before after none = cc
stays_untold false before after none = refl
