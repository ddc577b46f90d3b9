-- What `QuietFiles` shows: the files that it stores, and whether it tells them.
use Rattle.std.specs.Prelude.{◌≡◌, ℕ, List, Bool, cond, Option, Some, None, IsSome}
use Rattle.pg_outside.specs.Content.{FileMap, FilesShown}
use Rattle.pg_outside.specs.Inside.ToldFiles.{file_at}
use Rattle.pg_outside.specs.FilesCalls.{FilesCall}
use Rattle.pg_outside.specs.Inside.memory.StoredFile.{file_map}
use Rattle.pg_outside.specs.declared.quiet.files.QuietFiles.{QuietFiles}

-- the files that it stores, whether it tells them or not
abbrev pub quiet_files_of : QuietFiles → FileMap
quiet_files_of quiet = file_map quiet.files.items

-- whether it tells its files
abbrev pub is_telling : QuietFiles → Bool
is_telling quiet = quiet.is_told

-- the files, where it tells them
abbrev pub told_files : QuietFiles → Option FileMap
told_files quiet = cond (is_telling quiet) (Some (quiet_files_of quiet)) None

-- the file of this name, where it tells its files and there is one
abbrev pub told_file : QuietFiles → List ℕ → Option (List ℕ)
told_file quiet name = cond (is_telling quiet) (file_at (quiet_files_of quiet) name) None

-- the files in memory have one of this name
abbrev pub StoresFile : QuietFiles → List ℕ → Type 0
StoresFile quiet name = IsSome (file_at (quiet_files_of quiet) name)

-- the files in memory have none of this name
abbrev pub LacksFile : QuietFiles → List ℕ → Type 0
LacksFile quiet name = file_at (quiet_files_of quiet) name ≡ None

-- files in memory are told where they were told before, and else not
abbrev pub StaysTelling : QuietFiles → QuietFiles → Type 0
StaysTelling old new = is_telling new ≡ is_telling old

-- the reads and writes that there were, in their order
abbrev pub quiet_calls_of : QuietFiles → List FilesCall
quiet_calls_of quiet = quiet.calls.made

-- what it shows: its counts of faults are 0
abbrev pub quiet_shown : QuietFiles → FilesShown
quiet_shown quiet = record {
  held = told_files quiet;
  read_faults = λ _. 0;
  write_faults = λ _. 0;
  calls = quiet_calls_of quiet;
}
