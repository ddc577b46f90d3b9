-- The line that says where a call is.
use Rattle.std.specs.Prelude.{ℕ, List, [], ◌++◌, take, codes, decimal, Option, Some, None}
use Rattle.pg_watch.specs.declared.watch.PassProgress.{PassProgress}
use Rattle.pg_watch.specs.declared.watch.SweepRun.{SweepRun}
use Rattle.pg_watch.specs.declared.line.TheConstants.{ROW}
use Rattle.pg_watch.specs.declared.line.Step.{Step}
use Rattle.pg_watch.specs.declared.line.Step.TheVariants as step

-- where a selection is
abbrev pub progress_text : PassProgress → List ℕ
progress_text p =
    codes "level " ++ decimal p.level ++ codes " of "
    ++ decimal p.last ++ codes ", length " ++ decimal p.len
    ++ codes " of " ++ decimal p.shortest ++ codes " to "
    ++ decimal p.longest ++ codes ", dot " ++ decimal p.dot

-- which run of a sweep this is
abbrev pub sweep_run_text : SweepRun → List ℕ
sweep_run_text t =
    codes "set " ++ decimal t.set ++ codes " of "
    ++ decimal t.sets ++ codes ", fold " ++ decimal t.fold
    ++ codes " of " ++ decimal t.folds ++ codes ", "

-- the same, where it is one
abbrev pub sweep_run_if_told : Option SweepRun → List ℕ
sweep_run_if_told (Some t) = sweep_run_text t
sweep_run_if_told None = []

-- what a call does, with the name of the file that it reads or writes
abbrev pub step_text : Step → List ℕ → List ℕ
step_text step.Reading name = codes "reading " ++ name
step_text step.Writing name = codes "writing " ++ name
step_text (step.Pass p) name = progress_text p
step_text (step.Round r) name = codes "round " ++ decimal r

-- the whole line, of which the bytes of one row are shown
abbrev pub line_text : List ℕ → ℕ → Option SweepRun → Step → List ℕ → List ℕ
line_text command seconds sweep_run step name =
    take ROW (command ++ codes " " ++ decimal seconds
    ++ codes " s: " ++ sweep_run_if_told sweep_run ++ step_text step name)
