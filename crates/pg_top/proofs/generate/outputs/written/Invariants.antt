use Rattle.std.proofs.Common.{◌≡◌, map}
use Rattle.pg_steps.specs.Inside.Texts.{writing_of}
use Rattle.pg_top.specs.Inside.selection.SelectedFiles.{written_file}
use Rattle.pg_top.proofs.generate.outputs.written.Given as goal

abbrev pub invariant-selected : goal.invariant-selected
invariant-selected l = writing_of l.files.items ≡ map written_file l.yielded
