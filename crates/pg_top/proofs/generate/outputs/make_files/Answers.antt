use Rattle.std.proofs.Common.{◌∙◌}
use Rattle.pg_words.specs.Inside.CommandRequests.{texts_of}
use Rattle.pg_top.proofs.SelectedLists.{written_made}
use Rattle.pg_top.proofs.generate.outputs.make_files.Goals as goal

pub returns : goal.returns
returns g c = record {
  files = c.in_ok-files.ensures ∙ written_made c.in_ok-selected.selected.items (texts_of c.args.names.now) c.args.inputs.now c.in_ok-selected.ensures.files;
  lines = c.in_ok-lines.ensures;
  reads_back = c.in_ok-selected.ensures.reads_back;
}
