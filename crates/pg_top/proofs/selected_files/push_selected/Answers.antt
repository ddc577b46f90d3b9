use Rattle.std.proofs.Common.{◌∙◌, ap}
use Rattle.pg_top.specs.Inside.selection.SelectedFiles.{made_files}
use Rattle.pg_top.proofs.SelectedLists.{one_made}
use Rattle.pg_top.proofs.selected_files.push_selected.Goals as goal

pub returns : goal.returns
returns c = ap made_files c.in_ok-push.ensures.items ∙ one_made c.args.files.now.items (record { given = c.args.given; name = c.args.name; text = c.args.text })
