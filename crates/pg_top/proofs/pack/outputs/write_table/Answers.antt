use Rattle.std.proofs.Common.{◌∙◌, ◌++◌, ◌∷◌, [], List, ap}
use Rattle.pg_top.specs.Packing.{packed_line}
use Rattle.pg_steps.specs.Inside.Texts.{writing_of}
use Rattle.pg_steps.specs.declared.ends.OutputFile.{OutputFile}
use Rattle.pg_top.proofs.pack.outputs.write_table.Goals as goal

pub returns : goal.returns
returns c = record {
  files = c.in_ok-push_file.ensures ∙ ap (λ (xs : List OutputFile). writing_of xs ++ (c.args.name.now, c.args.text.items) ∷ []) c.new-files.ensures.items;
  lines = c.in_ok-lines.ensures ∙ (λ k. packed_line ((c.deref.ensures.value ∙ c.in_ok-patterns.ensures.text) k) (c.deref-2.ensures.value k));
}
