use Rattle.std.proofs.Common.{◌++◌, ◌∷◌, [], List, ℕ, ◌∙◌, ap}
use Rattle.pg_steps.specs.Inside.Texts.{writing_of}
use Rattle.pg_steps.specs.declared.ends.OutputFile.{OutputFile}
use Rattle.pg_top.proofs.sweep.outputs.write_sweep.Goals as goal

pub returns-clause-files : goal.returns-clause-files
returns-clause-files c =
    c.in_ok-push_file.ensures ∙ ap (λ (xs : List OutputFile). writing_of xs ++ (c.args.words.now.output.now, c.in_ok-text.text.items) ∷ []) c.new-files.ensures.items
    ∙ ap (λ (text : List ℕ). (c.args.words.now.output.now, text) ∷ []) c.in_ok-text.ensures

pub returns-clause-lines : goal.returns-clause-lines
returns-clause-lines c = c.in_ok-lines.ensures
