use Rattle.std.proofs.Common.{◌∙◌, subst, sym}
use Rattle.std.proofs.lemmas.Result.{IfOk-weaker}
use Rattle.pg_dict.specs.Inside.SoundWords.{SignsAtMost}
use Rattle.pg_top.proofs.Selections.{list_selected}
use Rattle.pg_top.proofs.selection.list_file.Goals as goal

pub pattmp_text-requires : goal.pattmp_text-requires
pattmp_text-requires g c = record {
  signs = subst (λ n. SignsAtMost n c.args.inputs.now.dictionary) (sym c.requires.engine.signs) c.requires.signs.words;
  letters = c.requires.signs.words;
}

pub returns : goal.returns
returns g c =
    IfOk-weaker c.pattmp_text.result _ _ (λ text is. is ∙ list_selected c.args.inputs.now (g.E.Engine.meaning c.args.engine.now).patterns c.requires.engine.patterns) c.pattmp_text.ensures.text
