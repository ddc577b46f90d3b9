use Rattle.std.proofs.Common.{◌≡◌, ◌≤◌, ℕ, List, length, Ok, refl, subst}
use Rattle.std.specs.Prelude.{filter}
use Rattle.pg_types.specs.declared.limits.TheConstants.{FILE_MAX}
use Rattle.pg_dict.specs.DictionaryWords.{words}
use Rattle.pg_texts.specs.PattmpTexts.{is_taking_part}
use Rattle.pg_top.specs.Selection.{selected_patterns}
use Rattle.pg_top.proofs.Selections.{list_selected}
use Rattle.pg_top.proofs.selection.list_reads_back.Goals as goal

pub returns : goal.returns
returns c =
    let i = c.args.inputs.now in
    subst (λ (text : List ℕ). length text ≤ FILE_MAX → words i.table text ≡ Ok (filter (is_taking_part i.table) i.dictionary)) (list_selected i (selected_patterns i) refl)
    (c.lists_are_read.ensures (selected_patterns i) i.dictionary c.len.ensures.words c.requires.words)
