use Rattle.std.proofs.Common.{◌≡◌, ◌++◌, drop}
use Rattle.pg_texts.specs.PattmpTexts.{lines_behind, pattmp_text}
use Rattle.pg_texts.specs.Inside.ReadBack.{words_taking_part}
use Rattle.pg_texts.proofs.pattmp.pattmp_text.Given as goal

abbrev pub invariant-words : goal.invariant-words
invariant-words g l =
    l.text.items ++ lines_behind l.table (g.E.Engine.meaning l.engine).patterns l.weight (words_taking_part l.table (drop l.i l.dictionary))
    ≡ pattmp_text l.table (g.E.Engine.meaning l.engine).patterns l.dictionary
