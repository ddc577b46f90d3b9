-- Totals with a word more, by a table.
use Rattle.std.proofs.Common.{◌≡◌, List, ◌∷◌, sym, ap, ◌∙◌, ℕ}
use Rattle.std.specs.List.{flat_map}
use Rattle.pg_types.specs.declared.marks.Totals.{Totals}
use Rattle.pg_translate.specs.Alphabets.{Alphabet}
use Rattle.pg_dict.specs.Word.{Word}
use Rattle.pg_select.specs.Inside.SumSteps.{with_marks}
use Rattle.pg_select.proofs.MarkSteps.{marks_append}
use Rattle.pg_table.specs.Inside.view.Marks.{table_marks}

-- a word that was added, and then the rest
pub marks_word : (t n whole : Totals) (m : Alphabet) (b : List ℕ) (w : Word) (ws : List Word) → n ≡ with_marks t (table_marks m b w)
    → with_marks t (flat_map (table_marks m b) (w ∷ ws)) ≡ whole → with_marks n (flat_map (table_marks m b) ws) ≡ whole
marks_word t n whole m b w ws is left = ap (λ (x : Totals). with_marks x (flat_map (table_marks m b) ws)) is ∙ sym (marks_append t (table_marks m b w) (flat_map (table_marks m b) ws)) ∙ left
