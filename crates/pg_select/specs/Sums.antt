-- The totals of a word list.
use Rattle.std.specs.Prelude.{ℕ, Bool, true, false, if◌then◌else◌, List, length, map, sum_by}
use Rattle.std.specs.List.{flat_map}
use Rattle.pg_types.specs.declared.marks.Mark.{Mark}
use Rattle.pg_types.specs.declared.marks.Mark.TheVariants.{Error, Missed, Found}
use Rattle.pg_types.specs.declared.marks.Totals.{Totals}
use Rattle.pg_translate.specs.Alphabets.{Alphabet}
use Rattle.pg_dict.specs.Word.{Word}
use Rattle.pg_translate.specs.Reach.{positions}
use Rattle.pg_patterns.specs.Values.{Patterns}
use Rattle.pg_select.specs.Statuses.{status_at, position_weight}

-- the status and the weight of each position in reach of a word whose positions have these statuses
abbrev pub marks_by : Alphabet → (ℕ → Mark) → Word → List (Mark × ℕ)
marks_by T status w = map (λ p. (status p, position_weight w p))
    (positions T.left T.right (length w.signs))

-- the weights of the positions whose status passes a test
abbrev pub weight_of : (Mark → Bool) → List (Mark × ℕ) → ℕ
weight_of test marks = sum_by (λ m. if test m.0 then m.1 else 0) marks

-- the totals of marks: good over the found, bad over the errors, missed over the missed
abbrev pub totals_of : List (Mark × ℕ) → Totals
totals_of marks = record {
  good = weight_of (λ m. elim m [ Found ↦ true | other ↦ false ]) marks;
  bad = weight_of (λ m. elim m [ Error ↦ true | other ↦ false ]) marks;
  missed = weight_of (λ m. elim m [ Missed ↦ true | other ↦ false ]) marks;
}

-- the totals of all words, by the patterns
abbrev pub totals : Alphabet → List Word → Patterns → Totals
totals T W P = totals_of (flat_map (λ w. marks_by T (status_at P w) w) W)
