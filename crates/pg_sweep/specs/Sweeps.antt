-- A sweep: for each set of parameters the totals of words that were left out, and what they cost.
use Rattle.std.specs.Prelude.{ℕ, ◌+◌, ◌*◌, true, false, List, map, sum_by}
use Rattle.std.specs.List.{range_with_len}
use Rattle.pg_types.specs.declared.marks.Totals.{Totals}
use Rattle.pg_types.specs.Parameters.{Parameters}
use Rattle.pg_select.specs.Sums.{totals}
use Rattle.pg_translate.specs.Alphabets.{Alphabet}
use Rattle.pg_dict.specs.Word.{Word}
use Rattle.pg_dict.specs.Parts.{part_of}
use Rattle.pg_patterns.specs.Values.{Patterns}
use Rattle.pg_driver.specs.Traces.{trace, final_patterns}
use Rattle.pg_sweep.specs.declared.rows.SweepRow.{SweepRow}

-- what the runs of a sweep share: the table, the words, the starting patterns, the number of folds
pub record Terms : Type 0 where
  pub table : Alphabet
  pub words : List Word
  pub start : Patterns
  pub folds : ℕ

-- the totals of a fold by the patterns that are selected from all other words
abbrev pub fold_totals : Terms → Parameters → ℕ → Totals
fold_totals s set fold = totals s.table (part_of s.folds fold true s.words)
    (final_patterns s.start (trace s.table (part_of s.folds fold false s.words) set s.start))

-- the sums of several totals
abbrev pub total_of : List Totals → Totals
total_of ts = let sum : (Totals → ℕ) → ℕ = λ f. sum_by f ts in
    record { good = sum (λ t. t.good); bad = sum (λ t. t.bad); missed = sum (λ t. t.missed) }

-- the row of a set: the totals of all folds together, and what they cost at these prices
abbrev pub set_row : Terms → ℕ → ℕ → Parameters → SweepRow
set_row s bad missed set = let t = total_of (map (fold_totals s set) (range_with_len 0 s.folds)) in
    record { totals = t; cost = bad * t.bad + missed * t.missed }
