-- What the runs of a sweep share.
use Rattle.std.specs.Prelude.{ℕ, ◌+◌, ◌*◌, ◌≤◌, List, map}
use Rattle.std.specs.List.{range_with_len}
use Rattle.pg_types.specs.Parameters.{Parameters}
use Rattle.pg_types.specs.declared.marks.Totals.{Totals}
use Rattle.pg_select.specs.Sums.{totals as totals_by}
use Rattle.pg_translate.specs.Alphabets.{letters_of}
use Rattle.pg_dict.specs.Word.{Word}
use Rattle.pg_dict.specs.Inside.SoundWords.{SignsAtMost}
use Rattle.pg_driver.specs.Traces.{trace, final_patterns}
use Rattle.pg_patterns.specs.Inside.PatternMaps.{SignsUpTo}
use Rattle.pg_types.specs.Inside.Limits.{sums_limit}
use Rattle.pg_sweep.specs.Sweeps.{Terms, fold_totals, total_of}
use Rattle.pg_sweep.specs.declared.folds.SharedInputs.{SharedInputs}

-- the terms of a sweep
abbrev pub terms : SharedInputs → Terms
terms g = record {
  table = g.table.now;
  words = g.dictionary.now;
  start = g.start.now;
  folds = g.folds;
}

-- the totals of words that were left out, by the patterns that are selected from the rest
abbrev pub rest_totals : Terms → Parameters → List Word → List Word → Totals
rest_totals s set rest left_out = totals_by s.table left_out
    (final_patterns s.start (trace s.table rest set s.start))

-- the totals of the first folds together
abbrev pub totals_of_first_folds : Terms → Parameters → ℕ → Totals
totals_of_first_folds s set count = total_of (map (fold_totals s set) (range_with_len 0 count))

-- the signs of the words and of the patterns are signs of the table
abbrev pub HasSharedSigns : SharedInputs → Type 0
HasSharedSigns g = SignsAtMost (letters_of g.table.now + 1) g.dictionary.now
    × SignsUpTo (letters_of g.table.now + 1) g.start.now

-- totals are no greater than those of this many folds can be
abbrev pub IsSmallFor : ℕ → Totals → Type 0
IsSmallFor folds t = (t.good ≤ folds * sums_limit)
    × (t.bad ≤ folds * sums_limit) × (t.missed ≤ folds * sums_limit)
