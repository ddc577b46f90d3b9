-- The text of the report by the lines that a run tells.
use Rattle.std.specs.Prelude.{ℕ, ◌-◌, ◌/◌, ◌%◌, ◌==◌, List, ◌++◌, filter, codes, decimal}
use Rattle.std.specs.List.{flat_map}
use Rattle.pg_types.specs.Parameters.{Parameters}
use Rattle.pg_driver.specs.Inside.records.AccountLines.{PassLine, LevelLine, Account}
use Rattle.pg_texts.specs.Fronts.{pass_front, level_front}
use Rattle.pg_texts.specs.ReportTexts.{totals_text, warning_text, ending_text}

-- `warning: starting value V is not below level S` and the line's end
abbrev pub warning_line : ℕ → ℕ → List ℕ
warning_line value level = codes "warning: starting value "
    ++ decimal value ++ codes " is not below level " ++ decimal level ++ codes "\n"

-- `C candidates, X chosen, H hopeless, Y left; `
abbrev pub counts_text : PassLine → List ℕ
counts_text p =
    decimal p.candidates ++ codes " candidates, " ++ decimal p.chosen ++ codes " chosen, "
    ++ decimal p.hopeless ++ codes " hopeless, " ++ decimal (p.candidates - p.chosen - p.hopeless)
    ++ codes " left; "

-- `A good, E bad`, the sums over the chosen, and the line's end
abbrev pub sums_text : PassLine → List ℕ
sums_text p = decimal p.good ++ codes " good, " ++ decimal p.bad ++ codes " bad\n"

-- hundredths as a whole part, a point and two digits
abbrev pub hundredths : ℕ → List ℕ
hundredths n = decimal (n / 100) ++ codes "." ++ decimal (n / 10 % 10) ++ decimal (n % 10)

-- the line of a pass
abbrev pub pass_line_text : PassLine → List ℕ
pass_line_text p = pass_front p.pass ++ totals_text p.before
    ++ codes "; " ++ counts_text p ++ sums_text p

-- the line of a level
abbrev pub level_line_text : LevelLine → List ℕ
level_line_text l = level_front l.level ++ decimal l.chosen
    ++ codes " chosen, " ++ totals_text l.after ++ codes "\n"

-- the lines of the passes of a level
abbrev pub passes_text : List PassLine → ℕ → List ℕ
passes_text passes level = flat_map pass_line_text (filter (λ p. p.pass.level == level) passes)

-- the lines of a level: those of its passes, and then its own
abbrev pub level_lines_text : List PassLine → LevelLine → List ℕ
level_lines_text passes l = passes_text passes l.level ++ level_line_text l

-- the report of a run, where this is the greatest starting value
abbrev pub account_text : ℕ → Parameters → Account → List ℕ
account_text largest parameters a = warning_text largest parameters
    ++ flat_map (level_lines_text a.passes) a.levels ++ ending_text a.totals
