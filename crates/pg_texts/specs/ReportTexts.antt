-- The text of the report.
use Rattle.std.specs.Prelude.{ℕ, ◌+◌, ◌-◌, ◌*◌, ◌/◌, ◌%◌, ◌==◌, nat_le, ◌&&◌, if◌then◌else◌, List, [], ◌++◌, length, filter, sum_by, codes, decimal}
use Rattle.std.specs.List.{flat_map}
use Rattle.pg_types.specs.declared.marks.Totals.{Totals}
use Rattle.pg_types.specs.Parameters.{Parameters}
use Rattle.pg_dict.specs.Word.{Word}
use Rattle.pg_translate.specs.Alphabets.{Alphabet}
use Rattle.pg_select.specs.Sums.{totals}
use Rattle.pg_patterns.specs.Values.{Patterns, largest}
use Rattle.pg_driver.specs.Accounts.{has_candidate}
use Rattle.pg_driver.specs.Traces.{PassTrace, LevelTrace, Trace, chosen_in, hopeless_in, patterns_after, final_patterns}
use Rattle.pg_texts.specs.Fronts.{pass_front, level_front}

-- `G good, B bad, M missed`
abbrev pub totals_text : Totals → List ℕ
totals_text t = decimal t.good ++ codes " good, "
    ++ decimal t.bad ++ codes " bad, " ++ decimal t.missed ++ codes " missed"

-- the warning that the greatest starting value is not below the first level, where a level is run
abbrev pub warning_text : ℕ → Parameters → List ℕ
warning_text largest p = if nat_le p.start p.finish && nat_le p.start largest
    then codes "warning: starting value " ++ decimal largest
    ++ codes " is not below level " ++ decimal p.start ++ codes "\n" else []

-- the line of a pass: the totals before it, the numbers of its candidates, the sums of the chosen
abbrev pub pass_text : Alphabet → List Word → PassTrace → List ℕ
pass_text T W p = let chosen = chosen_in p in let lost = hopeless_in p in
    pass_front p.pass ++ totals_text (totals T W p.before.patterns) ++ codes "; "
    ++ decimal (length p.candidates) ++ codes " candidates, "
    ++ decimal (length chosen) ++ codes " chosen, " ++ decimal (length lost) ++ codes " hopeless, "
    ++ decimal (length p.candidates - length chosen - length lost) ++ codes " left; "
    ++ decimal (sum_by (λ c. c.good) chosen) ++ codes " good, "
    ++ decimal (sum_by (λ c. c.bad) chosen) ++ codes " bad\n"

-- the lines of a level: those of its passes that have a candidate, and then its own
abbrev pub level_text : Alphabet → List Word → LevelTrace → List ℕ
level_text T W l = flat_map (pass_text T W) (filter has_candidate l.passes)
    ++ level_front l.number ++ decimal (sum_by (λ p. length (chosen_in p)) l.passes)
    ++ codes " chosen, " ++ totals_text (totals T W (patterns_after l)) ++ codes "\n"

-- a sum in percent of good and missed together: a whole part, a point and two digits, cut
abbrev pub rate : Totals → ℕ → List ℕ
rate t share = let n = 10000 * share / (t.good + t.missed) in
    decimal (n / 100) ++ codes "." ++ decimal (n / 10 % 10) ++ decimal (n % 10)

-- the line of rates, where good and missed are not both 0
abbrev pub rate_text : Totals → List ℕ
rate_text t = if t.good + t.missed == 0 then []
    else codes "rate: " ++ rate t t.good ++ codes " % good, "
    ++ rate t t.bad ++ codes " % bad, " ++ rate t t.missed ++ codes " % missed\n"

-- the line of the totals, and that of the rates
abbrev pub ending_text : Totals → List ℕ
ending_text t = codes "total: " ++ totals_text t ++ codes "\n" ++ rate_text t

-- the report of a run from S
abbrev pub report_text : Alphabet → List Word → Parameters → Patterns → Trace → List ℕ
report_text T W parameters S run = warning_text (largest S) parameters
    ++ flat_map (level_text T W) run ++ ending_text (totals T W (final_patterns S run))
