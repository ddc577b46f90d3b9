-- What the records of a run tell, as it is read off its trace: the lines of its passes and of its
-- levels; and which of its passes are begun.
use Rattle.std.specs.Prelude.{ℕ, Bool, not, List, length, map, filter, sum_by}
use Rattle.std.specs.List.{flat_map, list_all, list_any}
use Rattle.pg_types.specs.declared.marks.Totals.{Totals}
use Rattle.pg_dict.specs.Word.{Word}
use Rattle.pg_translate.specs.Alphabets.{Alphabet}
use Rattle.pg_select.specs.Sums.{totals as totals_by}
use Rattle.pg_patterns.specs.Values.{Patterns}
use Rattle.pg_select.specs.declared.pass.Pass.{Pass}
use Rattle.pg_driver.specs.Accounts.{has_candidate, makes_skippable}
use Rattle.pg_driver.specs.Traces.{PassTrace, LevelTrace, Trace, is_entered, chosen_in, hopeless_in, patterns_after, final_patterns}

-- the line of a pass: the totals before it, how many candidates, and the sums of the chosen
pub record PassLine : Type 0 where
  pub pass : Pass
  pub before : Totals
  pub candidates : ℕ
  pub chosen : ℕ
  pub hopeless : ℕ
  pub good : ℕ
  pub bad : ℕ

-- the line of a level: how many candidates its passes chose, and the totals after it
pub record LevelLine : Type 0 where
  pub level : ℕ
  pub chosen : ℕ
  pub after : Totals

-- what is told of a run: the lines of its passes and of its levels, and the totals at its end
pub record Account : Type 0 where
  pub passes : List PassLine
  pub levels : List LevelLine
  pub totals : Totals

-- the line of a pass
abbrev pub pass_line : Alphabet → List Word → PassTrace → PassLine
pass_line T W p = record {
  pass = p.pass;
  before = totals_by T W p.before.patterns;
  candidates = length p.candidates;
  chosen = length (chosen_in p);
  hopeless = length (hopeless_in p);
  good = sum_by (λ c. c.good) (chosen_in p);
  bad = sum_by (λ c. c.bad) (chosen_in p);
}

-- the lines of the passes of a level: of those that have a candidate
abbrev pub pass_lines : Alphabet → List Word → LevelTrace → List PassLine
pass_lines T W l = map (pass_line T W) (filter has_candidate l.passes)

-- how many candidates passes chose
abbrev pub chosen_by : List PassTrace → ℕ
chosen_by ps = sum_by (λ p. length (chosen_in p)) ps

-- the line of a level
abbrev pub level_line : Alphabet → List Word → LevelTrace → LevelLine
level_line T W l =
    record {
      level = l.number;
      chosen = chosen_by l.passes;
      after = totals_by T W (patterns_after l);
    }

-- what is told of a run from S
abbrev pub account : Alphabet → List Word → Patterns → Trace → Account
account T W S run = record {
  passes = flat_map (pass_lines T W) run;
  levels = map (level_line T W) run;
  totals = totals_by T W (final_patterns S run);
}

-- a pass left no candidate: each is chosen or hopeless
abbrev pub left_none : PassTrace → Bool
left_none p = list_all (is_entered p.params) p.candidates

-- a pass is skippable where one of these passes makes it so
abbrev pub is_skippable : List PassTrace → Pass → Bool
is_skippable ps q = list_any (λ p. makes_skippable p q) ps

-- the passes that are begun: those that no pass of the same level makes skippable
abbrev pub begun_among : List PassTrace → List PassTrace
begun_among ps = filter (λ q. not (is_skippable ps q.pass)) ps

-- the passes of a level that are begun
abbrev pub begun_in : LevelTrace → List PassTrace
begun_in l = begun_among l.passes
