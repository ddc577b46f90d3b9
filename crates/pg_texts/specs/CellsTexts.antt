-- The text of the cells file: where the strings of a run lie in the cells of a trie.
use Rattle.std.specs.Prelude.{ℕ, List, [], ◌++◌, length, map, filter, fold, if◌then◌else◌, codes, decimal}
use Rattle.pg_types.specs.Placement.{Families, used_cells, top, enter, entered_families, kept_families}
use Rattle.pg_types.specs.Tails.{tails}
use Rattle.pg_patterns.specs.Values.{Patterns}
use Rattle.pg_driver.specs.Accounts.{has_candidate}
use Rattle.pg_driver.specs.Traces.{PassTrace, LevelTrace, Trace, is_entered, patterns_after}
use Rattle.pg_texts.specs.Fronts.{pass_front, level_front}

-- how many cells families use, and the greatest of them: `T taken, top U`
abbrev pub used_text : Families → List ℕ
used_text fs = decimal (length (used_cells fs)) ++ codes " taken, top " ++ decimal (top fs)

-- the same with the tails of patterns: `T taken, top U, K tails` and the line's end
abbrev pub layout_text : Families → Patterns → List ℕ
layout_text fs P = used_text fs ++ codes ", " ++ decimal (tails P) ++ codes " tails\n"

-- the families and the text so far after a pass: its chosen and its hopeless windows are entered,
-- in the order of signs, and it has a line where it has a candidate
abbrev pub with_pass : ℕ → Families × List ℕ → PassTrace → Families × List ℕ
with_pass n x p = let windows = map (λ c. c.window) (filter (is_entered p.params) p.candidates) in
    let fs = fold (enter n) x.0 windows in
    (fs, x.1 ++ (if has_candidate p then pass_front p.pass ++ used_text fs ++ codes "\n" else []))

-- the same after a level: only signs and prefixes of the patterns' strings keep their cells, and
-- behind the lines of the passes stands its own
abbrev pub with_level : ℕ → Families × List ℕ → LevelTrace → Families × List ℕ
with_level n x l = let P = patterns_after l in let passed = fold (with_pass n) x l.passes in
    let fs = kept_families (map (λ e. e.0.0) P) passed.0 in
    (fs, passed.1 ++ level_front l.number ++ layout_text fs P)

-- the families at the end of a run from S, and the cells file
abbrev pub families_and_text : ℕ → Patterns → Trace → Families × List ℕ
families_and_text n S run = let fs = entered_families n (map (λ e. e.0.0) S) in
    fold (with_level n) (fs, codes "start: " ++ layout_text fs S) run

abbrev pub families_at_end : ℕ → Patterns → Trace → Families
families_at_end n S run = (families_and_text n S run).0

abbrev pub cells_text : ℕ → Patterns → Trace → List ℕ
cells_text n S run = (families_and_text n S run).1
