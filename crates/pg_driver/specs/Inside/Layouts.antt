-- Where the strings of a run lie in the cells of a trie, along its trace.
use Rattle.std.specs.Prelude.{ℕ, List, map, filter, fold}
use Rattle.pg_types.specs.Placement.{Families, enter, kept_families}
use Rattle.pg_patterns.specs.Values.{Patterns}
use Rattle.pg_driver.specs.Traces.{PassTrace, LevelTrace, is_entered, patterns_after}

-- the strings of patterns, in the order of signs
abbrev pub strings_in : Patterns → List (List ℕ)
strings_in P = map (λ e. e.0.0) P

-- the families after a pass: its chosen and its hopeless windows are entered, in the order of signs
abbrev pub after_pass : ℕ → Families → PassTrace → Families
after_pass signs fs p =
    fold (λ fs c. enter signs fs c.window) fs (filter (is_entered p.params) p.candidates)

-- the families after a level: only signs and prefixes of the patterns' strings keep their cells
abbrev pub after_level : ℕ → Families → LevelTrace → Families
after_level signs fs l =
    kept_families (strings_in (patterns_after l)) (fold (after_pass signs) fs l.passes)
