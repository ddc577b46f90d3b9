-- The passes of a length, passes and levels one after the other, and what is known after passes.
use Rattle.std.specs.Prelude.{ℕ, List, map}
use Rattle.pg_translate.specs.Inside.items.GapItems.{last_else}
use Rattle.pg_types.specs.declared.parameters.LevelParams.{LevelParams}
use Rattle.pg_translate.specs.Alphabets.{Alphabet}
use Rattle.pg_dict.specs.Word.{Word}
use Rattle.pg_patterns.specs.Values.{Patterns}
use Rattle.pg_select.specs.declared.pass.Pass.{Pass}
use Rattle.pg_driver.specs.Dots.{order}
use Rattle.pg_driver.specs.Traces.{Knowledge, PassTrace, Trace, chain, known_after, level_trace, pass_trace, patterns_after}

-- the passes of a length: each dot in its order
abbrev pub passes_of_length : ℕ → ℕ → List Pass
passes_of_length number len = map (λ dot. record { level = number; len = len; dot = dot })
    (order len)

-- what is known at the end of passes: after the last of them, or else what was known before
abbrev pub known_at_end : Knowledge → List PassTrace → Knowledge
known_at_end known passes = last_else known (map known_after passes)

-- passes that are made one after the other
abbrev pub pass_traces : Alphabet → List Word → LevelParams
    → Knowledge → List Pass → List PassTrace
pass_traces T W params known passes = chain (pass_trace T W params) known_after known passes

-- levels that are made one after the other
abbrev pub level_traces : Alphabet → List Word → Patterns → List (ℕ × LevelParams) → Trace
level_traces T W P levels = chain (level_trace T W) patterns_after P levels
