-- The families of the patterns that a run starts with.
use Rattle.std.specs.Prelude.{ℕ, List, map}
use Rattle.pg_types.specs.Placement.{Families}
use Rattle.pg_types.specs.Placement as placement

-- the families of the strings of patterns
abbrev pub pattern_families : ℕ → List ((List ℕ × ℕ) × ℕ) → Families
pattern_families signs P = placement.entered_families signs (map (λ e. e.0.0) P)
