-- What the records of a run tell of the cells, as it is read off its trace.
use Rattle.std.specs.Prelude.{ℕ, List, [], ◌∷◌, map, filter}
use Rattle.std.specs.List.{flat_map}
use Rattle.pg_types.specs.declared.marks.Layout.{Layout}
use Rattle.pg_types.specs.Placement.{Families, top}
use Rattle.pg_types.specs.Inside.PlacementSteps.{taken_count}
use Rattle.pg_types.specs.Tails.{tails}
use Rattle.pg_patterns.specs.Values.{Patterns}
use Rattle.pg_select.specs.declared.pass.Pass.{Pass}
use Rattle.pg_driver.specs.Traces.{PassTrace, LevelTrace, Trace, patterns_after}
use Rattle.pg_driver.specs.Accounts.{has_candidate}
use Rattle.pg_driver.specs.Inside.Layouts.{after_pass, after_level}

-- each pass with the families after it
abbrev pub passes_with_families : ℕ → Families → List PassTrace → List (PassTrace × Families)
passes_with_families signs fs [] = []
passes_with_families signs fs (p ∷ ps) =
    (p, after_pass signs fs p) ∷ passes_with_families signs (after_pass signs fs p) ps

-- each level with the families before it
abbrev pub levels_with_families : ℕ → Families → Trace → List (LevelTrace × Families)
levels_with_families signs fs [] = []
levels_with_families signs fs (l ∷ ls) =
    (l, fs) ∷ levels_with_families signs (after_level signs fs l) ls

-- the layout of families with these patterns: how many cells are used, the greatest, and the tails
abbrev pub layout_of : Families → Patterns → Layout
layout_of fs P = record { taken = taken_count fs; top = top fs; tails = tails P }

-- the cells along a run: the layout before it, those of its passes, and those after its levels
pub record CellsAccount : Type 0 where
  pub start : Layout
  pub passes : List (Pass × ℕ × ℕ)
  pub levels : List (ℕ × Layout)

-- the used cells and the greatest after each pass of a level that has a candidate
abbrev pub pass_layouts : ℕ → Families → List PassTrace → List (Pass × ℕ × ℕ)
pass_layouts signs fs ps = map (λ e. (e.0.pass, taken_count e.1, top e.1))
    (filter (λ e. has_candidate e.0) (passes_with_families signs fs ps))

-- the layout after a level that begins with these families
abbrev pub level_layout : ℕ → Families → LevelTrace → ℕ × Layout
level_layout signs fs l = (l.number, layout_of (after_level signs fs l) (patterns_after l))

-- what is told of the cells of a run from S that begins with these families
abbrev pub cells_account : ℕ → Families → Patterns → Trace → CellsAccount
cells_account signs fs S run = record {
  start = layout_of fs S;
  passes = flat_map (λ e. pass_layouts signs e.1 e.0.passes) (levels_with_families signs fs run);
  levels = map (λ e. level_layout signs e.1 e.0) (levels_with_families signs fs run);
}
