-- The order of dotted strings.
use Rattle.std.specs.Prelude.{ℕ, List}
use Rattle.std.specs.declared.cmp.Ordering.{Ordering}
use Rattle.std.specs.Ordering.{nat_cmp, ordering_then}
use Rattle.std.specs.Cmp.Lexicographic.{slice_cmp}

-- the order of dotted strings: first by the order of signs, then by the dot
abbrev pub dotted_cmp : List ℕ × ℕ → List ℕ × ℕ → Ordering
dotted_cmp a b = ordering_then (slice_cmp nat_cmp a.0 b.0) (nat_cmp a.1 b.1)
