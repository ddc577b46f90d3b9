-- The counts of windows whose sums stand by number.
use Rattle.std.specs.Prelude.{◌≡◌, ℕ, ◌+◌, ◌/◌, ◌==◌, if◌then◌else◌, List, [], ◌∷◌, slice_get, Option, None, Some}
use Rattle.std.specs.declared.cmp.Ordering.TheVariants.{Less}
use Rattle.std.specs.Ordering.{nat_cmp}
use Rattle.std.specs.Cmp.Lexicographic.{slice_cmp}
use Rattle.pg_types.specs.Inside.counting.Counts.{Counts}
use Rattle.pg_types.specs.Inside.counting.NumberedWindows.{Windows}

-- the sums by number: none where no window with the number was counted
abbrev pub Tallied : Type 0
Tallied = List (Option (ℕ × ℕ))

-- the sums that two numbers stand for: none where the first is 0
abbrev pub told_by : ℕ × ℕ → Option (ℕ × ℕ)
told_by kept = if kept.0 == 0 then None else Some (kept.0 / 2, kept.1)

-- windows stand in the order of signs, each once
abbrev pub IsRising : Windows → Type 0
IsRising [] = Unit {0}
IsRising (w ∷ ws) = ((k : ℕ) (u : List ℕ) → slice_get ws k ≡ Some u → slice_cmp nat_cmp w u ≡ Less)
    × IsRising ws

-- the windows that were counted, with their sums
abbrev pub counts_by : Windows → Tallied → Counts
counts_by [] ts = []
counts_by (w ∷ ws) [] = []
counts_by (w ∷ ws) (None ∷ ts) = counts_by ws ts
counts_by (w ∷ ws) (Some s ∷ ts) = (w, s) ∷ counts_by ws ts

-- the numbers that were counted, rising; the first one is n
abbrev pub counted_from : ℕ → Tallied → List ℕ
counted_from n [] = []
counted_from n (None ∷ ts) = counted_from (n + 1) ts
counted_from n (Some s ∷ ts) = n ∷ counted_from (n + 1) ts
