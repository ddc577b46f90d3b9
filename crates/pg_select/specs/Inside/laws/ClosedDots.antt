-- Closed dots: which windows count at a position that counts by its status, from the start of a
-- level through its passes and lengths.
use Rattle.std.specs.Prelude.{◌≡◌, ℕ, ◌-◌, ◌≤◌, nat_le, nat_eq, Bool, true, false, not, ◌&&◌, ◌||◌, if◌then◌else◌, Option, None, Some, slice_index_or}
use Rattle.pg_types.specs.declared.limits.TheConstants.{LENGTH_MAX}
use Rattle.pg_dict.specs.Word.{Word}
use Rattle.pg_patterns.specs.Values.{Patterns}
use Rattle.pg_select.specs.declared.pass.Pass.{Pass}
use Rattle.pg_select.specs.CountedPositions.{counted_at}
use Rattle.pg_select.specs.Statuses.{is_odd, status_at}
use Rattle.pg_select.specs.Windows.{Hopeless, window, fits, is_covered}

-- whether a position counts as good: one with a hyphen at a level that finds, without at the others
abbrev pub is_good : ℕ → Word → ℕ → Bool
is_good level w p = if is_odd level then slice_index_or w.hyphens p false
    else not (slice_index_or w.hyphens p false)

-- the pass of a level with this length and dot
abbrev pub pass_at : ℕ → ℕ → ℕ → Pass
pass_at level len dot = record { level = level; len = len; dot = dot }

-- what counts at a position where these dots are closed
abbrev pub counted_with : ℕ → Word → ℕ → ℕ → ℕ → Bool → Option Bool
counted_with level w p len dot closed = if fits w.signs p len dot && not closed
    then Some (is_good level w p) else None

-- the closed dots of the next length: a dot is closed where it or the dot before it was
abbrev pub closed_at_next_length : (ℕ → Bool) → ℕ → Bool
closed_at_next_length closed d = closed d || (nat_le 1 d && closed (d - 1))

-- these closed dots tell what counts at a position in each pass of the length
abbrev pub TellCounted : ℕ → ℕ → Patterns → Hopeless → Word → ℕ → (ℕ → Bool) → Type 0
TellCounted level len P H w p closed = (d : ℕ) → d ≤ LENGTH_MAX
    → counted_at (pass_at level len d) P H w p ≡ counted_with level w p len d (closed d)

-- the closed dots after a pass in which the window of the position was raised, or made hopeless
abbrev pub closed_after : (ℕ → Bool) → ℕ → Bool → Bool → Bool → ℕ → Bool
closed_after closed dot fit raised hopeless d = if fit && not (closed dot)
    then raised || (closed d || (nat_eq d dot && hopeless)) else closed d

-- a position keeps its status and all covers of a length
pub record Stays (level len : ℕ) (P : Patterns) (H : Hopeless)
    (P' : Patterns) (H' : Hopeless) (w : Word)
    (p : ℕ) : Type 0 where
  pub status : status_at P' w p ≡ status_at P w p
  pub covers : (d : ℕ) → fits w.signs p len d ≡ true
      → is_covered level P' H' (window w.signs p len d) d
      ≡ is_covered level P H (window w.signs p len d) d
