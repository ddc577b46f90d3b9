-- What a pass counts: at each position that counts, its window, where that fits and is not covered.
use Rattle.std.specs.Prelude.{ℕ, ◌+◌, Bool, true, false, not, ◌&&◌, if◌then◌else◌, List, [], length, map, fold, Option, None, Some, unwrap_or}
use Rattle.std.specs.Option.{option_map_or}
use Rattle.std.specs.Ordering.{nat_cmp}
use Rattle.std.specs.Cmp.Lexicographic.{slice_cmp}
use Rattle.std.specs.FinMap.Entries.{put, find}
use Rattle.pg_types.specs.declared.marks.Mark.{Mark}
use Rattle.pg_types.specs.declared.marks.Mark.TheVariants.{Nothing, Error, Missed, Found, DontCare}
use Rattle.pg_dict.specs.Word.{Word}
use Rattle.pg_select.specs.declared.pass.Pass.{Pass}
use Rattle.pg_translate.specs.Alphabets.{Alphabet}
use Rattle.pg_translate.specs.Reach.{positions}
use Rattle.pg_patterns.specs.Values.{Patterns}
use Rattle.pg_select.specs.Statuses.{is_odd, status_at, position_weight}
use Rattle.pg_select.specs.Windows.{Hopeless, window, fits, is_covered}

-- whether a position with this status counts as good at the level, or as bad, or not at all
abbrev pub counts_as : ℕ → Mark → Option Bool
counts_as level Missed = if is_odd level then Some true else None
counts_as level Nothing = if is_odd level then Some false else None
counts_as level Error = if is_odd level then None else Some true
counts_as level Found = if is_odd level then None else Some false
counts_as level DontCare = None

-- whether a position counts as good or bad in a pass: by its status, where its window fits and is
-- not covered. P has all patterns that were chosen before the pass, those of its own level too
abbrev pub counted_at : Pass → Patterns → Hopeless → Word → ℕ → Option Bool
counted_at pass P H w p = if fits w.signs p pass.len pass.dot
    && not (is_covered pass.level P H (window w.signs p pass.len pass.dot) pass.dot)
    then counts_as pass.level (status_at P w p) else None

-- windows in the order of signs, each with the sums of the weights of its good and bad positions
abbrev pub WindowSums : Type 0
WindowSums = List (List ℕ × (ℕ × ℕ))

-- the sums with one weight more at a window, of a good or a bad position
abbrev pub sums_with : WindowSums → List ℕ → ℕ → Bool → WindowSums
sums_with sums u weight good = let old = unwrap_or (find (slice_cmp nat_cmp) u sums) (0, 0) in
    put (slice_cmp nat_cmp) u
    (if good then (old.0 + weight, old.1) else (old.0, old.1 + weight)) sums

-- the sums with one position of a word more, where it counts
abbrev pub sums_at : Pass → Patterns → Hopeless → Word → WindowSums → ℕ → WindowSums
sums_at pass P H w sums p = option_map_or
    (sums_with sums (window w.signs p pass.len pass.dot) (position_weight w p))
    (counted_at pass P H w p) sums

-- a candidate: a window that is counted, with its sums of good and bad weights
pub record Candidate : Type 0 where
  pub window : List ℕ
  pub good : ℕ
  pub bad : ℕ

-- the candidates of a pass, in the order of signs: over all positions in reach of all words
abbrev pub candidates_of : Alphabet → List Word → Pass → Patterns → Hopeless → List Candidate
candidates_of T W pass P H = map (λ e. record { window = e.0; good = e.1.0; bad = e.1.1 })
    (fold (λ sums (w : Word). fold (sums_at pass P H w) sums
    (positions T.left T.right (length w.signs))) [] W)
