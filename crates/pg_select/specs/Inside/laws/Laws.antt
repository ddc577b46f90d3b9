-- The laws of the definitions of this crate, on candidates, sums, values, covers and passes that
-- count nothing.
use Rattle.std.specs.Prelude.{◌≡◌, ℕ, ◌+◌, ◌<◌, ◌≤◌, max, Bool, true, false, if◌then◌else◌, ◌||◌, ◌⊎◌, Some, List, [], length, map, filter, fold, sum_by, slice_index_or, All}
use Rattle.std.specs.List.{list_any, list_all}
use Rattle.std.specs.declared.cmp.Ordering.TheVariants.{Less}
use Rattle.std.specs.Ordering.{nat_cmp}
use Rattle.std.specs.Cmp.Lexicographic.{slice_cmp}
use Rattle.std.specs.FinMap.Entries.{put}
use Rattle.pg_types.specs.Inside.Limits.{sums_limit}
use Rattle.pg_types.specs.declared.limits.TheConstants.{FILE_MAX}
use Rattle.pg_translate.specs.Alphabets.{Alphabet}
use Rattle.pg_translate.specs.Reach.{positions}
use Rattle.pg_dict.specs.Word.{Word}
use Rattle.pg_dict.specs.Inside.SoundWords.{IsWord, letter_count}
use Rattle.pg_patterns.specs.DottedSigns.{dotted_cmp}
use Rattle.pg_patterns.specs.Inside.DottedOrder.{same_dotted}
use Rattle.pg_patterns.specs.Values.{Patterns, value_of, raise, applies, value_at}
use Rattle.pg_select.specs.Inside.engine.Meanings.{Meaning, with_position, after_give_up}
use Rattle.pg_select.specs.declared.pass.Pass.{Pass}
use Rattle.pg_select.specs.CountedPositions.{Candidate, counted_at, counts_as, candidates_of}
use Rattle.pg_select.specs.Inside.words.PositionLists.{CountedPosition, counted_positions, same_signs, candidates, good_of, bad_of, with_sums}
use Rattle.pg_select.specs.Statuses.{status_at}
use Rattle.pg_select.specs.Sums.{totals}
use Rattle.pg_select.specs.Windows.{Hopeless, is_covered}

-- each candidate comes in the order of signs before those behind it, so each stands once
abbrev pub CandidatesInOrder : Type 0
CandidatesInOrder = (counted : List CountedPosition) (i j : ℕ) (d : List ℕ) → i < j
    → j < length (candidates counted)
    → slice_cmp nat_cmp (slice_index_or (candidates counted) i d)
    (slice_index_or (candidates counted) j d) ≡ Less

-- the candidates are the windows that are counted
abbrev pub CandidatesAreCounted : Type 0
CandidatesAreCounted = (counted : List CountedPosition) (u : List ℕ)
    → list_any (same_signs u) (candidates counted) ≡ list_any (λ s. same_signs u s.window) counted

-- a candidate as an entry of the counts
abbrev pub counts_entry_of : Candidate → List ℕ × (ℕ × ℕ)
counts_entry_of c = (c.window, (c.good, c.bad))

-- counting what is counted, position after position, gives the candidates in order with their sums
abbrev pub CountsAreTally : Type 0
CountsAreTally = (counted : List CountedPosition)
    → fold with_position [] counted ≡ map counts_entry_of (with_sums counted)

-- the candidates of a pass are those of the list of what it counts
abbrev pub CandidatesAreListed : Type 0
CandidatesAreListed = (T : Alphabet) (W : List Word) (pass : Pass) (P : Patterns) (H : Hopeless)
    → candidates_of T W pass P H ≡ with_sums (counted_positions T W pass P H)

-- words have together at most as many letters as the longest dictionary has bytes
pub record AreFew (words : List Word) : Type 0 where
  pub each : All IsWord words
  pub letters : sum_by letter_count words ≤ FILE_MAX

-- the number of positions in reach of all words
abbrev pub number_of_positions : Alphabet → List Word → ℕ
number_of_positions m words =
    sum_by (λ (w : Word). length (positions m.left m.right (length w.signs))) words

-- where the left minimum is at least 1, words have no more positions in reach than letters
abbrev pub PositionsAreFew : Type 0
PositionsAreFew = (m : Alphabet) (words : List Word)
    → 1 ≤ m.left → number_of_positions m words ≤ sum_by letter_count words

-- a pass has no more candidates than positions in reach
abbrev pub CandidatesAreFew : Type 0
CandidatesAreFew = (m : Alphabet) (words : List Word) (pass : Pass) (P : Patterns) (H : Hopeless)
    → length (candidates (counted_positions m words pass P H)) ≤ number_of_positions m words

-- the totals of such words are below the limit of sums, also together
abbrev pub TotalsAreSmall : Type 0
TotalsAreSmall = (m : Alphabet) (words : List Word) (P : Patterns) → 1 ≤ m.left → AreFew words
    → (totals m words P).good + (totals m words P).bad + (totals m words P).missed < sums_limit

-- the weights of all that a pass counts in such words are together below the limit of sums
abbrev pub CountedAreLight : Type 0
CountedAreLight = (m : Alphabet) (words : List Word) (pass : Pass) (P : Patterns) (H : Hopeless)
    → 1 ≤ m.left
    → AreFew words → sum_by (λ s. s.weight) (counted_positions m words pass P H) < sums_limit

-- the sums of a window are within the weights of all that is counted
abbrev pub SumsAreParts : Type 0
SumsAreParts = (counted : List CountedPosition) (u : List ℕ)
    → good_of counted u + bad_of counted u ≤ sum_by (λ s. s.weight) counted

-- each candidate has at the dot of the pass a value below the level
abbrev pub CandidatesAreLow : Type 0
CandidatesAreLow = (m : Alphabet) (words : List Word) (pass : Pass) (P : Patterns) (H : Hopeless)
    → 1 ≤ pass.level
    → All (λ u. value_of P (u, pass.dot) < pass.level)
    (candidates (counted_positions m words pass P H))

-- a candidate that is chosen gets exactly the level as its value
abbrev pub ChosenGetLevel : Type 0
ChosenGetLevel = (m : Alphabet) (words : List Word) (pass : Pass) (P : Patterns) (H : Hopeless)
    → 1 ≤ pass.level
    → All (λ u. value_of (raise P (u, pass.dot) pass.level) (u, pass.dot) ≡ pass.level)
    (candidates (counted_positions m words pass P H))

-- a raise leaves the value of every other dotted string
abbrev pub OthersStay : Type 0
OthersStay = (P : Patterns) (j k : List ℕ × ℕ) (v : ℕ) → same_dotted k j ≡ false
    → value_of (raise P j v) k ≡ value_of P k

-- a raise lowers the value of no dotted string
abbrev pub NoneFalls : Type 0
NoneFalls = (P : Patterns) (j k : List ℕ × ℕ) (v : ℕ) → value_of P k ≤ value_of (raise P j v) k

-- a raise raises the values of the positions where its dotted string applies, and no others
abbrev pub RaisesWhereItApplies : Type 0
RaisesWhereItApplies = (P : Patterns) (k : List ℕ × ℕ) (v : ℕ) (w : List ℕ) (p : ℕ)
    → value_at (raise P k v) w p ≡ max (if applies w p k then v else 0) (value_at P w p)

-- a window that is given up changes no value, no status and no totals
abbrev pub GivenUpKeepsValues : Type 0
GivenUpKeepsValues = (m : Meaning) (u : List ℕ) (tidy : Bool)
    (minima : Alphabet) (words : List Word) (w : Word) (p : ℕ)
    → (value_at (after_give_up m u tidy).patterns w.signs p ≡ value_at m.patterns w.signs p)
    × (status_at (after_give_up m u tidy).patterns w p ≡ status_at m.patterns w p)
    × (totals minima words (after_give_up m u tidy).patterns ≡ totals minima words m.patterns)

-- a dotted string that is raised to the level covers the windows in which it stands, and no others
abbrev pub CoversWhereRaised : Type 0
CoversWhereRaised = (level : ℕ) (P : Patterns) (H : Hopeless) (k : List ℕ × ℕ) (u : List ℕ) (d : ℕ)
    → is_covered level (raise P k level) H u d ≡ (applies u d k || is_covered level P H u d)

-- a dotted string that is made hopeless covers exactly the same windows
abbrev pub HopelessCovers : Type 0
HopelessCovers = (level : ℕ) (P : Patterns) (H : Hopeless) (k : List ℕ × ℕ) (u : List ℕ) (d : ℕ)
    → is_covered level P (put dotted_cmp k (tt {0}) H) u d ≡ (applies u d k
    || is_covered level P H u d)

-- a window that is given up covers each window in which it stands with its dot
abbrev pub GivenUpCovers : Type 0
GivenUpCovers = (m : Meaning) (u x : List ℕ) (tidy : Bool) (d : ℕ)
    → applies x d (u, m.pass.dot) ≡ true
    → is_covered m.pass.level (after_give_up m u tidy).patterns
    (after_give_up m u tidy).hopeless x d
    ≡ true

-- a later point of a level: a value is the level or as it was, and what was covered is covered
pub record IsLater (level : ℕ) (P : Patterns) (H : Hopeless)
    (P' : Patterns) (H' : Hopeless) : Type 0 where
  pub values : (w : List ℕ) (p : ℕ) → (value_at P' w p ≡ value_at P w p) ⊎ (value_at P' w p ≡ level)
  pub covers : (u : List ℕ) (d : ℕ) → is_covered level P H u d ≡ true
      → is_covered level P' H' u d ≡ true

-- every point of a level is as late as itself
abbrev pub LaterAtOnce : Type 0
LaterAtOnce = (level : ℕ) (P : Patterns) (H : Hopeless) → IsLater level P H P H

-- what is later than a later point is later
abbrev pub LaterStill : Type 0
LaterStill = (level : ℕ) (P P' P'' : Patterns) (H H' H'' : Hopeless) → IsLater level P H P' H'
    → IsLater level P' H' P'' H'' → IsLater level P H P'' H''

-- a raise to the level leads to a later point
abbrev pub LaterRaised : Type 0
LaterRaised = (level : ℕ) (P : Patterns) (H : Hopeless) (k : List ℕ × ℕ)
    → IsLater level P H (raise P k level) H

-- a dotted string that is made hopeless leads to a later point
abbrev pub LaterHopeless : Type 0
LaterHopeless = (level : ℕ) (P : Patterns) (H : Hopeless) (k : List ℕ × ℕ)
    → IsLater level P H P (put dotted_cmp k (tt {0}) H)

-- a position whose status counts later in a level counted before, and as the same
abbrev pub StatusBack : Type 0
StatusBack = (level : ℕ) (P P' : Patterns) (H H' : Hopeless) (w : Word) (p : ℕ) (good : Bool)
    → IsLater level P H P' H' → counts_as level (status_at P' w p) ≡ Some good
    → counts_as level (status_at P w p) ≡ Some good

-- a position that counts with its window later in a level counted before, and as the same
abbrev pub CountedBack : Type 0
CountedBack = (pass : Pass) (P P' : Patterns) (H H' : Hopeless) (w : Word) (p : ℕ) (good : Bool)
    → IsLater pass.level P H P' H' → counted_at pass P' H' w p ≡ Some good
    → counted_at pass P H w p ≡ Some good

-- a pass counts nothing
abbrev pub CountsNothing : Alphabet → List Word → Pass → Patterns → Hopeless → Type 0
CountsNothing m words pass P H = counted_positions m words pass P H ≡ []

-- a pass that counts nothing counts nothing later in the level
abbrev pub CountsNothingLater : Type 0
CountsNothingLater =
    (m : Alphabet) (words : List Word) (pass : Pass) (P P' : Patterns) (H H' : Hopeless)
    → IsLater pass.level P H P' H' → CountsNothing m words pass P H
    → CountsNothing m words pass P' H'

-- the pass whose windows have one sign more behind them
abbrev pub longer_behind : Pass → Pass
longer_behind pass = record pass { len = pass.len + 1 }

-- the pass whose windows have one sign more before them
abbrev pub longer_before : Pass → Pass
longer_before pass = record pass { len = pass.len + 1; dot = pass.dot + 1 }

-- where a position counts with a longer window, it counts alike with the one shorter by a sign
abbrev pub CountedShorter : Type 0
CountedShorter = (pass : Pass) (P : Patterns) (H : Hopeless) (w : Word) (p : ℕ) (good : Bool)
    → (counted_at (longer_behind pass) P H w p ≡ Some good → counted_at pass P H w p ≡ Some good)
    × (counted_at (longer_before pass) P H w p ≡ Some good → counted_at pass P H w p ≡ Some good)

-- where a pass counts nothing, the two passes that are longer by a sign count nothing
abbrev pub CountsNothingLonger : Type 0
CountsNothingLonger = (m : Alphabet) (words : List Word) (pass : Pass) (P : Patterns) (H : Hopeless)
    → CountsNothing m words pass P H
    → CountsNothing m words (longer_behind pass) P H
    × CountsNothing m words (longer_before pass) P H

-- the patterns when the windows of these candidates are raised to the level at the dot
abbrev pub raised_all : ℕ → ℕ → Patterns → List Candidate → Patterns
raised_all level dot P cs = fold (λ P c. raise P (c.window, dot) level) P cs

-- the hopeless dotted strings when those windows are made hopeless at the dot
abbrev pub hopeless_all : ℕ → Hopeless → List Candidate → Hopeless
hopeless_all dot H cs = fold (λ H c. put dotted_cmp (c.window, dot) (tt {0}) H) H cs

-- a pass leads to a later point of its level, whatever it chooses and gives up
abbrev pub LaterAfterPass : Type 0
LaterAfterPass = (level dot : ℕ) (P : Patterns) (H : Hopeless) (raised hopeless : List Candidate)
    → IsLater level P H (raised_all level dot P raised) (hopeless_all dot H hopeless)

-- a pass whose candidates are all covered later counts nothing then
abbrev pub CountsNothingWhenCovered : Type 0
CountsNothingWhenCovered = (m : Alphabet) (words : List Word)
    (pass : Pass) (P P' : Patterns) (H H' : Hopeless)
    → IsLater pass.level P H P' H'
    → list_all (λ u. is_covered pass.level P' H' u pass.dot)
    (candidates (counted_positions m words pass P H)) ≡ true
    → CountsNothing m words pass P' H'

-- a pass that left no candidate counts nothing from its end on
abbrev pub CountsNothingAtEnd : Type 0
CountsNothingAtEnd = (m : Alphabet) (words : List Word) (pass : Pass) (P : Patterns) (H : Hopeless)
    (raised hopeless : Candidate → Bool)
    → list_all (λ c. raised c || hopeless c) (with_sums (counted_positions m words pass P H)) ≡ true
    → CountsNothing m words pass
    (raised_all pass.level pass.dot P
    (filter raised (with_sums (counted_positions m words pass P H))))
    (hopeless_all pass.dot H (filter hopeless (with_sums (counted_positions m words pass P H))))
