-- The least counted string above a floor, among those that go on from a string.
use Rattle.std.specs.Prelude.{◌≡◌, ℕ, true, List, ◌∷◌, ◌++◌, length, Some}
use Rattle.std.specs.List.{list_all}
use Rattle.std.specs.declared.cmp.Ordering.TheVariants.{Less}
use Rattle.std.specs.Ordering.{nat_cmp}
use Rattle.std.specs.Cmp.Lexicographic.{slice_cmp}
use Rattle.pg_types.specs.Inside.Signs.{is_sign}
use Rattle.pg_count.specs.Inside.Counting.{Tallies, sums_at}

-- no counted string above the floor goes on from p by k signs of which s is the first
abbrev pub NoneAt : Tallies → List ℕ → List ℕ → ℕ → ℕ → Type 0
NoneAt tallies p floor k s = (q : List ℕ) (sums : ℕ × ℕ) → length (s ∷ q) ≡ k
    → sums_at tallies (p ++ s ∷ q) ≡ Some sums → slice_cmp nat_cmp floor (s ∷ q) ≡ Less → ⊥

-- none goes on from p by k signs
abbrev pub NoneAbove : Tallies → List ℕ → List ℕ → ℕ → Type 0
NoneAbove tallies p floor k = (s : ℕ) → NoneAt tallies p floor k s

-- p with the path is counted and above the floor, and no path of its length from s on is less
pub record LeastFrom (tallies : Tallies) (p floor : List ℕ) (s : ℕ) (path : List ℕ)
    (sums : ℕ × ℕ) : Type 0 where
  pub found : sums_at tallies (p ++ path) ≡ Some sums
  pub over : slice_cmp nat_cmp floor path ≡ Less
  pub are_signs : list_all is_sign path ≡ true
  pub least : (q : List ℕ) (n : ℕ × ℕ) → length (s ∷ q) ≡ length path
      → sums_at tallies (p ++ s ∷ q) ≡ Some n → slice_cmp nat_cmp floor (s ∷ q) ≡ Less
      → slice_cmp nat_cmp (s ∷ q) path ≡ Less → ⊥

-- no path of its length is less
abbrev pub LeastAbove : Tallies → List ℕ → List ℕ → List ℕ → ℕ × ℕ → Type 0
LeastAbove tallies p floor path sums = (s : ℕ) → LeastFrom tallies p floor s path sums

-- no path of its length that begins with s is less, and it begins so
pub record LeastAt (tallies : Tallies) (p floor : List ℕ) (s : ℕ) (path : List ℕ)
    (sums : ℕ × ℕ) : Type 0 where
  pub tail : List ℕ
  pub starts : path ≡ s ∷ tail
  pub least : LeastFrom tallies p floor s path sums
