-- The starts that have a window, and the walk over them.
use Rattle.std.proofs.Common.{◌≡◌, ℕ, ◌+◌, ◌<◌, ◌≤◌, nat_le, Bool, true, false, not, ◌&&◌, List, length, refl, ap}
use Rattle.std.proofs.lemmas.Bool.{le-leb, leb-true}
use Rattle.pg_dots.specs.declared.start_set.StartSet.{StartSet}
use Rattle.pg_dots.specs.declared.walk.Walk.{Walk}
use Rattle.pg_dots.specs.Inside.Starts.{HasStartWalk, is_left_out, starts_room}
use Rattle.pg_dots.specs.Inside.Walks.{IsAhead}
use Rattle.pg_starts.specs.Inside.Starts.{has_window}

both : (a b : Bool) → (not a && b) ≡ true → (a ≡ false) × (b ≡ true)
both false b is = (refl, is)
both true b is = absurd (let wrong : false ≡ true = is in cc)

pub in_set : (signs : List ℕ) (s : StartSet) (len i : ℕ) → has_window signs s len i ≡ true → is_left_out s i ≡ false
in_set signs s len i is = (both (is_left_out s i) (nat_le (i + len) (length signs)) is).0

pub window_ends : (signs : List ℕ) (s : StartSet) (len i : ℕ) → has_window signs s len i ≡ true → i + len ≤ length signs
window_ends signs s len i is = leb-true (i + len) (length signs) (both (is_left_out s i) (nat_le (i + len) (length signs)) is).1

pub has_it : (signs : List ℕ) (s : StartSet) (len i : ℕ) → is_left_out s i ≡ false → i + len ≤ length signs → has_window signs s len i ≡ true
has_it signs s len i free within = λ k. not (free k) && le-leb (i + len) (length signs) within k

pub left_out : (signs : List ℕ) (s : StartSet) (len i : ℕ) → is_left_out s i ≡ true → has_window signs s len i ≡ false
left_out signs s len i out = ap (λ b. not b && nat_le (i + len) (length signs)) out

-- a walk over the starts is at a sign
pub record IsWalkAt (s : StartSet) (w : Walk) (next : ℕ) : Type 0 where
  pub inside : next ≤ starts_room s
  pub free : next < starts_room s → is_left_out s next ≡ false
  pub at : HasStartWalk s w
  pub ahead : next < starts_room s → IsAhead (is_left_out s) w (next + 1)
