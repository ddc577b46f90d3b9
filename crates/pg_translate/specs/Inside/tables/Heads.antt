-- What the head of a translate file is read into.
use Rattle.std.specs.Prelude.{◌≡◌, ℕ, ◌<◌, ◌≤◌, List, [], ◌∷◌}
use Rattle.pg_translate.specs.declared.head.TheConstants.{MINIMUM_MAX}
use Rattle.pg_translate.specs.declared.head.Head.{Head}
use Rattle.pg_translate.specs.Inside.tables.Checks.{marks_of, minima_checks, mark_checks, left_minimum, right_minimum}

-- the mark bytes of a head
abbrev pub head_marks : Head → List ℕ
head_marks head = head.error ∷ head.missed ∷ head.found ∷ head.dont_care ∷ []

-- a head that was read from a line passes its checks and has its minima and marks
pub record IsHead (line : List ℕ) (head : Head) : Type 0 where
  pub minima_pass : minima_checks line ≡ []
  pub marks_pass : mark_checks (marks_of line) ≡ []
  pub left_is : head.left ≡ left_minimum line
  pub right_is : head.right ≡ right_minimum line
  pub marks_are : head_marks head ≡ marks_of line

-- the rules on minima and marks
pub record IsSoundHead (head : Head) : Type 0 where
  pub left_some : 0 < head.left
  pub left_few : head.left ≤ MINIMUM_MAX
  pub right_some : 0 < head.right
  pub right_few : head.right ≤ MINIMUM_MAX
  pub marks_pass : mark_checks (head_marks head) ≡ []
