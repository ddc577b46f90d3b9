-- The positions of a word in reach.
use Rattle.std.proofs.Common.{◌≡◌, ℕ, ◌+◌, ◌-◌, ◌<◌, ◌≤◌, Bool, true, false, cond, nat_le, [], ◌∷◌, suc, Option, Some, None, ap, refl, sym, arith, unwrap_or}
use Rattle.std.specs.List.{range_with_len}
use Rattle.std.specs.Option.{option_map_or}
use Rattle.std.proofs.lemmas.Bool.{leb-true}
use Rattle.pg_translate.specs.Reach.{reach, positions}

-- the numbers behind an answer
pub record Reaches (left right signs first last : ℕ) : Type 0 where
  pub enough : left + right + 2 ≤ signs
  pub begins : first ≡ left + 1
  pub ends : last + right + 1 ≡ signs

reaches : (b : Bool) (left right signs first last : ℕ) → (b ≡ true → left + right + 2 ≤ signs) → cond {A = Option (ℕ × ℕ)} b (Some (left + 1, signs - right - 1)) None
    ≡ Some (first, last) → Reaches left right signs first last
reaches false left right signs first last enough is = cc
reaches true left right signs first last enough is =
    let begins : left + 1 ≡ first = ap (λ (o : Option (ℕ × ℕ)). (unwrap_or {T = ℕ × ℕ} o (0, 0)).0) is in
    let behind : signs - right - 1 ≡ last = ap (λ (o : Option (ℕ × ℕ)). (unwrap_or {T = ℕ × ℕ} o (0, 0)).1) is in
    let long : left + right + 2 ≤ signs = enough refl in
    record { enough = long; begins = sym begins; ends = omega arith }

pub reach_is : (left right signs first last : ℕ) → reach left right signs ≡ Some (first, last) → Reaches left right signs first last
reach_is left right signs first last is = reaches (nat_le (left + right + 2) signs) left right signs first last (leb-true (left + right + 2) signs) is

pub positions_some : (left right signs first last : ℕ) → reach left right signs ≡ Some (first, last) → positions left right signs ≡ range_with_len first (last + 1 - first)
positions_some left right signs first last is = ap (λ o. option_map_or (λ (ends : ℕ × ℕ). range_with_len ends.0 (ends.1 + 1 - ends.0)) o []) is

pub positions_none : (left right signs : ℕ) → reach left right signs ≡ None → positions left right signs ≡ []
positions_none left right signs is = ap (λ o. option_map_or (λ (ends : ℕ × ℕ). range_with_len ends.0 (ends.1 + 1 - ends.0)) o []) is

-- the positions from one on
pub range_step : (p end : ℕ) → p < end → range_with_len p (end - p) ≡ p ∷ range_with_len (p + 1) (end - (p + 1))
range_step p end before = let k : end - p ≡ suc (end - (p + 1)) = omega arith in ap (range_with_len p) k
