-- Totals that are carried from pass to pass.
use Rattle.std.proofs.Common.{◌≡◌, ℕ, ◌^◌, ◌≤◌, ◌<◌, Bool, true, false, List, arith}
use Rattle.std.specs.Bool.{MatchBool}
use Rattle.pg_types.specs.declared.marks.Totals.{Totals}
use Rattle.pg_dict.specs.Word.{Word}
use Rattle.pg_translate.specs.Alphabets.{Alphabet}
use Rattle.pg_select.specs.Sums.{totals as totals_by}
use Rattle.pg_patterns.specs.Values.{Patterns}
use Rattle.pg_select.proofs.LawsSums.{totals_small_within}
use Rattle.pg_driver.specs.Inside.counting.Counting.{IsBounded}
use Rattle.pg_driver.specs.Inside.counting.LevelCounting.{Carries}
use Rattle.pg_driver.specs.Inside.records.SoundRecords.{IsSmall}

same_totals : (a b : Totals) → a.good ≡ b.good → a.bad ≡ b.bad → a.missed ≡ b.missed → a ≡ b
same_totals a b p q r = λ i. record { good = p i; bad = q i; missed = r i }

-- there is one result
pub carried_same : (odd : Bool) (old a b : Totals) (good bad : ℕ) → Carries odd old a good bad → Carries odd old b good bad → a ≡ b
carried_same true old a b good bad first second = same_totals a b (omega (arith, first.found, second.found)) (omega (arith, first.errors, second.errors)) (omega (arith, first.missed, second.missed))
carried_same false old a b good bad first second = same_totals a b (omega (arith, first.found, second.found)) (omega (arith, first.errors, second.errors)) (omega (arith, first.missed, second.missed))

-- what is taken away was there
pub carried_within : (odd : Bool) (old new : Totals) (good bad : ℕ) → Carries odd old new good bad → MatchBool odd (good ≤ old.missed) ((bad ≤ old.good) × (good ≤ old.bad))
carried_within true old new good bad carries = omega (arith, carries.missed)
carried_within false old new good bad carries = (omega (arith, carries.found), omega (arith, carries.errors))

-- the sums are small
pub carried_small : (odd : Bool) (old new : Totals) (good bad : ℕ) → IsSmall old → IsSmall new → Carries odd old new good bad → (good < 2 ^ 40) × (bad < 2 ^ 40)
carried_small true old new good bad small less carries = (omega (arith, carries.missed), omega (arith, carries.errors))
carried_small false old new good bad small less carries = (omega (arith, carries.errors), omega (arith, carries.found))

-- and so are the totals of the words of a dictionary
pub totals_are_small : (T : Alphabet) (W : List Word) (P : Patterns) → IsBounded T W → IsSmall (totals_by T W P)
totals_are_small T W P bounded = totals_small_within T W P bounded.reached bounded.few
