-- The room that counts have for more positions.
use Rattle.std.proofs.Common.{◌≡◌, ℕ, ◌+◌, ◌-◌, ◌≤◌, ◌<◌, Bool, true, false, cond, ◌&&◌, not, nat_le, List, [], ◌∷◌, length, drop, Option, Some, None, fold, refl, arith}
use Rattle.std.specs.Ordering.{nat_cmp, is_lt}
use Rattle.std.specs.Option.{option_map_or}
use Rattle.std.specs.Cmp.Lexicographic.{slice_cmp, nat_list_cmp_total}
use Rattle.std.specs.FinMap.Entries.{is_sorted-put}
use Rattle.std.proofs.lemmas.Bool.{and_parts, leb-true}
use Rattle.std.proofs.lemmas.List.{length-take, length-drop}
use Rattle.pg_types.specs.declared.limits.TheConstants.{WEIGHT_MAX, FILE_MAX}
use Rattle.pg_dict.specs.Word.{Word}
use Rattle.pg_dict.specs.Inside.SoundWords.{IsWord}
use Rattle.pg_types.specs.Inside.counting.Counts.{Counts, AreSmall, sums_of, with_weight}
use Rattle.pg_patterns.specs.Values.{Patterns}
use Rattle.pg_select.specs.Inside.engine.Meanings.{with_position}
use Rattle.pg_select.specs.declared.pass.Pass.{Pass}
use Rattle.pg_select.specs.CountedPositions.{counts_as}
use Rattle.pg_select.specs.Inside.words.PositionLists.{CountedPosition, counted_positions_at}
use Rattle.pg_select.specs.Statuses.{status_at, position_weight}
use Rattle.pg_select.specs.Windows.{Hopeless, window, fits, is_covered}
use Rattle.pg_driver.specs.Inside.counting.Counting.{HasRoom, TookRoom}
use Rattle.pg_driver.proofs.Puts.{weight_found, weight_put, length_put, all_put}
use Rattle.pg_select.proofs.MarkSteps.{weight_small}

-- counts with room for a position have small sums with it
pub room_small : (counts : Counts) (u : List ℕ) (good : Bool) (weight : ℕ) → HasRoom counts 1 → weight ≤ WEIGHT_MAX → AreSmall (with_weight (sums_of counts u) good weight)
room_small counts u true weight room small = (omega (arith, weight_found u counts, room.light), omega (arith, weight_found u counts, room.light))
room_small counts u false weight room small = (omega (arith, weight_found u counts, room.light), omega (arith, weight_found u counts, room.light))

weight_with : (sums : ℕ × ℕ) (good : Bool) (weight : ℕ) → (with_weight sums good weight).0 + (with_weight sums good weight).1 ≡ sums.0 + sums.1 + weight
weight_with sums true weight = omega arith
weight_with sums false weight = omega arith

-- counts that became new ones have the rest of the room
pub room_left : (old new : Counts) (n k m : ℕ) → HasRoom old n → TookRoom old new k → k + m ≤ n → HasRoom new m
room_left old new n k m room took within = record { sorted = took.sorted; filled = took.filled; few = omega (arith, room.few, took.few); light = omega (arith, room.light, took.light) }

-- less room is left too
pub room_less : (counts : Counts) (n m : ℕ) → HasRoom counts n → m ≤ n → HasRoom counts m
room_less counts n m room less = record { sorted = room.sorted; filled = room.filled; few = omega (arith, room.few); light = omega (arith, room.light) }

-- no position
pub took_none : (counts : Counts) (n k : ℕ) → HasRoom counts n → TookRoom counts counts k
took_none counts n k room = record { sorted = room.sorted; filled = room.filled; few = omega arith; light = omega arith }

-- counts that took some room took at most more
pub took_less : (old new : Counts) (k n : ℕ) → k ≤ n → TookRoom old new k → TookRoom old new n
took_less old new k n le took = record { sorted = took.sorted; filled = took.filled; few = omega (arith, took.few); light = omega (arith, took.light) }

-- more positions
pub took_more : (a b c : Counts) (n k m : ℕ) → TookRoom a b n → TookRoom b c k → n + k ≤ m → TookRoom a c m
took_more a b c n k m first then within = record { sorted = then.sorted; filled = then.filled; few = omega (arith, first.few, then.few); light = omega (arith, first.light, then.light) }

-- a counted position takes the room of one position
pub took_with : (counts : Counts) (s : CountedPosition) (n : ℕ) → HasRoom counts n → is_lt (slice_cmp nat_cmp [] s.window) ≡ true → s.weight ≤ WEIGHT_MAX → TookRoom counts (with_position counts s) 1
took_with counts s n room filled small =
    let sums = with_weight (sums_of counts s.window) s.good s.weight in
    record {
      sorted = is_sorted-put (slice_cmp nat_cmp) nat_list_cmp_total s.window sums counts room.sorted;
      filled = all_put (λ u. is_lt (slice_cmp nat_cmp [] u)) s.window sums counts filled room.filled;
      few = length_put s.window sums counts room.sorted;
      light = omega (arith, weight_put s.window sums s.weight counts room.sorted (weight_with (sums_of counts s.window) s.good s.weight));
    }

-- nothing is counted yet
pub room_none : (n : ℕ) → n ≤ FILE_MAX → HasRoom [] n
room_none n few = record { sorted = tt; filled = refl; few = omega arith; light = omega arith }

-- a window that fits has a sign
filled : (u : List ℕ) → 1 ≤ length u → is_lt (slice_cmp nat_cmp [] u) ≡ true
filled [] long = absurd (omega arith)
filled (x ∷ xs) long = refl

pub window_filled : (w : List ℕ) (p len d : ℕ) → 1 ≤ len → fits w p len d ≡ true → is_lt (slice_cmp nat_cmp [] (window w p len d)) ≡ true
window_filled w p len d long fit =
    let inside : p - d + len ≤ length w = leb-true (p - d + len) (length w) (and_parts (nat_le d p) (nat_le (p - d + len) (length w)) fit).1 in
    filled (window w p len d) (omega (arith, length-take len (drop (p - d) w), length-drop (p - d) w))

-- what a pass counts at a position takes the room of one
pub took_position : (counts : Counts) (pass : Pass) (P : Patterns) (H : Hopeless) (w : Word) (p n : ℕ) → 1 ≤ pass.len → IsWord w
    → p < length w.signs → HasRoom counts n → TookRoom counts (fold with_position counts (counted_positions_at pass P H w p)) 1
took_position counts pass P H w p n long word within room =
    by_test (fits w.signs p pass.len pass.dot) (not (is_covered pass.level P H (window w.signs p pass.len pass.dot) pass.dot)) (counts_as pass.level (status_at P w p)) refl
  where
    by_test : (a b : Bool) (o : Option Bool) → fits w.signs p pass.len pass.dot ≡ a
        → TookRoom counts (fold with_position counts (option_map_or (λ good. record { window = window w.signs p pass.len pass.dot; good = good; weight = position_weight w p } ∷ [])
        (cond (a && b) o None) [])) 1
    by_test false b o is = took_none counts n 1 room
    by_test true false o is = took_none counts n 1 room
    by_test true true None is = took_none counts n 1 room
    by_test true true (Some good) is = took_with counts (record { window = window w.signs p pass.len pass.dot; good = good; weight = position_weight w p }) n room
        (window_filled w.signs p pass.len pass.dot long is) (weight_small w p word within)
