use Rattle.std.proofs.Common.{◌≡◌, ℕ, ◌+◌, ◌-◌, ◌<◌, ◌∷◌, filter, fold, List, Bool, false, not, length, map, refl, sym, ap, subst, ◌∙◌, arith}
use Rattle.std.specs.List.{flat_map, range_with_len}
use Rattle.pg_dict.specs.Inside.Store.{all_signs}
use Rattle.pg_dict.proofs.WordStore.Told.{word_in}
use Rattle.pg_dots.specs.Inside.Dots.{is_closed}
use Rattle.pg_types.specs.Inside.counting.Counts.{Counts}
use Rattle.pg_select.specs.Inside.engine.Meanings.{with_position}
use Rattle.pg_starts.specs.Inside.StartCountings.{counts_in}
use Rattle.pg_driver.specs.declared.pass_windows.WordPosition.{WordPosition}
use Rattle.pg_driver.specs.Inside.counting.Counting.{AreNumbersFor, HasRoom, TookRoom}
use Rattle.pg_driver.specs.Inside.counting.OpenPositions.{counted_of}
use Rattle.pg_driver.specs.Inside.counting.OpenSigns.{open_signs, position_from, sign_count}
use Rattle.pg_driver.proofs.FlatSigns.{counted_there}
use Rattle.pg_driver.proofs.OpenSigns.{open_first, open_skip, place_of, sign_of}
use Rattle.pg_driver.proofs.OpenSteps.{took_entry}
use Rattle.pg_driver.proofs.Rooms.{room_left, room_less}
use Rattle.pg_driver.proofs.StartSteps.{numbers_at_one}
use Rattle.pg_driver.proofs.Walks.{counted_step}
use Rattle.pg_driver.proofs.counting.open_passes.count_open.Goals as goal

pub signs-init : goal.signs-init
signs-init c =
    let words = c.args.dictionary.now in
    let pass = c.args.pass in
    let cs : Counts = counts_in (all_signs words) c.args.counts.now in
    let closed : ℕ → Bool = is_closed c.args.dots.now pass.dot in
    let total = sign_count words in
    let next = c.next_open-next.result in
    let later = c.next_open-next.ensures.next 0 c.walk-walk.ensures.ahead in
    let skipped : open_signs closed 0 total ≡ open_signs closed next total = open_skip closed total 0 next later.after later.passes in
    record {
      kept = refl;
      counting = c.requires.counting;
      whole = ap (λ (xs : List ℕ). fold with_position cs (flat_map (counted_of pass words) (map (position_from 0 words) xs))) (sym skipped);
      room = subst (λ (xs : List ℕ). HasRoom cs (length xs)) skipped c.requires.room;
      inside = later.within;
      free = later.fails;
      at = c.next_open-next.ensures.within;
      ahead = c.next_open-next.ensures.ahead 0 c.walk-walk.ensures.ahead;
    }

pub count_sign-requires-clause-within : goal.count_sign-requires-clause-within
count_sign-requires-clause-within c =
    let all = ap (λ (xs : List ℕ). length xs) c.all_signs-signs.ensures in
    omega (arith, c.signs-test.true)

pub count_sign-requires-clause-numbers : goal.count_sign-requires-clause-numbers
count_sign-requires-clause-numbers c =
    let words = c.args.dictionary.now in
    let all = ap (λ (xs : List ℕ). length xs) c.all_signs-signs.ensures in
    numbers_at_one words c.args.pass.len c.args.pass.dot c.signs.next (is_closed c.args.dots.now) c.signs.counts.numbers
    (subst (AreNumbersFor words c.args.pass.len (λ d s. not (is_closed c.args.dots.now d s))) (sym c.signs.invariant.kept) c.requires.numbers)
    (c.signs.invariant.free (omega (arith, c.signs-test.true, c.requires.size)))

pub count_sign-requires-clause-room : goal.count_sign-requires-clause-room
count_sign-requires-clause-room c =
    let words = c.args.dictionary.now in
    let closed : ℕ → Bool = is_closed c.args.dots.now c.args.pass.dot in
    let total = sign_count words in
    let s = c.signs.next in
    let all = ap (λ (xs : List ℕ). length xs) c.all_signs-signs.ensures in
    let low : s < total = omega (arith, c.signs-test.true) in
    let first = open_first closed total s low (c.signs.invariant.free (omega (arith, c.requires.size))) in
    room_less (counts_in (all_signs words) c.signs.counts) (length (open_signs closed s total)) 1 c.signs.invariant.room (omega (arith, ap (λ (xs : List ℕ). length xs) first))

pub signs-preserved : goal.signs-preserved
signs-preserved c =
    let words = c.args.dictionary.now in
    let pass = c.args.pass in
    let f = counted_of pass words in
    let place : ℕ → WordPosition = position_from 0 words in
    let closed : ℕ → Bool = is_closed c.args.dots.now pass.dot in
    let total = sign_count words in
    let cs : Counts = counts_in (all_signs words) c.signs.counts in
    let ds : Counts = counts_in (all_signs words) c.count_sign.new.counts in
    let inv = c.signs.invariant in
    let s = c.signs.next in
    let t = c.next_open-next-in-signs.result in
    let ahead = inv.ahead (omega (arith, c.signs-test.true, c.requires.size, ap (λ (xs : List ℕ). length xs) c.all_signs-signs.ensures)) in
    let later = c.next_open-next-in-signs.ensures.next (s + 1) ahead in
    let all = ap (λ (xs : List ℕ). length xs) c.all_signs-signs.ensures in
    let low : s < total = omega (arith, c.signs-test.true) in
    let free : closed s ≡ false = inv.free (omega (arith, c.requires.size)) in
    let step : open_signs closed s total ≡ s ∷ open_signs closed t total = open_first closed total s low free
    ∙ ap (λ (xs : List ℕ). s ∷ xs) (open_skip closed total (s + 1) t later.after later.passes) in
    let of = sign_of words s low in
    let one : HasRoom cs 1 = room_less cs (length (open_signs closed s total)) 1 inv.room (omega (arith, ap (λ (xs : List ℕ). length xs) step)) in
    let took : TookRoom cs ds 1 = took_entry cs ds pass.level pass.len pass.dot of.word of.at 1 c.requires.ranges.len_low (word_in words of.number of.word c.requires.words of.there) of.within one
    (c.count_sign.ensures.counts ∙ ap (λ (e : WordPosition). fold with_position cs (f e)) (place_of words s of)
    ∙ counted_there cs pass.level pass.len pass.dot words of.number of.at of.word of.there) in
    record {
      kept = c.count_sign.ensures.numbers ∙ inv.kept;
      counting = c.count_sign.ensures.counting;
      whole = counted_step f cs ds _ (place s) (map place (open_signs closed t total)) c.count_sign.ensures.counts (ap (λ (xs : List ℕ). fold with_position cs (flat_map f (map place xs))) (sym step) ∙ inv.whole);
      room = room_left cs ds (length (open_signs closed s total)) 1 (length (open_signs closed t total)) inv.room took (omega (arith, ap (λ (xs : List ℕ). length xs) step));
      inside = later.within;
      free = later.fails;
      at = c.next_open-next-in-signs.ensures.within;
      ahead = c.next_open-next-in-signs.ensures.ahead (s + 1) ahead;
    }

pub signs-smaller : goal.signs-smaller
signs-smaller c =
    let ahead = c.signs.invariant.ahead (omega (arith, c.signs-test.true, c.requires.size, ap (λ (xs : List ℕ). length xs) c.all_signs-signs.ensures)) in
    let later = c.next_open-next-in-signs.ensures.next (c.signs.next + 1) ahead in
    omega (arith, c.signs-test.true, later.after)

pub returns-clause-room : goal.returns-clause-room
returns-clause-room c = room_less _ _ 0 c.signs.invariant.room (omega arith)

pub returns-clause-counts : goal.returns-clause-counts
returns-clause-counts c =
    let words = c.args.dictionary.now in
    let closed : ℕ → Bool = is_closed c.args.dots.now c.args.pass.dot in
    let all = ap (λ (xs : List ℕ). length xs) c.all_signs-signs.ensures in
    let none : sign_count words - c.signs.next ≡ 0 = omega (arith, c.signs-test.false) in
    ap (λ (n : ℕ). fold with_position (counts_in (all_signs words) c.signs.counts) (flat_map (counted_of c.args.pass words) (map (position_from 0 words) (filter (λ s. not (closed s)) (range_with_len c.signs.next n))))) (sym none)
    ∙ c.signs.invariant.whole
