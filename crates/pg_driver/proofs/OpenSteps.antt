-- The steps of the loops over words, positions and open positions.
use Rattle.std.proofs.Common.{◌≡◌, ℕ, ◌+◌, ◌-◌, ◌^◌, ◌≤◌, ◌<◌, Bool, true, false, cond, ◌&&◌, List, [], ◌∷◌, ◌++◌, length, fold, drop, slice_get, unwrap_or, append_assoc, Option, Some, None, refl, sym, ap, subst, ◌∙◌, arith}
use Rattle.std.specs.List.{All, flat_map, range_with_len, sum_by}
use Rattle.std.proofs.lemmas.List.Elements.{All-head, All-tail}
use Rattle.std.proofs.lemmas.List.Sums.{sum_by-cons}
use Rattle.std.specs.Option.{IfSome, option_map_or}
use Rattle.std.specs.FinMap.Entries.{find}
use Rattle.pg_translate.specs.Alphabets.{Alphabet}
use Rattle.pg_dict.specs.Word.{Word}
use Rattle.pg_dict.specs.Inside.SoundWords.{IsWord, letter_count}
use Rattle.pg_types.specs.Inside.counting.Counts.{Counts}
use Rattle.pg_select.specs.Inside.engine.Meanings.{with_position}
use Rattle.pg_select.specs.Statuses.{position_weight}
use Rattle.pg_select.specs.Windows.{window, fits}
use Rattle.pg_driver.specs.Inside.counting.Counting.{HasRoom, TookRoom}
use Rattle.pg_select.proofs.MarkSteps.{weight_small}
use Rattle.pg_driver.proofs.Puts.{cmp, weight_found}
use Rattle.pg_select.proofs.Reaches.{range_step}
use Rattle.pg_driver.proofs.Rooms.{took_none, took_with, window_filled}
use Rattle.pg_driver.proofs.WordSteps.{drop_place}
use Rattle.pg_driver.specs.declared.pass_windows.WordPosition.{WordPosition}
use Rattle.pg_driver.specs.Inside.counting.OpenLevels.{listed_in, listed_from}
use Rattle.pg_select.specs.Inside.laws.ClosedDots.{is_good, pass_at}
use Rattle.pg_driver.specs.Inside.counting.OpenPositions.{counted_in}

-- one part more
pub added_step : {X Y : Type 0} (f : X → List Y) (items more whole : List Y) (x : X) (xs : List X) → more ≡ items ++ f x → items ++ flat_map f (x ∷ xs) ≡ whole → more ++ flat_map f xs ≡ whole
added_step {Y = Y} f items more whole x xs is left = ap (λ (ys : List Y). ys ++ flat_map f xs) is ∙ append_assoc items (f x) (flat_map f xs) ∙ left

pub position_added : {Y : Type 0} (f : ℕ → List Y) (items more whole : List Y) (p end : ℕ) → p < end → more ≡ items ++ f p → items
    ++ flat_map f (range_with_len p (end - p)) ≡ whole → more ++ flat_map f (range_with_len (p + 1) (end - (p + 1))) ≡ whole
position_added {Y} f items more whole p end before is left =
    added_step f items more whole p (range_with_len (p + 1) (end - (p + 1))) is (ap (λ (ps : List ℕ). items ++ flat_map f ps) (sym (range_step p end before)) ∙ left)

-- what is counted at an open position takes the room of one
pub took_in : (counts : Counts) (level len dot : ℕ) (w : Word) (p n : ℕ) → 1 ≤ len → IsWord w → p < length w.signs → HasRoom counts n
    → TookRoom counts (fold with_position counts (counted_in (pass_at level len dot) w p)) 1
took_in counts level len dot w p n long word within room = by_test (fits w.signs p len dot) refl
  where
    by_test : (a : Bool) → fits w.signs p len dot ≡ a → TookRoom counts
        (fold with_position counts (option_map_or (λ good. record { window = window w.signs p len dot; good = good; weight = position_weight w p } ∷ [])
        (cond (a && true) (Some (is_good level w p)) None) [])) 1
    by_test false is = took_none counts n 1 room
    by_test true is = took_with counts (record { window = window w.signs p len dot; good = is_good level w p; weight = position_weight w p }) n room
        (window_filled w.signs p len dot long is) (weight_small w p word within)

-- sums that are found are small
pub found_small : (counts : Counts) (u : List ℕ) (n good bad : ℕ) → HasRoom counts n → Some (good, bad) ≡ find cmp u counts → (good < 2 ^ 40) × (bad < 2 ^ 40)
found_small counts u n good bad room is =
    let first : good ≡ (unwrap_or (find cmp u counts) (0, 0)).0 = ap (λ (o : Option (ℕ × ℕ)). (unwrap_or {T = ℕ × ℕ} o (0, 0)).0) is in
    let second : bad ≡ (unwrap_or (find cmp u counts) (0, 0)).1 = ap (λ (o : Option (ℕ × ℕ)). (unwrap_or {T = ℕ × ℕ} o (0, 0)).1) is in
    (omega (arith, weight_found u counts, room.light), omega (arith, weight_found u counts, room.light))

pub small_sums : (counts : Counts) (u : List ℕ) (n : ℕ) (o : Option (ℕ × ℕ)) → HasRoom counts n → o ≡ find cmp u counts → IfSome o (λ s. (s.0 < 2 ^ 40) × (s.1 < 2 ^ 40))
small_sums counts u n None room is = tt
small_sums counts u n (Some s) room is = found_small counts u n s.0 s.1 room is

-- and so for counts with it
pub took_entry : (cs ds : Counts) (level len dot : ℕ) (w : Word) (p k : ℕ) → 1 ≤ len → IsWord w → p < length w.signs → HasRoom cs k → ds
    ≡ fold with_position cs (counted_in (pass_at level len dot) w p) → TookRoom cs ds 1
took_entry cs ds level len dot w p k long word within room is =
    subst (λ (es : Counts). TookRoom cs es 1) (sym is) (took_in cs level len dot w p k long word within room)

-- words have no fewer letters than their number
pub few_words : (words : List Word) → All IsWord words → length words ≤ sum_by letter_count words
few_words [] all = omega arith
few_words (w ∷ words) all =
    let word : IsWord w = All-head IsWord w words all in
    let rest : length words ≤ sum_by letter_count words = few_words words (All-tail IsWord w words all) in
    omega (arith, sum_by-cons letter_count w words, word.long)

-- the positions of one word more
pub word_added : (m : Alphabet) (counts : Word → ℕ → Option Bool) (items more whole : List WordPosition) (words : List Word) (i : ℕ) (w : Word)
    → slice_get words i ≡ Some w → more ≡ items ++ listed_in m counts i w → items ++ listed_from m counts i (drop i words) ≡ whole
    → more ++ listed_from m counts (i + 1) (drop (i + 1) words) ≡ whole
word_added m counts items more whole words i w at is left =
    ap (λ (es : List WordPosition). es ++ listed_from m counts (i + 1) (drop (i + 1) words)) is
    ∙ append_assoc items (listed_in m counts i w) (listed_from m counts (i + 1) (drop (i + 1) words))
    ∙ ap (λ (ws : List Word). items ++ listed_from m counts i ws) (sym (drop_place words i w at))
    ∙ left
