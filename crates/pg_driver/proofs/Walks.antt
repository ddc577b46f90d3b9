-- A step of the walk over the words of a pass.
use Rattle.std.proofs.Common.{◌≡◌, ℕ, ◌+◌, ◌-◌, ◌<◌, ◌≤◌, List, ◌∷◌, ◌++◌, length, fold, sym, ap, subst, ◌∙◌, append-nil, arith}
use Rattle.std.specs.List.{flat_map, range_with_len}
use Rattle.std.proofs.lemmas.List.Sums.{fold-append}
use Rattle.pg_dict.specs.Word.{Word}
use Rattle.pg_dict.specs.Inside.SoundWords.{IsWord}
use Rattle.pg_types.specs.Inside.counting.Counts.{Counts}
use Rattle.pg_patterns.specs.Values.{Patterns, value_at}
use Rattle.pg_select.specs.Inside.engine.Meanings.{with_position}
use Rattle.pg_select.specs.declared.pass.Pass.{Pass}
use Rattle.pg_select.specs.Windows.{Hopeless}
use Rattle.pg_select.specs.Inside.words.PositionLists.{CountedPosition, counted_positions_at}
use Rattle.pg_driver.specs.Inside.counting.Counting.{HasRoom, TookRoom}
use Rattle.pg_driver.proofs.Rooms.{room_left, took_position, took_more}
use Rattle.pg_select.proofs.Reaches.{range_step}
use Rattle.pg_select.proofs.MarkSteps.{marks_done_by, marks_from}
use Rattle.pg_select.specs.Inside.SumSteps.{with_marks}
use Rattle.pg_types.specs.declared.marks.Totals.{Totals}

-- the counted positions of one part, and then those of the rest
pub counted_step : {X : Type 0} (f : X → List CountedPosition) (cs ds whole : Counts) (x : X) (xs : List X) → ds ≡ fold with_position cs (f x)
    → fold with_position cs (flat_map f (x ∷ xs)) ≡ whole → fold with_position ds (flat_map f xs) ≡ whole
counted_step f cs ds whole x xs is left = ap (λ (es : Counts). fold with_position es (flat_map f xs)) is ∙ sym (fold-append with_position cs (f x) (flat_map f xs)) ∙ left

-- a position that was counted, and then the rest
pub position_step : (f : ℕ → List CountedPosition) (cs ds whole : Counts) (p end : ℕ) → p < end → ds ≡ fold with_position cs (f p)
    → fold with_position cs (flat_map f (range_with_len p (end - p))) ≡ whole → fold with_position ds (flat_map f (range_with_len (p + 1) (end - (p + 1)))) ≡ whole
position_step f cs ds whole p end before is left =
    counted_step f cs ds whole p (range_with_len (p + 1) (end - (p + 1))) is (ap (λ xs. fold with_position cs (flat_map f xs)) (sym (range_step p end before)) ∙ left)

-- the room that a position took
pub room_on : (pass : Pass) (P : Patterns) (H : Hopeless) (es cs ds : Counts) (w : Word) (p k size : ℕ) → 1 ≤ pass.len → IsWord w → p < length w.signs → HasRoom es size → k < size
    → TookRoom es cs k → ds ≡ fold with_position cs (counted_positions_at pass P H w p) → TookRoom es ds (k + 1)
room_on pass P H es cs ds w p k size long word within room few took is =
    let here : HasRoom cs 1 = room_left es cs size k 1 room took (omega arith) in
    let more : TookRoom cs (fold with_position cs (counted_positions_at pass P H w p)) 1 = took_position cs pass P H w p 1 long word within here in
    subst (λ xs. TookRoom es xs (k + 1)) (sym is) (took_more es cs _ k 1 (k + 1) took more (omega arith))

-- a walk that is at its end has counted, added and listed the whole
pub counted_done : (cs whole : Counts) (f : ℕ → List CountedPosition) (p end : ℕ) → end ≤ p → fold with_position cs (flat_map f (range_with_len p (end - p))) ≡ whole → cs ≡ whole
counted_done cs whole f p end past left =
    let none : end - p ≡ 0 = omega arith in
    subst (λ n. fold with_position cs (flat_map f (range_with_len p n)) ≡ whole) none left

pub marks_done : (t whole : Totals) (P : Patterns) (w : Word) (p end : ℕ) → end ≤ p → with_marks t (marks_from P w p end) ≡ whole → t ≡ whole
marks_done t whole P w p end past left = marks_done_by t whole (value_at P w.signs) w p end past left

pub listed_done : {X : Type 0} (f : ℕ → List X) (xs whole : List X) (p end : ℕ) → end ≤ p → xs ++ flat_map f (range_with_len p (end - p)) ≡ whole → xs ≡ whole
listed_done f xs whole p end past left =
    let none : end - p ≡ 0 = omega arith in
    sym (append-nil xs) ∙ subst (λ n. xs ++ flat_map f (range_with_len p n) ≡ whole) none left
