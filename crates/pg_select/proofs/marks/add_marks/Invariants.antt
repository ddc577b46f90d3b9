use Rattle.std.proofs.Common.{◌≡◌, ℕ, ◌≤◌, ◌<◌, ◌-◌, length}
use Rattle.std.specs.List.{slice_index}
use Rattle.pg_dict.specs.Inside.SoundWords.{letter_count}
use Rattle.pg_dict.specs.Inside.LentWords.{lent_word}
use Rattle.pg_select.specs.Statuses.{status_with}
use Rattle.pg_select.specs.Sums.{marks_by}
use Rattle.pg_select.specs.Inside.SumSteps.{with_marks, TookRoomFor}
use Rattle.pg_select.proofs.MarkSteps.{marks_from_by}
use Rattle.pg_select.proofs.marks.add_marks.Given as goal

abbrev pub invariant-positions : goal.invariant-positions
invariant-positions l = record {
  sums : (value : ℕ → ℕ) → ((p : ℕ) → p < length l.w.signs.now → slice_index l.found.values p ≡ value p) → with_marks l.sums (marks_from_by value (lent_word l.w) l.p l.end)
      ≡ with_marks l.fn.sums (marks_by l.table (λ p. status_with (lent_word l.w) p (value p)) (lent_word l.w));
  few : l.p - l.first ≤ letter_count (lent_word l.w);
  took_for : TookRoomFor l.fn.sums l.sums (l.p - l.first);
}
