-- The windows that were counted are those of starts.
use Rattle.std.proofs.Common.{◌≡◌, ℕ, true, List, get_or, slice_get, Some, None, sym, ap, ◌∙◌}
use Rattle.pg_types.specs.Inside.counting.Counts.{counted_sums}
use Rattle.pg_types.specs.Inside.counting.NumberedWindows.{HasNumber}
use Rattle.pg_starts.specs.declared.start_counts.StartCounts.{StartCounts}
use Rattle.pg_starts.specs.Inside.Tallies.{tallied}
use Rattle.pg_starts.specs.Inside.Known.{is_numbered, number_at}
use Rattle.pg_starts.specs.Inside.StartCountings.{AreCounting, counts_in, windows_in}
use Rattle.pg_starts.specs.Inside.Starts.{window_from}
use Rattle.pg_starts.proofs.Numbering.{has_number, windows_rise}
use Rattle.pg_starts.proofs.Tallying.{find_there}

-- a window that was counted begins at a start
pub counted_start : (signs : List ℕ) (c : StartCounts) → AreCounting signs c → (u : List ℕ) (k : ℕ) (s : ℕ × ℕ) → HasNumber (windows_in signs c) u k → counted_sums (counts_in signs c) u ≡ Some s
    → (i : ℕ) × (is_numbered signs c.numbers i ≡ true) × (u ≡ window_from signs i c.numbers.len)
counted_start signs c counting u k s has counted =
    let found : get_or (tallied c.tallies) k None ≡ Some s =
    sym (find_there u k (windows_in signs c) (tallied c.tallies) (windows_rise signs c.numbers counting.known) has) ∙ counted in
    let from = counting.from k s found in
    let at : HasNumber (windows_in signs c) (window_from signs from.0 c.numbers.len) (number_at signs c.numbers from.0) = has_number signs c.numbers counting.known from.0 from.1 in
    let both : Some u ≡ Some (window_from signs from.0 c.numbers.len) = sym has ∙ ap (slice_get (windows_in signs c)) (sym from.2) ∙ at in
    (from.0, from.1, same u (window_from signs from.0 c.numbers.len) both)
  where
    same : (v w : List ℕ) → Some v ≡ Some w → v ≡ w
    same v w is = cc
