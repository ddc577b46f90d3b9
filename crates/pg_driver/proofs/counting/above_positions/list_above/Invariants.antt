use Rattle.std.proofs.Common.{◌≡◌, ◌-◌, ◌++◌, ℕ}
use Rattle.std.specs.List.{flat_map, range_with_len}
use Rattle.pg_dict.specs.Inside.LentWords.{lent_word}
use Rattle.pg_patterns.specs.Values.{Patterns}
use Rattle.pg_select.specs.Inside.laws.AboveLevel.{counts_above}
use Rattle.pg_select.specs.Inside.words.Positions.{HasValues}
use Rattle.pg_driver.specs.Inside.counting.OpenLevels.{listed_in, open_as}
use Rattle.pg_driver.proofs.counting.above_positions.list_above.Given as goal

abbrev pub invariant-positions : goal.invariant-positions
invariant-positions l =
    let w = lent_word l.w in
    (P : Patterns) → HasValues P l.w.signs.now l.found.values
    → (l.above.items ++ flat_map (λ (p : ℕ). open_as l.word p (counts_above l.level P w p)) (range_with_len l.p (l.end - l.p)))
    ≡ (l.fn.above.items ++ listed_in l.table (counts_above l.level P) l.word w)
