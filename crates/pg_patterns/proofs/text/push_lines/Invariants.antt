use Rattle.std.proofs.Common.{◌≡◌, ℕ, ◌++◌, ◌-◌, ◌<◌, length, drop, List, get_or, flat_map}
use Rattle.pg_patterns.specs.Inside.Search.{HasRank}
use Rattle.pg_patterns.specs.Texts.{strings_of, pattern_line, pattern_text}
use Rattle.pg_patterns.proofs.text.push_lines.Given as goal

abbrev pub invariant-lines : goal.invariant-lines
invariant-lines l = record {
  text : l.text.items ++ flat_map (pattern_line l.table l.entries) (strings_of (drop l.at l.entries)) ≡ l.fn.text.items ++ pattern_text l.table l.entries;
  start : (e : (List ℕ × ℕ) × ℕ) → l.at < length l.entries → e ≡ get_or l.entries l.at e → HasRank l.entries (e.0.0, 0) l.at;
}

abbrev pub decreases-lines : goal.decreases-lines
decreases-lines l = length l.entries - l.at
