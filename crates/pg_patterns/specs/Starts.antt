-- The map of a pattern file.
use Rattle.std.specs.Prelude.{ℕ, nat_lt, ◌&&◌, if◌then◌else◌, List, length, map, filter, flat_map, Result, Err}
use Rattle.std.specs.List.{enumerate_from}
use Rattle.pg_types.specs.declared.limits.TheConstants.{FILE_MAX}
use Rattle.pg_types.specs.declared.refusals.Kind.TheVariants.{PatternsTooLong}
use Rattle.pg_types.specs.declared.refusals.Refusal.{Refusal}
use Rattle.pg_types.specs.Lines.{lines}
use Rattle.pg_types.specs.ValuesOrRefusals.{refusal_at}
use Rattle.pg_translate.specs.declared.items.Place.TheVariants as place
use Rattle.pg_translate.specs.Alphabets.{Alphabet}
use Rattle.pg_translate.specs.Tokens.{Token}
use Rattle.pg_translate.specs.Gaps.{signs_of, gaps, last_number}
use Rattle.pg_translate.specs.LineRefusals.{of_lines}
use Rattle.pg_patterns.specs.Values.{Patterns, map_of_entries}

-- the entries of a line with a sign: at dot i the value is the last number of gap i, and 0 is none.
-- The numbers of such a line are digits
abbrev pub line_entries : List Token → List ((List ℕ × ℕ) × ℕ)
line_entries items = let signs = signs_of items in map (λ d. ((signs, d.0), d.1))
    (filter (λ d. nat_lt 0 d.1 && nat_lt 0 (length signs))
    (enumerate_from 0 (map (last_number 0) (gaps items))))

-- the map of a pattern file: the entries of its lines, equal ones joined by the greatest value
abbrev pub start : Alphabet → List ℕ → Result Patterns Refusal
start t bytes = if nat_lt FILE_MAX (length bytes) then Err (refusal_at 0 PatternsTooLong 0)
    else of_lines (λ ls. map_of_entries (flat_map line_entries ls)) t place.Patterns (lines bytes)
