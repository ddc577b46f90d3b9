-- What is printed of a line of a given file that is false.
use Rattle.std.specs.Prelude.{ℕ, ◌-◌, nat_lt, if◌then◌else◌, List, [], ◌++◌, length, take, slice_index, codes}
use Rattle.pg_types.specs.Lines.{is_line_feed}
use Rattle.pg_audit.specs.declared.lines.TheConstants.{SHOWN_MAX}

-- what is printed of a found line: that it is missing, or its first 200 bytes, or all of it but its
-- line feed; and that the file ends, where a line that is shown whole has none
abbrev pub found_text : List ℕ → List ℕ
found_text [] = codes " is missing"
found_text line = let has_feed = is_line_feed (slice_index line (length line - 1)) in
    let bare = if has_feed then take (length line - 1) line else line in
    if nat_lt SHOWN_MAX (length bare) then codes " begins " ++ take SHOWN_MAX line
    else codes " found " ++ bare ++ (if has_feed then [] else codes " and the file ends")
