use Rattle.std.proofs.Common.{◌≡◌, ◌+◌, ◌≤◌, true, Ok, length}
use Rattle.std.specs.List.{list_all}
use Rattle.pg_types.specs.Lines.{lines}
use Rattle.pg_types.specs.declared.limits.TheConstants.{FILE_MAX}
use Rattle.pg_translate.specs.Alphabets.{letters_of}
use Rattle.pg_patterns.specs.Inside.PatternMaps.{SignsUpTo, is_entry}
use Rattle.pg_types.specs.Inside.reading.Parts.{both_parts}
use Rattle.pg_patterns.specs.Inside.EntryLines.{entries_from}
use Rattle.pg_patterns.proofs.reader.read_entries.Given as goal

abbrev pub invariant-lines : goal.invariant-lines
invariant-lines l = record {
  left : both_parts (Ok l.entries.items) (entries_from l.table l.line (lines l.rest)) ≡ entries_from l.table 1 (lines l.bytes);
  first : 1 ≤ l.line;
  few : l.line + length l.rest ≤ FILE_MAX + 1;
  sound : list_all is_entry l.entries.items ≡ true;
  known : SignsUpTo (letters_of l.table + 1) l.entries.items;
}

abbrev pub decreases-lines : goal.decreases-lines
decreases-lines l = length l.rest
