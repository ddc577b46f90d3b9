use Rattle.std.proofs.Common.{◌≡◌, ◌+◌, ◌≤◌, length}
use Rattle.pg_translate.specs.Alphabets.{letters_of}
use Rattle.pg_patterns.specs.Inside.Drafts.{IsDraft, draft_left, line_draft}
use Rattle.pg_patterns.proofs.reader.read_line.Given as goal

abbrev pub invariant-items : goal.invariant-items
invariant-items l = record {
  left : draft_left l.table l.line (length l.text) l.draft l.rest ≡ line_draft l.table l.line l.text;
  within : length l.rest ≤ length l.text;
  kept : IsDraft (letters_of l.table + 1) l.draft;
}

abbrev pub decreases-items : goal.decreases-items
decreases-items l = length l.rest
