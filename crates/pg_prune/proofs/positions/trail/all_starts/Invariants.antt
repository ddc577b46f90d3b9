use Rattle.std.proofs.Common.{◌≡◌, ◌≤◌, ◌+◌, ◌++◌, drop, sum_by, All}
use Rattle.pg_types.specs.declared.limits.TheConstants.{FILE_MAX}
use Rattle.pg_dict.specs.Inside.SoundWords.{letter_count}
use Rattle.pg_prune.specs.Inside.positions.Trails.{IsStart, starts_from, all_starts as all_starts_of}
use Rattle.pg_prune.proofs.positions.trail.all_starts.Given as goal

abbrev pub invariant-words : goal.invariant-words
invariant-words l = record {
  whole : l.starts.items ++ starts_from l.table l.word l.before (drop l.word l.dictionary) ≡ all_starts_of l.table l.dictionary;
  few : l.before + sum_by letter_count (drop l.word l.dictionary) ≤ FILE_MAX;
  known : All (IsStart l.dictionary) l.starts.items;
}
