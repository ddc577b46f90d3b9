use Rattle.std.proofs.Common.{ℕ, List, ap₂, rules}
use Rattle.std.specs.List.{list_all}
use Rattle.pg_translate.specs.Spellings.{is_spelling}
use Rattle.pg_translate.proofs.table.Table.default_letters.Goals as goal

pub invariant_of-result : goal.invariant_of-result
invariant_of-result c = record {
  head_sound = c.defaults-head.ensures.sound;
  index_sound = c.in_ok-index.ensures.sound;
  few = search rules;
  spelled = ap₂ (λ (marks : List ℕ) (ss : List (ℕ × List ℕ)). list_all (λ s. is_spelling marks s.1) ss) c.defaults-head.ensures.marks c.in_ok-index.ensures.spellings;
}
