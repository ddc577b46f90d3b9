-- What is known of what comes out of pruning.
use Rattle.std.specs.Prelude.{◌≡◌, ℕ, List, All, Contains}
use Rattle.pg_translate.specs.Alphabets.{Alphabet}
use Rattle.pg_dict.specs.Word.{Word}
use Rattle.pg_patterns.specs.Values.{Patterns}
use Rattle.pg_patterns.specs.Inside.PatternMaps.{SignsUpTo}
use Rattle.pg_prune.specs.Prunes.{Pruning, pruning_of}
use Rattle.pg_prune.specs.Promises.{BreakAlike, NoneCanGo}
use Rattle.pg_prune.specs.Inside.Needs.{HasNeeds}

-- what is found where P, whose signs are at most n, is pruned for these words
pub record IsPruning (m : Alphabet) (n : ℕ) (words : List Word) (P : Patterns)
    (found : Pruning) : Type 0 where
  pub pruned : found ≡ pruning_of m words P
  pub alike : BreakAlike m words P found.patterns
  pub least : NoneCanGo m words P found.patterns
  pub needs : HasNeeds found
  pub part : All (Contains P) found.patterns
  pub known : SignsUpTo n found.patterns
