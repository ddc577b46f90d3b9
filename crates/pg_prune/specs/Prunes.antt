-- Pruning: entries that change no break are taken out of patterns, in rounds.
use Rattle.std.specs.Prelude.{ℕ, zero, suc, ◌+◌, ◌-◌, ◌%◌, Bool, not, nat_eq, if◌then◌else◌, List, [], ◌∷◌, ◌++◌, length, find, remove, filter_map}
use Rattle.std.specs.Option.{option_map}
use Rattle.std.specs.List.{list_all, range_with_len}
use Rattle.pg_translate.specs.Alphabets.{Alphabet}
use Rattle.pg_dict.specs.Word.{Word}
use Rattle.pg_patterns.specs.Values.{Patterns, value_at}
use Rattle.pg_prune.specs.declared.pruned.Need.{Need}
use Rattle.pg_prune.specs.Positions.{positions_in_reach}

-- two maps break alike at a position: the value there is odd in both, or in neither
abbrev pub break_alike_at : Patterns → Patterns → Need × List ℕ → Bool
break_alike_at P Q x = nat_eq (value_at P x.1 x.0.position % 2) (value_at Q x.1 x.0.position % 2)

-- the rest of a round, behind the entries `kept`: an entry goes where the others break as P does
abbrev pub round_from : List (Need × List ℕ) → Patterns → Patterns → Patterns → Patterns
round_from positions P kept [] = kept
round_from positions P kept (e ∷ rest) = if list_all (break_alike_at P (kept ++ rest)) positions
    then round_from positions P kept rest else round_from positions P (kept ++ e ∷ []) rest

-- what rounds leave of Q, which has at most so many entries, and the number of the last one, where
-- the first has the number n. The last round takes out nothing
abbrev pub rounds_from : List (Need × List ℕ) → Patterns → ℕ → ℕ → Patterns → Patterns × ℕ
rounds_from positions P n zero Q = (Q, n)
rounds_from positions P n (suc most) Q = let next = round_from positions P [] Q in
    if nat_eq (length next) (length Q) then (Q, n) else rounds_from positions P (n + 1) most next

-- the need of each entry: the first position that breaks otherwise without it
abbrev pub needs : List (Need × List ℕ) → Patterns → List Need
needs positions Q = filter_map (λ i. option_map (λ x. x.0) (find
    (λ x. not (break_alike_at Q (remove Q i) x)) positions)) (range_with_len 0 (length Q))

-- what pruning comes to: the patterns that stay, their needs, and how many rounds and removals
pub record Pruning : Type 0 where
  pub patterns : Patterns
  pub needs : List Need
  pub rounds : ℕ
  pub removed : ℕ

-- patterns pruned by the words of a dictionary
unfoldable pub pruning_of : Alphabet → List Word → Patterns → Pruning
pruning_of m words P = let positions = positions_in_reach m words in
    let left = rounds_from positions P 1 (length P) P in record {
      patterns = left.0;
      needs = needs positions left.0;
      rounds = left.1;
      removed = length P - length left.0;
    }
