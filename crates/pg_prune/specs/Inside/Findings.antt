-- The parts of what pruning finds: the need of an entry, what rounds come to, and the lines of the
-- report.
use Rattle.std.specs.Prelude.{ℕ, ◌-◌, not, List, [], ◌∷◌, ◌++◌, length, find, Option}
use Rattle.std.specs.Option.{option_map, option_to_list}
use Rattle.pg_translate.specs.Alphabets.{Alphabet}
use Rattle.pg_patterns.specs.Values.{Patterns}
use Rattle.pg_prune.specs.declared.pruned.Need.{Need}
use Rattle.pg_prune.specs.Inside.positions.PositionInReach.{PositionInReach, need_at}
use Rattle.pg_prune.specs.Prunes.{break_alike_at, needs, Pruning}
use Rattle.pg_prune.specs.Reports.{keep_line}

-- the first position at which two maps do not break alike, where there is one
abbrev pub first_difference : List PositionInReach → Patterns → Patterns → Option PositionInReach
first_difference positions P Q = find (λ x. not (break_alike_at P Q x)) positions

-- a need as a list
abbrev pub need_list : Option PositionInReach → List Need
need_list position = option_to_list (option_map need_at position)

-- the needs of the entries from `rest` on, behind those before them
abbrev pub needs_from : List PositionInReach → Patterns → Patterns → List Need
needs_from positions before [] = []
needs_from positions before (e ∷ rest) =
    need_list (first_difference positions (before ++ e ∷ rest) (before ++ rest))
    ++ needs_from positions (before ++ e ∷ []) rest

-- what the rounds come to, where so many entries were there at first
abbrev pub found_by : List PositionInReach → ℕ → Patterns × ℕ → Pruning
found_by positions first r =
    record {
      patterns = r.0;
      needs = needs positions r.0;
      rounds = r.1;
      removed = first - length r.0;
    }

-- the lines of entries with their needs
abbrev pub keep_lines : Alphabet → Patterns → List Need → List ℕ
keep_lines t [] needs = []
keep_lines t (e ∷ es) [] = []
keep_lines t (e ∷ es) (n ∷ ns) = keep_line t e n ++ keep_lines t es ns
