-- What a table that was packed from patterns means.
use Rattle.std.specs.Prelude.{◌≡◌, ℕ, List}
use Rattle.pg_translate.specs.Alphabets.{Alphabet}
use Rattle.pg_dict.specs.Word.{Word}
use Rattle.pg_patterns.specs.Values.{Patterns, value_of, value_at}
use Rattle.pg_patterns.specs.Inside.PatternMaps.{IsPatternMap}
use Rattle.pg_select.specs.Sums.{totals}
use Rattle.pg_table.specs.Lookups.{table_entry, table_value, table_totals}

-- the bytes give each string at each dot the value of the patterns
abbrev pub HasEntries : List ℕ → Patterns → Type 0
HasEntries b P = (q : List ℕ) (d : ℕ) → table_entry b q d ≡ value_of P (q, d)

-- bytes that do so give each position of each word the value of the patterns
abbrev pub ValuesArePacked : Type 0
ValuesArePacked = (P : Patterns) (b : List ℕ)
    → IsPatternMap P → HasEntries b P → (w : List ℕ) (p : ℕ) → table_value b w p ≡ value_at P w p

-- bytes that do so give each word list the totals of the patterns
abbrev pub TotalsArePacked : Type 0
TotalsArePacked = (P : Patterns) (b : List ℕ)
    → IsPatternMap P → HasEntries b P → (m : Alphabet) (words : List Word)
    → table_totals m words b ≡ totals m words P
