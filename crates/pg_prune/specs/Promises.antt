-- What pruning keeps, said without its rounds.
use Rattle.std.specs.Prelude.{◌≡◌, ℕ, ◌%◌, List, ◌∷◌, ◌++◌, length, All}
use Rattle.pg_translate.specs.Alphabets.{Alphabet}
use Rattle.pg_translate.specs.Reach.{positions}
use Rattle.pg_dict.specs.Word.{Word}
use Rattle.pg_patterns.specs.Values.{Patterns, value_at}

-- two maps give each position in reach of each word values that are both odd or both even
abbrev pub BreakAlike : Alphabet → List Word → Patterns → Patterns → Type 0
BreakAlike m words P Q = All (λ (w : Word). All (λ p. value_at P w.signs p % 2
    ≡ value_at Q w.signs p % 2) (positions m.left m.right (length w.signs))) words

-- no entry can be taken out of Q alone so that the rest still breaks alike with P
abbrev pub NoneCanGo : Alphabet → List Word → Patterns → Patterns → Type 0
NoneCanGo m words P Q = (before : Patterns) (e : (List ℕ × ℕ) × ℕ) (behind : Patterns)
    → Q ≡ before ++ e ∷ behind → ¬ BreakAlike m words P (before ++ behind)
