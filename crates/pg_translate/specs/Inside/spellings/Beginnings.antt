-- How a spelling may begin.
use Rattle.std.specs.Prelude.{ℕ, ◌==◌, Bool, false, not, ◌||◌, List, [], ◌∷◌}
use Rattle.std.specs.Char.{is_ascii_digit}
use Rattle.std.specs.List.{list_any}

-- whether a spelling may begin with a byte: it is no digit, dot, `{` or mark
abbrev pub may_begin : List ℕ → ℕ → Bool
may_begin marks b = not
    (is_ascii_digit b || b == 46 || b == 123 || list_any (λ mark. mark == b) marks)

-- whether the first byte of a text may begin a spelling
abbrev pub begins_well : List ℕ → List ℕ → Bool
begins_well marks [] = false
begins_well marks (b ∷ bs) = may_begin marks b
