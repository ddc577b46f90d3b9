-- What every map of patterns keeps.
use Rattle.std.specs.Prelude.{◌≡◌, ℕ, ◌≤◌, Bool, true, ◌&&◌, T, List, length, nat_le}
use Rattle.std.specs.FinMap.Entries.{is_sorted}
use Rattle.std.specs.List.{list_all, All}
use Rattle.pg_types.specs.declared.limits.TheConstants.{LEVEL_MAX, PATTERN_SIGNS_MAX}
use Rattle.pg_types.specs.Inside.Signs.{is_sign}
use Rattle.pg_patterns.specs.Values.{Patterns}
use Rattle.pg_patterns.specs.DottedSigns.{dotted_cmp}

-- an entry has 1 to 32 signs, each at least 1, a dot of at most their number, and a value of 1 to 9
abbrev pub is_entry : (List ℕ × ℕ) × ℕ → Bool
is_entry e = nat_le 1 (length e.0.0) && nat_le (length e.0.0) PATTERN_SIGNS_MAX
    && list_all is_sign e.0.0 && nat_le e.0.1 (length e.0.0) && nat_le 1 e.1 && nat_le e.1 LEVEL_MAX

-- dotted strings stand in order, each once, and each entry is one of a pattern
pub record IsPatternMap (P : Patterns) : Type 0 where
  pub sorted : T (is_sorted dotted_cmp P)
  pub sound : list_all is_entry P ≡ true

-- every sign is at most n
abbrev pub SignsUpTo : ℕ → Patterns → Type 0
SignsUpTo n P = All (λ e. All (λ s. s ≤ n) e.0.0) P
