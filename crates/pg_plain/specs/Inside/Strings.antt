-- Strings as dotted strings.
use Rattle.std.specs.Prelude.{ℕ, Bool, ◌&&◌, nat_le, List, length}
use Rattle.std.specs.List.{list_all}
use Rattle.pg_types.specs.declared.limits.TheConstants.{PATTERN_SIGNS_MAX}

-- a dotted string of at least 1 sign, and of at most as many as a pattern has
abbrev pub is_string : List ℕ × ℕ → Bool
is_string k = nat_le 1 (length k.0) && nat_le (length k.0) PATTERN_SIGNS_MAX

-- each sign is 1 to n
abbrev pub has_signs_up_to : ℕ → List ℕ → Bool
has_signs_up_to n q = list_all (λ s. nat_le 1 s && nat_le s n) q
