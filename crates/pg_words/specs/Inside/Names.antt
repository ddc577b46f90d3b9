-- Names as their bytes, and names that differ.
use Rattle.std.specs.Prelude.{ℕ, Bool, not, List, map, String, string_bytes}
use Rattle.std.specs.List.{list_all}
use Rattle.std.specs.Str.{bytes_eq}
use Rattle.std.specs.declared.alloc.Global.{Global}

-- arguments as their bytes
abbrev pub arguments_of : List (String Global) → List (List ℕ)
arguments_of words = map string_bytes words

-- a name differs from all others
abbrev pub differs_from : List ℕ → List (List ℕ) → Bool
differs_from name others = list_all (λ other. not (bytes_eq name other)) others
