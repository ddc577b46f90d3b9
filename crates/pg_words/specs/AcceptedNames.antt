-- Which names a command accepts.
use Rattle.std.specs.Prelude.{ℕ, nat_lt, nat_eq, Bool, true, not, ◌&&◌, if◌then◌else◌, List, [], ◌∷◌, ◌++◌, length, Option, None, Some, codes}
use Rattle.std.specs.List.{list_all, starts_with}
use Rattle.std.specs.Str.{bytes_eq}

-- a name is not empty and does not begin with two dashes
abbrev pub is_name : List ℕ → Bool
is_name argument = nat_lt 0 (length argument) && not (starts_with nat_eq argument (codes "--"))

-- each output name differs from the output names after it and from the input names
abbrev pub outputs_differ : List (List ℕ) → List (List ℕ) → Bool
outputs_differ [] inputs = true
outputs_differ (output ∷ outputs) inputs = list_all (λ other. not (bytes_eq output other))
    (outputs ++ inputs) && outputs_differ outputs inputs

-- what is asked for, where its names can be names, and each output differs from all other names
abbrev pub where_accepted : {X : Type 0} → List (List ℕ) → List (List ℕ) → X → Option X
where_accepted inputs outputs request = if list_all is_name (inputs ++ outputs)
    && outputs_differ outputs inputs then Some request else None
