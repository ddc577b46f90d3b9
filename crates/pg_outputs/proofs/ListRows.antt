-- The lists of two records, computed.
use Rattle.std.proofs.Common.{◌≡◌, List, [], ◌∷◌, refl}
use Rattle.pg_outputs.specs.declared.records.Record.{Record}
use Rattle.pg_outputs.specs.Lists.{list_of}

two : List Record
two = record { value = 1; dot = 2; next = 0 } ∷ record { value = 2; dot = 0; next = 1 } ∷ []

one_pair : list_of two 1 ≡ (1, 2) ∷ []
unfolding list_of two
one_pair = refl

two_pairs : list_of two 2 ≡ (2, 0) ∷ (1, 2) ∷ []
unfolding list_of two
two_pairs = refl

no_pair : list_of two 0 ≡ []
unfolding list_of two
no_pair = refl
