-- What is due at the items of small parameters files, computed on its definition.
use Rattle.std.proofs.Common.{◌≡◌, ℕ, List, [], ◌∷◌, Option, None, Some, codes, refl}
use Rattle.pg_types.specs.declared.refusals.Kind.TheVariants.{OutOfRange, Missing, Extra}
use Rattle.pg_types.specs.declared.demands.Parameter.TheVariants.{GreatestLength, Threshold, Answer}
use Rattle.pg_types.specs.Parameters.{items}
use Rattle.pg_types.specs.ValuesOrRefusals.{refusal_at}
use Rattle.pg_types.specs.Inside.reading.Demands.{UnmetItem, first_due, unmet_from}

abbrev unmet : List ℕ → Option UnmetItem
unmet bytes = unmet_from (items bytes) 1 first_due

all_are_met : unmet (codes "1 1 2 2 1 1 2 y") ≡ None
all_are_met = refl

-- the greatest length of level 2 is at least its least one
lengths_of_level_2 : unmet (codes "1 2 1 1 1 1 1 3 2 1 1")
    ≡ Some (refusal_at 9 OutOfRange 0, record { parameter = GreatestLength; first = 1; last = 2; level = 2; least = 3; greatest = 15 }, codes "2" ∷ codes "1" ∷ codes "1" ∷ [])
lengths_of_level_2 = refl

no_threshold : unmet (codes "3 3 2 2 1 1")
    ≡ Some (refusal_at 7 Missing 0, record { parameter = Threshold; first = 3; last = 3; level = 3; least = 1; greatest = 1000000 }, [])
no_threshold = refl

behind_an_answer : unmet (codes "2 1 y 7") ≡ Some (refusal_at 4 Extra 0, record { parameter = Answer; first = 2; last = 1; level = 2; least = 0; greatest = 0 }, codes "7" ∷ [])
behind_an_answer = refl
