-- What is asked for where names are accepted.
use Rattle.std.proofs.Common.{◌≡◌, ℕ, ◌&&◌, ◌++◌, Bool, true, false, List, Some, None, refl}
use Rattle.std.specs.List.{list_all}
use Rattle.std.specs.Option.{option_map, is_some}
use Rattle.std.specs.Prelude.{if◌then◌else◌}
use Rattle.pg_words.specs.Inside.Requests.{Request}
use Rattle.pg_words.specs.AcceptedNames.{is_name, outputs_differ, where_accepted}

-- what is asked for, where it is known that its names are accepted
pub accepted_whole : {X : Type 0} (asked : X → Request) (inputs outputs : List (List ℕ)) (x : X)
    → is_some (option_map asked (where_accepted inputs outputs x)) ≡ true → Some (asked x) ≡ option_map asked (where_accepted inputs outputs x)
accepted_whole {X} asked inputs outputs x = by_test (list_all is_name (inputs ++ outputs) && outputs_differ outputs inputs)
  where
    by_test : (taken : Bool) → is_some (option_map asked (if taken then Some x else None)) ≡ true → Some (asked x) ≡ option_map asked (if taken then Some x else None)
    by_test true is = refl
    by_test false is = cc
