use Rattle.std.proofs.Common.{◌≡◌, ℕ, ◌≤◌, List, None, Some, Result, Ok, Err, IfOk, IfErr, MatchResult}
use Rattle.pg_types.specs.declared.refusals.Refusal.{Refusal}
use Rattle.pg_types.specs.Parameters.{Reading, items, number_then}
use Rattle.pg_types.specs.Inside.reading.Demands.{first_number, item_fault}
use Rattle.pg_types.proofs.DemandLaws.{fault_met, fault_missed}
use Rattle.pg_types.proofs.demands.take_due.Goals as goal

fault_of : (result : Result ℕ Refusal) (least greatest i : ℕ) (xs : List (List ℕ)) → IfOk result (λ n. first_number xs ≡ Some n) → IfOk result (λ n. least ≤ n) → IfOk result (λ n. n ≤ greatest)
    → IfErr result (λ r. (next : ℕ → Reading) → number_then least greatest next i xs ≡ Err r)
    → MatchResult result (λ _. item_fault (least, greatest) i xs ≡ None) (λ r. item_fault (least, greatest) i xs ≡ Some r)
fault_of (Ok n) least greatest i xs is low high refused = fault_met least greatest n i xs is low high
fault_of (Err r) least greatest i xs is low high refused = fault_missed least greatest i xs r refused

pub returns-clause-fault : goal.returns-clause-fault
returns-clause-fault c =
    fault_of c.number.result c.args.due.now.least c.args.due.now.greatest c.args.items.now.item_number (items c.args.items.now.rest.now)
    c.number.ensures.first c.number.ensures.low c.number.ensures.high c.number.ensures.refused
