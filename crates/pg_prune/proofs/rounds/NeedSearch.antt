-- What a search for a need tells.
use Rattle.std.proofs.Common.{◌≡◌, ℕ, Bool, true, false, not, List, [], Option, Some, None, refl, sym, ap, ◌∙◌}
use Rattle.std.specs.Prelude.{MatchOption, is_some}
use Rattle.pg_patterns.specs.Values.{Patterns}
use Rattle.pg_prune.specs.Inside.positions.PositionInReach.{PositionInReach}
use Rattle.pg_prune.specs.Prunes.{break_alike_at}
use Rattle.pg_prune.specs.Inside.rounds.EqualBreaks.{break_alike}
use Rattle.pg_prune.specs.Inside.Findings.{first_difference}
use Rattle.pg_prune.specs.Inside.rounds.Turns.{IsFound}
use Rattle.pg_prune.proofs.pruning.NeedLaws.{alike_where_none}
use Rattle.pg_prune.proofs.rounds.TurnLaws.{find_nothing}

cannot : (b : Bool) → (b ≡ true → ⊥) → true ≡ not b
cannot true never = absurd (never refl)
cannot false never = refl

-- there is a need exactly where the maps do not break alike
pub some_need : (xs : List PositionInReach) (P Q : Patterns) (o : Option ℕ) → MatchOption o (first_difference xs P Q ≡ None) (IsFound xs (first_difference xs P Q))
    → is_some o ≡ not (break_alike xs P Q)
some_need xs P Q None none = ap not (sym (alike_where_none P Q xs none))
some_need xs P Q (Some k) found =
    let first = found.position ((record { word = 0; position = 0 }, [])) in
    cannot (break_alike xs P Q) (λ alike. let none = find_nothing (break_alike_at P Q) xs alike in absurd (cc (sym none ∙ first)))
