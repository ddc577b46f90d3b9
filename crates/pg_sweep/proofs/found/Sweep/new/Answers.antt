use Rattle.std.proofs.Common.{◌≡◌, sym, ◌∙◌, ap, subst, arith}
use Rattle.std.proofs.lemmas.List.{length-map}
use Rattle.pg_sweep.specs.declared.rows.SweepRow.{SweepRow}
use Rattle.pg_sweep.specs.Winners.{winner_of}
use Rattle.pg_sweep.specs.Promises.{costs_of, IsWinner}
use Rattle.pg_sweep.proofs.Winners.{winner_wins}
use Rattle.pg_sweep.proofs.found.Sweep.new.Goals as goal

pub invariant_of-result : goal.invariant_of-result
invariant_of-result c =
    let is : c.number_of_winner-winner.result ≡ winner_of (costs_of c.args.rows.items) = c.number_of_winner-winner.ensures ∙ ap (λ rows. winner_of (costs_of rows)) c.deref.ensures.value in
    subst (λ n. IsWinner (costs_of c.args.rows.items) n) (sym is) (winner_wins (costs_of c.args.rows.items) (omega (arith, c.requires, length-map c.args.rows.items (λ (r : SweepRow). r.cost))))
