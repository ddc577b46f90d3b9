use Rattle.std.proofs.Common.{◌≡◌, ℕ, set, get_or, Option, None, Some, unwrap_or, sym, ap, ◌∙◌}
use Rattle.std.proofs.lemmas.List.{map-set}
use Rattle.pg_types.specs.Inside.counting.Counts.{with_weight}
use Rattle.pg_starts.specs.Inside.CountsByNumber.{told_by}
use Rattle.pg_starts.specs.Inside.Tallies.{tallied}
use Rattle.pg_starts.proofs.tallies.Tallies.add.Goals as goal
use Rattle.pg_starts.proofs.tallies.Tallies.add.Goals.{in-Some, in-None}

pub returns : goal.returns
returns c =
    let t = c.args.self.now in
    let read : c.match-sums.sums ≡ unwrap_or {T = ℕ × ℕ} (get_or (tallied t) c.args.number None) (0, 0) = elim c.match-sums.branch [
      | in-Some w ↦ w.sums-is ∙ sym (ap (λ (o : Option (ℕ × ℕ)). unwrap_or {T = ℕ × ℕ} o (0, 0)) (sym c.sums.ensures ∙ w.in-Some.is))
      | in-None w ↦ w.sums-is ∙ sym (ap (λ (o : Option (ℕ × ℕ)). unwrap_or {T = ℕ × ℕ} o (0, 0)) (sym c.sums.ensures ∙ w.in-None.is))
    ] in
    map-set told_by t.sums.items c.args.number c.kept.result
    ∙ ap (set (tallied t) c.args.number)
    (c.kept.ensures ∙ ap (λ (s : ℕ × ℕ). Some s) (c.add_weight.ensures ∙ ap (λ (s : ℕ × ℕ). with_weight s c.args.good c.args.weight) read))
