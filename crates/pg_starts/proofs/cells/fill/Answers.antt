use Rattle.std.proofs.Common.{arith, ◌≡◌, ◌<◌, ◌≤◌, ℕ, get_or, set, ◌∙◌, sym, ap, ⊎_elim}
use Rattle.std.proofs.lemmas.Bool.{cases_lt}
use Rattle.std.proofs.lemmas.List.{get_or-set_other, get_or-set_same}
use Rattle.pg_starts.specs.Inside.Cells.{cell_of}
use Rattle.pg_starts.proofs.Families.{cells_differ}
use Rattle.pg_starts.proofs.cells.fill.Goals as goal

pub loop-k-preserved : goal.loop-k-preserved
loop-k-preserved c =
    let keys = c.args.keys.now in
    let base = c.args.base in
    let k = c.loop-k.k in
    let cells = c.loop-k.cells in
    let at : ℕ = cell_of base (get_or keys k 0) in
    record {
      placed = λ j low h. ⊎_elim
          (λ (before : j < k).
          get_or-set_other cells at (cell_of base (get_or keys j 0)) k 0
          (λ e. cells_differ keys c.requires.rising c.args.from c.args.upto c.requires.family base j k low before c.loop-k-test.true (sym e))
          ∙ c.loop-k.invariant.placed j low before)
          (λ (now : k ≤ j).
          let e : j ≡ k = omega (arith, now, h) in
          ap (λ m. get_or (set cells at k) (cell_of base (get_or keys m 0)) 0) e
          ∙ get_or-set_same cells at k 0 (let room = c.requires.room k (omega arith) c.loop-k-test.true in omega (arith, room)) ∙ sym e)
          (cases_lt j k);
      kept = λ d apart.
          get_or-set_other cells at d k 0 (apart k (omega arith) (omega arith))
          ∙ c.loop-k.invariant.kept d (λ j low h. apart j low (omega (arith, h)));
    }
