use Rattle.pg_prune.proofs.positions.TrailLists.{passed_more, passed_none}
use Rattle.pg_prune.specs.Inside.positions.Trails.{continues_with as continues_with_by}
use Rattle.pg_prune.specs.declared.positions.trail.Start.{Start}
use Rattle.std.proofs.lemmas.Result.{IfOk-from_err}
use Rattle.std.proofs.lemmas.List.{take_all}
use Rattle.std.specs.List.{filter}
use Rattle.std.proofs.Common.{Vec, Global, List, get_or, ◌∷◌, ◌++◌, [], ap, sym, ◌∙◌}
use Rattle.pg_prune.proofs.positions.trail.longer.Goals as goal
use Rattle.pg_prune.proofs.positions.trail.longer.Goals.{then-continues_with+in_ok-push, else-continues_with}

pub starts-init : goal.starts-init
starts-init c = c.new-found.ensures.items

pub continues_with-requires-clause-known : goal.continues_with-requires-clause-known
continues_with-requires-clause-known c = c.requires.known c.starts.start-index _ c.starts-test.true

pub continues_with-requires-clause-few : goal.continues_with-requires-clause-few
continues_with-requires-clause-few c = c.requires.few

pub returns-in_err-push : goal.returns-in_err-push
returns-in_err-push c = IfOk-from_err c.from_residual.result _ c.from_residual.ensures.0

pub starts-preserved : goal.starts-preserved
starts-preserved c =
    let test = continues_with_by c.args.dictionary.now c.args.len c.args.sign in
    elim c.if-continues_with.branch [
      | then-continues_with+in_ok-push w ↦
          ap (λ (v : Vec Start Global). v.items) w.found-is
          ∙ w.in_ok-push.ensures.items
          ∙ ap (λ (xs : List Start). xs ++ get_or c.args.starts.now c.starts.start-index (record { word = 0; before = 0; at = 0 }) ∷ []) c.starts.invariant
          ∙ passed_more test c.args.starts.now c.starts.start-index _ c.starts-test.true (sym w.if-continues_with.ensures)
      | else-continues_with w ↦
          ap (λ (v : Vec Start Global). v.items) w.found-is
          ∙ c.starts.invariant
          ∙ passed_none test c.args.starts.now c.starts.start-index (record { word = 0; before = 0; at = 0 }) c.starts-test.true (sym w.if-continues_with.ensures)
    ]

pub returns : goal.returns
returns c = c.starts.invariant ∙ ap (λ (xs : List Start). filter (continues_with_by c.args.dictionary.now c.args.len c.args.sign) xs)
    (take_all c.starts.start-index c.args.starts.now c.starts-test.false)
