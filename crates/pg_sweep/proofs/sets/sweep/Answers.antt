use Rattle.std.proofs.Common.{◌≡◌, ◌≤◌, ◌+◌, ◌*◌, ◌++◌, ◌∷◌, [], List, length, map, ◌∙◌, ap, sym, arith}
use Rattle.std.proofs.lemmas.List.{length-map, take_all}
use Rattle.std.specs.Prelude.{slice_index_or}
use Rattle.std.proofs.lemmas.Result.{IfOk-from_err}
use Rattle.pg_types.specs.Parameters.{Parameters}
use Rattle.pg_types.specs.declared.marks.Totals.{Totals}
use Rattle.pg_sweep.specs.declared.rows.SweepRow.{SweepRow}
use Rattle.pg_sweep.specs.Sweeps.{Terms, set_row}
use Rattle.pg_sweep.specs.Promises.{costs_of}
use Rattle.pg_sweep.specs.Winners.{winner_of}
use Rattle.pg_sweep.specs.Inside.RowsAndWinner.{RowsAndWinner}
use Rattle.pg_sweep.proofs.Steps.{map_more}
use Rattle.pg_sweep.proofs.sets.sweep.Goals as goal

pub sets-preserved : goal.sets-preserved
sets-preserved g c =
    let terms : Terms = record { table = c.args.table.now; words = c.args.dictionary.now; start = c.args.start.now; folds = c.args.folds } in
    let row_with : Totals → SweepRow = λ (t : Totals). record { totals = t; cost = c.args.bad * t.bad + c.args.missed * t.missed } in
    let row : c.with_cost.result ≡ row_with c.in_ok-totals.totals = c.with_cost.ensures in
    let at : c.index-sets-i.result ≡ slice_index_or c.args.sets.now c.sets.i c.index-sets-i.result = c.index-sets-i.is in
    c.in_ok-push.ensures.items
    ∙ ap (λ (r : SweepRow). c.sets.rows.items ++ r ∷ []) (row ∙ ap row_with c.in_ok-totals.ensures.value)
    ∙ ap (λ (set : Parameters). c.sets.rows.items ++ set_row terms c.args.bad c.args.missed set ∷ []) at
    ∙ map_more (set_row terms c.args.bad c.args.missed) c.args.sets.now c.sets.rows.items c.sets.i c.index-sets-i.result c.sets-test.true c.sets.invariant

pub sets-init : goal.sets-init
sets-init g c = c.new-rows.ensures.items

pub totals_of_set-requires : goal.totals_of_set-requires
totals_of_set-requires g c = record { signs = (c.requires.signs, c.requires.known) }

pub with_cost-requires-clause-small : goal.with_cost-requires-clause-small
with_cost-requires-clause-small g c = (omega (arith, c.in_ok-totals.ensures.small.0), omega (arith, c.in_ok-totals.ensures.small.1), omega (arith, c.in_ok-totals.ensures.small.2))

pub with_cost-requires-clause-prices : goal.with_cost-requires-clause-prices
with_cost-requires-clause-prices g c = (c.requires.bad.1, c.requires.missed.1)

pub new-requires : goal.new-requires
new-requires g c =
    let terms : Terms = record { table = c.args.table.now; words = c.args.dictionary.now; start = c.args.start.now; folds = c.args.folds } in
    let row : Parameters → SweepRow = set_row terms c.args.bad c.args.missed in
    let past : length c.args.sets.now ≤ c.sets.i = omega arith in
    let count : length c.sets.rows.items ≡ length c.args.sets.now = ap length (c.sets.invariant ∙ ap (map row) (take_all c.sets.i c.args.sets.now past)) ∙ length-map c.args.sets.now row in
    omega (arith, c.requires.sets.0)

pub returns-clause-rows : goal.returns-clause-rows
returns-clause-rows g c =
    let terms : Terms = record { table = c.args.table.now; words = c.args.dictionary.now; start = c.args.start.now; folds = c.args.folds } in
    let past : length c.args.sets.now ≤ c.sets.i = omega arith in
    ap (λ (f : RowsAndWinner). f.rows) c.new.ensures ∙ c.sets.invariant ∙ ap (map (set_row terms c.args.bad c.args.missed)) (take_all c.sets.i c.args.sets.now past)

pub returns-clause-winner : goal.returns-clause-winner
returns-clause-winner g c =
    ap (λ (f : RowsAndWinner). f.winner) c.new.ensures ∙ ap (λ (rows : List SweepRow). winner_of (costs_of rows)) (sym (ap (λ (f : RowsAndWinner). f.rows) c.new.ensures))

pub returns-in_err-totals-clause-rows : goal.returns-in_err-totals-clause-rows
returns-in_err-totals-clause-rows g c = IfOk-from_err c.from_residual.result _ c.from_residual.ensures.0

pub returns-in_err-totals-clause-winner : goal.returns-in_err-totals-clause-winner
returns-in_err-totals-clause-winner g c = IfOk-from_err c.from_residual.result _ c.from_residual.ensures.0

pub returns-in_err-push-clause-rows : goal.returns-in_err-push-clause-rows
returns-in_err-push-clause-rows g c = IfOk-from_err c.from_residual-in_err-push.result _ c.from_residual-in_err-push.ensures.0

pub returns-in_err-push-clause-winner : goal.returns-in_err-push-clause-winner
returns-in_err-push-clause-winner g c = IfOk-from_err c.from_residual-in_err-push.result _ c.from_residual-in_err-push.ensures.0
