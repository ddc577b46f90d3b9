use Rattle.std.proofs.Common.{◌≡◌, ◌+◌, ◌++◌, ◌∷◌, [], List, take, length, map, sym, ◌∙◌, ap, arith}
use Rattle.std.specs.Prelude.{slice_index_or}
use Rattle.std.proofs.lemmas.List.{map-append, take_more, length-take-le}
use Rattle.std.proofs.lemmas.Result.{IfOk-from_err}
use Rattle.serde_json.specs.Data.{Data}
use Rattle.serde_json.specs.View.{view}
use Rattle.pg_sweep.specs.declared.rows.SweepRow.{SweepRow}
use Rattle.pg_sweep.specs.Inside.SweepData.{row_data, rows_data}
use Rattle.pg_sweep.proofs.Steps.{data_more}
use Rattle.pg_sweep.proofs.text.row_values.Goals as goal

pub rows-preserved : goal.rows-preserved
rows-preserved c =
    let rows = c.args.rows.now in
    let row : SweepRow = slice_index_or rows c.rows.i (record { totals = record { good = 0; bad = 0; missed = 0 }; cost = 0 }) in
    let made : view c.in_ok-row_value.field-0 ≡ row_data (c.rows.i + 1) row = c.in_ok-row_value.ensures in
    let size : length (take c.rows.i rows) ≡ c.rows.i = length-take-le c.rows.i rows (omega (arith, c.rows-test.true)) in
    let number : 1 + length (take c.rows.i rows) ≡ c.rows.i + 1 = omega (arith, size) in
    let e : map view c.push.new.self.items ≡ rows_data 1 (take (c.rows.i + 1) rows) =
    ap (map view) c.in_ok-push.ensures.items
    ∙ map-append view c.rows.values.items (c.in_ok-row_value.field-0 ∷ [])
    ∙ ap (λ (d : Data). map view c.rows.values.items ++ d ∷ []) made
    ∙ ap (λ (ds : List Data). ds ++ row_data (c.rows.i + 1) row ∷ []) c.rows.invariant
    ∙ ap (λ n. rows_data 1 (take c.rows.i rows) ++ row_data n row ∷ []) (sym number)
    ∙ sym (data_more 1 (take c.rows.i rows) row)
    ∙ ap (rows_data 1) (sym (take_more rows c.rows.i (record { totals = record { good = 0; bad = 0; missed = 0 }; cost = 0 }) c.rows-test.true)) in
    e

pub returns-in_err-row_value : goal.returns-in_err-row_value
returns-in_err-row_value c = IfOk-from_err c.from_residual.result _ c.from_residual.ensures.0

pub returns-in_err-push : goal.returns-in_err-push
returns-in_err-push c = IfOk-from_err c.from_residual-in_err-push.result _ c.from_residual-in_err-push.ensures.0
