use Rattle.std.proofs.Common.{◌∙◌, ap}
use Rattle.std.specs.Prelude.{map}
use Rattle.pg_steps.specs.Inside.Texts.{writing_of}
use Rattle.pg_sweep.specs.Sweeps.{Terms, set_row}
use Rattle.pg_words.specs.Inside.CommandRequests.{sweep_of}
use Rattle.pg_top.specs.Inside.Swept.{terms_of}
use Rattle.pg_top.proofs.Results.{ok_by_two}
use Rattle.pg_top.proofs.sweep.SweepTexts.{rows_made}
use Rattle.pg_top.proofs.sweep.outputs.make_sweep.Goals as goal

pub returns : goal.returns
returns g c =
    let s = sweep_of c.args.words.now in
    let terms : Terms = terms_of c.args.words.now.folds c.args.inputs.now in
    let sets = c.args.inputs.now.sets.items in
    let rows = c.in_ok-found.ensures.rows ∙ ap (map (set_row terms s.bad s.missed)) c.deref-2.ensures.value in
    ok_by_two c.write_sweep.result _ _ _
    (λ made files lines. rows_made s.output s.folds (map (set_row terms s.bad s.missed) sets) c.in_ok-found.found (writing_of made.files.items) made.lines.items rows c.in_ok-found.ensures.winner files lines)
    c.write_sweep.ensures.files c.write_sweep.ensures.lines
