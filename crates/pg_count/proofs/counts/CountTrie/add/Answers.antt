use Rattle.std.proofs.Common.{Some, unwrap_or, ap, sym, subst, ◌∙◌}
use Rattle.std.proofs.lemmas.Result.{err_from_is_err_and}
use Rattle.pg_types.specs.Inside.counting.Counts.{AreSmall, with_weight}
use Rattle.pg_count.proofs.Adding.{Enters, absent, entered, entered_kept, small, added, added_kept}
use Rattle.pg_count.proofs.counts.CountTrie.add.Goals as goal

pub invariant_of-self : goal.invariant_of-self
invariant_of-self c =
    let e : Enters c.args.self.now c.self.inside.cells c.enter.new.cells c.self.inside.len c.args.window.now =
    record { is = c.self.view_is; kept = c.self.invariant; held = c.in_err-cell.ensures.held; signs = c.in_err-cell.ensures.signs; adds = c.in_err-cell.ensures.blanks } in
    entered_kept c.args.self.now c.self.inside.cells c.enter.new.cells c.self.inside.len c.args.window.now e

pub returns-in_err-cell-clause-there : goal.returns-in_err-cell-clause-there
returns-in_err-cell-clause-there c = λ counted.
    absurd (absent c.args.self.now c.self.inside.cells c.self.inside.len c.args.window.now c.self.view_is c.self.invariant c.in_err-cell.ensures.err counted)

pub returns-in_err-cell-clause-err : goal.returns-in_err-cell-clause-err
returns-in_err-cell-clause-err c =
    let err = err_from_is_err_and c.from_residual.result c.from_residual.ensures.1 in
    let e : Enters c.args.self.now c.self.inside.cells c.enter.new.cells c.self.inside.len c.args.window.now =
    record { is = c.self.view_is; kept = c.self.invariant; held = c.in_err-cell.ensures.held; signs = c.in_err-cell.ensures.signs; adds = c.in_err-cell.ensures.blanks } in
    rw (err.1) (entered c.args.self.now c.self.inside.cells c.enter.new.cells c.self.inside.len c.args.window.now e)

pub add_weight-more-requires : goal.add_weight-more-requires
add_weight-more-requires c =
    let e : Enters c.args.self.now c.self.inside.cells c.enter.new.cells c.self.inside.len c.args.window.now =
    record { is = c.self.view_is; kept = c.self.invariant; held = c.in_ok-cell.ensures.held; signs = c.in_ok-cell.ensures.signs; adds = c.in_ok-cell.ensures.blanks } in
    let low = small c.args.self.now c.self.inside.cells c.enter.new.cells c.self.inside.len c.args.window.now e c.value.result c.args.good c.args.weight (c.value.ensures c.args.window.now c.in_ok-cell.ensures.cell) c.requires.small in
    subst (λ sums. AreSmall (with_weight sums c.args.good c.from.result)) (sym c.unwrap_or-sums.ensures)
    (subst (λ weight. AreSmall (with_weight (unwrap_or c.value.result (0, 0)) c.args.good weight)) (sym c.from.ensures) low)

pub invariant_of-self-2 : goal.invariant_of-self-2
invariant_of-self-2 c =
    let e : Enters c.args.self.now c.self.inside.cells c.enter.new.cells c.self.inside.len c.args.window.now =
    record { is = c.self.view_is; kept = c.self.invariant; held = c.in_ok-cell.ensures.held; signs = c.in_ok-cell.ensures.signs; adds = c.in_ok-cell.ensures.blanks } in
    let more = c.add_weight-more.ensures ∙ ap (λ sums. with_weight sums c.args.good c.from.result) c.unwrap_or-sums.ensures
    ∙ ap (with_weight (unwrap_or c.value.result (0, 0)) c.args.good) c.from.ensures in
    added_kept c.args.self.now c.self.inside.cells c.enter.new.cells c.self.inside.len c.args.window.now e c.set_value.new.self c.value.result (Some c.add_weight-more.result) c.args.good c.args.weight
    (c.value.ensures c.args.window.now c.in_ok-cell.ensures.cell) (ap Some more) (c.set_value.ensures.held c.args.window.now c.in_ok-cell.ensures.cell) c.set_value.ensures.kept c.requires.len c.requires.signs

pub returns-clause-ok : goal.returns-clause-ok
returns-clause-ok c =
    let e : Enters c.args.self.now c.self.inside.cells c.enter.new.cells c.self.inside.len c.args.window.now =
    record { is = c.self.view_is; kept = c.self.invariant; held = c.in_ok-cell.ensures.held; signs = c.in_ok-cell.ensures.signs; adds = c.in_ok-cell.ensures.blanks } in
    let more = c.add_weight-more.ensures ∙ ap (λ sums. with_weight sums c.args.good c.from.result) c.unwrap_or-sums.ensures
    ∙ ap (with_weight (unwrap_or c.value.result (0, 0)) c.args.good) c.from.ensures in
    added c.args.self.now c.self.inside.cells c.enter.new.cells c.self.inside.len c.args.window.now e c.set_value.new.self c.value.result (Some c.add_weight-more.result) c.args.good c.args.weight
    (c.value.ensures c.args.window.now c.in_ok-cell.ensures.cell) (ap Some more) (c.set_value.ensures.held c.args.window.now c.in_ok-cell.ensures.cell)
