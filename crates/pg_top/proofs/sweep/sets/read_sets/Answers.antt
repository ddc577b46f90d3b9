use Rattle.std.proofs.Common.{◌+◌, ◌∷◌, ◌++◌, [], length, drop, Ok, Err, ap, ◌∙◌, length-append}
use Rattle.std.proofs.lemmas.Result.{IfOk-from_err}
use Rattle.pg_steps.proofs.Stopping.{stops, short}
use Rattle.pg_words.specs.Inside.Names.{arguments_of}
use Rattle.pg_top.proofs.sweep.SetReads.{sets_begun, sets_done, set_read, set_pushed}
use Rattle.pg_top.specs.Sweeping.{sets_from}
use Rattle.pg_top.proofs.sweep.sets.read_sets.Goals as goal

pub sets-init : goal.sets-init
sets-init g c = record {
  lead = sets_begun c.args.names.now c.new-sets.result.items (g.F.Files.shown c.args.files.now) c.new-sets.ensures.items;
  count = ap length c.new-sets.ensures.items;
}

pub sets-preserved : goal.sets-preserved
sets-preserved g c =
    let gives = rw c.as_str-name.ensures.value at c.in_ok-set.ensures in
    record {
      lead = set_pushed c.args.names.now c.sets.i c.index-names-i.result c.sets-test.true c.index-names-i.is c.in_ok-set.set c.sets.sets.items c.push.new.self.items
          (g.F.Files.shown c.args.files.now) (g.F.Files.shown c.sets.files) (g.F.Files.shown c.read_parameters.new.files) c.in-Ok.ensures.items gives c.sets.invariant.lead;
      count = ap length c.in-Ok.ensures.items ∙ length-append c.sets.sets.items (c.in_ok-set.set ∷ []) ∙ ap (λ n. n + 1) c.sets.invariant.count;
    }

pub returns-in_err-set-clause-read : goal.returns-in_err-set-clause-read
returns-in_err-set-clause-read g c next status sink new h =
    let gives = rw c.as_str-name.ensures.value at c.in_err-set.ensures in
    c.sets.invariant.lead next status sink new (set_read c.args.names.now c.sets.i c.index-names-i.result c.sets-test.true c.index-names-i.is (c.sets.i + 1) (Err c.in_err-set.field-0.0)
    (g.F.Files.shown c.sets.files) (g.F.Files.shown c.read_parameters.new.files) (λ As. next (c.sets.sets.items ++ As)) gives status sink new
    (stops c.from_residual.result _ c.in_err-set.field-0.0 status _ new c.from_residual.ensures.1 h))

pub returns-in-Err-clause-read : goal.returns-in-Err-clause-read
returns-in-Err-clause-read g c next status sink new h =
    let gives = rw c.as_str-name.ensures.value at c.in_ok-set.ensures in
    let rest = sets_from (c.sets.i + 1 + 1) (arguments_of (drop (c.sets.i + 1) c.args.names.now)) (λ As. next (c.sets.sets.items ++ c.in_ok-set.set ∷ As)) in
    c.sets.invariant.lead next status sink new (set_read c.args.names.now c.sets.i c.index-names-i.result c.sets-test.true c.index-names-i.is (c.sets.i + 1) (Ok c.in_ok-set.set)
    (g.F.Files.shown c.sets.files) (g.F.Files.shown c.read_parameters.new.files) (λ As. next (c.sets.sets.items ++ As)) gives status sink new (short rest status _ new h))

pub returns-clause-read : goal.returns-clause-read
returns-clause-read g c next status sink new h =
    sets_done c.args.names.now c.sets.i c.sets.sets.items (g.F.Files.shown c.args.files.now) (g.F.Files.shown c.sets.files) c.sets-test.false c.sets.invariant.lead next status sink new h
