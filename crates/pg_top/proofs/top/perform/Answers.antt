use Rattle.std.proofs.Common.{IfOk, Some, refl, sym, ap, ◌∙◌}
use Rattle.pg_steps.specs.Inside.Steps.{Begins}
use Rattle.pg_steps.specs.Inside.Texts.{ending_of}
use Rattle.pg_words.specs.Inside.CommandRequests.{asked_by}
use Rattle.pg_top.specs.Commands.{CallsNoFile}
use Rattle.pg_top.specs.Inside.Keeping.{KeepsPromise}
use Rattle.pg_top.specs.Inside.Requests.{plan_by}
use Rattle.pg_top.proofs.theorems.Promised.{any_built, promised_on}
use Rattle.pg_top.proofs.top.perform.Goals as goal
use Rattle.pg_top.proofs.top.perform.Goals.{in-Generate, in-Pack, in-Totals, in-Prune, in-Sweep}

pub returns : goal.returns
returns g c =
    let builds : (CallsNoFile (Some (plan_by (asked_by c.args.command.now))) → ⊥)
    × Begins (plan_by (asked_by c.args.command.now)) c.match-command.built ending_of (g.F.Files.shown c.args.files.now) (g.F.Files.shown c.match-command.files)
    × IfOk c.match-command.built (λ _. KeepsPromise (asked_by c.args.command.now) (g.F.Files.shown c.args.files.now) (g.F.Files.shown c.match-command.files)) =
    elim c.match-command.branch [
      | in-Generate w ↦ rw (w.in-Generate.is, w.files-is, w.built-is) ((λ none. none), w.generate_files-built.ensures.begins, w.generate_files-built.ensures.promised)
      | in-Pack w ↦ rw (ap asked_by w.in-Pack.is ∙ sym w.new-names.ensures, w.files-is, w.built-is) ((λ none. none), w.pack_files-built.ensures.begins, w.pack_files-built.ensures.promised)
      | in-Totals w ↦ rw (ap asked_by w.in-Totals.is ∙ sym w.new-names-in-Totals.ensures, w.files-is, w.built-is) ((λ none. none), w.total_files-built.ensures, any_built w.total_files-built.result)
      | in-Prune w ↦ rw (ap asked_by w.in-Prune.is ∙ sym w.new-names-in-Prune.ensures, w.files-is, w.built-is) ((λ none. none), w.prune_files-built.ensures.begins, w.prune_files-built.ensures.promised)
      | in-Sweep w ↦ rw (w.in-Sweep.is, w.files-is, w.built-is) ((λ none. none), w.sweep_files-built.ensures, any_built w.sweep_files-built.result)
    ] in
    record {
      follows = builds.1 c.end.result (g.O.Sink.shown c.args.out.now) (g.F.Files.shown c.end.new.files, g.O.Sink.shown c.end.new.out) c.end.ensures;
      uncalled = λ none. absurd (builds.0 none);
      promised = promised_on (asked_by c.args.command.now) c.match-command.built c.end.result (g.F.Files.shown c.args.files.now) (g.F.Files.shown c.match-command.files) (g.F.Files.shown c.end.new.files)
          (g.O.Sink.shown c.args.out.now) (g.O.Sink.shown c.end.new.out) builds.2 c.end.ensures;
    }

pub returns-in-Audit : goal.returns-in-Audit
returns-in-Audit g c = record { follows = rw c.in-Audit.is c.audit.ensures; uncalled = rw c.in-Audit.is (λ none. absurd none); promised = rw c.in-Audit.is (λ done. tt) }

pub returns-in-Sample : goal.returns-in-Sample
returns-in-Sample g c = record { follows = rw c.in-Sample.is (c.sample.ensures (g.F.Files.shown c.args.files.now)); uncalled = λ none. refl; promised = rw c.in-Sample.is (λ done. tt) }
