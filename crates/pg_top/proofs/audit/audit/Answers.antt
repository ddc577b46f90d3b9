use Rattle.pg_top.proofs.audit.audit.Goals as goal

pub returns-in-Ok : goal.returns-in-Ok
returns-in-Ok g c = c.in-Ok.ensures c.put_verdict.result (g.O.Sink.shown c.args.out.now) _ (c.put_verdict.ensures (g.F.Files.shown c.audit_files.new.files))

pub returns-in-Err : goal.returns-in-Err
returns-in-Err g c = c.in-Err.ensures c.put_stop.result (g.O.Sink.shown c.args.out.now) _ (c.put_stop.ensures (g.F.Files.shown c.audit_files.new.files))
