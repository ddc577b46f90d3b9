use Rattle.pg_plain.proofs.engine.PlainEngineEngine.copy_patterns.Goals as goal

pub set_of-requires : goal.set_of-requires
set_of-requires c = c.args.self.now.entries.sound
