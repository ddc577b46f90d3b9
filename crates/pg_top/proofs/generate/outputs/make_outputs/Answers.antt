use Rattle.std.proofs.Common.{◌+◌, ◌∙◌, Some, ap}
use Rattle.pg_packed.specs.Inside.Starts.{pattern_families}
use Rattle.pg_select.specs.Inside.engine.Meanings.{Meaning}
use Rattle.pg_packed.specs.Inside.Engines.{packed_meaning}
use Rattle.pg_top.proofs.generate.outputs.make_outputs.Goals as goal

pub run_files-outputs-requires-clause-families : goal.run_files-outputs-requires-clause-families
run_files-outputs-requires-clause-families g c =
    ap (λ (m : Meaning). m.families) (ap packed_meaning c.new-engine.ensures ∙ c.in_ok-engine.ensures)
    ∙ ap (λ n. Some (pattern_families (n + 1) c.args.inputs.now.start)) c.letters.ensures.value
