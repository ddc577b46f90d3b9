use Rattle.pg_patterns.proofs.TextLaw.{written_reads_back}
use Rattle.pg_patterns.proofs.set.PatternSet.text.Goals as goal

pub returns-clause-read_back : goal.returns-clause-read_back
returns-clause-read_back c =
    written_reads_back c.args.table.now c.self.inside.held.items c.args.self.now c.as_slice.result.now c.push_lines.new.text.items c.new-text.result.items
    c.keeps_rules.ensures c.self.invariant c.self.view_is c.as_slice.ensures.value c.requires c.new-text.ensures.items c.in_ok-push_lines.ensures
