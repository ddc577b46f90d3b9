use Rattle.std.proofs.Common.{nat_cmp}
use Rattle.std.specs.Cmp.Lexicographic.{slice_cmp}
use Rattle.pg_types.proofs.EntryLists.{sorted_from}
use Rattle.pg_plain.proofs.Known.{patterns_up_to, places_within, counted_within}
use Rattle.pg_plain.proofs.engine.PlainEngineEngine.kept.Goals as goal

pub returns : goal.returns
returns c = record {
  patterns = c.args.self.now.entries;
  hopeless_order = c.args.self.now.strings.0;
  counts_order = sorted_from (slice_cmp nat_cmp) c.args.self.now.counts.entries c.len-counts.ensures.ordered;
  pattern_signs = patterns_up_to c.args.self.now.signs c.args.self.now.patterns.entries c.args.self.now.known;
  hopeless_signs = places_within c.args.self.now.signs c.args.self.now.hopeless.entries c.args.self.now.hopeless_known;
  counted_signs = counted_within c.args.self.now.signs c.args.self.now.counts.entries c.args.self.now.counts_known;
}
