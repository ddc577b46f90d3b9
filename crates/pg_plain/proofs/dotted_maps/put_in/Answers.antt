use Rattle.pg_patterns.specs.DottedSigns.{dotted_cmp}
use Rattle.pg_types.proofs.EntryLists.{sorted_from}
use Rattle.pg_plain.proofs.Entered.{put_is, dotted_in}
use Rattle.pg_plain.proofs.dotted_maps.put_in.Goals as goal

pub returns-clause-ok : goal.returns-clause-ok
returns-clause-ok c = put_is c.args.set.now.entries c.insert.new.self.entries c.args.dotted _ c.in_ok-insert.ensures.entries

pub returns-clause-dotted : goal.returns-clause-dotted
returns-clause-dotted c = λ good all new. dotted_in good c.args.set.now.entries c.insert.new.self.entries c.args.dotted _ c.in_ok-insert.ensures.entries all new

pub returns-clause-sorted : goal.returns-clause-sorted
returns-clause-sorted c = sorted_from dotted_cmp c.insert.new.self.entries c.insert.ensures.ordered

pub returns-in_err-insert-clause-sorted : goal.returns-in_err-insert-clause-sorted
returns-in_err-insert-clause-sorted c = sorted_from dotted_cmp c.insert.new.self.entries c.insert.ensures.ordered
