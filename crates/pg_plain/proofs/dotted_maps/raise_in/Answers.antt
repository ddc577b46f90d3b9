use Rattle.std.proofs.Common.{◌≡◌, true, subst, sym}
use Rattle.std.specs.List.{list_all}
use Rattle.pg_patterns.specs.DottedSigns.{dotted_cmp}
use Rattle.pg_patterns.specs.Inside.PatternMaps.{is_entry}
use Rattle.pg_types.proofs.EntryLists.{sorted_from}
use Rattle.pg_plain.proofs.Entered.{raised_in, entries_raise, dotted_in}
use Rattle.pg_plain.proofs.dotted_maps.raise_in.Goals as goal

pub returns-clause-ok : goal.returns-clause-ok
returns-clause-ok c =
    raised_in c.args.map.now.entries c.insert.new.self.entries c.args.dotted c.args.value c.value_in-held.result c.max.result c.value_in-held.ensures c.max.ensures c.in_ok-insert.ensures.entries

pub returns-clause-kept : goal.returns-clause-kept
returns-clause-kept c = λ old new. record {
  sorted = sorted_from dotted_cmp c.insert.new.self.entries c.insert.ensures.ordered;
  sound = subst (λ x. list_all is_entry x ≡ true)
      (sym (raised_in c.args.map.now.entries c.insert.new.self.entries c.args.dotted c.args.value c.value_in-held.result c.max.result c.value_in-held.ensures
      c.max.ensures c.in_ok-insert.ensures.entries))
      (entries_raise c.args.map.now.entries c.args.dotted c.args.value old.sound new);
}

pub returns-clause-dotted : goal.returns-clause-dotted
returns-clause-dotted c = λ good all new. dotted_in good c.args.map.now.entries c.insert.new.self.entries c.args.dotted c.max.result c.in_ok-insert.ensures.entries all new
