use Rattle.std.proofs.Common.{◌≡◌, T, sym, subst, ◌∙◌}
use Rattle.std.specs.FinMap.Entries.{is_sorted}
use Rattle.pg_patterns.specs.DottedSigns.{dotted_cmp}
use Rattle.pg_plain.proofs.Entered.{whole}
use Rattle.pg_types.proofs.EntryLists.{sorted_from}
use Rattle.pg_plain.proofs.dotted_maps.set_of.Goals as goal

pub returns : goal.returns
returns c =
    let all : c.loop-dotted.entries.items ≡ c.args.map.now.entries = whole c.loop-dotted.entries.items c.loop-dotted.dotted-iterator c.args.map.now.entries
    c.loop-dotted.invariant c.in-None.ensures.steps.0 in
    c.from_entries.ensures.in_order (subst (λ x. T (is_sorted dotted_cmp x)) (sym all) (sorted_from dotted_cmp c.args.map.now.entries c.iter-dotted-items.ensures.ordered)) ∙ all
