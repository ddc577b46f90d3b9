use Rattle.std.proofs.Common.{◌≡◌, sym, ◌∙◌, ap, not}
use Rattle.std.specs.List.{position_or_len}
use Rattle.std.proofs.lemmas.List.Sums.{prefix_len-le-length}
use Rattle.pg_types.specs.Parameters.{items}
use Rattle.pg_types.specs.Inside.reading.ItemSteps.{is_separator}
use Rattle.pg_types.proofs.Separated.{items_after, begins_after, items_first, empty_from}
use Rattle.pg_types.proofs.items.next_item.Goals as goal

pub split_at-requires : goal.split_at-requires
split_at-requires c = rw c.separators_len.ensures (prefix_len-le-length _ _)

pub split_at-requires-2 : goal.split_at-requires-2
split_at-requires-2 c = rw c.item_len.ensures (prefix_len-le-length _ _)

pub returns-then-is_empty : goal.returns-then-is_empty
returns-then-is_empty c =
    sym (items_after c.args.rest.now _ c.separators_len.ensures) ∙ ap items (sym c.split_at.ensures.back ∙ empty_from _ (sym c.is_empty.ensures ∙ c.if-is_empty.true))

pub returns : goal.returns
returns c =
    let begins : position_or_len (λ b. not (is_separator b)) c.split_at.result.1.now ≡ 0 = rw c.split_at.ensures.back (begins_after c.args.rest.now _ c.separators_len.ensures) in
    sym (items_after c.args.rest.now _ c.separators_len.ensures) ∙ ap items (sym c.split_at.ensures.back)
    ∙ rw (c.split_at-2.ensures.front, c.split_at-2.ensures.back) (items_first c.split_at.result.1.now _ (sym c.is_empty.ensures ∙ c.if-is_empty.false) c.item_len.ensures begins)
