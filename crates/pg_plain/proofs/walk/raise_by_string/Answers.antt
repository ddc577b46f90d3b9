use Rattle.std.proofs.Common.{◌≡◌, false, true, nat_eq, sym, subst, ◌∙◌}
use Rattle.std.specs.Cmp.Lexicographic.{pointwise}
use Rattle.std.specs.List.{starts_with}
use Rattle.pg_patterns.specs.DottedSigns.{dotted_cmp}
use Rattle.pg_plain.specs.Inside.Greatest.{entry_value, entry_cover}
use Rattle.pg_types.proofs.EntryLists.{sorted_from}
use Rattle.pg_plain.proofs.OneString.{string_begins, string_steps, string_stops, string_stops_ends}
use Rattle.pg_plain.proofs.walk.raise_by_string.Goals as goal
use Rattle.std.proofs.lemmas.Bool.{not-true, not-false}

pub loop-dotted-init : goal.loop-dotted-init
loop-dotted-init g c =
    string_begins (entry_value g.F.DottedEntry.given) (entry_cover g.F.DottedEntry.covers_at c.args.pass.now) c.args.q.now c.args.i c.args.map.now.entries
    c.new-first.result c.into_iter-dotted-iterator.result c.args.out.now c.new-first.ensures
    (sorted_from dotted_cmp c.args.map.now.entries c.range-dotted-items.ensures.ordered) (c.into_iter-dotted-iterator.ensures.into_iter_gives ∙ c.range-dotted-items.ensures.between tt)

pub returns-then-ne-clause-values : goal.returns-then-ne-clause-values
returns-then-ne-clause-values g c =
    let other : pointwise nat_eq c.in-Some.dotted.now.0 c.args.q.now ≡ false = subst (λ s. pointwise nat_eq s c.args.q.now ≡ false) c.signs.ensures.value
    (not-true _ (sym c.ne.ensures ∙ c.if-ne.true)) in
    (string_stops (entry_value g.F.DottedEntry.given) (entry_cover g.F.DottedEntry.covers_at c.args.pass.now) c.args.q.now c.args.i c.args.map.now.entries
    (c.in-Some.dotted.now, c.in-Some.entry.now) c.next.new.self c.loop-dotted.dotted-iterator c.args.out.now c.loop-dotted.out c.in-Some.ensures.steps c.loop-dotted.invariant other).values

pub returns-then-ne-clause-covers : goal.returns-then-ne-clause-covers
returns-then-ne-clause-covers g c =
    let other : pointwise nat_eq c.in-Some.dotted.now.0 c.args.q.now ≡ false = subst (λ s. pointwise nat_eq s c.args.q.now ≡ false) c.signs.ensures.value
    (not-true _ (sym c.ne.ensures ∙ c.if-ne.true)) in
    (string_stops (entry_value g.F.DottedEntry.given) (entry_cover g.F.DottedEntry.covers_at c.args.pass.now) c.args.q.now c.args.i c.args.map.now.entries
    (c.in-Some.dotted.now, c.in-Some.entry.now) c.next.new.self c.loop-dotted.dotted-iterator c.args.out.now c.loop-dotted.out c.in-Some.ensures.steps c.loop-dotted.invariant other).covers

pub returns-then-ne-clause-ends : goal.returns-then-ne-clause-ends
returns-then-ne-clause-ends g c =
    λ stops.
    let apart : starts_with nat_eq c.in-Some.dotted.now.0 c.args.q.now ≡ false =
    subst (λ s. starts_with nat_eq s c.args.q.now ≡ false) c.signs-then-ne.ensures.value (sym c.starts_with.ensures.value ∙ stops) in
    string_stops_ends (entry_value g.F.DottedEntry.given) (entry_cover g.F.DottedEntry.covers_at c.args.pass.now) c.args.q.now c.args.i c.args.map.now.entries
    (c.in-Some.dotted.now, c.in-Some.entry.now) c.next.new.self c.loop-dotted.dotted-iterator c.args.out.now c.loop-dotted.out c.in-Some.ensures.steps c.loop-dotted.invariant apart

pub loop-dotted-preserved : goal.loop-dotted-preserved
loop-dotted-preserved g c =
    let same : pointwise nat_eq c.in-Some.dotted.now.0 c.args.q.now ≡ true = subst (λ s. pointwise nat_eq s c.args.q.now ≡ true) c.signs.ensures.value
    (not-false _ (sym c.ne.ensures ∙ c.if-ne.false)) in
    string_steps (entry_value g.F.DottedEntry.given) (entry_cover g.F.DottedEntry.covers_at c.args.pass.now) c.args.q.now c.args.i c.args.map.now.entries
    (c.in-Some.dotted.now, c.in-Some.entry.now) c.next.new.self c.loop-dotted.dotted-iterator c.args.out.now c.loop-dotted.out c.raise_by_entry.new.out
    c.in-Some.ensures.steps c.loop-dotted.invariant same
    c.raise_by_entry.ensures.values c.raise_by_entry.ensures.covers
