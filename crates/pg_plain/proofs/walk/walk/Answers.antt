use Rattle.std.proofs.Common.{◌≡◌, length, subst, arith}
use Rattle.pg_patterns.specs.Values.{applies}
use Rattle.pg_plain.specs.Inside.Greatest.{entry_value, entry_cover}
use Rattle.pg_plain.specs.Inside.Walks.{applies_not_before}
use Rattle.pg_plain.proofs.Starts.{Left, walk_begins, walk_steps, walk_ends}
use Rattle.pg_plain.proofs.walk.walk.Goals as goal

pub loop-i-init : goal.loop-i-init
loop-i-init g c = walk_begins (entry_value g.F.DottedEntry.given) (entry_cover g.F.DottedEntry.covers_at c.args.pass.now) c.args.w.now c.args.map.now.entries c.requires.strings c.args.out.now

pub loop-i-preserved : goal.loop-i-preserved
loop-i-preserved g c =
    walk_steps (entry_value g.F.DottedEntry.given) (entry_cover g.F.DottedEntry.covers_at c.args.pass.now) c.args.w.now c.args.map.now.entries
    c.requires.strings c.loop-i.i c.args.out.now c.loop-i.out c.raise_from.new.out c.loop-i.invariant c.raise_from.ensures.values c.raise_from.ensures.covers

pub returns-clause-values : goal.returns-clause-values
returns-clause-values g c =
    let last : c.loop-i.i ≡ length c.args.w.now = omega arith in
    let left = subst (λ i. Left (entry_value g.F.DottedEntry.given) (entry_cover g.F.DottedEntry.covers_at c.args.pass.now) (applies_not_before c.args.w.now i)
    (applies c.args.w.now) c.args.map.now.entries c.args.out.now c.loop-i.out) last c.loop-i.invariant in
    (walk_ends (entry_value g.F.DottedEntry.given) (entry_cover g.F.DottedEntry.covers_at c.args.pass.now) c.args.w.now c.args.map.now.entries
    c.requires.strings c.args.out.now c.loop-i.out left).values

pub returns-clause-covers : goal.returns-clause-covers
returns-clause-covers g c =
    let last : c.loop-i.i ≡ length c.args.w.now = omega arith in
    let left = subst (λ i. Left (entry_value g.F.DottedEntry.given) (entry_cover g.F.DottedEntry.covers_at c.args.pass.now) (applies_not_before c.args.w.now i)
    (applies c.args.w.now) c.args.map.now.entries c.args.out.now c.loop-i.out) last c.loop-i.invariant in
    (walk_ends (entry_value g.F.DottedEntry.given) (entry_cover g.F.DottedEntry.covers_at c.args.pass.now) c.args.w.now c.args.map.now.entries
    c.requires.strings c.args.out.now c.loop-i.out left).covers
