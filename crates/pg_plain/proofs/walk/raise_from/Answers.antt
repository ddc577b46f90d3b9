use Rattle.std.proofs.Common.{◌≡◌, ◌+◌, ◌-◌, ◌<◌, ◌≤◌, length, take, drop, refl, subst, arith}
use Rattle.pg_plain.specs.Inside.Greatest.{entry_value, entry_cover}
use Rattle.pg_plain.specs.Inside.Walks.{applies_from_at_least, applies_from}
use Rattle.pg_plain.proofs.Starts.{Left, start_begins, start_steps, start_out, start_stops, start_ends}
use Rattle.pg_plain.proofs.walk.raise_from.Goals as goal

pub loop-n-init : goal.loop-n-init
loop-n-init g c = start_begins (entry_value g.F.DottedEntry.given) (entry_cover g.F.DottedEntry.covers_at c.args.pass.now) c.args.w.now c.args.map.now.entries
    c.requires.strings c.args.i c.args.out.now

pub returns-then-n-w-clause-values : goal.returns-then-n-w-clause-values
returns-then-n-w-clause-values g c =
    let past : length c.args.w.now < c.args.i + c.loop-n.n = omega arith in
    (start_out (entry_value g.F.DottedEntry.given) (entry_cover g.F.DottedEntry.covers_at c.args.pass.now) c.args.w.now c.args.map.now.entries
    c.requires.strings c.args.i c.loop-n.n c.args.out.now c.loop-n.out past c.loop-n.invariant).values

pub returns-then-n-w-clause-covers : goal.returns-then-n-w-clause-covers
returns-then-n-w-clause-covers g c =
    let past : length c.args.w.now < c.args.i + c.loop-n.n = omega arith in
    (start_out (entry_value g.F.DottedEntry.given) (entry_cover g.F.DottedEntry.covers_at c.args.pass.now) c.args.w.now c.args.map.now.entries
    c.requires.strings c.args.i c.loop-n.n c.args.out.now c.loop-n.out past c.loop-n.invariant).covers

pub returns-then-not-raise_by_string-clause-values : goal.returns-then-not-raise_by_string-clause-values
returns-then-not-raise_by_string-clause-values g c =
    let inside : c.args.i + c.loop-n.n ≤ length c.args.w.now = omega arith in
    let stops = c.raise_by_string.ensures.ends c.if-not-raise_by_string.true in
    let left = start_steps (entry_value g.F.DottedEntry.given) (entry_cover g.F.DottedEntry.covers_at c.args.pass.now) c.args.w.now c.args.map.now.entries c.requires.strings c.args.i c.loop-n.n
    (take ((c.args.i + c.loop-n.n) - c.args.i) (drop c.args.i c.args.w.now)) c.args.out.now c.loop-n.out c.raise_by_string.new.out inside refl
    c.loop-n.invariant c.raise_by_string.ensures.values c.raise_by_string.ensures.covers in
    (start_stops (entry_value g.F.DottedEntry.given) (entry_cover g.F.DottedEntry.covers_at c.args.pass.now) c.args.w.now c.args.map.now.entries c.requires.strings c.args.i c.loop-n.n
    (take ((c.args.i + c.loop-n.n) - c.args.i) (drop c.args.i c.args.w.now)) c.args.out.now c.raise_by_string.new.out inside refl stops left).values

pub returns-then-not-raise_by_string-clause-covers : goal.returns-then-not-raise_by_string-clause-covers
returns-then-not-raise_by_string-clause-covers g c =
    let inside : c.args.i + c.loop-n.n ≤ length c.args.w.now = omega arith in
    let stops = c.raise_by_string.ensures.ends c.if-not-raise_by_string.true in
    let left = start_steps (entry_value g.F.DottedEntry.given) (entry_cover g.F.DottedEntry.covers_at c.args.pass.now) c.args.w.now c.args.map.now.entries c.requires.strings c.args.i c.loop-n.n
    (take ((c.args.i + c.loop-n.n) - c.args.i) (drop c.args.i c.args.w.now)) c.args.out.now c.loop-n.out c.raise_by_string.new.out inside refl
    c.loop-n.invariant c.raise_by_string.ensures.values c.raise_by_string.ensures.covers in
    (start_stops (entry_value g.F.DottedEntry.given) (entry_cover g.F.DottedEntry.covers_at c.args.pass.now) c.args.w.now c.args.map.now.entries c.requires.strings c.args.i c.loop-n.n
    (take ((c.args.i + c.loop-n.n) - c.args.i) (drop c.args.i c.args.w.now)) c.args.out.now c.raise_by_string.new.out inside refl stops left).covers

pub loop-n-preserved : goal.loop-n-preserved
loop-n-preserved g c =
    let inside : c.args.i + c.loop-n.n ≤ length c.args.w.now = omega arith in
    start_steps (entry_value g.F.DottedEntry.given) (entry_cover g.F.DottedEntry.covers_at c.args.pass.now) c.args.w.now c.args.map.now.entries c.requires.strings c.args.i c.loop-n.n
    (take ((c.args.i + c.loop-n.n) - c.args.i) (drop c.args.i c.args.w.now)) c.args.out.now c.loop-n.out c.raise_by_string.new.out inside refl
    c.loop-n.invariant c.raise_by_string.ensures.values c.raise_by_string.ensures.covers

pub returns-clause-values : goal.returns-clause-values
returns-clause-values g c =
    let most : c.loop-n.n ≡ 33 = omega arith in
    let left = subst (λ n. Left (entry_value g.F.DottedEntry.given) (entry_cover g.F.DottedEntry.covers_at c.args.pass.now) (applies_from_at_least c.args.w.now c.args.i n)
    (applies_from c.args.w.now c.args.i) c.args.map.now.entries c.args.out.now c.loop-n.out) most c.loop-n.invariant in
    (start_ends (entry_value g.F.DottedEntry.given) (entry_cover g.F.DottedEntry.covers_at c.args.pass.now) c.args.w.now c.args.map.now.entries
    c.requires.strings c.args.i c.args.out.now c.loop-n.out left).values

pub returns-clause-covers : goal.returns-clause-covers
returns-clause-covers g c =
    let most : c.loop-n.n ≡ 33 = omega arith in
    let left = subst (λ n. Left (entry_value g.F.DottedEntry.given) (entry_cover g.F.DottedEntry.covers_at c.args.pass.now) (applies_from_at_least c.args.w.now c.args.i n)
    (applies_from c.args.w.now c.args.i) c.args.map.now.entries c.args.out.now c.loop-n.out) most c.loop-n.invariant in
    (start_ends (entry_value g.F.DottedEntry.given) (entry_cover g.F.DottedEntry.covers_at c.args.pass.now) c.args.w.now c.args.map.now.entries
    c.requires.strings c.args.i c.args.out.now c.loop-n.out left).covers
