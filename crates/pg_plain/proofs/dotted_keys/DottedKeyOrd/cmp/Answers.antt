use Rattle.std.proofs.Common.{nat_cmp, sym, ap, ◌∙◌}
use Rattle.std.specs.Ordering.{ordering_then}
use Rattle.pg_patterns.specs.DottedSigns.{dotted_cmp}
use Rattle.pg_plain.proofs.FirstSigns.{decided, heads_differ}
use Rattle.pg_plain.proofs.dotted_keys.DottedKeyOrd.cmp.Goals as goal

pub returns-then-self-other : goal.returns-then-self-other
returns-then-self-other c =
    let x = c.self.inside in
    let y = c.other.inside in
    c.cmp.ensures ∙ sym (decided x.head y.head (nat_cmp x.dotted.1 y.dotted.1) c.if-self-other.true)
    ∙ sym (ap (λ o. ordering_then o (nat_cmp x.dotted.1 y.dotted.1)) (heads_differ x.head y.head x.dotted.0 y.dotted.0 c.self.invariant c.other.invariant c.if-self-other.true))
    ∙ (λ i. dotted_cmp (c.self.view_is i) (c.other.view_is i))
