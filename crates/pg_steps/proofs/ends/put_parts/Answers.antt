use Rattle.std.proofs.Common.{inr}
use Rattle.std.specs.Prelude.{codes}
use Rattle.pg_steps.proofs.Puts.{last_put}
use Rattle.pg_steps.proofs.ends.put_parts.Goals as goal

pub returns : goal.returns
returns g c =
    let s1 = g.O.Sink.shown c.put.new.self in
    let s2 = g.O.Sink.shown c.put-2.new.self in
    let p = c.put.ensures in
    let q = c.put-2.ensures in
    let r = c.put-3.ensures in
    let whole = rw c.as_bytes.ensures.value at c.in_ok-put-2.ensures.whole in
    let last = last_put c.put-3.result (codes "\n") s2 (g.O.Sink.shown c.put-3.new.self) r.whole r.part r.later r.failed r.puts in
    inr (s1, record { puts = p.puts; text = c.in_ok-put.ensures.whole; faults = p.later }, inr (s2, record { puts = q.puts; text = whole; faults = q.later }, last))
