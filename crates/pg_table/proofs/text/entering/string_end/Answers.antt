use Rattle.std.proofs.Common.{◌≡◌, ◌<◌, length, slice_get, Some, None, sym, ◌∙◌, arith}
use Rattle.std.proofs.lemmas.Option.{slice_get_past, slice_get_within}
use Rattle.pg_table.proofs.text.entering.string_end.Goals as goal

pub returns : goal.returns
returns c e at =
    let inside : c.args.at < length c.args.patterns.now = slice_get_within c.args.patterns.now c.args.at e at in
    let q = c.loop-end.invariant c.args.at e (omega arith) (omega (arith, c.loop-end.auto.end)) at in
    record {
      some = omega (arith, c.len-count.ensures.value);
      within = omega (arith, c.len-count.ensures.value);
      each = λ j f low high there. c.loop-end.invariant j f low (omega arith) there ∙ sym q;
      ends = λ f there same. let past : slice_get c.args.patterns.now c.len-count.result ≡ None = slice_get_past c.args.patterns.now c.len-count.result (omega (arith, c.len-count.ensures.value)) in
          let z : None ≡ Some f = sym past ∙ there in
          cc;
    }
