use Rattle.std.proofs.Common.{◌≤◌, length, Some, sym, ap, subst, ◌∙◌, arith}
use Rattle.std.proofs.lemmas.List.{take_all}
use Rattle.pg_patterns.specs.Inside.PatternMaps.{IsPatternMap}
use Rattle.pg_plain.proofs.Entered.{entered_next}
use Rattle.pg_plain.proofs.dotted_maps.map_of.Goals as goal

pub loop-i-preserved : goal.loop-i-preserved
loop-i-preserved c =
    entered_next c.args.patterns.now c.loop-i.map.entries c.insert.new.self.entries c.loop-i.i c.new.result c.entry-dot.result.value c.len-i-end.ensures.kept c.loop-i.invariant
    (c.entry-dot.ensures.value ∙ ap (λ k. Some (k, c.entry-dot.result.value)) (sym c.new.ensures)) c.in_ok-insert.ensures.entries

pub returns-clause-kept : goal.returns-clause-kept
returns-clause-kept c =
    let all : length c.args.patterns.now ≤ c.loop-i.i = (let len = c.len-i-end.ensures.value in let done = c.loop-i-test.false in omega arith) in
    subst IsPatternMap (sym (c.loop-i.invariant ∙ take_all c.loop-i.i c.args.patterns.now all)) c.len-i-end.ensures.kept
