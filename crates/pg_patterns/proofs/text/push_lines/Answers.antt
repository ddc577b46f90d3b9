use Rattle.std.proofs.Common.{◌≡◌, ◌+◌, ◌<◌, ◌≤◌, length, get_or, refl, arith, sym, ap, subst, ◌∙◌}
use Rattle.std.specs.List.{All}
use Rattle.pg_patterns.specs.Inside.Search.{HasRank}
use Rattle.pg_patterns.proofs.Sound.{each_sign, entry_bounds, entry_at}
use Rattle.pg_patterns.proofs.Strings.{string_start, string_progress, line_step, next_string}
use Rattle.pg_patterns.proofs.text.push_lines.Goals as goal

pub lines-init : goal.lines-init
lines-init c = record {
  text = refl;
  start = λ e inside is. string_start c.args.entries.now 0 e c.requires.map.sorted inside is (λ j d low. absurd (omega arith));
}

pub push_line-requires-clause-each : goal.push_line-requires-clause-each
push_line-requires-clause-each c =
    let bounds = entry_bounds (get_or c.args.entries.now c.lines.at c.index-entries-at.result)
    (entry_at c.args.entries.now c.lines.at c.index-entries-at.result c.requires.map.sound c.lines-test.true) in
    subst (All (λ s. 1 ≤ s)) (sym c.signs-signs.ensures.value) (each_sign _ bounds.signs)

pub lines-smaller : goal.lines-smaller
lines-smaller c =
    let signs : c.signs-signs.result.now ≡ c.index-entries-at.result.0.0 = c.signs-signs.ensures.value ∙ ap (λ x. x.0.0) (sym c.index-entries-at.is) in
    let less : c.lines.at < c.in_ok-at.at =
    string_progress c.args.entries.now c.lines.at c.in_ok-at.at c.index-entries-at.result c.requires.map c.lines-test.true c.index-entries-at.is
    (subst (λ x. HasRank c.args.entries.now (x, length x + 1) c.in_ok-at.at) signs c.in_ok-at.ensures.next) in
    omega arith

pub lines-preserved : goal.lines-preserved
lines-preserved c =
    let signs : c.signs-signs.result.now ≡ c.index-entries-at.result.0.0 = c.signs-signs.ensures.value ∙ ap (λ x. x.0.0) (sym c.index-entries-at.is) in
    record {
      text = line_step c.args.table.now c.args.entries.now c.lines.at c.in_ok-at.at c.index-entries-at.result c.signs-signs.result.now c.lines.text.items
          c.push_line.new.text.items _ c.requires.map c.lines-test.true c.index-entries-at.is signs
          (c.lines.invariant.start c.index-entries-at.result c.lines-test.true c.index-entries-at.is) c.in_ok-at.ensures.next c.in_ok-at.ensures.text c.lines.invariant.text;
      start = λ e inside is. string_start c.args.entries.now c.in_ok-at.at e c.requires.map.sorted inside is
          (next_string c.args.entries.now c.signs-signs.result.now c.in_ok-at.at e c.requires.map c.in_ok-at.ensures.next inside is).1;
    }
