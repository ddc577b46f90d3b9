use Rattle.std.proofs.Common.{ℕ, List, refl, ap, ◌∙◌, arith}
use Rattle.pg_table.specs.Inside.view.ListsOf.{list_in}
use Rattle.pg_select.specs.Inside.words.Positions.{values_of}
use Rattle.pg_table.specs.Inside.view.Raising.{by_record_list, by_value}
use Rattle.pg_table.proofs.view.Levels.{level_step, level_end}
use Rattle.pg_table.proofs.view.CellWalks.{list_more, empty_list}
use Rattle.pg_table.proofs.view.walks.take_list.Goals as goal

pub loop-value-init : goal.loop-value-init
loop-value-init c = record { inside = c.requires.head; values = λ p low. refl; uncovered = c.requires.uncovered }

pub loop-value-preserved : goal.loop-value-preserved
loop-value-preserved c =
    let x : ℕ × ℕ = (c.in-Some.value, c.in-Some.dot) in
    let rest : List (ℕ × ℕ) = list_in c.args.view.now c.in-Some.next in
    record {
      inside = omega (arith, c.in-Some.ensures.back, c.loop-value.invariant.inside);
      values = level_step (by_record_list c.args.start c.args.len (list_in c.args.view.now c.loop-value.at)) (by_value c.args.start c.args.len x)
          (by_record_list c.args.start c.args.len rest) (by_record_list c.args.start c.args.len (list_in c.args.view.now c.args.head))
          (values_of c.args.out.now) (values_of c.loop-value.out) (values_of c.raise.new.out)
          (λ p. ap (λ (l : List (ℕ × ℕ)). by_record_list c.args.start c.args.len l p) c.in-Some.ensures.list
          ∙ list_more c.args.start c.args.len x rest p) c.loop-value.invariant.values c.raise.ensures.values;
      uncovered = c.raise.ensures.uncovered;
    }

pub returns : goal.returns
returns c = record {
  values = level_end (by_record_list c.args.start c.args.len (list_in c.args.view.now c.loop-value.at)) (by_record_list c.args.start c.args.len (list_in c.args.view.now c.args.head))
      (values_of c.args.out.now) (values_of c.loop-value.out)
      (λ p. ap (λ (l : List (ℕ × ℕ)). by_record_list c.args.start c.args.len l p) c.in_default.ensures.list ∙ empty_list c.args.start c.args.len p) c.loop-value.invariant.values;
  uncovered = c.loop-value.invariant.uncovered;
}
