use Rattle.std.proofs.Common.{◌<◌, List, get_or, length, sym, ap, ◌∙◌, arith}
use Rattle.std.proofs.lemmas.List.{drop_all}
use Rattle.std.proofs.lemmas.Option.{slice_get-get_or}
use Rattle.pg_driver.specs.declared.pass_windows.WordPosition.{WordPosition}
use Rattle.pg_driver.specs.Inside.counting.WordLevels.{chosen_weights, with_chosen}
use Rattle.pg_driver.proofs.AboveNumbers.{kept_none}
use Rattle.pg_driver.proofs.AbovePositions.{kept_step}
use Rattle.pg_driver.proofs.counting.above_positions.kept_above.Goals as goal

no_position : WordPosition
no_position = record { word = 0; at = 0 }

pub add_kept-kept-requires-clause-room : goal.add_kept-kept-requires-clause-room
add_kept-kept-requires-clause-room c = omega (arith, c.positions.invariant.took, c.positions-test.true, c.requires.above)

pub positions-preserved : goal.positions-preserved
unfolding no_position
positions-preserved c = record {
  whole = λ params counts ws decided have.
      let k = c.positions.k in
      let within : k < length c.args.numbers.now = omega (arith, c.requires.size, c.positions-test.true) in
      kept_step params c.args.pass counts c.args.dictionary.now c.positions.kept _ _ c.args.above.now k no_position c.positions-test.true
      (c.add_kept-kept.ensures.value params counts ws decided
      (have.each k (get_or c.args.above.now k no_position) (get_or c.args.numbers.now k 0) (slice_get-get_or c.args.above.now k no_position c.positions-test.true)
      (slice_get-get_or c.args.numbers.now k 0 within)))
      (c.positions.invariant.whole params counts ws decided have);
  took = omega (arith, c.positions.invariant.took, c.add_kept-kept.ensures.took);
}

pub returns : goal.returns
returns c = λ params counts ws decided have.
    let words = c.args.dictionary.now in
    kept_none params c.args.pass counts words c.positions.kept
    ∙ ap (λ (es : List WordPosition). with_chosen c.positions.kept (chosen_weights params c.args.pass counts words es))
    (sym (drop_all c.positions.k c.args.above.now (omega (arith, c.positions-test.false))))
    ∙ c.positions.invariant.whole params counts ws decided have
