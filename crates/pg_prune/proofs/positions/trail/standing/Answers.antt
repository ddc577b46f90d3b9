use Rattle.std.proofs.Common.{◌++◌, ◌∷◌, [], List, Vec, Global, ℕ, ap, ◌∙◌}
use Rattle.pg_prune.specs.Inside.positions.Trails.{number_at_dot}
use Rattle.pg_prune.proofs.positions.TrailLists.{given_more, given_none}
use Rattle.std.specs.List.{filter_map}
use Rattle.std.proofs.lemmas.List.{take_all}
use Rattle.pg_prune.specs.declared.positions.trail.Start.{Start}
use Rattle.pg_prune.proofs.positions.trail.standing.Goals as goal
use Rattle.pg_prune.proofs.positions.trail.standing.Goals.{in-Some+in_ok-push, in_default}

pub starts-preserved : goal.starts-preserved
starts-preserved c =
    let f = number_at_dot c.args.table.now c.args.dictionary.now c.args.dot in
    elim c.match-number_at_dot.branch [
      | in-Some+in_ok-push w ↦
          ap (λ (v : Vec ℕ Global). v.items) w.numbers-is
          ∙ w.in_ok-push.ensures.items
          ∙ ap (λ (xs : List ℕ). xs ++ w.in-Some.number ∷ []) c.starts.invariant
          ∙ given_more f c.args.starts.now c.starts.start-index _ w.in-Some.number c.starts-test.true w.in-Some.ensures
      | in_default w ↦
          ap (λ (v : Vec ℕ Global). v.items) w.numbers-is
          ∙ c.starts.invariant
          ∙ given_none f c.args.starts.now c.starts.start-index _ c.starts-test.true w.in_default.ensures
    ]

pub starts-init : goal.starts-init
starts-init c = c.new-numbers.ensures.items

pub number_at_dot-requires : goal.number_at_dot-requires
number_at_dot-requires c = c.requires c.starts.start-index _ c.starts-test.true

pub returns : goal.returns
returns c =
    c.starts.invariant
    ∙ ap (λ (ss : List Start). filter_map (number_at_dot c.args.table.now c.args.dictionary.now c.args.dot) ss) (take_all c.starts.start-index c.args.starts.now c.starts-test.false)
