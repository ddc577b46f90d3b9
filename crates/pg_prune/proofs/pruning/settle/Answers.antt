use Rattle.std.proofs.Common.{◌≡◌, ◌≤◌, ◌-◌, ◌∙◌, map, length, ap, sym, subst, arith}
use Rattle.pg_patterns.specs.Values.{Patterns}
use Rattle.pg_patterns.specs.Inside.PatternMaps.{IsPatternMap}
use Rattle.pg_prune.specs.Positions.{positions_in_reach}
use Rattle.pg_prune.specs.Prunes.{pruning_of, needs, Pruning, rounds_from}
use Rattle.pg_prune.specs.Inside.Needs.{HasNeeds}
use Rattle.pg_prune.specs.Inside.rounds.Picks.{picked_entries}
use Rattle.pg_prune.proofs.pruning.PrunedLaws.{pruned_map, pruned_needs, pruned_few}
use Rattle.pg_prune.proofs.pruning.Finish.{finish, to_rounds, rounds_patterns, with_kept, picked_few}
use Rattle.pg_prune.proofs.pruning.settle.Goals as goal

pub all_rounds-requires : goal.all_rounds-requires
all_rounds-requires g c = (positions_in_reach c.requires.0 c.requires.1.0, c.requires.1.1.1)

pub overflow_sub-removed : goal.overflow_sub-removed
overflow_sub-removed g c =
    let m = c.requires.0 in
    let ws = c.requires.1.0 in
    let P = c.args.patterns.now in
    let xs = positions_in_reach m ws in
    let done = c.in_ok-finished.ensures xs c.requires.1.1.1 in
    let K = c.as_slice-kept.result.now in
    let left : picked_entries P K ≡ (pruning_of m ws P).patterns = ap (picked_entries P) c.as_slice-kept.ensures.value
    ∙ rounds_patterns m ws P c.in_ok-finished.finished.kept.items c.in_ok-finished.finished.count done.done in
    let few : length K ≤ length P = picked_few P K (pruning_of m ws P).patterns (pruned_few m ws P) left in
    omega (arith, c.len-count.ensures.value)

pub kept_patterns-requires-clause-map : goal.kept_patterns-requires-clause-map
kept_patterns-requires-clause-map g c =
    let m = c.requires.0 in
    let ws = c.requires.1.0 in
    let P = c.args.patterns.now in
    let xs = positions_in_reach m ws in
    let done = c.in_ok-finished.ensures xs c.requires.1.1.1 in
    let K = c.as_slice-kept.result.now in
    let left : picked_entries P K ≡ (pruning_of m ws P).patterns = ap (picked_entries P) c.as_slice-kept.ensures.value
    ∙ rounds_patterns m ws P c.in_ok-finished.finished.kept.items c.in_ok-finished.finished.count done.done in
    subst (λ (Q : Patterns). IsPatternMap Q) (sym left) (pruned_map m ws P c.len-count.ensures.kept)

pub new-requires : goal.new-requires
new-requires g c =
    let m = c.requires.0 in
    let ws = c.requires.1.0 in
    let P = c.args.patterns.now in
    let xs = positions_in_reach m ws in
    let done = c.in_ok-finished.ensures xs c.requires.1.1.1 in
    let K = c.as_slice-kept.result.now in
    let stands = map (λ l. l.items) c.args.standing.now in
    let ready = with_kept xs P stands c.all_rounds.new.holders c.in_ok-finished.finished.kept.items K c.as_slice-kept.ensures.value done.ready in
    let own : c.in_ok-needs.needs.items ≡ needs xs (picked_entries P K) = c.in_ok-needs.ensures xs c.requires.1.1.0 ready in
    let rounded : rounds_from xs P 1 (length P) P ≡ (picked_entries P K, c.in_ok-finished.finished.count) = done.done
    ∙ ap (λ ks. to_rounds (picked_entries P ks) c.in_ok-finished.finished.count) (sym c.as_slice-kept.ensures.value) in
    let is = finish m ws P K c.in_ok-needs.needs.items c.in_ok-finished.finished.count rounded own c.in_ok-patterns.patterns
    (c.len-count.result - length K) c.in_ok-patterns.ensures (ap (λ n. n - length K) c.len-count.ensures.value) in
    subst (λ (f : Pruning). HasNeeds f) (sym is) (pruned_needs m ws P)

pub returns : goal.returns
returns g c m ws lie start =
    let P = c.args.patterns.now in
    let xs = positions_in_reach m ws in
    let done = c.in_ok-finished.ensures xs start in
    let K = c.as_slice-kept.result.now in
    let stands = map (λ l. l.items) c.args.standing.now in
    let ready = with_kept xs P stands c.all_rounds.new.holders c.in_ok-finished.finished.kept.items K c.as_slice-kept.ensures.value done.ready in
    let own : c.in_ok-needs.needs.items ≡ needs xs (picked_entries P K) = c.in_ok-needs.ensures xs lie ready in
    let rounded : rounds_from xs P 1 (length P) P ≡ (picked_entries P K, c.in_ok-finished.finished.count) = done.done
    ∙ ap (λ ks. to_rounds (picked_entries P ks) c.in_ok-finished.finished.count) (sym c.as_slice-kept.ensures.value) in
    let is = finish m ws P K c.in_ok-needs.needs.items c.in_ok-finished.finished.count rounded own c.in_ok-patterns.patterns
    (c.len-count.result - length K) c.in_ok-patterns.ensures (ap (λ n. n - length K) c.len-count.ensures.value) in
    c.new.ensures ∙ is

pub needs-requires : goal.needs-requires
needs-requires g c =
    let m = c.requires.0 in
    let ws = c.requires.1.0 in
    let P = c.args.patterns.now in
    let xs = positions_in_reach m ws in
    let done = c.in_ok-finished.ensures xs c.requires.1.1.1 in
    let stands = map (λ l. l.items) c.args.standing.now in
    (xs, c.requires.1.1.0, with_kept xs P stands c.all_rounds.new.holders c.in_ok-finished.finished.kept.items c.as_slice-kept.result.now c.as_slice-kept.ensures.value done.ready)
