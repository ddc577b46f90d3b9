use Rattle.std.proofs.Common.{◌≡◌, ℕ, ◌+◌, ◌-◌, ◌≤◌, List, [], ◌∷◌, ◌++◌, take, drop, get_or, length, Some, refl, sym, ap, ◌∙◌, arith}
use Rattle.pg_types.specs.Inside.Placing.{cell_of}
use Rattle.pg_outputs.specs.Lists.{list_of}
use Rattle.pg_trie.specs.Inside.Lists.{outputs_at}
use Rattle.pg_select.specs.Inside.words.Positions.{values_of, covers_of}
use Rattle.pg_hyph.specs.Inside.ListValues.{value_by, cover_by}
use Rattle.pg_hyph.proofs.Loops.{longer, stop_first, stop_next, stop_here, stop_last}
use Rattle.pg_hyph.proofs.walk.raise_by_strings.Goals as goal

pub loop-stop-init : goal.loop-stop-init
loop-stop-init c =
    let F = outputs_at c.args.trie.now.patterns c.args.trie.now.hopeless in
    let none : c.args.start - c.args.start ≡ 0 = omega arith in
    let q : List ℕ = take (c.args.start - c.args.start) (drop c.args.start c.args.w.now) in
    let s : ℕ = get_or c.args.w.now c.args.start 0 in
    let empty : q ≡ [] = ap (λ n. take n (drop c.args.start c.args.w.now)) none in
    let cell : cell_of c.args.trie.now.families (q ++ s ∷ []) ≡ Some c.in-Some.first = sym (c.in-Some.ensures.cell q empty) in
    let list : list_of c.args.outputs.now c.head.result ≡ F (q ++ s ∷ []) = ap (λ r. list_of r c.head.result) c.requires.outputs ∙ c.head.ensures.list (q ++ s ∷ []) cell in
    record {
      at = ap (λ (r : List ℕ). cell_of c.args.trie.now.families r) (longer c.args.w.now c.args.start c.args.start s (omega arith) c.requires.inside refl) ∙ cell;
      values = stop_next value_by F c.args.w.now c.args.start c.args.start s 1 (list_of c.args.outputs.now c.head.result)
          (values_of c.args.out.now) (values_of c.args.out.now) (values_of c.raise_by_list.new.out) (omega arith) c.requires.inside refl (omega arith) list
          (stop_first value_by F c.args.w.now c.args.start (values_of c.args.out.now)) c.raise_by_list.ensures.values;
      covers = stop_next (cover_by c.args.pass.now) F c.args.w.now c.args.start c.args.start s 1 (list_of c.args.outputs.now c.head.result)
          (covers_of c.args.out.now) (covers_of c.args.out.now) (covers_of c.raise_by_list.new.out) (omega arith) c.requires.inside refl (omega arith) list
          (stop_first (cover_by c.args.pass.now) F c.args.w.now c.args.start (covers_of c.args.out.now)) c.raise_by_list.ensures.covers;
    }

pub loop-stop-preserved : goal.loop-stop-preserved
loop-stop-preserved c =
    let F = outputs_at c.args.trie.now.patterns c.args.trie.now.hopeless in
    let q : List ℕ = take (c.loop-stop.stop - c.args.start) (drop c.args.start c.args.w.now) in
    let s : ℕ = get_or c.args.w.now c.loop-stop.stop 0 in
    let cell : cell_of c.args.trie.now.families (q ++ s ∷ []) ≡ Some c.in-Some-step.next = sym (c.in-Some-step.ensures.cell q c.loop-stop.invariant.at) in
    let list : list_of c.args.outputs.now c.head-in-loop-stop.result ≡ F (q ++ s ∷ []) = ap (λ r. list_of r c.head-in-loop-stop.result) c.requires.outputs
    ∙ c.head-in-loop-stop.ensures.list (q ++ s ∷ []) cell in
    let low : c.args.start ≤ c.loop-stop.stop = omega (arith, c.loop-stop.auto.stop) in
    record {
      at = ap (λ (r : List ℕ). cell_of c.args.trie.now.families r) (longer c.args.w.now c.args.start c.loop-stop.stop s low c.loop-stop-test.true refl) ∙ cell;
      values = stop_next value_by F c.args.w.now c.args.start c.loop-stop.stop s (c.loop-stop.stop + 1 - c.args.start) (list_of c.args.outputs.now c.head-in-loop-stop.result)
          (values_of c.args.out.now) (values_of c.loop-stop.out) (values_of c.raise_by_list-in-loop-stop.new.out) low c.loop-stop-test.true refl refl
          list c.loop-stop.invariant.values c.raise_by_list-in-loop-stop.ensures.values;
      covers = stop_next (cover_by c.args.pass.now) F c.args.w.now c.args.start c.loop-stop.stop s (c.loop-stop.stop + 1 - c.args.start) (list_of c.args.outputs.now c.head-in-loop-stop.result)
          (covers_of c.args.out.now) (covers_of c.loop-stop.out) (covers_of c.raise_by_list-in-loop-stop.new.out) low c.loop-stop-test.true refl refl
          list c.loop-stop.invariant.covers c.raise_by_list-in-loop-stop.ensures.covers;
    }

pub returns-in_default-clause-values : goal.returns-in_default-clause-values
returns-in_default-clause-values c =
    let F = outputs_at c.args.trie.now.patterns c.args.trie.now.hopeless in
    let none : c.args.start - c.args.start ≡ 0 = omega arith in
    let empty : take (c.args.start - c.args.start) (drop c.args.start c.args.w.now) ≡ [] = ap (λ n. take n (drop c.args.start c.args.w.now)) none in
    stop_here value_by F c.args.w.now c.args.start c.args.start (get_or c.args.w.now c.args.start 0) (values_of c.args.out.now) (values_of c.args.out.now)
    c.requires.inside refl (c.in_default.ensures.none _ empty refl) (stop_first value_by F c.args.w.now c.args.start (values_of c.args.out.now))

pub returns-in_default-step-clause-values : goal.returns-in_default-step-clause-values
returns-in_default-step-clause-values c =
    let q : List ℕ = take (c.loop-stop.stop - c.args.start) (drop c.args.start c.args.w.now) in
    stop_here value_by (outputs_at c.args.trie.now.patterns c.args.trie.now.hopeless) c.args.w.now c.args.start c.loop-stop.stop (get_or c.args.w.now c.loop-stop.stop 0)
    (values_of c.args.out.now) (values_of c.loop-stop.out)
    c.loop-stop-test.true refl (c.in_default-step.ensures.none q c.loop-stop.invariant.at refl) c.loop-stop.invariant.values

pub returns-in_default-clause-covers : goal.returns-in_default-clause-covers
returns-in_default-clause-covers c =
    let F = outputs_at c.args.trie.now.patterns c.args.trie.now.hopeless in
    let none : c.args.start - c.args.start ≡ 0 = omega arith in
    let empty : take (c.args.start - c.args.start) (drop c.args.start c.args.w.now) ≡ [] = ap (λ n. take n (drop c.args.start c.args.w.now)) none in
    stop_here (cover_by c.args.pass.now) F c.args.w.now c.args.start c.args.start (get_or c.args.w.now c.args.start 0) (covers_of c.args.out.now) (covers_of c.args.out.now)
    c.requires.inside refl (c.in_default.ensures.none _ empty refl) (stop_first (cover_by c.args.pass.now) F c.args.w.now c.args.start (covers_of c.args.out.now))

pub returns-in_default-step-clause-covers : goal.returns-in_default-step-clause-covers
returns-in_default-step-clause-covers c =
    let q : List ℕ = take (c.loop-stop.stop - c.args.start) (drop c.args.start c.args.w.now) in
    stop_here (cover_by c.args.pass.now) (outputs_at c.args.trie.now.patterns c.args.trie.now.hopeless) c.args.w.now c.args.start c.loop-stop.stop
    (get_or c.args.w.now c.loop-stop.stop 0) (covers_of c.args.out.now) (covers_of c.loop-stop.out)
    c.loop-stop-test.true refl (c.in_default-step.ensures.none q c.loop-stop.invariant.at refl) c.loop-stop.invariant.covers

pub returns-clause-values : goal.returns-clause-values
returns-clause-values c = stop_last value_by (outputs_at c.args.trie.now.patterns c.args.trie.now.hopeless) c.args.w.now c.args.start c.loop-stop.stop
    (values_of c.args.out.now) (values_of c.loop-stop.out) (omega arith) c.loop-stop.invariant.values

pub returns-clause-covers : goal.returns-clause-covers
returns-clause-covers c = stop_last (cover_by c.args.pass.now) (outputs_at c.args.trie.now.patterns c.args.trie.now.hopeless) c.args.w.now c.args.start c.loop-stop.stop
    (covers_of c.args.out.now) (covers_of c.loop-stop.out) (omega arith) c.loop-stop.invariant.covers

pub raise_by_list-requires-clause-head : goal.raise_by_list-requires-clause-head
raise_by_list-requires-clause-head c = omega (arith, c.head.ensures.inside, ap length c.requires.outputs)
