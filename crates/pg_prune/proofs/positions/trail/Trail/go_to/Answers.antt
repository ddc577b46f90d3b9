use Rattle.std.proofs.Common.{◌≡◌, ◌≤◌, ◌+◌, ◌++◌, ◌∷◌, [], length, take, map, get_or, ap, sym, ◌∙◌, arith, List, ℕ}
use Rattle.std.specs.List.{filter}
use Rattle.std.proofs.lemmas.List.{take-map, map-append, take_all, take_more}
use Rattle.std.proofs.lemmas.List.Elements.{All-filter, All-same}
use Rattle.pg_prune.specs.declared.positions.trail.Start.{Start}
use Rattle.pg_prune.specs.Inside.positions.Trails.{IsStart, begins_at, starts_of, trail_upto, last_list, continues_with as continues_with_by}
use Rattle.pg_prune.proofs.positions.TrailSteps.{longer_starts, last_trail, trail_more, trail_cut}
use Rattle.pg_prune.proofs.positions.trail.Trail.go_to.Goals as goal

pub signs-init : goal.signs-init
signs-init c =
    let old = c.args.self.now.signs.items in
    let starts = c.args.self.now.starts.items in
    let kept = c.common-kept.result in
    let held : take kept old ≡ take kept c.args.signs.now = ap (λ (xs : List ℕ). take kept xs) (sym c.as_slice.ensures.value) ∙ c.common-kept.ensures.same in
    let first : kept ≤ length old = omega (arith, c.common-kept.ensures.first, c.as_slice.ensures.len, ap (λ (xs : List ℕ). length xs) c.as_slice.ensures.value) in
    record {
      signs = c.truncate.ensures.items ∙ held;
      starts =
          ap (λ ls. map (λ t. t.items) ls) c.truncate-2.ensures.items
          ∙ sym (take-map (λ t. t.items) kept starts)
          ∙ ap (λ ls. take kept ls) c.requires.trail
          ∙ trail_cut c.args.dictionary.now c.args.all.now old c.args.signs.now kept (length old) first held;
    }

pub longer-requires-clause-known : goal.longer-requires-clause-known
longer-requires-clause-known c =
    let ws = c.args.dictionary.now in
    let all = c.args.all.now in
    let u = c.args.signs.now in
    let now : c.starts_of.result.now ≡ starts_of ws all (take c.signs.i u) = c.starts_of.ensures ∙ ap (last_list all) c.signs.invariant.starts ∙ last_trail ws all u c.signs.i c.requires.known in
    All-same (IsStart ws) _ _ now (All-filter (begins_at ws (take c.signs.i u)) (IsStart ws) all c.requires.known)

pub signs-preserved : goal.signs-preserved
signs-preserved c =
    let ws = c.args.dictionary.now in
    let all = c.args.all.now in
    let u = c.args.signs.now in
    let i = c.signs.i in
    let now : c.starts_of.result.now ≡ starts_of ws all (take i u) = c.starts_of.ensures ∙ ap (last_list all) c.signs.invariant.starts ∙ last_trail ws all u i c.requires.known in
    let found : c.in_ok-starts.starts.items ≡ starts_of ws all (take (i + 1) u) = c.in_ok-starts.ensures ∙ ap (λ (xs : List Start). filter (continues_with_by ws i (get_or u i 0)) xs) now
    ∙ longer_starts ws all u i (omega arith) in
    record {
      signs = c.in_ok-push-2.ensures.items ∙ ap (λ xs. xs ++ get_or u i 0 ∷ []) c.signs.invariant.signs ∙ sym (take_more u i 0 (omega arith));
      starts =
          ap (λ ls. map (λ t. t.items) ls) c.in_ok-push.ensures.items
          ∙ map-append (λ t. t.items) c.signs.self.starts.items (c.in_ok-starts.starts ∷ [])
          ∙ ap (λ (ls : List (List Start)). ls ++ c.in_ok-starts.starts.items ∷ []) c.signs.invariant.starts
          ∙ ap (λ (x : List Start). trail_upto ws all u i ++ x ∷ []) found
          ∙ trail_more ws all u i;
    }

pub longer-requires-clause-few : goal.longer-requires-clause-few
longer-requires-clause-few c = omega (arith, c.signs-test.true, c.requires.few)

pub returns-clause-trail : goal.returns-clause-trail
returns-clause-trail c =
    let u = c.args.signs.now in
    let same : c.signs.i ≡ length u = omega (arith, c.signs-test.false, c.signs.auto, c.common-kept.ensures.second) in
    c.signs.invariant.starts ∙ ap (trail_upto c.args.dictionary.now c.args.all.now u) same

pub returns-clause-signs : goal.returns-clause-signs
returns-clause-signs c = c.signs.invariant.signs ∙ take_all c.signs.i c.args.signs.now c.signs-test.false
