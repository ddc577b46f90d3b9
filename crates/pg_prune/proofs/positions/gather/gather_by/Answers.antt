use Rattle.std.proofs.Common.{◌≡◌, ◌<◌, ◌≤◌, ◌++◌, ◌∷◌, [], length, take, map, get_or, ap, sym, ◌∙◌, arith, List, ℕ}
use Rattle.std.specs.List.{filter_map}
use Rattle.std.proofs.lemmas.List.{map-append, map_more, take_all}
use Rattle.std.proofs.lemmas.Option.{get_or_from_slice_get}
use Rattle.std.proofs.lemmas.Result.{IfOk-from_err}
use Rattle.pg_patterns.specs.Values.{Patterns}
use Rattle.pg_prune.specs.Positions.{positions_in_reach as positions_of}
use Rattle.pg_prune.specs.Inside.positions.EntryPositions.{positions_of_entry as standing_of, positions_of_entries}
use Rattle.pg_prune.specs.declared.positions.trail.Start.{Start}
use Rattle.pg_prune.specs.Inside.positions.Trails.{starts_of, trail_upto, number_at_dot}
use Rattle.pg_prune.proofs.positions.TrailPositions.{positions_by_starts}
use Rattle.pg_prune.proofs.positions.gather.gather_by.Goals as goal

pub entry-entry-requires : goal.entry-entry-requires
entry-entry-requires c = omega (arith, c.len-i-end.ensures.value)

pub positions-requires-clause-trail : goal.positions-requires-clause-trail
positions-requires-clause-trail c = c.entries.invariant.trail

pub positions-requires-clause-known : goal.positions-requires-clause-known
positions-requires-clause-known c = c.requires.known

pub positions-requires-clause-few : goal.positions-requires-clause-few
positions-requires-clause-few c = c.entry-entry.ensures.few

pub returns-in_err-positions : goal.returns-in_err-positions
returns-in_err-positions c = IfOk-from_err c.from_residual.result _ c.from_residual.ensures.0

pub returns-in_err-push : goal.returns-in_err-push
returns-in_err-push c = IfOk-from_err c.from_residual-in_err-push.result _ c.from_residual-in_err-push.ensures.0

pub entries-preserved : goal.entries-preserved
entries-preserved c =
    let ws = c.args.dictionary.now in
    let m = c.args.table.now in
    let P = c.args.patterns.now in
    let i = c.entries.i in
    let u = c.entry-entry.result.signs.now in
    let d = c.entry-entry.result.dot in
    let v = c.entry-entry.result.value in
    let standing = standing_of (positions_of m ws) in
    let entry : get_or P i (([], 0), 0) ≡ ((u, d), v) = get_or_from_slice_get P i ((u, d), v) (([], 0), 0) c.entry-entry.ensures.value in
    let found : c.in_ok-positions.field-0.items ≡ standing (get_or P i (([], 0), 0)) =
    c.in_ok-positions.ensures.positions
    ∙ ap (λ (xs : List Start). filter_map (number_at_dot m ws d) (starts_of ws xs u)) c.requires.starts
    ∙ positions_by_starts m ws u v d ∙ ap standing (sym entry) in
    let inside : i < length P = omega (arith, c.len-i-end.ensures.value) in
    record {
      trail = c.in_ok-positions.ensures.trail ∙ ap (λ (q : List ℕ). trail_upto ws c.args.all.now q (length q)) (sym c.in_ok-positions.ensures.signs);
      lists =
          ap (λ ls. map (λ t. t.items) ls) c.in_ok-push.ensures.items
          ∙ map-append (λ t. t.items) c.entries.lists.items (c.in_ok-positions.field-0 ∷ [])
          ∙ ap (λ (ls : List (List ℕ)). ls ++ c.in_ok-positions.field-0.items ∷ []) c.entries.invariant.lists
          ∙ ap (λ (x : List ℕ). map standing (take i P) ++ x ∷ []) found
          ∙ sym (map_more standing P i (([], 0), 0) inside);
    }

pub returns : goal.returns
returns c =
    let behind : length c.args.patterns.now ≤ c.entries.i = omega (arith, c.len-i-end.ensures.value) in
    c.entries.invariant.lists ∙ ap (λ (Q : Patterns). positions_of_entries (positions_of c.args.table.now c.args.dictionary.now) Q) (take_all c.entries.i c.args.patterns.now behind)
