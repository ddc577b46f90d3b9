use Rattle.std.proofs.lemmas.Result.{IfOk-from_err}
use Rattle.pg_patterns.specs.DottedSigns.{dotted_cmp}
use Rattle.std.specs.FinMap.Entries.{is_sorted}
use Rattle.std.proofs.Common.{◌≡◌, ◌∙◌, ◌∷◌, ◌++◌, [], List, ℕ, true, get_or, take, sym, ap, subst, T}
use Rattle.std.proofs.lemmas.List.{take_all}
use Rattle.std.proofs.lemmas.Option.{get_or_from_slice_get}
use Rattle.std.specs.List.{list_all}
use Rattle.pg_patterns.specs.Inside.PatternMaps.{is_entry}
use Rattle.pg_prune.specs.Inside.rounds.Picks.{picked_entries}
use Rattle.pg_prune.proofs.rounds.Picking.{picked_more}
use Rattle.pg_prune.proofs.rounds.kept_patterns.kept_patterns.Goals as goal

pub entry-entry-requires : goal.entry-entry-requires
entry-entry-requires c = c.requires.within c.entries.i-index 0 c.entries-test.true

pub entries-preserved : goal.entries-preserved
entries-preserved c =
    let k = get_or c.args.kept.now c.entries.i-index 0 in
    let is = get_or_from_slice_get c.args.patterns.now k ((c.entry-entry.result.signs.now, c.entry-entry.result.dot), c.entry-entry.result.value) (([], 0), 0) c.entry-entry.ensures.value in
    c.in_ok-push.ensures.items
    ∙ ap (λ (p : List ℕ × ℕ). c.entries.entries.items ++ (p, c.entry-entry.result.value) ∷ []) c.new.ensures
    ∙ ap (λ es. es ++ ((c.entry-entry.result.signs.now, c.entry-entry.result.dot), c.entry-entry.result.value) ∷ []) c.entries.invariant
    ∙ ap (λ e. picked_entries c.args.patterns.now (take c.entries.i-index c.args.kept.now) ++ e ∷ []) (sym is)
    ∙ sym (picked_more c.args.patterns.now c.args.kept.now c.entries.i-index c.entries-test.true)

pub from_entries-requires : goal.from_entries-requires
from_entries-requires c =
    let whole = c.entries.invariant ∙ ap (picked_entries c.args.patterns.now) (take_all c.entries.i-index c.args.kept.now c.entries-test.false) in
    subst (λ es. list_all is_entry es ≡ true) (sym whole) c.requires.map.sound

pub new-requires : goal.new-requires
new-requires c = c.entry-entry.ensures.few

pub returns-in_err-push : goal.returns-in_err-push
returns-in_err-push c = IfOk-from_err c.from_residual.result _ c.from_residual.ensures.0

pub returns : goal.returns
returns c =
    let whole = c.entries.invariant ∙ ap (picked_entries c.args.patterns.now) (take_all c.entries.i-index c.args.kept.now c.entries-test.false) in
    c.from_entries.ensures.in_order (subst (λ es. T (is_sorted dotted_cmp es)) (sym whole) c.requires.map.sorted) ∙ whole
