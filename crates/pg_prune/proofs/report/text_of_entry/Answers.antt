use Rattle.std.proofs.lemmas.Result.{IfOk-from_err}
use Rattle.std.proofs.Common.{◌≡◌, ℕ, ◌+◌, ◌-◌, true, length, take, List, [], ◌∷◌, ◌++◌, ap, sym, subst, ◌∙◌}
use Rattle.std.specs.List.{list_all}
use Rattle.pg_translate.specs.Alphabets.{letters_of}
use Rattle.pg_patterns.specs.Inside.PatternMaps.{SignsUpTo, is_entry}
use Rattle.std.proofs.lemmas.Option.{get_or_from_slice_get}
use Rattle.pg_patterns.specs.Values.{Patterns}
use Rattle.pg_patterns.specs.Texts.{pattern_text}
use Rattle.pg_prune.specs.Inside.rounds.Picks.{entry_of}
use Rattle.pg_prune.proofs.report.ReportSteps.{alone_sound, alone_known, map_alone}
use Rattle.pg_prune.proofs.report.text_of_entry.Goals as goal

pub entry-entry-requires : goal.entry-entry-requires
entry-entry-requires c = c.requires.within

pub new-requires : goal.new-requires
new-requires c = c.entry-entry.ensures.few

pub returns-in_err-push : goal.returns-in_err-push
returns-in_err-push c = IfOk-from_err c.from_residual.result _ c.from_residual.ensures.0

pub from_entries-requires : goal.from_entries-requires
from_entries-requires c =
    let e = c.entry-entry.result in
    let whole = c.in_ok-push.ensures.items ∙ ap (λ xs. xs ++ (c.new.result, e.value) ∷ []) c.new-entries.ensures.items ∙ ap (λ (x : List ℕ × ℕ). (x, e.value) ∷ []) c.new.ensures in
    subst (λ es. list_all is_entry es ≡ true) (sym whole)
    (alone_sound e.signs.now e.dot e.value c.entry-entry.ensures.some c.entry-entry.ensures.few c.entry-entry.ensures.signs c.entry-entry.ensures.dot
    c.entry-entry.ensures.bounds.0 c.entry-entry.ensures.bounds.1)

pub text-requires : goal.text-requires
text-requires c =
    let e = c.entry-entry.result in
    let whole = map_alone c.from_entries.result c.push.new.self.items c.new.result e.signs.now e.dot e.value
    (c.in_ok-push.ensures.items ∙ ap (λ xs. xs ++ (c.new.result, e.value) ∷ []) c.new-entries.ensures.items) c.new.ensures c.from_entries.ensures.in_order in
    subst (λ (Q : Patterns). SignsUpTo (letters_of c.args.table.now + 1) Q) (sym whole)
    (alone_known (letters_of c.args.table.now + 1) c.args.patterns.now c.args.i ((e.signs.now, e.dot), e.value) c.requires.known c.entry-entry.ensures.value)

pub returns-in_err-text : goal.returns-in_err-text
returns-in_err-text c = IfOk-from_err c.from_residual-in_err-text.result _ c.from_residual-in_err-text.ensures.0

pub returns : goal.returns
returns c =
    let t = c.args.table.now in
    let P = c.args.patterns.now in
    let e : (List ℕ × ℕ) × ℕ = ((c.entry-entry.result.signs.now, c.entry-entry.result.dot), c.entry-entry.result.value) in
    let whole = map_alone c.from_entries.result c.push.new.self.items c.new.result e.0.0 e.0.1 e.1
    (c.in_ok-push.ensures.items ∙ ap (λ xs. xs ++ (c.new.result, e.1) ∷ []) c.new-entries.ensures.items) c.new.ensures c.from_entries.ensures.in_order in
    let entry : entry_of P c.args.i ≡ e = get_or_from_slice_get P c.args.i e (([], 0), 0) c.entry-entry.ensures.value in
    let text : c.in_ok-text.text.items ≡ pattern_text t (entry_of P c.args.i ∷ []) = c.in_ok-text.ensures.text ∙ ap (pattern_text t) (whole ∙ ap (λ (x : (List ℕ × ℕ) × ℕ). x ∷ []) (sym entry)) in
    c.truncate.ensures.items
    ∙ ap (λ n. take n c.in_ok-text.text.items) (c.saturating_sub-len.ensures ∙ ap (λ n. n - 1) (c.len.ensures ∙ c.in_ok-text.text.ok.0))
    ∙ ap (λ (line : List ℕ). take (length line - 1) line) text
