use Rattle.std.proofs.Common.{ℕ, [], ◌∷◌, ◌++◌, List, map, take, get_or, append_assoc, ap, sym, ◌∙◌}
use Rattle.std.proofs.lemmas.List.{map_more, take_all}
use Rattle.std.proofs.lemmas.Result.{IfOk-from_err}
use Rattle.pg_patterns.specs.Inside.EntryLines.{entry_at}
use Rattle.pg_patterns.proofs.draft.push_digits.Goals as goal

pub new-requires : goal.new-requires
new-requires c = c.requires

pub loop-digit-preserved : goal.loop-digit-preserved
loop-digit-preserved c =
    let f : ℕ × ℕ → (List ℕ × ℕ) × ℕ = entry_at c.args.signs.now in
    let ds = c.args.digits.now in
    let i = c.loop-digit.digit-index in
    let old = c.args.entries.now.items in
    let x : ℕ × ℕ = get_or ds i (0, 0) in
    c.in_ok-push.ensures.items
    ∙ ap (λ (k : List ℕ × ℕ). c.loop-digit.entries.items ++ (k, x.1) ∷ []) c.new.ensures
    ∙ ap (λ (es : List ((List ℕ × ℕ) × ℕ)). es ++ f x ∷ []) c.loop-digit.invariant
    ∙ append_assoc old (map f (take i ds)) (f x ∷ [])
    ∙ ap (λ (es : List ((List ℕ × ℕ) × ℕ)). old ++ es) (sym (map_more f ds i (0, 0) c.loop-digit-test.true))

pub returns-in_err-push : goal.returns-in_err-push
returns-in_err-push c = IfOk-from_err c.from_residual.result _ c.from_residual.ensures.0

pub returns : goal.returns
returns c = c.loop-digit.invariant ∙ ap (λ (ds : List (ℕ × ℕ)). c.args.entries.now.items ++ map (entry_at c.args.signs.now) ds)
    (take_all c.loop-digit.digit-index c.args.digits.now c.loop-digit-test.false)
