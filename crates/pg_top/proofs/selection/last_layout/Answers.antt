use Rattle.std.proofs.Common.{◌≡◌, ℕ, zero, suc, map, length, List, [], ◌∷◌, slice_index_or, refl, ap, ◌∙◌, arith}
use Rattle.std.proofs.lemmas.Grind.{common_steps}
use Rattle.pg_driver.specs.declared.records.LevelRecord.{LevelRecord}
use Rattle.pg_translate.specs.Inside.items.GapItems.{last_else}
use Rattle.pg_top.proofs.selection.last_layout.Goals as goal

-- the last of a list that is not empty
last_at : {X Y : Type 0} (f : X → Y) (given : Y) (other : X) (xs : List X) (n : ℕ) → length xs ≡ suc n → f (slice_index_or xs n other) ≡ last_else given (map f xs)
last_at f given other [] n is = absurd (omega arith)
last_at f given other (x ∷ []) zero is = refl
last_at f given other (x ∷ []) (suc n) is = absurd (omega arith)
last_at f given other (x ∷ y ∷ ys) zero is = absurd (omega arith)
last_at f given other (x ∷ y ∷ ys) (suc n) is = last_at f (f x) other (y ∷ ys) n (omega arith)

pub returns-else-is_empty : goal.returns-else-is_empty
returns-else-is_empty c =
    let first = c.args.run.now.first_layout in
    last_at (λ l. l.layout) first _ c.levels-levels.result.now _ (grind (arith, common_steps))
    ∙ ap (λ (ls : List LevelRecord). last_else first (map (λ l. l.layout) ls)) c.levels-levels.ensures.value
