-- The levels of a parameters file, one after the other, and what the whole file gives.
use Rattle.std.proofs.Common.{◌≡◌, ℕ, ◌+◌, ◌-◌, ◌≤◌, List, [], ◌∷◌, ◌++◌, length, suc, Result, nat_lt, refl, ap, sym, subst, ◌∙◌}
use Rattle.std.proofs.lemmas.Bool.{le-ltb}
use Rattle.std.proofs.lemmas.List.{append_assoc}
use Rattle.pg_types.specs.declared.limits.TheConstants.{FILE_MAX, LEVEL_MAX}
use Rattle.pg_types.specs.declared.refusals.Refusal.{Refusal}
use Rattle.pg_types.specs.declared.refusals.ReadingError.{ReadingError}
use Rattle.pg_types.specs.declared.parameters.LevelParams.{LevelParams}
use Rattle.pg_types.specs.Parameters.{Parameters, Reading, items, number_then, level_then, levels_then, nothing_then, parameters}
use Rattle.pg_types.specs.Inside.reading.Answers.{Fails}

-- after a level that is read, the rest is read with it
pub left_more : (read : List LevelParams) (level : LevelParams) (i i' : ℕ) (xs xs' : List (List ℕ)) (k m : ℕ) (read' : List LevelParams) → m ≡ suc k → read' ≡ read ++ level ∷ []
    → ((next : LevelParams → Reading) → level_then next i xs ≡ next level i' xs') → (next : List LevelParams → Reading)
    → levels_then k (λ levels. next (read' ++ levels)) i' xs' ≡ levels_then m (λ levels. next (read ++ levels)) i xs
left_more read level i i' xs xs' k m read' more is taken next =
    ap (λ (ls : List LevelParams). levels_then k (λ levels. next (ls ++ levels)) i' xs') is
    ∙ (λ j. levels_then k (λ levels. next (append_assoc read (level ∷ []) levels j)) i' xs')
    ∙ sym (taken (λ l. levels_then k (λ levels. next (read ++ l ∷ levels))))
    ∙ ap (λ (n : ℕ). levels_then n (λ levels. next (read ++ levels)) i xs) (sym more)

-- where a level is refused, so are all
pub left_refused : (read : List LevelParams) (i k m : ℕ) (xs : List (List ℕ)) (answer : Result Parameters Refusal) → m ≡ suc k
    → ((next : LevelParams → Reading) → level_then next i xs ≡ answer) → (next : List LevelParams → Reading) → levels_then m (λ levels. next (read ++ levels)) i xs ≡ answer
left_refused read i k m xs answer more refused next =
    ap (λ (n : ℕ). levels_then n (λ levels. next (read ++ levels)) i xs) more ∙ refused (λ l. levels_then k (λ levels. next (read ++ l ∷ levels)))

-- what comes after the first level, after the last one, and after all
abbrev pub after_levels : ℕ → ℕ → List LevelParams → Reading
after_levels start finish levels = nothing_then (record { start = start; finish = finish; levels = levels })

abbrev pub after_finish : ℕ → ℕ → Reading
after_finish start finish = levels_then (finish + 1 - start) (after_levels start finish)

abbrev pub after_start : ℕ → Reading
after_start start = number_then 1 LEVEL_MAX (after_finish start)

-- a file that is not too long is read from its first item on
pub whole_is : (bytes rest : List ℕ) (i : ℕ) → length bytes ≤ FILE_MAX → rest ≡ bytes → i ≡ 1 → parameters bytes ≡ number_then 1 LEVEL_MAX after_start i (items rest)
whole_is bytes rest i fits is one = rw (le-ltb FILE_MAX (length bytes) fits, is, one) refl

-- what comes after both levels are read
pub behind_finish : (start finish count i i2 i3 : ℕ) (xs xs2 xs3 : List (List ℕ)) (whole : Result Parameters Refusal) → count ≡ finish + 1 - start → whole ≡ number_then 1 LEVEL_MAX after_start i xs
    → ((next : ℕ → Reading) → number_then 1 LEVEL_MAX next i xs ≡ next start i2 xs2) → ((next : ℕ → Reading) → number_then 1 LEVEL_MAX next i2 xs2 ≡ next finish i3 xs3)
    → whole ≡ levels_then count (after_levels start finish) i3 xs3
behind_finish start finish count i i2 i3 xs xs2 xs3 whole are is first second =
    is ∙ first after_start ∙ second (after_finish start) ∙ ap (λ (k : ℕ). levels_then k (after_levels start finish) i3 xs3) (sym are)

-- what comes after all levels are read
pub behind_levels : (start finish count i3 i4 : ℕ) (xs3 xs4 : List (List ℕ)) (levels : List LevelParams) (whole : Result Parameters Refusal)
    → whole ≡ levels_then count (after_levels start finish) i3 xs3 → ((next : List LevelParams → Reading) → levels_then count next i3 xs3 ≡ next levels i4 xs4)
    → whole ≡ after_levels start finish levels i4 xs4
behind_levels start finish count i3 i4 xs3 xs4 levels whole is taken = is ∙ taken (after_levels start finish)

-- an error of the levels is one of the file
pub failed_levels : (start finish count i3 : ℕ) (xs3 : List (List ℕ)) (error : ReadingError) (whole : Result Parameters Refusal)
    → whole ≡ levels_then count (after_levels start finish) i3 xs3 → ((next : List LevelParams → Reading) → Fails error (levels_then count next i3 xs3)) → Fails error whole
failed_levels start finish count i3 xs3 error whole is failed = subst (Fails error) (sym is) (failed (after_levels start finish))
