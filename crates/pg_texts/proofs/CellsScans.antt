-- The families and the text that a scan of a run gives are the families after it and its lines.
use Rattle.std.proofs.Common.{◌≡◌, ℕ, cond, List, [], ◌∷◌, ◌++◌, map, filter, fold, codes, refl, sym, ap, ◌∙◌, append_assoc}
use Rattle.std.proofs.lemmas.List.{append-nil}
use Rattle.pg_types.specs.Placement.{Families, enter, entered_families, kept_families}
use Rattle.pg_patterns.specs.Values.{Patterns}
use Rattle.pg_select.specs.CountedPositions.{Candidate}
use Rattle.pg_driver.specs.Accounts.{has_candidate}
use Rattle.pg_driver.specs.Inside.Layouts.{strings_in, after_pass, after_level}
use Rattle.pg_driver.specs.Traces.{PassTrace, LevelTrace, Trace, is_entered, patterns_after}
use Rattle.pg_texts.specs.Fronts.{pass_front, level_front}
use Rattle.pg_texts.specs.CellsTexts.{used_text, layout_text, with_pass, with_level, families_and_text, families_at_end, cells_text}
use Rattle.pg_texts.specs.Inside.CellsSteps.{passes_cells_text, levels_cells_text}

-- the windows are entered one after the other
windows_entered : (n : ℕ) (fs : Families) (cs : List Candidate) → fold (enter n) fs (map (λ c. c.window) cs) ≡ fold (λ fs c. enter n fs c.window) fs cs
windows_entered n fs [] = λ i. fs
windows_entered n fs (c ∷ cs) = windows_entered n (enter n fs c.window) cs

-- the line of a pass, by the families after it
abbrev line_of : PassTrace → Families → List ℕ
line_of p fs = cond (has_candidate p) (pass_front p.pass ++ used_text fs ++ codes "\n") []

after_one : (n : ℕ) (x : Families × List ℕ) (p : PassTrace) → with_pass n x p ≡ (after_pass n x.0 p, x.1 ++ line_of p (after_pass n x.0 p))
after_one n x p = ap (λ (fs : Families). (fs, x.1 ++ line_of p fs)) (windows_entered n x.0 (filter (is_entered p.params) p.candidates))

after_passes : (n : ℕ) (x : Families × List ℕ) (ps : List PassTrace) → fold (with_pass n) x ps ≡ (fold (after_pass n) x.0 ps, x.1 ++ passes_cells_text n x.0 ps)
after_passes n x [] = λ i. (x.0, sym (append-nil x.1) i)
after_passes n x (p ∷ ps) =
    let after : Families = after_pass n x.0 p in
    ap (λ (y : Families × List ℕ). fold (with_pass n) y ps) (after_one n x p)
    ∙ after_passes n (after, x.1 ++ line_of p after) ps
    ∙ (λ i. (fold (after_pass n) after ps, append_assoc x.1 (line_of p after) (passes_cells_text n after ps) i))

-- the line of a level, by the families after it
after_level_is : (n : ℕ) (fs : Families) (t : List ℕ) (l : LevelTrace)
    → with_level n (fs, t) l ≡ (after_level n fs l, (t ++ passes_cells_text n fs l.passes) ++ level_front l.number ++ layout_text (after_level n fs l) (patterns_after l))
after_level_is n fs t l =
    ap (λ (y : Families × List ℕ). (kept_families (strings_in (patterns_after l)) y.0, y.1 ++ level_front l.number ++ layout_text (kept_families (strings_in (patterns_after l)) y.0) (patterns_after l)))
    (after_passes n (fs, t) l.passes)

joined : (t a b c d whole : List ℕ) → whole ≡ a ++ b ++ c ++ d → ((t ++ a) ++ b ++ c) ++ d ≡ t ++ whole
joined t a b c d whole is =
    let apart : ((t ++ a) ++ b ++ c) ++ d ≡ t ++ (a ++ b ++ c ++ d) = simp append_assoc in
    apart ∙ ap (λ (w : List ℕ). t ++ w) (sym is)

after_levels : (n : ℕ) (fs : Families) (t : List ℕ) (ls : Trace) → fold (with_level n) (fs, t) ls ≡ (fold (after_level n) fs ls, t ++ levels_cells_text n fs ls)
after_levels n fs t [] = λ i. (fs, sym (append-nil t) i)
after_levels n fs t (l ∷ ls) =
    let after : Families = after_level n fs l in
    let text : List ℕ = (t ++ passes_cells_text n fs l.passes) ++ level_front l.number ++ layout_text after (patterns_after l) in
    let last : text ++ levels_cells_text n after ls ≡ t ++ levels_cells_text n fs (l ∷ ls) =
    joined t (passes_cells_text n fs l.passes) (level_front l.number) (layout_text after (patterns_after l)) (levels_cells_text n after ls) (levels_cells_text n fs (l ∷ ls)) refl in
    ap (λ (y : Families × List ℕ). fold (with_level n) y ls) (after_level_is n fs t l) ∙ after_levels n after text ls ∙ ap (λ (w : List ℕ). (fold (after_level n) after ls, w)) last

scanned : (n : ℕ) (S : Patterns) (run : Trace) → families_and_text n S run
    ≡ (fold (after_level n) (entered_families n (strings_in S)) run, (codes "start: " ++ layout_text (entered_families n (strings_in S)) S) ++ levels_cells_text n (entered_families n (strings_in S)) run)
scanned n S run = after_levels n (entered_families n (strings_in S)) (codes "start: " ++ layout_text (entered_families n (strings_in S)) S) run

pub end_scanned : (n : ℕ) (S : Patterns) (run : Trace) → families_at_end n S run ≡ fold (after_level n) (entered_families n (strings_in S)) run
end_scanned n S run = ap (λ (x : Families × List ℕ). x.0) (scanned n S run)

pub text_scanned : (n : ℕ) (S : Patterns) (run : Trace) → cells_text n S run
    ≡ codes "start: " ++ layout_text (entered_families n (strings_in S)) S ++ levels_cells_text n (entered_families n (strings_in S)) run
text_scanned n S run = ap (λ (x : Families × List ℕ). x.1) (scanned n S run)
