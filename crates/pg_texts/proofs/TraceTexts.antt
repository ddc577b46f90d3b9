-- The texts of what a run tells are those of its trace.
use Rattle.std.proofs.Common.{◌≡◌, ℕ, ◌+◌, ◌-◌, Bool, true, false, cond, List, [], ◌∷◌, ◌++◌, map, filter, fold, codes, decimal, refl, sym, ap, ◌∙◌, append_assoc}
use Rattle.pg_translate.specs.Inside.items.GapItems.{last_else}
use Rattle.pg_dict.specs.Word.{Word}
use Rattle.pg_translate.specs.Alphabets.{Alphabet}
use Rattle.pg_select.specs.Sums.{totals as totals_by}
use Rattle.std.specs.List.{All, enumerate_from, flat_map, range_with_len}
use Rattle.std.proofs.lemmas.List.Elements.{All-append, All-cons, All-filter, All-head, All-map, All-nil, All-tail}
use Rattle.std.proofs.lemmas.List.Folds.{flat_map-map}
use Rattle.pg_types.specs.declared.marks.Layout.{Layout}
use Rattle.pg_types.specs.declared.parameters.LevelParams.{LevelParams}
use Rattle.pg_types.specs.Parameters.{Parameters}
use Rattle.pg_types.specs.Placement.{Families, entered_families, top}
use Rattle.pg_types.specs.Inside.PlacementSteps.{taken_count}
use Rattle.pg_patterns.specs.Values.{Patterns, largest}
use Rattle.pg_select.specs.declared.pass.Pass.{Pass}
use Rattle.pg_driver.specs.Inside.level.Passes.{level_traces, pass_traces}
use Rattle.pg_driver.specs.Accounts.{has_candidate}
use Rattle.pg_driver.specs.Dots.{order}
use Rattle.pg_driver.specs.Inside.records.AccountLines.{PassLine, account, chosen_by, level_line, pass_line, pass_lines}
use Rattle.pg_driver.specs.Inside.records.CellsAccounts.{cells_account, layout_of, level_layout, levels_with_families, pass_layouts, passes_with_families}
use Rattle.pg_driver.specs.Inside.Layouts.{strings_in, after_level, after_pass}
use Rattle.pg_driver.specs.Traces.{Knowledge, LevelTrace, PassTrace, Trace, at_start, final_patterns, known_after, level_trace, pass_trace, passes_of, patterns_after, trace}
use Rattle.pg_texts.specs.Fronts.{level_front, pass_front}
use Rattle.pg_texts.specs.CellsTexts.{cells_text, layout_text, used_text}
use Rattle.pg_texts.specs.Inside.CellsSteps.{levels_cells_text, passes_cells_text}
use Rattle.pg_texts.specs.ReportTexts.{ending_text, level_text, pass_text, report_text, totals_text, warning_text}
use Rattle.pg_texts.specs.Inside.CellsLines.{account_cells_text, level_cells_line, level_cells_text, pass_cells_text}
use Rattle.pg_texts.specs.Inside.ReportLines.{account_text, level_line_text, level_lines_text, pass_line_text}
use Rattle.pg_texts.proofs.CellsScans.{text_scanned}
use Rattle.pg_texts.proofs.LevelParts.{Rises, by_levels}

-- the levels have the numbers from n on, and their passes have their numbers
abbrev AreNumbered : ℕ → Trace → Type 0
AreNumbered n [] = Unit {0}
AreNumbered n (l ∷ ls) = (l.number ≡ n) × All (λ (p : PassTrace). p.pass.level ≡ n) l.passes × AreNumbered (n + 1) ls

-- the passes of a level have its number
passes_numbered : (n : ℕ) (lens : List ℕ) → All (λ (q : Pass). q.level ≡ n) (flat_map (λ len. map (λ dot. record { level = n; len = len; dot = dot }) (order len)) lens)
passes_numbered n [] = All-nil (λ (q : Pass). q.level ≡ n)
passes_numbered n (len ∷ lens) =
    All-append (λ (q : Pass). q.level ≡ n) (map (λ dot. record { level = n; len = len; dot = dot }) (order len))
    (flat_map (λ len. map (λ dot. record { level = n; len = len; dot = dot }) (order len)) lens)
    (All-map (λ (q : Pass). q.level ≡ n) (λ dot. record { level = n; len = len; dot = dot }) (order len) (λ k d less. refl))
    (passes_numbered n lens)

made_numbered : (T : Alphabet) (W : List Word) (params : LevelParams) (n : ℕ) (known : Knowledge) (qs : List Pass) → All (λ (q : Pass). q.level ≡ n) qs
    → All (λ (p : PassTrace). p.pass.level ≡ n) (pass_traces T W params known qs)
made_numbered T W params n known [] are = All-nil (λ (p : PassTrace). p.pass.level ≡ n)
made_numbered T W params n known (q ∷ qs) are =
    let p : PassTrace = pass_trace T W params known q in
    All-cons (λ (p : PassTrace). p.pass.level ≡ n) p (pass_traces T W params (known_after p) qs) (All-head (λ (q : Pass). q.level ≡ n) q qs are)
    (made_numbered T W params n (known_after p) qs (All-tail (λ (q : Pass). q.level ≡ n) q qs are))

levels_numbered : (T : Alphabet) (W : List Word) (n : ℕ) (P : Patterns) (levels : List LevelParams) → AreNumbered n (level_traces T W P (enumerate_from n levels))
levels_numbered T W n P [] = tt
levels_numbered T W n P (params ∷ levels) = (
  refl,
  made_numbered T W params n (at_start P) (passes_of n params) (passes_numbered n (range_with_len params.pat_start (params.pat_finish + 1 - params.pat_start))),
  levels_numbered T W (n + 1) (patterns_after (level_trace T W P (n, params))) levels,
)

-- texts that are joined behind others
of_five : (x a b c d e : List ℕ) → x ++ (a ++ b ++ c ++ d ++ e) ≡ x ++ a ++ b ++ c ++ d ++ e
of_five x a b c d e = simp append_assoc

of_twelve : (x a b c d e f g h k l m n : List ℕ) → x ++ (a ++ b ++ c ++ d ++ e ++ f ++ g ++ h) ++ (k ++ l ++ m ++ n) ≡ x ++ a ++ b ++ c ++ d ++ e ++ f ++ g ++ h ++ k ++ l ++ m ++ n
of_twelve x a b c d e f g h k l m n = simp append_assoc

of_three : (a x b c d y : List ℕ) → a ≡ x → d ≡ y → a ++ (b ++ c) ++ d ≡ x ++ b ++ c ++ y
of_three a x b c d y first last = (λ i. first i ++ (b ++ c) ++ last i) ∙ simp append_assoc

-- the line of a pass
pass_same : (T : Alphabet) (W : List Word) (p : PassTrace) → pass_line_text (pass_line T W p) ≡ pass_text T W p
pass_same T W p =
    let line : PassLine = pass_line T W p in
    of_twelve (pass_front p.pass ++ totals_text line.before ++ codes "; ")
    (decimal line.candidates) (codes " candidates, ") (decimal line.chosen) (codes " chosen, ") (decimal line.hopeless) (codes " hopeless, ") (decimal
    (line.candidates - line.chosen - line.hopeless)) (codes " left; ")
    (decimal line.good) (codes " good, ") (decimal line.bad) (codes " bad\n")

passes_same : (T : Alphabet) (W : List Word) (ps : List PassTrace) → flat_map pass_line_text (map (pass_line T W) ps) ≡ flat_map (pass_text T W) ps
passes_same T W [] = refl
passes_same T W (p ∷ ps) = λ i. pass_same T W p i ++ passes_same T W ps i

-- the report
report_rises : (T : Alphabet) (W : List Word) (n : ℕ) (run : Trace) → AreNumbered n run → Rises (pass_lines T W) (λ l. l.number) (λ x. x.pass.level) n run
report_rises T W n [] are = tt
report_rises T W n (l ∷ ls) are = (
  are.0,
  All-map (λ (x : PassLine). x.pass.level ≡ n) (pass_line T W) (filter has_candidate l.passes) (All-filter has_candidate (λ (p : PassTrace). p.pass.level ≡ n) l.passes are.1),
  report_rises T W (n + 1) ls are.2,
)

level_same : (T : Alphabet) (W : List Word) (l : LevelTrace) → flat_map pass_line_text (pass_lines T W l) ++ level_line_text (level_line T W l) ≡ level_text T W l
level_same T W l =
    ap (λ t. t ++ level_line_text (level_line T W l)) (passes_same T W (filter has_candidate l.passes))
    ∙ of_five (flat_map (pass_text T W) (filter has_candidate l.passes)) (level_front l.number) (decimal (chosen_by l.passes)) (codes " chosen, ")
    (totals_text (totals_by T W (patterns_after l))) (codes "\n")

levels_same : (T : Alphabet) (W : List Word) (run : Trace) → flat_map (λ l. flat_map pass_line_text (pass_lines T W l) ++ level_line_text (level_line T W l)) run ≡ flat_map (level_text T W) run
levels_same T W [] = refl
levels_same T W (l ∷ ls) = λ i. level_same T W l i ++ levels_same T W ls i

pub report_same : (T : Alphabet) (W : List Word) (parameters : Parameters) (S : Patterns) → account_text (largest S) parameters (account T W S (trace T W parameters S))
    ≡ report_text T W parameters S (trace T W parameters S)
report_same T W parameters S =
    let run : Trace = trace T W parameters S in
    let lines = flat_map (pass_lines T W) run in
    let levels : flat_map (level_lines_text lines) (map (level_line T W) run) ≡ flat_map (level_text T W) run =
    flat_map-map (level_lines_text lines) (level_line T W) run
    ∙ by_levels (pass_lines T W) (λ l. l.number) (λ x. x.pass.level) (λ l xs. flat_map pass_line_text xs ++ level_line_text (level_line T W l)) parameters.start run
    (report_rises T W parameters.start run (levels_numbered T W parameters.start S parameters.levels))
    ∙ levels_same T W run in
    ap (λ t. warning_text (largest S) parameters ++ t ++ ending_text (totals_by T W (final_patterns S run))) levels

-- the cells file
with_numbered : (signs n : ℕ) (fs : Families) (ps : List PassTrace) → All (λ (p : PassTrace). p.pass.level ≡ n) ps
    → All (λ (e : PassTrace × Families). e.0.pass.level ≡ n) (passes_with_families signs fs ps)
with_numbered signs n fs [] are = All-nil (λ (e : PassTrace × Families). e.0.pass.level ≡ n)
with_numbered signs n fs (p ∷ ps) are =
    All-cons (λ (e : PassTrace × Families). e.0.pass.level ≡ n) (p, after_pass signs fs p) (passes_with_families signs (after_pass signs fs p) ps)
    (All-head (λ (p : PassTrace). p.pass.level ≡ n) p ps are)
    (with_numbered signs n (after_pass signs fs p) ps (All-tail (λ (p : PassTrace). p.pass.level ≡ n) p ps are))

cells_rise : (signs n : ℕ) (fs : Families) (run : Trace) → AreNumbered n run
    → Rises (λ (e : LevelTrace × Families). pass_layouts signs e.1 e.0.passes) (λ e. e.0.number) (λ (x : Pass × ℕ × ℕ). x.0.level) n (levels_with_families signs fs run)
cells_rise signs n fs [] are = tt
cells_rise signs n fs (l ∷ ls) are = (
  are.0,
  All-map (λ (x : Pass × ℕ × ℕ). x.0.level ≡ n) (λ (e : PassTrace × Families). (e.0.pass, taken_count e.1, top e.1)) (filter (λ e. has_candidate e.0) (passes_with_families signs fs l.passes))
      (All-filter (λ (e : PassTrace × Families). has_candidate e.0) (λ e. e.0.pass.level ≡ n) (passes_with_families signs fs l.passes) (with_numbered signs n fs l.passes are.1)),
  cells_rise signs (n + 1) (after_level signs fs l) ls are.2,
)

cells_passes : (signs : ℕ) (fs : Families) (ps : List PassTrace) → flat_map pass_cells_text (pass_layouts signs fs ps) ≡ passes_cells_text signs fs ps
cells_passes signs fs [] = refl
cells_passes signs fs (p ∷ ps) =
    by (has_candidate p) ∙ ap (λ t. cond (has_candidate p) (pass_front p.pass ++ used_text after ++ codes "\n") [] ++ t) (cells_passes signs after ps)
  where
    after : Families
    after = after_pass signs fs p

    by : (b : Bool) → flat_map pass_cells_text (map (λ (e : PassTrace × Families). (e.0.pass, taken_count e.1, top e.1))
        (cond b ((p, after) ∷ filter (λ e. has_candidate e.0) (passes_with_families signs after ps)) (filter (λ e. has_candidate e.0) (passes_with_families signs after ps))))
        ≡ cond b (pass_front p.pass ++ used_text after ++ codes "\n") [] ++ flat_map pass_cells_text (pass_layouts signs after ps)
    by true = refl
    by false = refl

cells_levels : (signs : ℕ) (fs : Families) (run : Trace)
    → flat_map (λ (e : LevelTrace × Families). flat_map pass_cells_text (pass_layouts signs e.1 e.0.passes) ++ level_cells_line (level_layout signs e.1 e.0)) (levels_with_families signs fs run)
    ≡ levels_cells_text signs fs run
cells_levels signs fs [] = refl
cells_levels signs fs (l ∷ ls) =
    let after : Families = after_level signs fs l in
    of_three _ _ (level_front l.number) (layout_text after (patterns_after l)) _ _ (cells_passes signs fs l.passes) (cells_levels signs after ls)

pub cells_same : (T : Alphabet) (W : List Word) (parameters : Parameters) (signs : ℕ) (S : Patterns)
    → account_cells_text (cells_account signs (entered_families signs (strings_in S)) S (trace T W parameters S)) ≡ cells_text signs S (trace T W parameters S)
cells_same T W parameters signs S =
    let fs : Families = entered_families signs (strings_in S) in
    let run : Trace = trace T W parameters S in
    let part : LevelTrace × Families → List (Pass × ℕ × ℕ) = λ e. pass_layouts signs e.1 e.0.passes in
    let layouts : LevelTrace × Families → ℕ × Layout = λ e. level_layout signs e.1 e.0 in
    let told = levels_with_families signs fs run in
    let levels : flat_map (level_cells_text (flat_map part told)) (map layouts told) ≡ levels_cells_text signs fs run =
    flat_map-map (level_cells_text (flat_map part told)) layouts told
    ∙ by_levels part (λ e. e.0.number) (λ (x : Pass × ℕ × ℕ). x.0.level) (λ e xs. flat_map pass_cells_text xs ++ level_cells_line (layouts e)) parameters.start told
    (cells_rise signs parameters.start fs run (levels_numbered T W parameters.start S parameters.levels))
    ∙ cells_levels signs fs run in
    ap (λ t. codes "start: " ++ layout_text fs S ++ t) levels ∙ sym (text_scanned signs S run)

-- the layout after the last level
pub last_same : (signs : ℕ) (fs : Families) (S : Patterns) (run : Trace)
    → last_else (layout_of fs S) (map (λ (l : ℕ × Layout). l.1) (map (λ (e : LevelTrace × Families). level_layout signs e.1 e.0) (levels_with_families signs fs run)))
    ≡ layout_of (fold (after_level signs) fs run) (final_patterns S run)
last_same signs fs S [] = refl
last_same signs fs S (l ∷ ls) = last_same signs (after_level signs fs l) (patterns_after l) ls
