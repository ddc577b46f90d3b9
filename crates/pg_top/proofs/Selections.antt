-- What the driver gives over a new engine is the selection.
use Rattle.std.proofs.Common.{◌≡◌, ℕ, List, [], ◌∷◌, ◌++◌, Option, None, Some, map, codes, decimal, refl, sym, ap, subst, ◌∙◌, append_assoc}
use Rattle.pg_translate.specs.Inside.items.GapItems.{last_else}
use Rattle.std.specs.Option.{option_map}
use Rattle.pg_types.specs.declared.marks.Layout.{Layout}
use Rattle.pg_types.specs.Placement.{Families}
use Rattle.pg_select.specs.Inside.engine.Meanings.{Meaning}
use Rattle.pg_driver.specs.declared.records.LevelRecord.{LevelRecord}
use Rattle.pg_driver.specs.Accounts.{begun_count}
use Rattle.pg_select.specs.Sums.{totals as totals_by}
use Rattle.pg_driver.specs.Inside.records.CellsAccounts.{CellsAccount, layout_of}
use Rattle.pg_driver.specs.Inside.records.SoundRecords.{CompletedRun}
use Rattle.pg_driver.specs.Inside.records.RunAccounts.{patterns_from, account_from, begun_from, cells_from, TellsCells, level_record_layout}
use Rattle.pg_driver.specs.Inside.records.AccountLines.{Account}
use Rattle.pg_packed.specs.Inside.Starts.{pattern_families}
use Rattle.pg_patterns.specs.Texts.{pattern_text}
use Rattle.pg_patterns.specs.Values.{Patterns, largest}
use Rattle.pg_texts.specs.CellsTexts.{families_at_end, layout_text}
use Rattle.pg_texts.specs.Inside.CellsLines.{account_cells_text}
use Rattle.pg_texts.specs.Inside.ReportLines.{account_text}
use Rattle.pg_texts.specs.PattmpTexts.{pattmp_text}
use Rattle.pg_texts.proofs.CellsScans.{end_scanned}
use Rattle.pg_texts.proofs.TraceTexts.{cells_same, last_same, report_same}
use Rattle.pg_top.specs.Inside.selection.Runs.{last_layout_told}
use Rattle.pg_steps.specs.declared.inputs.Given.TheVariants as given
use Rattle.pg_top.specs.Selection.{selection, selected_patterns, selected_file}
use Rattle.pg_top.specs.Inside.selection.SelectionSigns.{greatest_sign_of}
use Rattle.pg_top.specs.Inside.selection.SelectionAccounts.{selected_account, passes_begun, selected_cells_from, selected_cells, last_layout, work_line}
use Rattle.pg_top.specs.Inside.selection.SelectedRuns.{IsNew}
use Rattle.pg_top.specs.declared.selection.Inputs.{Inputs}

pub patterns_selected : (i : Inputs) (m : Meaning) → IsNew i m → patterns_from i.table i.dictionary i.params m ≡ selected_patterns i
unfolding selection selected_patterns
patterns_selected i m is = ap (patterns_from i.table i.dictionary i.params) is

pub account_selected : (i : Inputs) (m : Meaning) → IsNew i m → account_from i.table i.dictionary i.params m ≡ selected_account i
unfolding selection selected_account
account_selected i m is = ap (account_from i.table i.dictionary i.params) is

pub begun_selected : (i : Inputs) (m : Meaning) → IsNew i m → begun_from i.table i.dictionary i.params m ≡ passes_begun i
unfolding selection passes_begun
begun_selected i m is = ap (begun_from i.table i.dictionary i.params) is

pub cells_selected : (i : Inputs) (m : Meaning) → IsNew i m → cells_from i.table i.dictionary i.params m ≡ option_map (selected_cells_from i) m.families
unfolding selection selected_cells_from
cells_selected i m is = ap (cells_from i.table i.dictionary i.params) is

-- the layout that a run tells last is the last of what is told of its cells
last_of : (levels : List LevelRecord) (told : List (ℕ × Layout)) (first : Option Layout) (start : Layout) → first ≡ Some start → map level_record_layout levels
    ≡ map Some told → last_else first (map (λ l. l.layout) levels) ≡ Some (last_else start (map (λ l. l.1) told))
last_of [] [] first start is same = is
last_of [] (t ∷ told) first start is same = cc
last_of (l ∷ levels) [] first start is same = cc
last_of (l ∷ levels) (t ∷ told) first start is same =
    let here : level_record_layout l ≡ Some t = cc in
    let rest : map level_record_layout levels ≡ map Some told = cc in
    last_of levels told l.layout t.1 (layout_from l.level l.layout t here) rest
  where
    layout_from : (level : ℕ) (layout : Option Layout) (t : ℕ × Layout) → option_map (λ l. (level, l)) layout ≡ Some t → layout ≡ Some t.1
    layout_from level None t is = cc
    layout_from level (Some layout) t is = ap Some (ap (λ (x : Option (ℕ × Layout)). second x layout) is)
      where
        second : Option (ℕ × Layout) → Layout → Layout
        second None other = other
        second (Some x) other = x.1

pub last_is : (a : CellsAccount) (r : CompletedRun) → TellsCells (Some a) r → last_layout_told r ≡ Some (last_layout a)
last_is a r tells = last_of r.levels a.levels r.first_layout a.start tells.0 tells.2

-- over the packed engine these are the cells
pub cells_packed : (i : Inputs) (fs : Option Families) (r : CompletedRun) → fs ≡ Some (pattern_families (greatest_sign_of i) i.start) → TellsCells (option_map (selected_cells_from i) fs) r
    → TellsCells (Some (selected_cells i)) r
unfolding selected_cells
cells_packed i fs r is tells = subst (λ fs. TellsCells (option_map (selected_cells_from i) fs) r) is tells

-- the texts of the selection
pub text_selected : (i : Inputs) (P : Patterns) → P ≡ selected_patterns i → pattern_text i.table P ≡ selected_file i given.Patterns
unfolding selected_file
text_selected i P is = ap (pattern_text i.table) is

pub list_selected : (i : Inputs) (P : Patterns) → P ≡ selected_patterns i → pattmp_text i.table P i.dictionary ≡ selected_file i given.Pattmp
unfolding selected_file
list_selected i P is = ap (λ P. pattmp_text i.table P i.dictionary) is

pub cells_text_selected : (i : Inputs) → account_cells_text (selected_cells i) ≡ selected_file i given.Cells
unfolding selection selected_cells selected_cells_from selected_file
cells_text_selected i = cells_same i.table i.dictionary i.params (greatest_sign_of i) i.start

pub report_selected : (i : Inputs) (value : ℕ) (a : Account) → value ≡ largest i.start → a ≡ selected_account i → account_text value i.params a ≡ selected_file i given.Report
unfolding selection selected_account selected_file
report_selected i value a same is = (λ k. account_text (same k) i.params (is k)) ∙ report_same i.table i.dictionary i.params i.start

-- the totals, and the last line of `generate`
pub totals_selected : (i : Inputs) → (selected_account i).totals ≡ totals_by i.table i.dictionary (selected_patterns i)
unfolding selected_patterns selected_account
totals_selected i = refl

behind : (x a b c d : List ℕ) → x ++ (a ++ b ++ c ++ d) ≡ x ++ a ++ b ++ c ++ d
behind x a b c d = simp append_assoc

pub end_selected : (i : Inputs) (x : List ℕ) → x ++ work_line (passes_begun i) (last_layout (selected_cells i))
    ≡ x ++ codes "work: " ++ decimal (begun_count (selection i)) ++ codes " passes, " ++ layout_text (families_at_end (greatest_sign_of i) i.start (selection i)) (selected_patterns i)
unfolding selected_patterns passes_begun selected_cells selected_cells_from
end_selected i x =
    let last : last_layout (selected_cells i) ≡ layout_of (families_at_end (greatest_sign_of i) i.start (selection i)) (selected_patterns i) =
    last_same (greatest_sign_of i) (pattern_families (greatest_sign_of i) i.start) i.start (selection i)
    ∙ ap (λ (fs : Families). layout_of fs (selected_patterns i)) (sym (end_scanned (greatest_sign_of i) i.start (selection i))) in
    ap (λ (l : Layout). x ++ work_line (begun_count (selection i)) l) last
    ∙ behind x (codes "work: ") (decimal (begun_count (selection i))) (codes " passes, ") (layout_text (families_at_end (greatest_sign_of i) i.start (selection i)) (selected_patterns i))
