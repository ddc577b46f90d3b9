use Rattle.std.proofs.Common.{◌≡◌, ◌≤◌, ◌<◌, ◌+◌, ◌∙◌, ◌++◌, ◌∷◌, ℕ, List, [], drop, get_or, length, ap, sym, arith}
use Rattle.pg_prune.specs.Reports.{keep_line, last_line, prune_report}
use Rattle.pg_prune.specs.Inside.Findings.{keep_lines}
use Rattle.pg_prune.proofs.report.ReportSteps.{lines_end, lines_beside}
use Rattle.std.proofs.lemmas.List.{append_assoc, drop_more}
use Rattle.pg_translate.specs.Alphabets.{Alphabet}
use Rattle.pg_patterns.specs.Values.{Patterns}
use Rattle.pg_prune.specs.declared.pruned.Need.{Need}
use Rattle.pg_prune.proofs.report.prune_text.Goals as goal

pub returns : goal.returns
unfolding prune_report
returns c =
    let t = c.args.table.now in
    let P = c.patterns-patterns.result.now in
    let behind : length P ≤ c.entries.i = omega (arith, c.len-i-end.ensures.value) in
    let done = lines_end t P c.needs-needs.result.now c.entries.text.items c.entries.i behind c.entries.invariant in
    c.in_ok-push_last_line.ensures
    ∙ ap (λ ns. ns ++ last_line c.args.pruned.now) (done ∙ ap (λ es. keep_lines t es c.needs-needs.result.now) c.patterns-patterns.ensures
    ∙ ap (keep_lines t c.args.pruned.now.patterns) c.needs-needs.ensures.value ∙ lines_beside t c.args.pruned.now.patterns c.args.pruned.now.needs)

pub entries-init : goal.entries-init
entries-init c = ap (λ (ns : List ℕ). ns ++ keep_lines c.args.table.now c.patterns-patterns.result.now c.needs-needs.result.now) c.new-text.ensures.items

-- the line of an entry, and the lines of the rest
lines_more : (t : Alphabet) (P : Patterns) (needs : List Need) (d : (List ℕ × ℕ) × ℕ) (n : Need) (i : ℕ) → i < length P → i < length needs
    → keep_lines t (drop i P) (drop i needs) ≡ keep_line t (get_or P i d) (get_or needs i n) ++ keep_lines t (drop (i + 1) P) (drop (i + 1) needs)
lines_more t P needs d n i low beside =
    ap (λ (es : Patterns). keep_lines t es (drop i needs)) (drop_more P i d low)
    ∙ ap (λ (ns : List Need). keep_lines t (get_or P i d ∷ drop (i + 1) P) ns) (drop_more needs i n beside)

pub entries-preserved : goal.entries-preserved
entries-preserved c =
    let t = c.args.table.now in
    let P = c.patterns-patterns.result.now in
    let ns = c.needs-needs.result.now in
    let i = c.entries.i in
    let text = c.entries.text.items in
    let rest : List ℕ = keep_lines t (drop (i + 1) P) (drop (i + 1) ns) in
    let low : i < length P = omega (arith, c.entries-test.true, c.len-i-end.ensures.value) in
    let many = ap (λ (x : List Need). length x) c.needs-needs.ensures.value in
    let all = ap (λ (x : Patterns). length x) c.patterns-patterns.ensures in
    let beside : i < length ns = omega (arith, c.needs-needs.ensures.kept.each) in
    ap (λ (xs : List ℕ). xs ++ rest) c.in_ok-push_line.ensures
    ∙ append_assoc text _ rest
    ∙ ap (λ (xs : List ℕ). text ++ xs) (sym (lines_more t P ns (([], 0), 0) _ i low beside))
    ∙ c.entries.invariant
