use Rattle.std.proofs.Common.{◌≡◌, ◌-◌, length, take, drop, length-drop, refl, sym, subst, arith}
use Rattle.std.proofs.lemmas.List.{take_all}
use Rattle.pg_plans.specs.Plans.{Plan, Follows}
use Rattle.pg_steps.proofs.Stopping.{stops}
use Rattle.pg_top.specs.Inside.Comparing.{comparing, end_of, after}
use Rattle.pg_top.specs.Inside.selection.SelectedFiles.{made_files}
use Rattle.pg_top.specs.declared.audit.compare.Verdict.{Verdict}
use Rattle.pg_top.proofs.audit.Judgements.{files_first}
use Rattle.pg_top.proofs.audit.compare.+compare_all.Goals as goal

pub returns-in_err-compare_file-in-len1-up : goal.returns-in_err-compare_file-in-len1-up
returns-in_err-compare_file-in-len1-up g t c status sink new h =
    let ws = c.args.wanted.now in
    let rest = comparing (made_files (drop 1 ws)) in
    let first = files_first ws (drop 1 ws) c.first-item.result c.in-len1-up.len_at_least c.first-item.is refl in
    subst (λ (plan : Plan). Follows plan status (g.F.Files.shown c.args.files.now, sink) new) (sym first)
    (c.in_err-compare_file-in-len1-up.ensures rest status sink new (stops c.from_residual.result end_of _ status _ new c.from_residual.ensures.1 h))

pub returns-in-Equal : goal.returns-in-Equal
returns-in-Equal g t c status sink new h =
    let ws = c.args.wanted.now in
    let behind = take (length ws - 1) (drop 1 ws) in
    let is_rest : behind ≡ drop 1 ws = take_all (length ws - 1) (drop 1 ws) (omega (arith, length-drop 1 ws)) in
    let rest = comparing (made_files behind) in
    let mid = g.F.Files.shown c.compare_file.new.files in
    let first = files_first ws behind c.first-item.result c.in-len1-up.len_at_least c.first-item.is is_rest in
    subst (λ (plan : Plan). Follows plan status (g.F.Files.shown c.args.files.now, sink) new) (sym first)
    (c.in_ok-compare_file-in-len1-up.ensures rest status sink new
    (subst (λ (verdict : Verdict). Follows (after verdict rest) status (mid, sink) new) (sym c.in-Equal.is) (c.compare_all.ensures status sink new h)))

pub returns-in-False : goal.returns-in-False
returns-in-False g t c status sink new h =
    let ws = c.args.wanted.now in
    let rest = comparing (made_files (drop 1 ws)) in
    let mid = g.F.Files.shown c.compare_file.new.files in
    let first = files_first ws (drop 1 ws) c.first-item.result c.in-len1-up.len_at_least c.first-item.is refl in
    subst (λ (plan : Plan). Follows plan status (g.F.Files.shown c.args.files.now, sink) new) (sym first)
    (c.in_ok-compare_file-in-len1-up.ensures rest status sink new (subst (λ (verdict : Verdict). Follows (after verdict rest) status (mid, sink) new) (sym c.in-False.is) h))
