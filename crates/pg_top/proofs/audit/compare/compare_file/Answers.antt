use Rattle.std.proofs.Common.{◌≡◌, ℕ, ◌+◌, length, ap, sym, ◌∙◌, arith}
use Rattle.pg_audit.specs.Differences.{first_false}
use Rattle.pg_steps.proofs.Stopping.{stops, stops_short}
use Rattle.pg_top.specs.Inside.Comparing.{after, comparing_one, judged}
use Rattle.pg_top.specs.Inside.selection.SelectedFiles.{made_file}
use Rattle.pg_top.proofs.audit.Judgements.{file_judged}
use Rattle.pg_top.proofs.audit.compare.compare_file.Goals as goal

pub returns : goal.returns
returns g c rest status sink new h =
    let w = c.args.wanted.now in
    let read = c.in_ok-bytes.ensures in
    let text = c.as_slice-text.ensures.value in
    let size : length c.as_slice-text.result.now ≡ length w.text.items = ap (length {A = ℕ}) text in
    let ends = c.in_ok-verdict.ensures rest ∙ (λ k. judged w.given (first_false (c.deref.ensures.value k) (text k)) rest) in
    file_judged (made_file w) read.0 c.in_ok-bytes.bytes.items _ rest (after c.in_ok-verdict.verdict rest) (g.F.Files.shown c.args.files.now) (g.F.Files.shown c.read_front.new.files) status sink new
    (omega (arith, size)) read.1 read.2 ends h
