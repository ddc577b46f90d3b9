use Rattle.std.proofs.Common.{◌≡◌, ◌+◌, ◌∙◌, Ok, Err, [], List, ℕ, inr, sym, ap, subst, take}
use Rattle.pg_dict.specs.Inside.SoundWords.{SignsAtMost}
use Rattle.pg_plans.specs.Plans.{Plan, Ending, Follows}
use Rattle.pg_plans.specs.declared.answers.Status.TheVariants.{Done}
use Rattle.pg_types.specs.declared.packed_table.TheConstants.{TABLE_MAX}
use Rattle.pg_texts.specs.ReportTexts.{ending_text}
use Rattle.pg_steps.specs.InputPlans.{unless_refused}
use Rattle.pg_steps.specs.declared.inputs.Input.TheVariants as input
use Rattle.pg_steps.proofs.Stopping.{stops, stops_short}
use Rattle.pg_top.specs.Totalling.{packed_table}
use Rattle.pg_top.specs.Inside.Totalled.{totals_end}
use Rattle.pg_top.proofs.totals.PackedTables.{packed_table-front, table_signs}
use Rattle.pg_top.proofs.totals.table.total_by.Goals as goal

pub table_totals-requires : goal.table_totals-requires
table_totals-requires g c =
    let t = c.args.table.now in
    let is : packed_table t c.in_ok-bytes.bytes.items ≡ Ok c.in-Ok.view = subst (λ b. packed_table t b ≡ Ok c.in-Ok.view) c.deref.ensures.value (sym c.open_table.ensures ∙ c.in-Ok.is) in
    subst (λ n. SignsAtMost n c.args.dictionary.now) (sym (table_signs t c.in_ok-bytes.bytes.items c.in-Ok.view is)) c.requires

pub returns-in-Ok : goal.returns-in-Ok
returns-in-Ok g c status sink new h =
    let t = c.args.table.now in
    let ws = c.args.dictionary.now in
    let read = c.in_ok-bytes.ensures in
    let front : packed_table t c.in_ok-bytes.bytes.items ≡ Ok c.in-Ok.view = subst (λ b. packed_table t b ≡ Ok c.in-Ok.view) c.deref.ensures.value (sym c.open_table.ensures ∙ c.in-Ok.is) in
    let is : packed_table t read.0 ≡ Ok c.in-Ok.view = sym (packed_table-front t read.0) ∙ sym (ap (packed_table t) read.2) ∙ front in
    let lines : c.in_ok-lines-in-Ok.lines.items ≡ _ = c.in_ok-lines-in-Ok.ensures ∙ ap ending_text c.table_totals.ensures.value in
    let there = subst (λ (l : List ℕ). Follows (Ending Done [] l) status (g.F.Files.shown c.read_front.new.files, sink) new) lines h in
    inr (inr (read.0, g.F.Files.shown c.read_front.new.files, read.1, rw is there))

pub returns-in_err-lines-in-Ok : goal.returns-in_err-lines-in-Ok
returns-in_err-lines-in-Ok g c status sink new h =
    let t = c.args.table.now in
    let read = c.in_ok-bytes.ensures in
    let rest = unless_refused input.Table (packed_table t read.0) (totals_end t c.args.dictionary.now) in
    inr (inr (
      read.0,
      g.F.Files.shown c.read_front.new.files,
      read.1,
      stops_short c.from_residual-in_err-lines-in-Ok.result (λ lines. Ending Done [] lines.items) rest status (g.F.Files.shown c.read_front.new.files, sink) new
          c.from_residual-in_err-lines-in-Ok.ensures.1 h,
    ))

pub returns : goal.returns
returns g c status sink new h =
    let t = c.args.table.now in
    let read = c.in_ok-bytes.ensures in
    let front : packed_table t c.in_ok-bytes.bytes.items ≡ Err c.in-Err.refusal = subst (λ b. packed_table t b ≡ Err c.in-Err.refusal) c.deref.ensures.value (sym c.open_table.ensures ∙ c.in-Err.is) in
    let is : packed_table t read.0 ≡ Err c.in-Err.refusal = sym (packed_table-front t read.0) ∙ sym (ap (packed_table t) read.2) ∙ front in
    inr (inr (read.0, g.F.Files.shown c.read_front.new.files, read.1, rw is (rw c.refuse.ensures at h)))
