use Rattle.std.proofs.Common.{◌≡◌, ◌≤◌, ◌<◌, ◌+◌, ◌∙◌, ◌∷◌, [], List, ℕ, true, length, sym, ap, subst, arith}
use Rattle.pg_patterns.specs.Texts.{pattern_text}
use Rattle.pg_plans.specs.Plans.{Plan, Ending, Follows}
use Rattle.pg_plans.specs.declared.answers.Status.TheVariants.{Done}
use Rattle.pg_steps.specs.Inside.Texts.{ending_of}
use Rattle.pg_steps.proofs.Stopping.{stops_short}
use Rattle.pg_table.specs.Texts.{table_text}
use Rattle.pg_table.specs.declared.error.TableError.TheVariants as table_error
use Rattle.pg_types.specs.declared.packed_table.TheConstants.{TABLE_MAX}
use Rattle.pg_top.specs.Packing.{packed_line}
use Rattle.pg_top.specs.Inside.Plans.{end_of_pack}
use Rattle.pg_top.specs.Inside.Packed.{packed_text}
use Rattle.pg_top.proofs.pack.PackedTexts.{packed_short, stops_making}
use Rattle.pg_table.proofs.laws.PackedValues.{values_are_packed, totals_are_packed}
use Rattle.pg_table.specs.Forms.{is_well_formed}
use Rattle.pg_table.specs.Inside.Laws.{HasEntries}
use Rattle.pg_top.proofs.pack.PackedHeads.{packed_accepted}
use Rattle.pg_top.proofs.pack.outputs.make_table.Goals as goal

pub returns-in_ok-outputs-in-Ok-clause-made : goal.returns-in_ok-outputs-in-Ok-clause-made
returns-in_ok-outputs-in-Ok-clause-made g c shown status sink new h =
    let t = c.args.table.now in
    let P = c.args.patterns.now in
    let name = c.args.name.now in
    let text : c.in-Ok.text.items ≡ packed_text t P = c.in-Ok.ensures.text ∙ ap (λ n. table_text (n + 1) P) c.letters.ensures.value in
    let short : length (packed_text t P) ≤ TABLE_MAX = subst (λ n. length (table_text (n + 1) P) ≤ TABLE_MAX) c.letters.ensures.value c.in-Ok.ensures.short in
    let files = c.in_ok-outputs-in-Ok.ensures.files ∙ ap (λ (b : List ℕ). (name, b) ∷ []) text in
    let lines = c.in_ok-outputs-in-Ok.ensures.lines ∙ ap (λ (b : List ℕ). packed_line (pattern_text t P) b) text in
    let is : ending_of c.in_ok-outputs-in-Ok.outputs ≡ end_of_pack name t P = (λ k. Ending Done (files k) (lines k)) ∙ sym (packed_short name t P short) in
    subst (λ (p : Plan). Follows p status (shown, sink) new) is h

pub returns-in_err-outputs-in-Ok-clause-made : goal.returns-in_err-outputs-in-Ok-clause-made
returns-in_err-outputs-in-Ok-clause-made g c shown status sink new h =
    stops_short c.from_residual.result ending_of (end_of_pack c.args.name.now c.args.table.now c.args.patterns.now) status (shown, sink) new
    c.from_residual.ensures.1 h

pub returns-in-Err-clause-made : goal.returns-in-Err-clause-made
returns-in-Err-clause-made g c shown status sink new h =
    let t = c.args.table.now in
    let P = c.args.patterns.now in
    let long = λ (is : c.in-Err.error ≡ table_error.TooLong). subst (λ n. TABLE_MAX < length (table_text (n + 1) P)) c.letters.ensures.value (c.in-Err.ensures.too_long is) in
    stops_making c.args.name.now t P c.in-Err.error long status (shown, sink) new (rw c.table_stop.ensures at h)

pub returns-in_ok-outputs-in-Ok-clause-good : goal.returns-in_ok-outputs-in-Ok-clause-good
returns-in_ok-outputs-in-Ok-clause-good g c =
    let t = c.args.table.now in
    let P = c.args.patterns.now in
    let text : c.in-Ok.text.items ≡ packed_text t P = c.in-Ok.ensures.text ∙ ap (λ n. table_text (n + 1) P) c.letters.ensures.value in
    let short : length (packed_text t P) ≤ TABLE_MAX = subst (λ n. length (table_text (n + 1) P) ≤ TABLE_MAX) c.letters.ensures.value c.in-Ok.ensures.short in
    let well : is_well_formed (packed_text t P) ≡ true = ap is_well_formed (sym text) ∙ c.in-Ok.ensures.well_formed in
    let entries : HasEntries (packed_text t P) P = subst (λ (b : List ℕ). HasEntries b P) text c.in-Ok.ensures.values in
    record {
      accepted = packed_accepted t P (omega (arith, c.letters.ensures.value, c.letters.ensures.few)) short well;
      gives = record { values = values_are_packed P (packed_text t P) c.in-Ok.ensures.map entries; totals = totals_are_packed P (packed_text t P) c.in-Ok.ensures.map entries };
    }
