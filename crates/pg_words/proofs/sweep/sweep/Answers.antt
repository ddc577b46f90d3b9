use Rattle.std.proofs.Common.{◌≡◌, ℕ, ◌≤◌, ◌-◌, ◌∙◌, [], ◌∷◌, List, Option, true, length, length-drop, take, drop, refl, sym, ap, subst, rules, arith}
use Rattle.std.specs.Option.{option_map, is_some}
use Rattle.std.specs.Prelude.{string_bytes}
use Rattle.std.proofs.lemmas.List.{length-map, take_all}
use Rattle.pg_words.specs.Inside.CommandRequests.{asked_by}
use Rattle.pg_words.specs.Inside.Names.{arguments_of}
use Rattle.pg_words.specs.Inside.Requests.{Request, ToSweep}
use Rattle.pg_words.specs.Inside.forms.Sweep.{SweepRequest, sweep_in}
use Rattle.pg_types.specs.declared.limits.TheConstants.{SETS_MAX}
use Rattle.pg_words.proofs.SweepParts.{too_few, no_folds, no_bad, no_missed, is_count, all_within}
use Rattle.pg_words.proofs.AcceptedRequests.{accepted_whole}
use Rattle.pg_words.proofs.ArgumentsAt.{seven_arguments}
use Rattle.pg_words.proofs.sweep.sweep.Goals as goal

pub returns-in_default : goal.returns-in_default
returns-in_default c =
    let words = c.args.words.now in
    record {
      value = λ taken. ap (option_map ToSweep) (too_few (arguments_of words) (omega (arith, length-map words string_bytes, c.in_default.len_below)));
      within = tt;
    }

pub returns-in_err-folds : goal.returns-in_err-folds
returns-in_err-folds c =
    let words = c.args.words.now in
    let params = drop 7 words in
    let parts = seven_arguments words (string_bytes c.dict-item.result) (string_bytes c.patterns-item.result) (string_bytes c.output-item.result)
    (string_bytes c.translate-item.result) c.as_str.result.now (string_bytes c.bad-item.result) (string_bytes c.missed-item.result) params c.in-len7-up.len_at_least
    (c.dict-item.result, c.dict-item.is, refl) (c.patterns-item.result, c.patterns-item.is, refl) (c.output-item.result, c.output-item.is, refl)
    (c.translate-item.result, c.translate-item.is, refl) (c.folds-item.result, c.folds-item.is, c.as_str.ensures.value) (c.bad-item.result, c.bad-item.is, refl)
    (c.missed-item.result, c.missed-item.is, refl) refl in
    let none = no_folds (string_bytes c.dict-item.result) (string_bytes c.patterns-item.result) (string_bytes c.output-item.result)
    (string_bytes c.translate-item.result) c.as_str.result.now (string_bytes c.bad-item.result) (string_bytes c.missed-item.result) (arguments_of params) (sym c.in_err-folds.ensures.value) in
    record {
      value = λ taken. ap (option_map asked_by) c.from_residual.ensures ∙ ap (option_map ToSweep) (sym none ∙ ap sweep_in (sym parts));
      within = rw c.from_residual.ensures tt;
    }

pub returns-in_err-bad : goal.returns-in_err-bad
returns-in_err-bad c =
    let words = c.args.words.now in
    let params = drop 7 words in
    let parts = seven_arguments words (string_bytes c.dict-item.result) (string_bytes c.patterns-item.result) (string_bytes c.output-item.result)
    (string_bytes c.translate-item.result) c.as_str.result.now c.as_str-2.result.now (string_bytes c.missed-item.result) params c.in-len7-up.len_at_least
    (c.dict-item.result, c.dict-item.is, refl) (c.patterns-item.result, c.patterns-item.is, refl) (c.output-item.result, c.output-item.is, refl)
    (c.translate-item.result, c.translate-item.is, refl) (c.folds-item.result, c.folds-item.is, c.as_str.ensures.value)
    (c.bad-item.result, c.bad-item.is, c.as_str-2.ensures.value) (c.missed-item.result, c.missed-item.is, refl) refl in
    let none = no_bad (string_bytes c.dict-item.result) (string_bytes c.patterns-item.result) (string_bytes c.output-item.result)
    (string_bytes c.translate-item.result) c.as_str.result.now c.as_str-2.result.now (string_bytes c.missed-item.result) (arguments_of params) c.in_ok-folds.folds
    (sym c.in_ok-folds.ensures.value) (sym c.in_err-bad.ensures.value) in
    record {
      value = λ taken. ap (option_map asked_by) c.from_residual-in_err-bad.ensures ∙ ap (option_map ToSweep) (sym none ∙ ap sweep_in (sym parts));
      within = rw c.from_residual-in_err-bad.ensures tt;
    }

pub returns-in_err-missed : goal.returns-in_err-missed
returns-in_err-missed c =
    let words = c.args.words.now in
    let params = drop 7 words in
    let parts = seven_arguments words (string_bytes c.dict-item.result) (string_bytes c.patterns-item.result) (string_bytes c.output-item.result)
    (string_bytes c.translate-item.result) c.as_str.result.now c.as_str-2.result.now c.as_str-3.result.now params c.in-len7-up.len_at_least
    (c.dict-item.result, c.dict-item.is, refl) (c.patterns-item.result, c.patterns-item.is, refl) (c.output-item.result, c.output-item.is, refl)
    (c.translate-item.result, c.translate-item.is, refl) (c.folds-item.result, c.folds-item.is, c.as_str.ensures.value)
    (c.bad-item.result, c.bad-item.is, c.as_str-2.ensures.value) (c.missed-item.result, c.missed-item.is, c.as_str-3.ensures.value) refl in
    let none = no_missed (string_bytes c.dict-item.result) (string_bytes c.patterns-item.result) (string_bytes c.output-item.result)
    (string_bytes c.translate-item.result) c.as_str.result.now c.as_str-2.result.now c.as_str-3.result.now (arguments_of params) c.in_ok-folds.folds c.in_ok-bad.bad
    (sym c.in_ok-folds.ensures.value) (sym c.in_ok-bad.ensures.value) (sym c.in_err-missed.ensures.value) in
    record {
      value = λ taken. ap (option_map asked_by) c.from_residual-in_err-missed.ensures ∙ ap (option_map ToSweep) (sym none ∙ ap sweep_in (sym parts));
      within = rw c.from_residual-in_err-missed.ensures tt;
    }

pub returns : goal.returns
returns c =
    let words = c.args.words.now in
    let params = take (length words - 7) (drop 7 words) in
    let texts = arguments_of params in
    let parts = seven_arguments words c.as_str-dict.result.now c.as_str-patterns.result.now c.as_str-output.result.now c.as_str-translate.result.now
    c.as_str.result.now c.as_str-2.result.now c.as_str-3.result.now params c.in-len7-up.len_at_least (c.dict-item.result, c.dict-item.is, c.as_str-dict.ensures.value)
    (c.patterns-item.result, c.patterns-item.is, c.as_str-patterns.ensures.value) (c.output-item.result, c.output-item.is, c.as_str-output.ensures.value)
    (c.translate-item.result, c.translate-item.is, c.as_str-translate.ensures.value) (c.folds-item.result, c.folds-item.is, c.as_str.ensures.value)
    (c.bad-item.result, c.bad-item.is, c.as_str-2.ensures.value) (c.missed-item.result, c.missed-item.is, c.as_str-3.ensures.value) (take_all _ _ (omega (arith, length-drop 7 words))) in
    let same : length texts ≡ length params = length-map params string_bytes in
    let some : (1 ≤ length params) × (length params ≤ SETS_MAX) = search rules in
    let count = is_count (length texts) (omega arith) (omega arith) in
    let asked = all_within c.as_str-dict.result.now c.as_str-patterns.result.now c.as_str-output.result.now c.as_str-translate.result.now c.as_str.result.now
    c.as_str-2.result.now c.as_str-3.result.now texts c.in_ok-folds.folds c.in_ok-bad.bad c.in_ok-missed.missed (sym c.in_ok-folds.ensures.value)
    (sym c.in_ok-bad.ensures.value) (sym c.in_ok-missed.ensures.value) count in
    let request : SweepRequest = record {
      dict = c.as_str-dict.result.now;
      patterns = c.as_str-patterns.result.now;
      output = c.as_str-output.result.now;
      translate = c.as_str-translate.result.now;
      folds = c.in_ok-folds.folds;
      bad = c.in_ok-bad.bad;
      missed = c.in_ok-missed.missed;
      params = texts;
    } in
    record {
      value = λ taken. accepted_whole ToSweep (request.dict ∷ request.patterns ∷ request.translate ∷ texts) (request.output ∷ []) request
          (subst (λ (o : Option Request). is_some o ≡ true) (ap (λ (w : List (List ℕ)). option_map ToSweep (sweep_in w)) parts ∙ asked) taken)
          ∙ sym asked ∙ ap (λ (w : List (List ℕ)). option_map ToSweep (sweep_in w)) (sym parts);
      within = record { folds = c.in_ok-folds.ensures.within; bad = c.in_ok-bad.ensures.within; missed = c.in_ok-missed.ensures.within; params = search rules };
    }
