use Rattle.std.proofs.Common.{[], ◌∷◌, ◌≡◌, ◌∙◌, ℕ, List, true, length, sym, ap, subst, rules}
use Rattle.std.proofs.lemmas.List.{length-map}
use Rattle.std.specs.Prelude.{string_bytes}
use Rattle.pg_words.specs.Inside.Names.{arguments_of}
use Rattle.std.specs.Option.{option_map, is_some}
use Rattle.pg_words.specs.Inside.Requests.{ToPrune}
use Rattle.pg_words.specs.Inside.forms.Prune.{prune_in}
use Rattle.pg_words.proofs.AcceptedRequests.{accepted_whole}
use Rattle.pg_words.proofs.OtherArguments.{not_for_prune}
use Rattle.pg_words.proofs.ArgumentsAt.{five_arguments}
use Rattle.pg_words.proofs.prune.prune.Goals as goal

pub returns-in_default : goal.returns-in_default
returns-in_default c =
    let count = length-map c.args.words.now string_bytes in
    record {
      value = λ taken. ap (option_map ToPrune) (not_for_prune (arguments_of c.args.words.now) (λ (is : length (arguments_of c.args.words.now) ≡ 5). search rules));
      within = tt;
    }

pub returns : goal.returns
returns c =
    let d = c.as_str-dict.result.now in
    let p = c.as_str-patterns.result.now in
    let o = c.as_str-output.result.now in
    let t = c.as_str-translate.result.now in
    let r = c.as_str-report.result.now in
    let parts = five_arguments c.args.words.now d p o t r c.in-len5.len_at_least c.in-len5.len_below (c.dict-item.result, c.dict-item.is, c.as_str-dict.ensures.value)
    (c.patterns-item.result, c.patterns-item.is, c.as_str-patterns.ensures.value) (c.output-item.result, c.output-item.is, c.as_str-output.ensures.value)
    (c.translate-item.result, c.translate-item.is, c.as_str-translate.ensures.value) (c.report-item.result, c.report-item.is, c.as_str-report.ensures.value) in
    record {
      value = λ taken. accepted_whole ToPrune (d ∷ p ∷ t ∷ []) (o ∷ r ∷ []) (record { dict = d; patterns = p; output = o; translate = t; report = r }) (subst (λ (ws : List (List ℕ)). is_some (option_map ToPrune (prune_in ws)) ≡ true) parts taken)
          ∙ ap (λ words. option_map ToPrune (prune_in words)) (sym parts);
      within = tt;
    }
