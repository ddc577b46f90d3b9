use Rattle.std.proofs.Common.{[], ◌∷◌, ◌≡◌, ◌∙◌, ℕ, List, true, length, sym, ap, subst, rules}
use Rattle.std.proofs.lemmas.List.{length-map}
use Rattle.std.specs.Prelude.{string_bytes}
use Rattle.pg_words.specs.Inside.Names.{arguments_of}
use Rattle.std.specs.Option.{option_map, is_some}
use Rattle.pg_words.specs.Inside.Requests.{ToTotals}
use Rattle.pg_words.specs.Inside.forms.Totals.{totals_in}
use Rattle.pg_words.proofs.AcceptedRequests.{accepted_whole}
use Rattle.pg_words.proofs.OtherArguments.{not_for_totals}
use Rattle.pg_words.proofs.ArgumentsAt.{three_arguments}
use Rattle.pg_words.proofs.totals.totals.Goals as goal

pub returns-in_default : goal.returns-in_default
returns-in_default c =
    let count = length-map c.args.words.now string_bytes in
    record {
      value = λ taken. ap (option_map ToTotals) (not_for_totals (arguments_of c.args.words.now) (λ (is : length (arguments_of c.args.words.now) ≡ 3). search rules));
      within = tt;
    }

pub returns : goal.returns
returns c =
    let d = c.as_str-dict.result.now in
    let t = c.as_str-translate.result.now in
    let e = c.as_str-table.result.now in
    let parts = three_arguments c.args.words.now d t e c.in-len3.len_at_least c.in-len3.len_below (c.dict-item.result, c.dict-item.is, c.as_str-dict.ensures.value)
    (c.translate-item.result, c.translate-item.is, c.as_str-translate.ensures.value) (c.table-item.result, c.table-item.is, c.as_str-table.ensures.value) in
    record {
      value = λ taken. accepted_whole ToTotals (d ∷ t ∷ e ∷ []) [] (record { dict = d; translate = t; table = e }) (subst (λ (ws : List (List ℕ)). is_some (option_map ToTotals (totals_in ws)) ≡ true) parts taken)
          ∙ ap (λ words. option_map ToTotals (totals_in words)) (sym parts);
      within = tt;
    }
