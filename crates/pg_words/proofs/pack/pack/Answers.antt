use Rattle.std.proofs.Common.{[], ◌∷◌, ◌≡◌, ◌∙◌, ℕ, List, true, length, sym, ap, subst, rules}
use Rattle.std.proofs.lemmas.List.{length-map}
use Rattle.std.specs.Prelude.{string_bytes}
use Rattle.pg_words.specs.Inside.Names.{arguments_of}
use Rattle.std.specs.Option.{option_map, is_some}
use Rattle.pg_words.specs.Inside.Requests.{ToPack}
use Rattle.pg_words.specs.Inside.forms.Pack.{pack_in}
use Rattle.pg_words.proofs.AcceptedRequests.{accepted_whole}
use Rattle.pg_words.proofs.OtherArguments.{not_for_pack}
use Rattle.pg_words.proofs.ArgumentsAt.{three_arguments}
use Rattle.pg_words.proofs.pack.pack.Goals as goal

pub returns-in_default : goal.returns-in_default
returns-in_default c =
    let count = length-map c.args.words.now string_bytes in
    record {
      value = λ taken. ap (option_map ToPack) (not_for_pack (arguments_of c.args.words.now) (λ (is : length (arguments_of c.args.words.now) ≡ 3). search rules));
      within = tt;
    }

pub returns : goal.returns
returns c =
    let p = c.as_str-patterns.result.now in
    let t = c.as_str-translate.result.now in
    let e = c.as_str-table.result.now in
    let parts = three_arguments c.args.words.now p t e c.in-len3.len_at_least c.in-len3.len_below (c.patterns-item.result, c.patterns-item.is, c.as_str-patterns.ensures.value)
    (c.translate-item.result, c.translate-item.is, c.as_str-translate.ensures.value) (c.table-item.result, c.table-item.is, c.as_str-table.ensures.value) in
    record {
      value = λ taken. accepted_whole ToPack (p ∷ t ∷ []) (e ∷ []) (record { patterns = p; translate = t; table = e }) (subst (λ (ws : List (List ℕ)). is_some (option_map ToPack (pack_in ws)) ≡ true) parts taken)
          ∙ ap (λ words. option_map ToPack (pack_in words)) (sym parts);
      within = tt;
    }
