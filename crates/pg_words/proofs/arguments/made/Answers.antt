use Rattle.std.proofs.Common.{◌≡◌, ℕ, List, true, ◌-◌, ◌∙◌, length, length-drop, take, drop, sym, ap, subst, arith}
use Rattle.std.proofs.lemmas.List.{take_all}
use Rattle.std.specs.Option.{is_some}
use Rattle.pg_words.specs.Inside.Requests.{request_of}
use Rattle.pg_words.proofs.ArgumentsAt.{one_argument}
use Rattle.pg_words.proofs.arguments.made.Goals as goal

pub returns-in-len1-up : goal.returns-in-len1-up
returns-in-len1-up c =
    let words = c.args.words.now in
    let behind = take (length words - 1) (drop 1 words) in
    let parts = one_argument words c.as_str.result.now behind c.in-len1-up.len_at_least (c.name-item.result, c.name-item.is, c.as_str.ensures.value)
    (take_all _ _ (omega (arith, length-drop 1 words))) in
    record {
      value = λ taken. c.command_of.ensures.value (subst (λ (ws : List (List ℕ)). is_some (request_of ws) ≡ true) parts taken) ∙ ap request_of (sym parts);
      within = c.command_of.ensures.within;
    }
