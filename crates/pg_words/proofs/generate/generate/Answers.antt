use Rattle.std.proofs.Common.{◌≡◌, true, Option, ◌∙◌, sym, ap, subst}
use Rattle.std.specs.Option.{option_map, option_and_then, is_some}
use Rattle.pg_words.specs.Inside.CommandRequests.{asked_by, texts_of}
use Rattle.pg_words.specs.Inside.Requests.{ToGenerate}
use Rattle.pg_words.specs.AcceptedNames.{where_accepted}
use Rattle.pg_words.specs.Inside.forms.Generate.{FileNames, input_names, output_names}
use Rattle.pg_words.proofs.AcceptedRequests.{accepted_whole}
use Rattle.pg_words.proofs.generate.generate.Goals as goal

-- the names, where they are taken
abbrev taken_names : FileNames → Option FileNames
taken_names n = where_accepted (input_names n) (output_names n) n

pub returns-in_err-names-clause-value : goal.returns-in_err-names-clause-value
returns-in_err-names-clause-value c = λ taken.
    ap (option_map asked_by) c.from_residual.ensures ∙ ap (λ (names : Option FileNames). option_map ToGenerate (option_and_then taken_names names)) c.in_err-names.ensures

pub returns : goal.returns
returns c =
    let names = texts_of c.in_ok-names.names in
    record {
      within = tt;
      value = λ taken. accepted_whole ToGenerate (input_names names) (output_names names) names
          (subst (λ (names : Option FileNames). is_some (option_map ToGenerate (option_and_then taken_names names)) ≡ true) (sym c.in_ok-names.ensures) taken)
          ∙ ap (λ (names : Option FileNames). option_map ToGenerate (option_and_then taken_names names)) c.in_ok-names.ensures;
    }
