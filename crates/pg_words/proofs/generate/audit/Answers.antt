use Rattle.std.proofs.Common.{◌≡◌, ◌++◌, ◌&&◌, ◌∙◌, ℕ, List, Bool, true, false, Option, None, Some, refl, sym, ap, subst}
use Rattle.std.specs.List.{list_all}
use Rattle.std.specs.Option.{option_map, option_and_then, is_none, is_some}
use Rattle.std.specs.Prelude.{if◌then◌else◌}
use denote.Ref.{Bor}
use Rattle.pg_words.specs.Inside.CommandRequests.{asked_by, name_now, texts_of}
use Rattle.pg_words.specs.Inside.Requests.{ToAudit}
use Rattle.pg_words.specs.AcceptedNames.{is_name}
use Rattle.pg_words.specs.Inside.forms.Generate.{FileNames, input_names, output_names}
use Rattle.pg_words.proofs.generate.audit.Goals as goal

-- the names, where `audit` takes them
abbrev audited_names : FileNames → Option FileNames
audited_names n = if list_all is_name (input_names n ++ output_names n) && is_none n.cells then Some n else None

-- names without a cells file, where they are taken
audited_whole : (taken : Bool) (n : FileNames) → is_some (option_map ToAudit (if taken then Some n else None)) ≡ true → Some (ToAudit n) ≡ option_map ToAudit (if taken then Some n else None)
audited_whole true n is = refl
audited_whole false n is = cc

-- names with a cells file are not taken
with_cells : (named : Bool) (cells : Option (Bor (List ℕ))) (name : Bor (List ℕ)) (n : FileNames) → cells ≡ Some name
    → None ≡ option_map ToAudit (if named && is_none (name_now cells) then Some n else None)
with_cells true cells name n is = rw is refl
with_cells false cells name n is = refl

pub returns-in_err-names-clause-value : goal.returns-in_err-names-clause-value
returns-in_err-names-clause-value c = λ taken.
    ap (option_map asked_by) c.from_residual.ensures ∙ ap (λ (names : Option FileNames). option_map ToAudit (option_and_then audited_names names)) c.in_err-names.ensures

pub returns-in-None-clause-value : goal.returns-in-None-clause-value
returns-in-None-clause-value c =
    let n = texts_of c.in_ok-names.names in
    λ taken. audited_whole (list_all is_name (input_names n ++ output_names n) && is_none n.cells) n
    (subst (λ (names : Option FileNames). is_some (option_map ToAudit (option_and_then audited_names names)) ≡ true) (sym c.in_ok-names.ensures) taken)
    ∙ ap (λ (names : Option FileNames). option_map ToAudit (option_and_then audited_names names)) c.in_ok-names.ensures

pub returns-in-Some-clause-value : goal.returns-in-Some-clause-value
returns-in-Some-clause-value c =
    let n = texts_of c.in_ok-names.names in
    λ taken. with_cells (list_all is_name (input_names n ++ output_names n)) c.in_ok-names.names.cells _ n c.in-Some.is
    ∙ ap (λ (names : Option FileNames). option_map ToAudit (option_and_then audited_names names)) c.in_ok-names.ensures
