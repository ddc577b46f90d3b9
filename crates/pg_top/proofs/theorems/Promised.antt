-- What is promised of a command that is done.
use Rattle.std.proofs.Common.{◌≡◌, ℕ, List, [], ◌∷◌, ◌++◌, Bool, true, false, ◌&&◌, IfOk, Result, Ok, Err, Option, None, Some, if◌then◌else◌, inl, inr, sym, ap, subst, ◌∙◌}
use Rattle.std.specs.List.{list_all}
use Rattle.std.specs.Option.{option_and_then, option_map}
use Rattle.std.specs.Prelude.{codes}
use Rattle.pg_outside.specs.Content.{FileMap, FilesShown, SinkShown, Told}
use Rattle.pg_plans.specs.Plans.{Moment}
use Rattle.pg_plans.specs.declared.answers.Status.{Status}
use Rattle.pg_plans.specs.declared.answers.Status.TheVariants as status
use Rattle.pg_plans.proofs.Told.{told_on}
use Rattle.pg_steps.specs.Inside.Steps.{Goes, StopsBy}
use Rattle.pg_steps.specs.Inside.Texts.{ending_of}
use Rattle.pg_steps.specs.declared.ends.BuiltTexts.{BuiltTexts}
use Rattle.pg_steps.specs.declared.inputs.Stop.{Stop}
use Rattle.pg_steps.specs.declared.inputs.Stop.TheVariants.{Refused, Unread, Memory}
use Rattle.pg_words.specs.AcceptedNames.{is_name, outputs_differ, where_accepted}
use Rattle.pg_words.specs.Inside.Requests.{Request, ToGenerate, ToAudit, ToSample, ToPack, ToTotals, ToPrune, ToSweep, request_of}
use Rattle.pg_words.specs.Inside.forms.Generate.{FileNames, input_names, output_names, with_options}
use Rattle.pg_words.specs.Inside.forms.Pack.{PackRequest}
use Rattle.pg_words.specs.Inside.forms.Prune.{PruneRequest}
use Rattle.pg_top.specs.Inside.Keeping.{KeepsPromise}
use Rattle.pg_top.specs.Generating.{files_asked}
use Rattle.pg_top.specs.Promises.{GeneratePromise, PackPromise, PrunePromise, IsPromised}
use Rattle.pg_top.proofs.Asked.{AreAsked, are_asked, named}
use Rattle.pg_top.proofs.theorems.RunLaws.{done_is}

-- nothing is promised of these texts
pub any_built : (built : Result BuiltTexts Stop) → IfOk built (λ _. Unit {0})
any_built (Ok made) = tt
any_built (Err stop) = tt

-- a call that stopped is not done
not_done : (stop : Stop) (old new : Moment) → StopsBy stop status.Done old new → ⊥
not_done (Refused kind refusal) old new (inl short) = let e : status.Done ≡ status.Memory = short.0 in cc
not_done (Refused kind refusal) old new (inr h) = elim h.1 [ inl said ↦ let e : status.Done ≡ status.Refused = said.0 in cc | inr part ↦ let e : status.Done ≡ status.Fault = part.0 in cc ]
not_done (Unread name) old new h = let e : status.Done ≡ status.Fault = h.0 in cc
not_done Memory old new h = let e : status.Done ≡ status.Memory = h.0 in cc

-- what is promised by the files before a part of a call is promised of the call
promised_later : (asked : Request) (s0 s1 s2 : FilesShown) (P : FileMap → FileMap → Type 0) → KeepsPromise asked s0 s1 → Told s1.held s2.held P → KeepsPromise asked s0 s2
promised_later (ToGenerate n) s0 s1 s2 P kept told =
    told_on s0.held s1.held s2.held _ P (λ (x y : FileMap). GeneratePromise x n.dict n.patterns n.translate n.params) (λ x y z promise later. promise) kept told
promised_later (ToAudit n) s0 s1 s2 P kept told = tt
promised_later (ToSample seed count) s0 s1 s2 P kept told = tt
promised_later (ToPack n) s0 s1 s2 P kept told = told_on s0.held s1.held s2.held _ P (λ (x y : FileMap). PackPromise x n.patterns n.translate) (λ x y z promise later. promise) kept told
promised_later (ToTotals n) s0 s1 s2 P kept told = tt
promised_later (ToPrune n) s0 s1 s2 P kept told = told_on s0.held s1.held s2.held _ P (λ (x y : FileMap). PrunePromise x n.dict n.patterns n.translate) (λ x y z promise later. promise) kept told
promised_later (ToSweep n) s0 s1 s2 P kept told = tt

ended : (asked : Request) (built : Result BuiltTexts Stop) (s0 s1 s2 : FilesShown) (o0 o1 : SinkShown) → IfOk built (λ _. KeepsPromise asked s0 s1)
    → Goes built ending_of status.Done (s1, o0) (s2, o1) → KeepsPromise asked s0 s2
ended asked (Ok made) s0 s1 s2 o0 o1 kept goes = promised_later asked s0 s1 s2 _ kept (done_is (ending_of made) (s1, o0) (s2, o1) goes)
ended asked (Err stop) s0 s1 s2 o0 o1 kept goes = absurd (not_done stop (s1, o0) (s2, o1) goes)

pub promised_on : (asked : Request) (built : Result BuiltTexts Stop) (answer : Status) (s0 s1 s2 : FilesShown) (o0 o1 : SinkShown) → IfOk built (λ _. KeepsPromise asked s0 s1)
    → Goes built ending_of answer (s1, o0) (s2, o1) → answer ≡ status.Done → KeepsPromise asked s0 s2
promised_on asked built answer s0 s1 s2 o0 o1 kept goes is = ended asked built s0 s1 s2 o0 o1 kept (subst (λ (s : Status). Goes built ending_of s (s1, o0) (s2, o1)) is goes)

-- what is promised of a request is promised of the arguments that are this request
module _ (arguments : List (List ℕ)) (answer : Status) (s0 s1 : FilesShown) where
  pub promised_unless_done : ¬ (answer ≡ status.Done) → IsPromised arguments answer s0 s1
  promised_unless_done never = record {
    generate = λ d p o t a r options given done. absurd (never done);
    pack = λ p t o given done. absurd (never done);
    prune = λ d p o t r given done. absurd (never done);
  }

  module _ (asked : Request) (is : request_of arguments ≡ Some asked) (kept : answer ≡ status.Done → KeepsPromise asked s0 s1) where
    by_names : {X : Type 0} (to : X → Request) (accepted : Bool) (n : X) → Some asked ≡ option_map to (if accepted then Some n else None) → answer ≡ status.Done → KeepsPromise (to n) s0 s1
    by_names to true n named done = let same : asked ≡ to n = cc in subst (λ (r : Request). KeepsPromise r s0 s1) same (kept done)
    by_names to false n named done = let e : ◌≡◌ {A = Option Request} (Some asked) None = named in cc

    by_options : (d p o t a r : List ℕ) (options : List (List ℕ)) → arguments ≡ codes "generate" ∷ d ∷ p ∷ o ∷ t ∷ a ∷ r ∷ options → answer ≡ status.Done
        → AreAsked d p o t a r (files_asked options) (with_options (named d p o t a r None None) options) → Told s0.held s1.held (λ before after. GeneratePromise before d p t a)
    by_options d p o t a r options given done (inl none) =
        let e : ◌≡◌ {A = Option Request} (Some asked) None = sym is ∙ ap request_of given
        ∙ ap (λ (found : Option FileNames). option_map ToGenerate (option_and_then (λ n. where_accepted (input_names n) (output_names n) n) found)) none.1 in
        cc
    by_options d p o t a r options given done (inr h) =
        let n : FileNames = named d p o t a r h.0 h.1 in
        by_names ToGenerate (list_all is_name (input_names n ++ output_names n) && outputs_differ (output_names n) (input_names n)) n
        (sym is ∙ ap request_of given ∙ ap (λ (found : Option FileNames). option_map ToGenerate (option_and_then (λ n. where_accepted (input_names n) (output_names n) n) found)) h.3) done

    pub promised_by : IsPromised arguments answer s0 s1
    promised_by = record {
      generate = λ d p o t a r options given done. by_options d p o t a r options given done (are_asked d p o t a r options);
      pack = λ p t o given done.
          let n : PackRequest = record { patterns = p; translate = t; table = o } in
          by_names ToPack (list_all is_name (p ∷ t ∷ o ∷ []) && outputs_differ (o ∷ []) (p ∷ t ∷ [])) n (sym is ∙ ap request_of given) done;
      prune = λ d p o t r given done.
          let n : PruneRequest = record { dict = d; patterns = p; output = o; translate = t; report = r } in
          by_names ToPrune (list_all is_name (d ∷ p ∷ t ∷ o ∷ r ∷ []) && outputs_differ (o ∷ r ∷ []) (d ∷ p ∷ t ∷ [])) n (sym is ∙ ap request_of given) done;
    }
