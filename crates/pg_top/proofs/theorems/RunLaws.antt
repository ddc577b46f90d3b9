-- What is known of each call.
use Rattle.std.proofs.Common.{◌≡◌, ◌⊎◌, ℕ, List, ◌∷◌, [], ◌++◌, Bool, true, false, not, Option, None, Some, inl, inr, refl, ap, sym, subst, ◌∙◌, if◌then◌else◌, map, MatchOption}
use Rattle.std.specs.Prelude.{codes, ◌&&◌, ◌↔◌, IfSome, All, Contains}
use Rattle.std.specs.List.{list_all, list_any, AllByRecursion}
use Rattle.std.specs.Option.{IsSomeAnd, option_and_then, IsSome}
use Rattle.std.specs.FinMap as fin
use Rattle.std.proofs.lemmas.List.Elements.{All-from_recursion, All-cons, All-contains, All-head, All-push, All-tail, All-weaker, Contains-append_left, Contains-push, recursion_from_All}
use Rattle.pg_outside.specs.Content.{FileMap, FilesShown, Told}
use Rattle.pg_plans.specs.Laws.{KeepsFiles, HasCause}
use Rattle.pg_plans.specs.Outcomes.{Outcome, outcome, after_all}
use Rattle.pg_plans.specs.Plans.{Moment, Plan, Ending, Says, Finishes, Follows}
use Rattle.pg_plans.specs.declared.answers.Status.{Status}
use Rattle.pg_plans.specs.declared.answers.Status.TheVariants.{Done, Yes, No, Usage, Refused, Fault, Memory}
use Rattle.pg_plans.proofs.Answered.{answered}
use Rattle.pg_plans.proofs.Kept.{kept_unless_done, kept_after_unread, no_usage}
use Rattle.pg_plans.proofs.Told.{told_same, told_as, told_some, was_told}
use Rattle.pg_steps.specs.declared.inputs.Given.{Given}
use Rattle.pg_steps.specs.declared.inputs.Given.TheVariants as given
use Rattle.pg_words.specs.AcceptedNames.{is_name, outputs_differ, where_accepted}
use Rattle.pg_top.specs.Auditing.{comparison}
use Rattle.pg_top.specs.Commands.{IsRun, plan_of}
use Rattle.pg_top.specs.Generating.{files_asked, files_of, selected_lines}
use Rattle.pg_top.specs.Inside.Plans.{plan_of_audit, plan_of_generate}
use Rattle.pg_top.specs.Orders.{Ended, Went}
use Rattle.pg_top.specs.PrintedLines.{usage_line}
use Rattle.pg_top.specs.Selection.{selected_file}
use Rattle.pg_top.specs.Theorems.{HasInputs, AreTheirTexts, OthersKept, PutsLines, GenerateExact, DeniesFirst, AuditExact, AuditAccepts, EachAnswer}
use Rattle.pg_top.specs.declared.selection.Inputs.{Inputs}
use Rattle.pg_top.proofs.theorems.Caused.{caused, caused_finish}
use Rattle.pg_top.proofs.theorems.Compared.{IsThere, says_yes, all_there, yes_or_no, denied}
use Rattle.pg_top.proofs.theorems.MeantInputs.{IsNoRefusal, selected_by, selected_from}
use Rattle.pg_top.proofs.theorems.Ordered.{went, ended}
use Rattle.pg_top.proofs.theorems.OwnPlans.{AreOwn, own_plan}
use Rattle.pg_top.proofs.theorems.WrittenFiles.{Writing, names_of, NotAmong, get_kept, both, not_contained, all_written, inputs_apart}

abbrev pub Runs : Option Plan → Status → Moment → Moment → Type 0
Runs plan status old new = MatchOption plan (Finishes [] usage_line Usage status old new) (λ p. Follows p status old new)

-- arguments that are no command
pub no_command : {X : Type 0} (status : Status) (old new : Moment) → ¬ (status ≡ Usage) → ¬ (status ≡ Fault) → Finishes [] usage_line Usage status old new → X
no_command status old new no_usage no_fault h = elim h.1 [ inl said ↦ absurd (no_usage said.0) | inr part ↦ absurd (no_fault part.0) ]

same_files : (s0 s1 : FilesShown) → s1 ≡ s0 → KeepsFiles s0 s1
same_files s0 s1 is = subst (λ (s : FilesShown). KeepsFiles s0 s) (sym is) (told_same s0.held)

-- what each answer says, of arguments with a plan and of those without one
module _ (status : Status) (old new : Moment) where
  answers : (plan : Option Plan) → Runs plan status old new → ¬ (status ≡ Fault) → ¬ (status ≡ Memory) → IfSome plan (λ p. Ended p status old new)
  answers None run no_fault enough = tt
  answers (Some p) run no_fault enough = ended p status old new no_fault enough (went p status old new run)

  has_cause : (plan : Option Plan) → AreOwn plan → Runs plan status old new → status ≡ Fault → HasCause old new
  has_cause None own run is = caused_finish [] usage_line Usage old new (λ (e : Usage ≡ Fault). cc) (subst (λ (s : Status). Finishes [] usage_line Usage s old new) is run)
  has_cause (Some p) own run is = caused p old new own (subst (λ (s : Status). Follows p s old new) is run)

  keeps : (plan : Option Plan) → AreOwn plan → Runs plan status old new → ¬ (status ≡ Done) → ¬ (status ≡ Fault) → KeepsFiles old.0 new.0
  keeps None own run not_done no_fault = same_files old.0 new.0 run.0
  keeps (Some p) own run not_done no_fault = kept_unless_done p status old new own run not_done no_fault

  keeps_unread : (plan : Option Plan) → AreOwn plan → Runs plan status old new → status ≡ Fault → (name text : List ℕ) → old.1.text ≡ Some text
      → new.1.text ≡ Some (text ++ codes "fault: reading " ++ name ++ codes "\n") → KeepsFiles old.0 new.0
  keeps_unread None own run is name text before after = same_files old.0 new.0 run.0
  keeps_unread (Some p) own run is name text before after = kept_after_unread p old new name text own (subst (λ (s : Status). Follows p s old new) is run) before after

  says_usage : (plan : Option Plan) → AreOwn plan → Runs plan status old new → status ≡ Usage → plan ≡ None
  says_usage None own run is = refl
  says_usage (Some p) own run is = absurd (no_usage p old new own (subst (λ (s : Status). Follows p s old new) is run))

  no_plan : (plan : Option Plan) → Runs plan status old new → plan ≡ None → (new.0 ≡ old.0) × Says usage_line Usage status old.1 new.1
  no_plan None run is = run
  no_plan (Some p) run is = let e : ◌≡◌ {A = Option Plan} (Some p) None = is in cc

  in_order : (plan : Option Plan) → Runs plan status old new → IfSome plan (λ p. Went p status old new)
  in_order None run = tt
  in_order (Some p) run = went p status old new run

pub each_answer : EachAnswer
each_answer arguments status old new run =
    let own = own_plan arguments in
    let plan = plan_of arguments in
    record {
      answered = answers status old new plan run;
      caused = has_cause status old new plan own run;
      kept = keeps status old new plan own run;
      unread = keeps_unread status old new plan own run;
      usage = says_usage status old new plan own run;
      no_command = no_plan status old new plan run;
      ordered = in_order status old new plan run;
    }

-- the files of a call, and the names of its inputs and outputs
abbrev outputs_of : List ℕ → List (Given × List ℕ) → List ℕ → List (List ℕ)
outputs_of o asked r = map (λ g. g.1) (files_of o asked r)

-- what is asked for by a call of `generate`
generate_case : (d p o t a r : List ℕ) (options : List (List ℕ)) (status : Status) (old new : Moment) → ¬ (status ≡ Usage) → ¬ (status ≡ Fault)
    → IsRun (codes "generate" ∷ d ∷ p ∷ o ∷ t ∷ a ∷ r ∷ options) status old new → (asked : List (Given × List ℕ)) × (files_asked options ≡ Some asked)
    × (outputs_differ (outputs_of o asked r) (d ∷ p ∷ t ∷ a ∷ []) ≡ true) × Follows (plan_of_generate d p t a (files_of o asked r)) status old new
generate_case d p o t a r options status old new no_usage no_fault run =
    elim (files_asked options) as (λ named. files_asked options ≡ named
    → Runs (option_and_then (λ asked. where_accepted (d ∷ p ∷ t ∷ a ∷ []) (outputs_of o asked r) (plan_of_generate d p t a (files_of o asked r))) named) status old new
    → (asked : List (Given × List ℕ)) × (files_asked options ≡ Some asked)
    × (outputs_differ (outputs_of o asked r) (d ∷ p ∷ t ∷ a ∷ []) ≡ true) × Follows (plan_of_generate d p t a (files_of o asked r)) status old new) [
      | None ↦ λ is h. no_command status old new no_usage no_fault h
      | Some asked ↦ λ is h.
          let names : Bool = list_all is_name ((d ∷ p ∷ t ∷ a ∷ []) ++ outputs_of o asked r) in
          let differ : Bool = outputs_differ (outputs_of o asked r) (d ∷ p ∷ t ∷ a ∷ []) in
          elim (names && differ) as (λ b. (names && differ) ≡ b → Runs (if b then Some (plan_of_generate d p t a (files_of o asked r)) else None) status old new
          → (asked : List (Given × List ℕ)) × (files_asked options ≡ Some asked)
          × (outputs_differ (outputs_of o asked r) (d ∷ p ∷ t ∷ a ∷ []) ≡ true) × Follows (plan_of_generate d p t a (files_of o asked r)) status old new) [
            | true ↦ λ accepted follows. (asked, is, (both names differ accepted).1, follows)
            | false ↦ λ accepted h. no_command status old new no_usage no_fault h
          ] refl h
    ] refl run

-- what is asked for by a call of `audit`
audit_case : (d p o t a r : List ℕ) (options : List (List ℕ)) (status : Status) (old new : Moment) → ¬ (status ≡ Usage) → ¬ (status ≡ Fault)
    → IsRun (codes "audit" ∷ d ∷ p ∷ o ∷ t ∷ a ∷ r ∷ options) status old new → (asked : List (Given × List ℕ)) × (files_asked options ≡ Some asked)
    × Follows (plan_of_audit d p t a (files_of o asked r)) status old new
audit_case d p o t a r options status old new no_usage no_fault run =
    elim (files_asked options) as (λ named. files_asked options ≡ named
    → Runs (option_and_then (λ asked. if list_all is_name (d ∷ p ∷ t ∷ a ∷ outputs_of o asked r) && not (list_any (λ g. elim g.0 [ given.Cells ↦ true | other ↦ false ]) asked)
    then Some (plan_of_audit d p t a (files_of o asked r)) else None) named) status old new
    → (asked : List (Given × List ℕ)) × (files_asked options ≡ Some asked) × Follows (plan_of_audit d p t a (files_of o asked r)) status old new) [
      | None ↦ λ is h. no_command status old new no_usage no_fault h
      | Some asked ↦ λ is h.
          elim (list_all is_name (d ∷ p ∷ t ∷ a ∷ outputs_of o asked r) && not (list_any (λ g. elim g.0 [ given.Cells ↦ true | other ↦ false ]) asked)) as
          (λ b. Runs (if b then Some (plan_of_audit d p t a (files_of o asked r)) else None) status old new
          → (asked : List (Given × List ℕ)) × (files_asked options ≡ Some asked) × Follows (plan_of_audit d p t a (files_of o asked r)) status old new) [
            | true ↦ λ follows. (asked, is, follows)
            | false ↦ λ h. no_command status old new no_usage no_fault h
          ] h
    ] refl run

-- what is known of the outcome of a call that is answered
abbrev pub Judges : Status → Moment → Moment → FileMap → FileMap → Outcome → Type 0
Judges status old new x y o = (status ≡ o.answer) × (y ≡ after_all x o.writing) × Told old.1.text new.1.text (λ text now. now ≡ text ++ o.lines)

-- what `generate` writes
abbrev texts : Inputs → List (Given × List ℕ) → Writing
texts i gs = map (λ g. (g.1, selected_file i g.0)) gs

names_of-texts : (i : Inputs) (gs : List (Given × List ℕ)) → map (λ g. g.1) gs ≡ names_of (texts i gs)
names_of-texts i [] = refl
names_of-texts i (g ∷ gs) = λ k. g.1 ∷ names_of-texts i gs k

all_given : (i : Inputs) (files : FileMap) (gs : List (Given × List ℕ)) → AllByRecursion (λ (w : List ℕ × List ℕ). fin.get files w.0 ≡ Some w.1) (texts i gs)
    → AllByRecursion (IsThere files i) gs
all_given i files [] all = tt
all_given i files (g ∷ gs) all = (all.0, all_given i files gs all.1)

-- a call that is done is answered
pub done_is : (plan : Plan) (old new : Moment) → Follows plan Done old new → Told old.0.held new.0.held (λ x y. IsSomeAnd (outcome x plan) (Judges Done old new x y))
done_is plan old new follows = elim (answered plan Done old new follows) [
  | inl fault ↦ let e : Done ≡ Fault = fault.0 in cc
  | inr (inl short) ↦ let e : Done ≡ Memory = short.0 in cc
  | inr (inr done) ↦ done
]

pub done_no_refusal : (old new : Moment) (x y : FileMap) → IsNoRefusal (Judges Done old new x y)
done_no_refusal old new x y o is refused = let e : Done ≡ Refused = is.0 ∙ refused in cc

-- a call of `generate` that is done
pub record Wrote (d p o t a r : List ℕ) (options : List (List ℕ)) (old new : Moment) (before after : FileMap) : Type 0 where
  pub asked : List (Given × List ℕ)
  pub named : files_asked options ≡ Some asked
  pub differ : outputs_differ (outputs_of o asked r) (d ∷ p ∷ t ∷ a ∷ []) ≡ true
  pub i : Inputs
  pub has : HasInputs before d p t a i
  pub files : after ≡ after_all before (texts i (files_of o asked r))
  pub lines : PutsLines old new (selected_lines i)

module _ (d p o t a r : List ℕ) (options : List (List ℕ)) where
  wrote : (old new : Moment) → IsRun (codes "generate" ∷ d ∷ p ∷ o ∷ t ∷ a ∷ r ∷ options) Done old new → Told old.0.held new.0.held (Wrote d p o t a r options old new)
  wrote old new run =
      let case = generate_case d p o t a r options Done old new (λ (e : Done ≡ Usage). cc) (λ (e : Done ≡ Fault). cc) run in
      let end : Inputs → Plan = λ i. Ending Done (texts i (files_of o case.0 r)) (selected_lines i) in
      told_as old.0.held new.0.held _ _ (λ x y is.
      let from = selected_from d p t a end x (Judges Done old new x y) (done_no_refusal old new x y) is in
      record { asked = case.0; named = case.1; differ = case.2; i = from.0; has = from.1; files = from.2.1; lines = from.2.2 })
      (done_is (plan_of_generate d p t a (files_of o case.0 r)) old new case.3)

  others_kept : (old new : Moment) (x y : FileMap) (w : Wrote d p o t a r options old new x y) (q : List ℕ) → NotAmong q (outputs_of o w.asked r) → fin.get y q ≡ fin.get x q
  others_kept old new x y w q apart = ap (λ (m : FileMap). fin.get m q) w.files
      ∙ get_kept (texts w.i (files_of o w.asked r)) x q (subst (λ (names : List (List ℕ)). NotAmong q names) (names_of-texts w.i (files_of o w.asked r)) apart)

  given_written : (old new : Moment) (x y : FileMap) (w : Wrote d p o t a r options old new x y) → AreTheirTexts y w.i (files_of o w.asked r)
  given_written old new x y w =
      let gs = files_of o w.asked r in
      let differ : outputs_differ (names_of (texts w.i gs)) (d ∷ p ∷ t ∷ a ∷ []) ≡ true =
      subst (λ (names : List (List ℕ)). outputs_differ names (d ∷ p ∷ t ∷ a ∷ []) ≡ true) (names_of-texts w.i gs) w.differ in
      All-from_recursion _ gs (subst (λ (m : FileMap). AllByRecursion (IsThere m w.i) gs) (sym w.files)
      (all_given w.i (after_all x (texts w.i gs)) gs (all_written (texts w.i gs) (d ∷ p ∷ t ∷ a ∷ []) x differ)))

  -- the inputs mean the same afterwards
  inputs_kept : (old new : Moment) (x y : FileMap) (w : Wrote d p o t a r options old new x y) → HasInputs y d p t a w.i
  inputs_kept old new x y w =
      let apart = inputs_apart (outputs_of o w.asked r) (d ∷ p ∷ t ∷ a ∷ []) w.differ in
      record {
        table = record { bytes = w.has.table.bytes; held = others_kept old new x y w t apart.1.1.0 ∙ w.has.table.held; read = w.has.table.read };
        params = record { bytes = w.has.params.bytes; held = others_kept old new x y w a apart.1.1.1.0 ∙ w.has.params.held; read = w.has.params.read };
        start = record { bytes = w.has.start.bytes; held = others_kept old new x y w p apart.1.0 ∙ w.has.start.held; read = w.has.start.read };
        words = record { bytes = w.has.words.bytes; held = others_kept old new x y w d apart.0 ∙ w.has.words.held; read = w.has.words.read };
      }

pub generate_exact : GenerateExact
generate_exact d p o t a r options old new run = told_as old.0.held new.0.held (Wrote d p o t a r options old new) _ (λ x y w. (
  w.asked,
  w.named,
  w.i,
  w.has,
  given_written d p o t a r options old new x y w,
  (λ name none. others_kept d p o t a r options old new x y w name (not_contained name (outputs_of o w.asked r) none)),
  w.lines,
)) (wrote d p o t a r options old new run)

-- the answer of `audit` over inputs that are accepted
judged : (d p t a : List ℕ) (gs : List (Given × List ℕ)) (status : Status) (old new : Moment) (x y : FileMap) (i : Inputs) → HasInputs x d p t a i
    → IsSomeAnd (outcome x (plan_of_audit d p t a gs)) (Judges status old new x y) → ((status ≡ Yes) ⊎ (status ≡ No)) × ((status ≡ Yes) ↔ AreTheirTexts x i gs) × (status ≡ No → DeniesFirst old new x i gs)
judged d p t a gs status old new x y i has is =
    let there : IsSomeAnd (outcome x (comparison i gs)) (Judges status old new x y) = selected_by d p t a (λ j. comparison j gs) x (Judges status old new x y) i has is in
    let either = yes_or_no x i gs (Judges status old new x y) there in (
      (elim either.1 [ inl says ↦ inl (either.2.0 ∙ says) | inr says ↦ inr (either.2.0 ∙ says) ]),
      (
        (λ says. All-from_recursion _ gs (all_there x i gs (Judges status old new x y) (λ o q. sym q.0 ∙ says) there)),
        (λ all. let o = says_yes x i gs (Judges status old new x y) (recursion_from_All _ gs all) there in o.2.0 ∙ o.1),
      ),
      (λ says.
          let first = denied x i gs (Judges status old new x y) (λ o q. sym q.0 ∙ says) there in
          record {
            front = first.front;
            first = first.first;
            behind = first.behind;
            order = first.order;
            right = All-from_recursion _ first.front first.right;
            bytes = first.bytes;
            held = first.held;
            difference = first.difference;
            differs = first.differs;
            named = first.known.2;
          }),
    )

-- an audit that says yes has accepted its inputs
accepted : (d p t a : List ℕ) (gs : List (Given × List ℕ)) (status : Status) (old new : Moment) (x y : FileMap) → status ≡ Yes
    → IsSomeAnd (outcome x (plan_of_audit d p t a gs)) (Judges status old new x y) → (i : Inputs) × HasInputs x d p t a i
accepted d p t a gs status old new x y says is =
    let from = selected_from d p t a (λ i. comparison i gs) x (Judges status old new x y) (λ o judged refused. let e : Yes ≡ Refused = sym says ∙ judged.0 ∙ refused in cc) is in
    (from.0, from.1)

pub audit_exact : AuditExact
audit_exact d p o t a r options status old new run no_usage no_fault enough =
    let case = audit_case d p o t a r options status old new no_usage no_fault run in
    elim (answered (plan_of_audit d p t a (files_of o case.0 r)) status old new case.2) [
      | inl fault ↦ absurd (no_fault fault.0)
      | inr (inl short) ↦ absurd (enough short.0)
      | inr (inr done) ↦ told_as old.0.held new.0.held _ _ (λ x y is. (
        case.0,
        case.1,
        (λ says. accepted d p t a (files_of o case.0 r) status old new x y says is),
        λ i has. judged d p t a (files_of o case.0 r) status old new x y i has is,
      )) done
    ]

pub some_told : {X : Type 0} (h : Option X) → IsSome h → (x : X) × (h ≡ Some x)
some_told None is = cc
some_told (Some x) is = (x, refl)

-- a file that is asked for among those that were written is its text
fewer_texts : (files : FileMap) (i : Inputs) (o r : List ℕ) (written asked : List (Given × List ℕ)) → All (Contains written) asked → AreTheirTexts files i (files_of o written r)
    → AreTheirTexts files i (files_of o asked r)
fewer_texts files i o r written asked among all =
    let There : Given × List ℕ → Type 0 = IsThere files i in
    let first : Given × List ℕ = (given.Patterns, o) in
    let last : Given × List ℕ = (given.Report, r) in
    let rest = All-tail There first (written ++ last ∷ []) all in
    let each : All There asked = All-weaker (Contains written) There (λ g is. All-contains There (written ++ last ∷ []) g rest (Contains-append_left written (last ∷ []) g is)) asked among in
    All-cons There first (asked ++ last ∷ []) (All-head There first (written ++ last ∷ []) all)
    (All-push There asked last each (All-contains There (written ++ last ∷ []) last rest (Contains-push written last)))

-- an answer that is yes where nothing hinders it
unless_hindered : (status : Status) → (¬ (status ≡ Usage) → ¬ (status ≡ Fault) → ¬ (status ≡ Memory) → status ≡ Yes) → (status ≡ Yes) ⊎ ((status ≡ Usage) ⊎ ((status ≡ Fault) ⊎ (status ≡ Memory)))
unless_hindered Usage is = inr (inl refl)
unless_hindered Fault is = inr (inr (inl refl))
unless_hindered Memory is = inr (inr (inr refl))
unless_hindered Yes is = inl refl
unless_hindered Done is = inl (is (λ (e : Done ≡ Usage). cc) (λ (e : Done ≡ Fault). cc) (λ (e : Done ≡ Memory). cc))
unless_hindered No is = inl (is (λ (e : No ≡ Usage). cc) (λ (e : No ≡ Fault). cc) (λ (e : No ≡ Memory). cc))
unless_hindered Refused is = inl (is (λ (e : Refused ≡ Usage). cc) (λ (e : Refused ≡ Fault). cc) (λ (e : Refused ≡ Memory). cc))

pub audit_accepts : AuditAccepts
audit_accepts d p o t a r options own status old mid next new generates audits among files after now told = unless_hindered status (λ no_usage no_fault enough.
    let P : FileMap → FileMap → Type 0 = Wrote d p o t a r options old mid in
    let before = was_told old.0.held mid.0.held P files after (wrote d p o t a r options old mid generates) in
    let w = told_some old.0.held mid.0.held P before.0 files before.1 after (wrote d p o t a r options old mid generates) in
    let last = some_told new.0.held told in
    let judges = told_some next.0.held new.0.held _ files last.0 now last.1 (audit_exact d p o t a r own status next new audits no_usage no_fault enough) in
    let of_written : IfSome (files_asked own) (λ asked. All (Contains w.asked) asked) =
    subst (λ (written : Option (List (Given × List ℕ))). IfSome written (λ written. IfSome (files_asked own) (λ asked. All (Contains written) asked))) w.named among in
    let of_both : All (Contains w.asked) judges.0 = subst (λ (asked : Option (List (Given × List ℕ))). IfSome asked (λ asked. All (Contains w.asked) asked)) judges.1 of_written in
    (judges.3 w.i (inputs_kept d p o t a r options old mid before.0 files w)).1.1
    (fewer_texts files w.i o r w.asked judges.0 of_both (given_written d p o t a r options old mid before.0 files w)))
