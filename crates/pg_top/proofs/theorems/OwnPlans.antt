-- Each plan of a call writes only where it is done, and plans no fault.
use Rattle.std.proofs.Common.{◌≡◌, ℕ, ◌+◌, List, ◌∷◌, [], ◌++◌, Bool, true, false, Option, None, Some, Result, Ok, Err, inl, inr, refl, if◌then◌else◌, length, map, arith}
use Rattle.std.specs.Prelude.{codes, IfSome, ◌&&◌, nat_lt, nat_le, not}
use Rattle.std.specs.List.{list_all, list_any}
use Rattle.std.specs.Option.{option_and_then, option_map, option_map_or}
use Rattle.std.specs.Str.{bytes_eq}
use Rattle.pg_types.specs.Parameters.{Parameters, parameters}
use Rattle.pg_types.specs.ValuesOrRefusals.{refusal_at}
use Rattle.pg_types.specs.declared.limits.TheConstants.{FOLDS_MAX, FOLDS_MIN, PRICE_MAX, SETS_MAX}
use Rattle.pg_types.specs.declared.packed_table.TheConstants.{TABLE_MAX}
use Rattle.pg_types.specs.declared.refusals.Kind.TheVariants.{TableTooLong}
use Rattle.pg_types.specs.declared.refusals.Refusal.{Refusal}
use Rattle.pg_audit.specs.Differences.{first_false}
use Rattle.pg_dict.specs.DictionaryWords.{words}
use Rattle.pg_patterns.specs.Starts.{start}
use Rattle.pg_patterns.specs.Texts.{pattern_text}
use Rattle.pg_patterns.specs.Values as patterns
use Rattle.pg_table.specs.Texts.{table_text}
use Rattle.pg_translate.specs.Alphabets.{Alphabet, letters_of}
use Rattle.pg_translate.specs.Tables.{table, default_alphabet}
use Rattle.pg_plans.specs.Laws.{IsOwn}
use Rattle.pg_plans.specs.Outcomes.{EachEnding}
use Rattle.pg_plans.specs.Plans.{Plan, Ending}
use Rattle.pg_plans.specs.declared.answers.Status.TheVariants.{Done, Yes, No, Usage, Refused, Fault}
use Rattle.pg_steps.specs.InputPlans.{input, unless_refused}
use Rattle.pg_steps.specs.RefusedLines.{refused_line}
use Rattle.pg_steps.specs.declared.inputs.Given.{Given}
use Rattle.pg_steps.specs.declared.inputs.Given.TheVariants as given
use Rattle.pg_steps.specs.declared.inputs.Input.{Input}
use Rattle.pg_steps.specs.declared.inputs.Input.TheVariants.{Translate, Parameters as Params, Patterns, Dictionary, Set, Table}
use Rattle.pg_words.specs.AcceptedNames.{is_name, outputs_differ, where_accepted}
use Rattle.pg_words.specs.NumbersWithin.{number_within}
use Rattle.pg_words.specs.declared.limits.TheConstants.{SEED_MAX, COUNT_MAX, SAMPLE_DIGITS, FOLDS_DIGITS, PRICE_DIGITS}
use Rattle.pg_top.specs.Auditing.{audit, comparison, no_line}
use Rattle.pg_top.specs.Commands.{plan_of}
use Rattle.pg_top.specs.Generating.{files_asked, files_of, generate, selected_lines, selection_from}
use Rattle.pg_top.specs.Packing.{pack, packed_line}
use Rattle.pg_top.specs.Pruning.{prune}
use Rattle.pg_top.specs.Sampling.{sample, sampled, sample_text}
use Rattle.pg_top.specs.Selection.{selected_file}
use Rattle.pg_top.specs.Sweeping.{sets_from, sweep, swept}
use Rattle.pg_top.specs.Totalling.{packed_table, totals}
use Rattle.pg_top.specs.Inside.Plans.{plan_of_audit, plan_of_generate, plan_of_pack, end_of_pack, plan_of_prune, plan_of_totals}
use Rattle.pg_top.specs.declared.selection.Inputs.{Inputs}

abbrev pub IsOwnPlan : Plan → Type 0
IsOwnPlan plan = EachEnding IsOwn plan

abbrev pub AreOwn : Option Plan → Type 0
AreOwn plan = IfSome plan IsOwnPlan

either : {X : Type 0} (P : X → Type 0) (b : Bool) (x y : X) → P x → P y → P (if b then x else y)
either P true x y p q = p
either P false x y p q = q

-- endings
no_fault : ¬ (Done ≡ Fault)
no_fault e = cc

no_usage : ¬ (Done ≡ Usage)
no_usage e = cc

-- what is written is done, with lines that begin with a d, a p or a w
d_is_no_f : ◌≡◌ {A = ℕ} 100 102 → ⊥
d_is_no_f e = omega arith

p_is_no_f : ◌≡◌ {A = ℕ} 112 102 → ⊥
p_is_no_f e = omega arith

w_is_no_f : ◌≡◌ {A = ℕ} 119 102 → ⊥
w_is_no_f e = omega arith

own_refused : (lines : List ℕ) → IsOwn Refused [] lines
own_refused lines = (inl refl, (λ (e : Refused ≡ Fault). cc), λ (e : Refused ≡ Usage). cc)

own_no : (lines : List ℕ) → IsOwn No [] lines
own_no lines = (inl refl, (λ (e : No ≡ Fault). cc), λ (e : No ≡ Usage). cc)

own_yes : (lines : List ℕ) → IsOwn Yes [] lines
own_yes lines = (inl refl, (λ (e : Yes ≡ Fault). cc), λ (e : Yes ≡ Usage). cc)

-- inputs
own_parsed : {Y : Type 0} (kind : Input) (r : Result Y Refusal) (next : Y → Plan) → ((y : Y) → IsOwnPlan (next y)) → IsOwnPlan (unless_refused kind r next)
own_parsed kind (Ok y) next each = each y
own_parsed kind (Err refusal) next each = own_refused (refused_line kind refusal)

own_input : {Y : Type 0} (kind : Input) (name : List ℕ) (parse : List ℕ → Result Y Refusal) (next : Y → Plan) → ((y : Y) → IsOwnPlan (next y)) → IsOwnPlan (input kind name parse next)
own_input kind name parse next each bytes = own_parsed kind (parse bytes) next each

own_selection : (d p t a : List ℕ) (next : Inputs → Plan) → ((i : Inputs) → IsOwnPlan (next i)) → IsOwnPlan (selection_from d p t a next)
own_selection d p t a next each = own_input Translate t table _ (λ T. own_input Params a parameters _ (λ A. own_input Patterns p (start T) _ (λ S.
    own_input Dictionary d (words T) _ (λ W. each (record { table = T; params = A; start = S; dictionary = W })))))

own_judged : (i : Inputs) (g : Given × List ℕ) (gs : List (Given × List ℕ)) (difference : Option (ℕ × List ℕ)) → IsOwnPlan (comparison i gs)
    → IsOwnPlan (option_map_or (λ d. Ending No [] (no_line g.0 d)) difference (comparison i gs))
own_judged i g gs None own = own
own_judged i g gs (Some d) own = own_no (no_line g.0 d)

own_compared : (i : Inputs) (gs : List (Given × List ℕ)) → IsOwnPlan (comparison i gs)
own_compared i [] = own_yes (codes "yes\n")
own_compared i (g ∷ gs) = λ bytes. own_judged i g gs (first_false bytes (selected_file i g.0)) (own_compared i gs)

own_sets : (k : ℕ) (names : List (List ℕ)) (next : List Parameters → Plan) → ((As : List Parameters) → IsOwnPlan (next As)) → IsOwnPlan (sets_from k names next)
own_sets k [] next each = each []
own_sets k (name ∷ names) next each = own_input (Set k) name parameters _ (λ A. own_sets (k + 1) names (λ As. next (A ∷ As)) (λ As. each (A ∷ As)))

-- options
own_accepted : (inputs outputs : List (List ℕ)) (plan : Plan) → IsOwnPlan plan → AreOwn (where_accepted inputs outputs plan)
own_accepted inputs outputs plan own = either AreOwn (list_all is_name (inputs ++ outputs) && outputs_differ outputs inputs) (Some plan) None own tt

own_found : {X : Type 0} (plan : X → Option Plan) (x : Option X) → ((x : X) → AreOwn (plan x)) → AreOwn (option_and_then plan x)
own_found plan None own = tt
own_found plan (Some x) own = own x

own_made : {X : Type 0} (plan : X → Plan) (x : Option X) → ((x : X) → IsOwnPlan (plan x)) → AreOwn (option_map plan x)
own_made plan None own = tt
own_made plan (Some x) own = own x

own_generate : (arguments : List (List ℕ)) → AreOwn (generate arguments)
own_generate [] = tt
own_generate (d ∷ []) = tt
own_generate (d ∷ p ∷ []) = tt
own_generate (d ∷ p ∷ o ∷ []) = tt
own_generate (d ∷ p ∷ o ∷ t ∷ []) = tt
own_generate (d ∷ p ∷ o ∷ t ∷ a ∷ []) = tt
own_generate (d ∷ p ∷ o ∷ t ∷ a ∷ r ∷ options) = own_found _ (files_asked options) (λ asked.
    own_accepted (d ∷ p ∷ t ∷ a ∷ []) (map (λ g. g.1) (files_of o asked r)) (plan_of_generate d p t a (files_of o asked r)) (own_selection d p t a (λ i. Ending Done (map (λ g. (g.1, selected_file i g.0)) (files_of o asked r)) (selected_lines i)) (λ i. (inr (refl, d_is_no_f), no_fault, no_usage))))

own_audit : (arguments : List (List ℕ)) → AreOwn (audit arguments)
own_audit [] = tt
own_audit (d ∷ []) = tt
own_audit (d ∷ p ∷ []) = tt
own_audit (d ∷ p ∷ o ∷ []) = tt
own_audit (d ∷ p ∷ o ∷ t ∷ []) = tt
own_audit (d ∷ p ∷ o ∷ t ∷ a ∷ []) = tt
own_audit (d ∷ p ∷ o ∷ t ∷ a ∷ r ∷ options) = own_found _ (files_asked options) (λ asked.
    either AreOwn (list_all is_name (d ∷ p ∷ t ∷ a ∷ map (λ g. g.1) (files_of o asked r)) && not (list_any (λ g. elim g.0 [ given.Cells ↦ true | other ↦ false ]) asked))
    (Some (plan_of_audit d p t a (files_of o asked r))) None (own_selection d p t a (λ i. comparison i (files_of o asked r)) (λ i. own_compared i (files_of o asked r))) tt)

own_sampled : (seed count : ℕ) → IsOwnPlan (sampled seed count)
own_sampled seed count = own_parsed Dictionary (words default_alphabet (sample_text seed count)) _ (λ ws. (inl refl, no_fault, no_usage))

own_sample : (arguments : List (List ℕ)) → AreOwn (sample arguments)
own_sample [] = tt
own_sample (seed ∷ []) = tt
own_sample (seed ∷ count ∷ []) = own_found _ (number_within SAMPLE_DIGITS 0 SEED_MAX seed) (λ s. own_made _ (number_within SAMPLE_DIGITS 0 COUNT_MAX count) (λ c. own_sampled s c))
own_sample (seed ∷ count ∷ more ∷ rest) = tt

own_packed : (name : List ℕ) (T : Alphabet) (P : patterns.Patterns) → IsOwnPlan (end_of_pack name T P)
own_packed name T P = let text = table_text (letters_of T + 1) P in
    either IsOwnPlan (nat_lt TABLE_MAX (length text)) (Ending Refused [] (refused_line Table (refusal_at 0 TableTooLong 0))) (Ending Done ((name, text) ∷ []) (packed_line (pattern_text T P) text))
    (own_refused (refused_line Table (refusal_at 0 TableTooLong 0))) (inr (refl, p_is_no_f), no_fault, no_usage)

own_pack : (arguments : List (List ℕ)) → AreOwn (pack arguments)
own_pack [] = tt
own_pack (p ∷ []) = tt
own_pack (p ∷ t ∷ []) = tt
own_pack (p ∷ t ∷ o ∷ []) = own_accepted (p ∷ t ∷ []) (o ∷ []) (plan_of_pack p t o) (own_input Translate t table _ (λ T. own_input Patterns p (start T) _ (own_packed o T)))
own_pack (p ∷ t ∷ o ∷ more ∷ rest) = tt

own_totals : (arguments : List (List ℕ)) → AreOwn (totals arguments)
own_totals [] = tt
own_totals (d ∷ []) = tt
own_totals (d ∷ t ∷ []) = tt
own_totals (d ∷ t ∷ b ∷ []) = own_accepted (d ∷ t ∷ b ∷ []) [] (plan_of_totals d t b)
    (own_input Translate t table _ (λ T. own_input Dictionary d (words T) _ (λ W. own_input Table b (packed_table T) _ (λ B. (inl refl, no_fault, no_usage)))))
own_totals (d ∷ t ∷ b ∷ more ∷ rest) = tt

own_prune : (arguments : List (List ℕ)) → AreOwn (prune arguments)
own_prune [] = tt
own_prune (d ∷ []) = tt
own_prune (d ∷ p ∷ []) = tt
own_prune (d ∷ p ∷ o ∷ []) = tt
own_prune (d ∷ p ∷ o ∷ t ∷ []) = tt
own_prune (d ∷ p ∷ o ∷ t ∷ r ∷ []) = own_accepted (d ∷ p ∷ t ∷ []) (o ∷ r ∷ []) (plan_of_prune d p o t r)
    (own_input Translate t table _ (λ T. own_input Patterns p (start T) _ (λ P. own_input Dictionary d (words T) _ (λ W. (inr (refl, d_is_no_f), no_fault, no_usage)))))
own_prune (d ∷ p ∷ o ∷ t ∷ r ∷ more ∷ rest) = tt

own_swept : (d p o t : List ℕ) (folds bad missed : ℕ) (params : List (List ℕ)) → IsOwnPlan (swept d p o t folds bad missed params)
own_swept d p o t folds bad missed params =
    own_input Translate t table _ (λ T. own_sets 1 params _ (λ As. own_input Patterns p (start T) _ (λ S. own_input Dictionary d (words T) _ (λ W. (inr (refl, w_is_no_f), no_fault, no_usage)))))

own_sweep : (arguments : List (List ℕ)) → AreOwn (sweep arguments)
own_sweep [] = tt
own_sweep (d ∷ []) = tt
own_sweep (d ∷ p ∷ []) = tt
own_sweep (d ∷ p ∷ o ∷ []) = tt
own_sweep (d ∷ p ∷ o ∷ t ∷ []) = tt
own_sweep (d ∷ p ∷ o ∷ t ∷ k ∷ []) = tt
own_sweep (d ∷ p ∷ o ∷ t ∷ k ∷ b ∷ []) = tt
own_sweep (d ∷ p ∷ o ∷ t ∷ k ∷ b ∷ m ∷ params) = own_found _ (number_within FOLDS_DIGITS FOLDS_MIN FOLDS_MAX k) (λ folds.
    own_found _ (number_within PRICE_DIGITS 1 PRICE_MAX b) (λ bad. own_found _ (number_within PRICE_DIGITS 1 PRICE_MAX m) (λ missed.
    either AreOwn (nat_le 1 (length params) && nat_le (length params) SETS_MAX) (where_accepted (d ∷ p ∷ t ∷ params) (o ∷ []) (swept d p o t folds bad missed params)) None
    (own_accepted (d ∷ p ∷ t ∷ params) (o ∷ []) (swept d p o t folds bad missed params) (own_swept d p o t folds bad missed params)) tt)))

pub own_plan : (arguments : List (List ℕ)) → AreOwn (plan_of arguments)
own_plan [] = tt
own_plan (name ∷ rest) =
    either AreOwn (bytes_eq name (codes "generate")) (generate rest) _ (own_generate rest) (either AreOwn (bytes_eq name (codes "audit")) (audit rest) _ (own_audit rest)
    (either AreOwn (bytes_eq name (codes "sample")) (sample rest) _ (own_sample rest) (either AreOwn (bytes_eq name (codes "pack")) (pack rest) _ (own_pack rest)
    (either AreOwn (bytes_eq name (codes "totals")) (totals rest) _ (own_totals rest) (either AreOwn (bytes_eq name (codes "prune")) (prune rest) _ (own_prune rest)
    (either AreOwn (bytes_eq name (codes "sweep")) (sweep rest) None (own_sweep rest) tt))))))
