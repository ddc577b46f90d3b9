-- What is known of the commands that are done.
use Rattle.std.proofs.Common.{◌≡◌, ◌⊎◌, ℕ, ◌+◌, ◌-◌, ◌≤◌, List, ◌∷◌, [], ◌++◌, Bool, true, false, Option, None, Some, Result, Ok, Err, inl, inr, refl, ap, sym, subst, ◌∙◌, if◌then◌else◌, map, length, nat_lt, nat_le, arith}
use Rattle.std.specs.Prelude.{codes, ◌&&◌, slice_index, All, Contains}
use Rattle.std.specs.List.{list_all}
use Rattle.std.specs.Option.{IsSomeAnd, option_and_then, option_map}
use Rattle.std.specs.FinMap as fin
use Rattle.std.proofs.lemmas.Bool.{leb-true}
use Rattle.std.proofs.lemmas.List.{length-map}
use Rattle.pg_types.specs.Parameters.{Parameters, parameters}
use Rattle.pg_types.specs.Numbers.{number}
use Rattle.pg_types.specs.ValuesOrRefusals.{refusal_at}
use Rattle.pg_types.specs.declared.limits.TheConstants.{FOLDS_MAX, FOLDS_MIN, PRICE_MAX, SETS_MAX}
use Rattle.pg_types.specs.declared.packed_table.TheConstants.{TABLE_MAX}
use Rattle.pg_types.specs.declared.refusals.Kind.TheVariants.{TableTooLong}
use Rattle.pg_types.specs.declared.refusals.Refusal.{Refusal}
use Rattle.pg_dict.specs.DictionaryWords.{words}
use Rattle.pg_dict.specs.Word.{Word}
use Rattle.pg_outside.specs.Content.{FileMap, Told}
use Rattle.pg_patterns.specs.Starts.{start}
use Rattle.pg_patterns.specs.Texts.{pattern_text}
use Rattle.pg_patterns.specs.Values as patterns
use Rattle.pg_prune.proofs.pruning.PrunedLaws.{pruned_part, pruned_alike, pruned_least}
use Rattle.pg_prune.specs.Prunes.{pruning_of}
use Rattle.pg_prune.specs.Reports.{prune_report}
use Rattle.pg_sweep.proofs.Winners.{winner_wins}
use Rattle.pg_sweep.specs.Files.{sweep_file}
use Rattle.pg_sweep.specs.Sweeps.{set_row}
use Rattle.pg_sweep.specs.Promises.{costs_of}
use Rattle.pg_sweep.specs.Winners.{winner_of}
use Rattle.pg_sweep.specs.declared.rows.SweepRow.{SweepRow}
use Rattle.pg_table.specs.Lookups.{table_totals}
use Rattle.pg_table.specs.Texts.{table_text}
use Rattle.pg_texts.specs.ReportTexts.{ending_text}
use Rattle.pg_translate.proofs.DefaultRules.{default_keeps}
use Rattle.pg_translate.specs.Alphabets.{Alphabet, letters_of}
use Rattle.pg_translate.specs.Tables.{default_alphabet, table}
use Rattle.pg_plans.specs.Outcomes.{Outcome, outcome, after_all}
use Rattle.pg_plans.specs.Plans.{Moment, Plan, Ending, Finishes, Follows}
use Rattle.pg_plans.specs.declared.answers.Status.{Status}
use Rattle.pg_plans.specs.declared.answers.Status.TheVariants.{Done, Usage, Refused, Fault, Memory}
use Rattle.pg_plans.proofs.Told.{told_as}
use Rattle.pg_steps.specs.InputPlans.{input, unless_refused}
use Rattle.pg_steps.specs.RefusedLines.{refused_line}
use Rattle.pg_steps.specs.declared.inputs.Input.TheVariants.{Translate, Parameters as Params, Patterns, Dictionary, Set, Table}
use Rattle.pg_words.specs.AcceptedNames.{is_name, outputs_differ, where_accepted}
use Rattle.pg_words.specs.NumbersWithin.{number_within}
use Rattle.pg_words.specs.declared.limits.TheConstants.{SEED_MAX, COUNT_MAX, SAMPLE_DIGITS, FOLDS_DIGITS, PRICE_DIGITS}
use Rattle.pg_top.specs.Commands.{IsRun}
use Rattle.pg_top.specs.Packing.{packed_line}
use Rattle.pg_top.specs.PrintedLines.{usage_line}
use Rattle.pg_top.specs.Inside.Plans.{plan_of_pack, end_of_pack, plan_of_prune, end_of_prune, plan_of_totals}
use Rattle.pg_top.specs.Sampling.{sampled, sample_inputs, sample_lines, sample_text}
use Rattle.pg_top.specs.Sweeping.{rows_ended, sets_from, swept}
use Rattle.pg_top.specs.Theorems.{Means, OthersKept, PruneExact, AreSets, IsPrice, SweepExact, TotalsExact, PackExact, SampleExact}
use Rattle.pg_top.specs.Totalling.{packed_table}
use Rattle.pg_top.proofs.sample.SampleWords.{sample_accepted}
use Rattle.pg_top.proofs.theorems.MeantInputs.{IsNoRefusal, came_from}
use Rattle.pg_top.proofs.theorems.RunLaws.{Runs, no_command, Judges, done_is, done_no_refusal}
use Rattle.pg_top.proofs.theorems.WrittenFiles.{Writing, names_of, both, get_kept, not_contained, all_written}

-- a call whose names are accepted
pub accepted_case : (inputs outputs : List (List ℕ)) (plan : Plan) (status : Status) (old new : Moment) → ¬ (status ≡ Usage) → ¬ (status ≡ Fault)
    → Runs (where_accepted inputs outputs plan) status old new → (outputs_differ outputs inputs ≡ true) × Follows plan status old new
accepted_case inputs outputs plan status old new no_usage no_fault run =
    let names : Bool = list_all is_name (inputs ++ outputs) in
    let differ : Bool = outputs_differ outputs inputs in
    elim (names && differ) as (λ b. (names && differ) ≡ b → Runs (if b then Some plan else None) status old new → (differ ≡ true) × Follows plan status old new) [
      | true ↦ λ accepted follows. ((both names differ accepted).1, follows)
      | false ↦ λ accepted h. no_command status old new no_usage no_fault h
    ] refl run

pub done_no_usage : ¬ (Done ≡ Usage)
done_no_usage e = cc

pub done_no_fault : ¬ (Done ≡ Fault)
done_no_fault e = cc

-- every other file is as before
others_kept : (ws : Writing) (x y : FileMap) → y ≡ after_all x ws → OthersKept x y (names_of ws)
others_kept ws x y is name apart = ap (λ (files : FileMap). fin.get files name) is ∙ get_kept ws x name (not_contained name (names_of ws) apart)

-- totals
pub totals_exact : TotalsExact
totals_exact d t b old new run =
    let case = accepted_case (d ∷ t ∷ b ∷ []) [] (plan_of_totals d t b) Done old new done_no_usage done_no_fault run in
    told_as old.0.held new.0.held _ _ (λ x y is.
    let none = done_no_refusal old new x y in
    let Q = Judges Done old new x y in
    let end : Alphabet → List Word → List ℕ → Plan = λ T W B. Ending Done [] (ending_text (table_totals T W B)) in
    let one = came_from x Translate t table (λ T. input Dictionary d (words T) (λ W. input Table b (packed_table T) (end T W))) Q none is in
    let two = came_from x Dictionary d (words one.0) (λ W. input Table b (packed_table one.0) (end one.0 W)) Q none one.2 in
    let three = came_from x Table b (packed_table one.0) (end one.0 two.0) Q none two.2 in
    (one.0, two.0, three.0, one.1, two.1, three.1, three.2.1, three.2.2)) (done_is (plan_of_totals d t b) old new case.1)

-- prune
pub prune_exact : PruneExact
prune_exact d p o t r old new run =
    let case = accepted_case (d ∷ p ∷ t ∷ []) (o ∷ r ∷ []) (plan_of_prune d p o t r) Done old new done_no_usage done_no_fault run in
    told_as old.0.held new.0.held _ _ (λ x y is.
    let none = done_no_refusal old new x y in
    let Q = Judges Done old new x y in
    let end : Alphabet → patterns.Patterns → List Word → Plan = λ T P W. end_of_prune o r T (pruning_of T W P) in
    let one = came_from x Translate t table (λ T. input Patterns p (start T) (λ P. input Dictionary d (words T) (end T P))) Q none is in
    let two = came_from x Patterns p (start one.0) (λ P. input Dictionary d (words one.0) (end one.0 P)) Q none one.2 in
    let three = came_from x Dictionary d (words one.0) (end one.0 two.0) Q none two.2 in
    let m = one.0 in
    let found = pruning_of m three.0 two.0 in
    let ws = (o, pattern_text one.0 found.patterns) ∷ (r, prune_report one.0 found) ∷ [] in
    let there = all_written ws (d ∷ p ∷ t ∷ []) x case.0 in (
      one.0,
      two.0,
      three.0,
      one.1,
      two.1,
      three.1,
      record { part = pruned_part m three.0 two.0; alike = pruned_alike m three.0 two.0; least = pruned_least m three.0 two.0 },
      record {
        patterns = ap (λ (files : FileMap). fin.get files o) three.2.1 ∙ there.0;
        report = ap (λ (files : FileMap). fin.get files r) three.2.1 ∙ there.1.0;
        others = others_kept ws x y three.2.1;
        line = three.2.2;
      },
    )) (done_is (plan_of_prune d p o t r) old new case.1)

-- pack: where it is done the table is not too long
packed_ends : (name : List ℕ) (T : Alphabet) (P : patterns.Patterns) (x : FileMap) (Q : Outcome → Type 0) → IsNoRefusal Q → IsSomeAnd (outcome x (end_of_pack name T P)) Q
    → Q (record { answer = Done; writing = (name, table_text (letters_of T + 1) P) ∷ []; lines = packed_line (pattern_text T P) (table_text (letters_of T + 1) P) })
packed_ends name T P x Q none is =
    let text = table_text (letters_of T + 1) P in
    let refused : Plan = Ending Refused [] (refused_line Table (refusal_at 0 TableTooLong 0)) in
    let written : Plan = Ending Done ((name, text) ∷ []) (packed_line (pattern_text T P) text) in
    elim (nat_lt TABLE_MAX (length text)) as (λ long. IsSomeAnd (outcome x (if long then refused else written)) Q
    → Q (record { answer = Done; writing = (name, text) ∷ []; lines = packed_line (pattern_text T P) text })) [
      | true ↦ λ h. absurd (none (record { answer = Refused; writing = []; lines = refused_line Table (refusal_at 0 TableTooLong 0) }) h refl)
      | false ↦ λ h. h
    ] is

pub pack_exact : PackExact
pack_exact p t o old new run =
    let case = accepted_case (p ∷ t ∷ []) (o ∷ []) (plan_of_pack p t o) Done old new done_no_usage done_no_fault run in
    told_as old.0.held new.0.held _ _ (λ x y is.
    let none = done_no_refusal old new x y in
    let Q = Judges Done old new x y in
    let one = came_from x Translate t table (λ T. input Patterns p (start T) (end_of_pack o T)) Q none is in
    let two = came_from x Patterns p (start one.0) (end_of_pack o one.0) Q none one.2 in
    let ends = packed_ends o one.0 two.0 x Q none two.2 in
    let ws = (o, table_text (letters_of one.0 + 1) two.0) ∷ [] in
    let there = all_written ws (p ∷ t ∷ []) x case.0 in (
      one.0,
      two.0,
      one.1,
      two.1,
      ap (λ (files : FileMap). fin.get files o) ends.1 ∙ there.0,
      others_kept ws x y ends.1,
      ends.2,
    )) (done_is (plan_of_pack p t o) old new case.1)

-- sweep: the sets are read one after the other
sets_came : (x : FileMap) (k : ℕ) (names : List (List ℕ)) (next : List Parameters → Plan) (Q : Outcome → Type 0) → IsNoRefusal Q → IsSomeAnd (outcome x (sets_from k names next)) Q
    → (As : List Parameters) × AreSets x names As × IsSomeAnd (outcome x (next As)) Q
sets_came x k [] next Q none is = ([], tt, is)
sets_came x k (name ∷ names) next Q none is =
    let one = came_from x (Set k) name parameters (λ A. sets_from (k + 1) names (λ As. next (A ∷ As))) Q none is in
    let more = sets_came x (k + 1) names (λ As. next (one.0 ∷ As)) Q none one.2 in
    (one.0 ∷ more.0, (one.1, more.1), more.2)

as_many : (x : FileMap) (names : List (List ℕ)) (As : List Parameters) → AreSets x names As → length As ≡ length names
as_many x [] [] are = refl
as_many x [] (A ∷ As) are = absurd are
as_many x (name ∷ names) [] are = absurd are
as_many x (name ∷ names) (A ∷ As) are = let rest : length As ≡ length names = as_many x names As are.1 in omega (arith, rest)

-- what is asked for by a call of `sweep`
pub record Asked (d p o t k b m : List ℕ) (params : List (List ℕ)) (old new : Moment) : Type 0 where
  pub folds : ℕ
  pub bad : ℕ
  pub missed : ℕ
  pub number : number_within FOLDS_DIGITS FOLDS_MIN FOLDS_MAX k ≡ Some folds
  pub bad_price : IsPrice b bad
  pub missed_price : IsPrice m missed
  pub some : 1 ≤ length params
  pub differ : outputs_differ (o ∷ []) (d ∷ p ∷ t ∷ params) ≡ true
  pub follows : Follows (swept d p o t folds bad missed params) Done old new

number_case : (n : Option ℕ) (plan : ℕ → Option Plan) (old new : Moment) → Runs (option_and_then plan n) Done old new → (k : ℕ) × Runs (plan k) Done old new × (n ≡ Some k)
number_case None plan old new run = no_command Done old new done_no_usage done_no_fault run
number_case (Some k) plan old new run = (k, run, refl)

sweep_case : (d p o t k b m : List ℕ) (params : List (List ℕ)) (old new : Moment) → IsRun (codes "sweep" ∷ d ∷ p ∷ o ∷ t ∷ k ∷ b ∷ m ∷ params) Done old new → Asked d p o t k b m params old new
sweep_case d p o t k b m params old new run =
    let few : Bool = nat_le 1 (length params) && nat_le (length params) SETS_MAX in
    let plan : ℕ → ℕ → ℕ → Option Plan = λ folds bad missed. if few then where_accepted (d ∷ p ∷ t ∷ params) (o ∷ []) (swept d p o t folds bad missed params) else None in
    let one = number_case (number_within FOLDS_DIGITS FOLDS_MIN FOLDS_MAX k)
    (λ folds. option_and_then (λ bad. option_and_then (plan folds bad) (number_within PRICE_DIGITS 1 PRICE_MAX m)) (number_within PRICE_DIGITS 1 PRICE_MAX b)) old new run in
    let two = number_case (number_within PRICE_DIGITS 1 PRICE_MAX b) (λ bad. option_and_then (plan one.0 bad) (number_within PRICE_DIGITS 1 PRICE_MAX m)) old new one.1 in
    let three = number_case (number_within PRICE_DIGITS 1 PRICE_MAX m) (plan one.0 two.0) old new two.1 in
    elim few as (λ f. few ≡ f → Runs (if f then where_accepted (d ∷ p ∷ t ∷ params) (o ∷ []) (swept d p o t one.0 two.0 three.0 params) else None) Done old new → Asked d p o t k b m params old new) [
      | true ↦ λ is h.
          let case = accepted_case (d ∷ p ∷ t ∷ params) (o ∷ []) (swept d p o t one.0 two.0 three.0 params) Done old new done_no_usage done_no_fault h in
          record {
            folds = one.0;
            bad = two.0;
            missed = three.0;
            number = one.2;
            bad_price = two.2;
            missed_price = three.2;
            some = leb-true 1 (length params) (both (nat_le 1 (length params)) (nat_le (length params) SETS_MAX) is).0;
            differ = case.0;
            follows = case.1;
          }
      | false ↦ λ is h. no_command Done old new done_no_usage done_no_fault h
    ] refl three.1

pub sweep_exact : SweepExact
sweep_exact d p o t k b m params old new run =
    let case = sweep_case d p o t k b m params old new run in
    told_as old.0.held new.0.held _ _ (λ x y is.
    let none = done_no_refusal old new x y in
    let Q = Judges Done old new x y in
    let rows : Alphabet → List Parameters → patterns.Patterns → List Word → List SweepRow =
    λ T As P W. map (set_row (record { table = T; words = W; start = P; folds = case.folds }) case.bad case.missed) As in
    let end : Alphabet → List Parameters → patterns.Patterns → List Word → Plan = λ T As P W. rows_ended o case.folds (rows T As P W) in
    let behind : Alphabet → List Parameters → Plan = λ T As. input Patterns p (start T) (λ P. input Dictionary d (words T) (end T As P)) in
    let one = came_from x Translate t table (λ T. sets_from 1 params (behind T)) Q none is in
    let sets = sets_came x 1 params (behind one.0) Q none one.2 in
    let two = came_from x Patterns p (start one.0) (λ P. input Dictionary d (words one.0) (end one.0 sets.0 P)) Q none sets.2 in
    let three = came_from x Dictionary d (words one.0) (end one.0 sets.0 two.0) Q none two.2 in
    let all = rows one.0 sets.0 two.0 three.0 in
    let winner = winner_of (costs_of all) in
    let count : length (costs_of all) ≡ length params = length-map all (λ (r : SweepRow). r.cost)
    ∙ length-map sets.0 (set_row (record { table = one.0; words = three.0; start = two.0; folds = case.folds }) case.bad case.missed) ∙ as_many x params sets.0 sets.1 in
    let ws = (o, sweep_file case.folds all winner) ∷ [] in
    let there = all_written ws (d ∷ p ∷ t ∷ params) x case.differ in (
      record { table = one.0; words = three.0; start = two.0; folds = case.folds },
      case.bad,
      case.missed,
      sets.0,
      record { table = one.1; start = two.1; words = three.1; folds = case.number },
      case.bad_price,
      case.missed_price,
      sets.1,
      record {
        winner = winner;
        wins = winner_wins (costs_of all) (subst (λ n. 1 ≤ n) (sym count) case.some);
        written = ap (λ (files : FileMap). fin.get files o) three.2.1 ∙ there.0;
        others = others_kept ws x y three.2.1;
        line = three.2.2;
      },
    )) (done_is (swept d p o t case.folds case.bad case.missed params) old new case.follows)

-- sample
sampled_is : (s c : ℕ) → c ≤ COUNT_MAX → (W : List Word) × (words default_alphabet (sample_text s c) ≡ Ok W) × (sampled s c ≡ Ending Done [] (sample_lines (sample_inputs W)))
sampled_is s c few =
    let ok = sample_accepted s c default_keeps few in
    (ok.0, ok.1, ap (λ (r : Result (List Word) Refusal). unless_refused Dictionary r (λ W. Ending Done [] (sample_lines (sample_inputs W)))) ok.1)

within_most : (digits most : ℕ) (argument : List ℕ) (n : ℕ) → number_within digits 0 most argument ≡ Some n → n ≤ most
within_most digits most argument n is =
    elim (nat_lt 0 (length argument) && nat_le (length argument) digits) as
    (λ b. (if b then option_and_then (λ n. if nat_le 0 n && nat_le n most then Some n else None) (number argument) else None) ≡ Some n → n ≤ most) [
      | true ↦ λ h. by_number (number argument) h
      | false ↦ λ h. let e : ◌≡◌ {A = Option ℕ} None (Some n) = h in cc
    ] is
  where
    by_bounds : (k : ℕ) (b : Bool) → b ≡ (nat_le 0 k && nat_le k most) → (if b then Some k else None) ≡ Some n → n ≤ most
    by_bounds k true within h = let same : k ≡ n = cc in subst (λ m. m ≤ most) same (leb-true k most (both (nat_le 0 k) (nat_le k most) (sym within)).1)
    by_bounds k false within h = let e : ◌≡◌ {A = Option ℕ} None (Some n) = h in cc

    by_number : (found : Option ℕ) → option_and_then (λ n. if nat_le 0 n && nat_le n most then Some n else None) found ≡ Some n → n ≤ most
    by_number None h = let e : ◌≡◌ {A = Option ℕ} None (Some n) = h in cc
    by_number (Some k) h = by_bounds k (nat_le 0 k && nat_le k most) refl h

-- a call that ends at once with these lines
ends_done : (lines : List ℕ) (status : Status) (old new : Moment) → Follows (Ending Done [] lines) status old new
    → ¬ (status ≡ Refused) × (new.0 ≡ old.0) × (status ≡ Done → Told old.1.text new.1.text (λ text now. now ≡ text ++ lines))
ends_done lines status old new (inl short) =
    ((λ is. let e : Memory ≡ Refused = sym short.0 ∙ is in cc), ap (λ (m : Moment). m.0) short.1, λ is. let e : Memory ≡ Done = sym short.0 ∙ is in cc)
ends_done lines status old new (inr h) = elim h.1 [
  | inl said ↦ ((λ is. let e : Done ≡ Refused = sym said.0 ∙ is in cc), h.0, λ is. said.1.text)
  | inr part ↦ ((λ is. let e : Fault ≡ Refused = sym part.0 ∙ is in cc), h.0, λ is. let e : Fault ≡ Done = sym part.0 ∙ is in cc)
]

abbrev IsSampled : List ℕ → List ℕ → Status → Moment → Moment → Type 0
IsSampled seed count status old new = ¬ (status ≡ Refused) × (new.0 ≡ old.0) × (status ≡ Done → (s c : ℕ) × (W : List Word)
    × (number_within SAMPLE_DIGITS 0 SEED_MAX seed ≡ Some s) × (number_within SAMPLE_DIGITS 0 COUNT_MAX count ≡ Some c) × (words default_alphabet (sample_text s c) ≡ Ok W)
    × Told old.1.text new.1.text (λ text now. now ≡ text ++ sample_lines (sample_inputs W)))

unnamed : (seed count : List ℕ) (status : Status) (old new : Moment) → Finishes [] usage_line Usage status old new → IsSampled seed count status old new
unnamed seed count status old new h = elim h.1 [
  | inl said ↦ ((λ is. let e : Usage ≡ Refused = sym said.0 ∙ is in cc), h.0, λ is. let e : Usage ≡ Done = sym said.0 ∙ is in cc)
  | inr part ↦ ((λ is. let e : Fault ≡ Refused = sym part.0 ∙ is in cc), h.0, λ is. let e : Fault ≡ Done = sym part.0 ∙ is in cc)
]

pub sample_exact : SampleExact
sample_exact seed count status old new run = by_seed (number_within SAMPLE_DIGITS 0 SEED_MAX seed) refl run
  where
    by_count : (s : ℕ) (c : Option ℕ) → number_within SAMPLE_DIGITS 0 SEED_MAX seed ≡ Some s → number_within SAMPLE_DIGITS 0 COUNT_MAX count ≡ c
        → Runs (option_map (λ c. sampled s c) c) status old new → IsSampled seed count status old new
    by_count s None first second h = unnamed seed count status old new h
    by_count s (Some c) first second h =
        let made = sampled_is s c (within_most SAMPLE_DIGITS COUNT_MAX count c second) in
        let ends = ends_done (sample_lines (sample_inputs made.0)) status old new (subst (λ (plan : Plan). Follows plan status old new) made.2 h) in
        (ends.0, ends.1, λ is. (s, c, made.0, first, second, made.1, ends.2 is))

    by_seed : (s : Option ℕ) → number_within SAMPLE_DIGITS 0 SEED_MAX seed ≡ s
        → Runs (option_and_then (λ s. option_map (λ c. sampled s c) (number_within SAMPLE_DIGITS 0 COUNT_MAX count)) s) status old new → IsSampled seed count status old new
    by_seed None first h = unnamed seed count status old new h
    by_seed (Some s) first h = by_count s (number_within SAMPLE_DIGITS 0 COUNT_MAX count) first refl h
