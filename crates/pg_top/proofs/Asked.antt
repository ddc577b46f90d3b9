-- The plan of the arguments is that of what they ask for.
use Rattle.std.proofs.Common.{◌≡◌, ℕ, ◌++◌, ◌∷◌, [], ◌&&◌, nat_le, nat_lt, not, Bool, true, false, List, length, map, get_or, inl, inr, ◌⊎◌, arith, Option, None, Some, refl, sym, ap, ◌∙◌}
use Rattle.std.specs.List.{list_all, list_any}
use Rattle.std.specs.Option.{option_and_then, option_map, is_none}
use Rattle.std.specs.Prelude.{codes, if◌then◌else◌}
use Rattle.std.specs.Str.{bytes_eq}
use Rattle.std.proofs.lemmas.Slice.Eq.{bytes_eq-Decides}
use Rattle.pg_types.specs.declared.limits.TheConstants.{FOLDS_MAX, FOLDS_MIN, PRICE_MAX, SETS_MAX}
use Rattle.pg_plans.specs.Plans.{Plan}
use Rattle.pg_steps.specs.declared.inputs.Given.{Given}
use Rattle.pg_steps.specs.declared.inputs.Given.TheVariants as given
use Rattle.pg_words.specs.AcceptedNames.{is_name, outputs_differ, where_accepted}
use Rattle.pg_words.specs.NumbersWithin.{number_within}
use Rattle.pg_words.specs.Inside.Requests.{Request, request_of, ToGenerate, ToAudit, ToSample, ToPack, ToTotals, ToPrune, ToSweep}
use Rattle.pg_words.specs.declared.limits.TheConstants.{SEED_MAX, COUNT_MAX, SAMPLE_DIGITS, FOLDS_DIGITS, PRICE_DIGITS}
use Rattle.pg_words.specs.Inside.forms.Generate.{FileNames, with_options, with_option, generate_in, audit_in, input_names, output_names, files_in}
use Rattle.pg_words.specs.Inside.forms.Sample.{sample_in}
use Rattle.pg_words.specs.Inside.forms.Pack.{PackRequest, pack_in}
use Rattle.pg_words.specs.Inside.forms.Totals.{TotalsRequest, totals_in}
use Rattle.pg_words.specs.Inside.forms.Prune.{PruneRequest, prune_in}
use Rattle.pg_words.specs.Inside.forms.Sweep.{SweepRequest, sweep_in}
use Rattle.pg_top.specs.Auditing.{audit}
use Rattle.pg_top.specs.Commands.{plan_of}
use Rattle.pg_top.specs.Generating.{generate, files_asked, files_of}
use Rattle.pg_top.specs.Packing.{pack}
use Rattle.pg_top.specs.Pruning.{prune}
use Rattle.pg_top.specs.Sampling.{sample, sampled}
use Rattle.pg_top.specs.Sweeping.{sweep, swept}
use Rattle.pg_top.specs.Totalling.{totals}
use Rattle.pg_top.specs.Inside.Plans.{plan_of_audit, plan_of_generate}
use Rattle.pg_top.specs.Inside.Requests.{plan_by, generate_plan, audit_plan, selected_names, asked_of}

-- a choice after the one or the other
after_choice : {X Y : Type 0} (f : X → Y) (b : Bool) (x : X) → option_map f (if b then Some x else None) ≡ (if b then Some (f x) else None)
after_choice f true x = refl
after_choice f false x = refl

-- what is accepted, as a plan
accepted_as : {X : Type 0} (f : X → Plan) (inputs outputs : List (List ℕ)) (x : X) → where_accepted inputs outputs (f x) ≡ option_map f (where_accepted inputs outputs x)
accepted_as f inputs outputs x = sym (after_choice f (list_all is_name (inputs ++ outputs) && outputs_differ outputs inputs) x)

-- a map of a map
map_two : {X Y Z : Type 0} (f : Y → Z) (h : X → Y) (o : Option X) → option_map f (option_map h o) ≡ option_map (λ x. f (h x)) o
map_two f h None = refl
map_two f h (Some x) = refl

sample_asked : (words : List (List ℕ)) → sample words ≡ option_map plan_by (option_map (λ (n : ℕ × ℕ). ToSample n.0 n.1) (sample_in words))
sample_asked [] = refl
sample_asked (a ∷ []) = refl
sample_asked (a ∷ b ∷ []) = by_numbers (number_within SAMPLE_DIGITS 0 SEED_MAX a) (number_within SAMPLE_DIGITS 0 COUNT_MAX b)
  where
    by_numbers : (seed count : Option ℕ) → option_and_then (λ s. option_map (λ c. sampled s c) count) seed
        ≡ option_map plan_by (option_map (λ (n : ℕ × ℕ). ToSample n.0 n.1) (option_and_then (λ s. option_map (λ c. (s, c)) count) seed))
    by_numbers None count = refl
    by_numbers (Some s) None = refl
    by_numbers (Some s) (Some c) = refl
sample_asked (a ∷ b ∷ c ∷ words) = refl

pack_asked : (words : List (List ℕ)) → pack words ≡ option_map plan_by (option_map ToPack (pack_in words))
pack_asked [] = refl
pack_asked (a ∷ []) = refl
pack_asked (a ∷ b ∷ []) = refl
pack_asked (p ∷ t ∷ o ∷ []) =
    let n : PackRequest = record { patterns = p; translate = t; table = o } in
    accepted_as (λ n. plan_by (ToPack n)) (p ∷ t ∷ []) (o ∷ []) n ∙ sym (map_two plan_by ToPack (where_accepted (p ∷ t ∷ []) (o ∷ []) n))
pack_asked (a ∷ b ∷ c ∷ d ∷ words) = refl

totals_asked : (words : List (List ℕ)) → totals words ≡ option_map plan_by (option_map ToTotals (totals_in words))
totals_asked [] = refl
totals_asked (a ∷ []) = refl
totals_asked (a ∷ b ∷ []) = refl
totals_asked (d ∷ t ∷ b ∷ []) =
    let n : TotalsRequest = record { dict = d; translate = t; table = b } in
    accepted_as (λ n. plan_by (ToTotals n)) (d ∷ t ∷ b ∷ []) [] n ∙ sym (map_two plan_by ToTotals (where_accepted (d ∷ t ∷ b ∷ []) [] n))
totals_asked (a ∷ b ∷ c ∷ d ∷ words) = refl

prune_asked : (words : List (List ℕ)) → prune words ≡ option_map plan_by (option_map ToPrune (prune_in words))
prune_asked [] = refl
prune_asked (a ∷ []) = refl
prune_asked (a ∷ b ∷ []) = refl
prune_asked (a ∷ b ∷ c ∷ []) = refl
prune_asked (a ∷ b ∷ c ∷ d ∷ []) = refl
prune_asked (d ∷ p ∷ o ∷ t ∷ r ∷ []) =
    let n : PruneRequest = record { dict = d; patterns = p; output = o; translate = t; report = r } in
    accepted_as (λ n. plan_by (ToPrune n)) (d ∷ p ∷ t ∷ []) (o ∷ r ∷ []) n ∙ sym (map_two plan_by ToPrune (where_accepted (d ∷ p ∷ t ∷ []) (o ∷ r ∷ []) n))
prune_asked (a ∷ b ∷ c ∷ d ∷ e ∷ f ∷ words) = refl

module _ (d p o t : List ℕ) (params : List (List ℕ)) where
  abbrev request : ℕ → ℕ → ℕ → SweepRequest
  request k b m = record { dict = d; patterns = p; output = o; translate = t; folds = k; bad = b; missed = m; params = params }

  abbrev taken : {X : Type 0} → X → Option X
  taken x = where_accepted (d ∷ p ∷ t ∷ params) (o ∷ []) x

  sweep_numbers : (k b m : Option ℕ) (few : Bool)
      → option_and_then (λ k. option_and_then (λ b. option_and_then (λ m. if few then taken (swept d p o t k b m params) else None) m) b) k
      ≡ option_map plan_by (option_map ToSweep (option_and_then (λ k. option_and_then (λ b. option_and_then (λ m. if few then taken (request k b m) else None) m) b) k))
  sweep_numbers None b m few = refl
  sweep_numbers (Some k) None m few = refl
  sweep_numbers (Some k) (Some b) None few = refl
  sweep_numbers (Some k) (Some b) (Some m) true = accepted_as (λ s. plan_by (ToSweep s)) (d ∷ p ∷ t ∷ params) (o ∷ []) (request k b m)
      ∙ sym (map_two plan_by ToSweep (taken (request k b m)))
  sweep_numbers (Some k) (Some b) (Some m) false = refl

sweep_asked : (words : List (List ℕ)) → sweep words ≡ option_map plan_by (option_map ToSweep (sweep_in words))
sweep_asked [] = refl
sweep_asked (a ∷ []) = refl
sweep_asked (a ∷ b ∷ []) = refl
sweep_asked (a ∷ b ∷ c ∷ []) = refl
sweep_asked (a ∷ b ∷ c ∷ d ∷ []) = refl
sweep_asked (a ∷ b ∷ c ∷ d ∷ e ∷ []) = refl
sweep_asked (a ∷ b ∷ c ∷ d ∷ e ∷ f ∷ []) = refl
sweep_asked (d ∷ p ∷ o ∷ t ∷ k ∷ bad ∷ missed ∷ params) =
    sweep_numbers d p o t params (number_within FOLDS_DIGITS FOLDS_MIN FOLDS_MAX k) (number_within PRICE_DIGITS 1 PRICE_MAX bad) (number_within PRICE_DIGITS 1 PRICE_MAX missed)
    (nat_lt 0 (length params) && nat_le (length params) SETS_MAX)

-- two words for options differ
apart : (word : List ℕ) → bytes_eq word (codes "--pattmp") ≡ true → bytes_eq word (codes "--cells") ≡ true → ⊥
apart word one two =
    let same : codes "--pattmp" ≡ codes "--cells" = sym ((bytes_eq-Decides word (codes "--pattmp")).0 one) ∙ (bytes_eq-Decides word (codes "--cells")).0 two in
    let e : ◌≡◌ {A = ℕ} 112 99 = ap (λ (l : List ℕ). get_or l 2 0) same in
    omega arith

-- equal words are tested alike
alike : (first second word : List ℕ) → bytes_eq first second ≡ true → bytes_eq first word ≡ bytes_eq second word
alike first second word same = ap (λ (w : List ℕ). bytes_eq w word) ((bytes_eq-Decides first second).0 same)

-- words that pass one test are equal
equal : (first second word : List ℕ) → bytes_eq first second ≡ false → bytes_eq first word ≡ true → bytes_eq second word ≡ true → ⊥
equal first second word differ one two =
    let same : bytes_eq first second ≡ true = (bytes_eq-Decides first second).1 ((bytes_eq-Decides first word).0 one ∙ sym ((bytes_eq-Decides second word).0 two)) in
    cc

module _ (d p o t a r : List ℕ) where
  -- the names with those of the options
  abbrev pub named : Option (List ℕ) → Option (List ℕ) → FileNames
  named pattmp cells = record { dict = d; patterns = p; output = o; translate = t; params = a; report = r; pattmp = pattmp; cells = cells }

  -- both are none, or both come of the same options
  abbrev pub AreAsked : Option (List (Given × List ℕ)) → Option FileNames → Type 0
  AreAsked asked names = ((asked ≡ None) × (names ≡ None))
      ⊎ ((pattmp : Option (List ℕ)) × (cells : Option (List ℕ)) × (asked ≡ Some (asked_of (named pattmp cells))) × (names ≡ Some (named pattmp cells)))

  one_option : (name : List ℕ) (b c : Bool)
      → AreAsked (option_map (λ g. g ∷ []) (if b then Some (given.Pattmp, name) else (if c then Some (given.Cells, name) else None)))
      (if b then Some (record (named None None) { pattmp = Some name }) else (if c then Some (record (named None None) { cells = Some name }) else None))
  one_option name true c = inr (Some name, None, refl, refl)
  one_option name false true = inr (None, Some name, refl, refl)
  one_option name false false = inl (refl, refl)

  -- a word is an option for the list or for the cells, and two words are equal
  two_options : (one two : List ℕ) (b1 b2 b3 b4 b5 : Bool) → (b1 ≡ true → b3 ≡ true → ⊥) → (b4 ≡ true → b2 ≡ true → ⊥) → (b5 ≡ true → b1 ≡ b4) → (b5 ≡ true → b3 ≡ b2)
      → (b5 ≡ false → b1 ≡ true → b4 ≡ true → ⊥) → (b5 ≡ false → b3 ≡ true → b2 ≡ true → ⊥)
      → AreAsked (if b1 && b2 then Some ((given.Pattmp, one) ∷ (given.Cells, two) ∷ []) else (if b3 && b4 then Some ((given.Pattmp, two) ∷ (given.Cells, one) ∷ []) else None))
      (if b5 then None else option_and_then (λ (n : FileNames). if b4 then Some (record n { pattmp = Some two }) else (if b2 then Some (record n { cells = Some two }) else None))
      (if b1 then Some (record (named None None) { pattmp = Some one }) else (if b3 then Some (record (named None None) { cells = Some one }) else None)))
  two_options one two true b2 true b4 b5 h k same same' apart apart' = absurd (h refl refl)
  two_options one two true true false true b5 h k same same' apart apart' = absurd (k refl refl)
  two_options one two true true false false true h k same same' apart apart' = absurd (let e : true ≡ false = same refl in cc)
  two_options one two true true false false false h k same same' apart apart' = inr (Some one, Some two, refl, refl)
  two_options one two true false false b4 true h k same same' apart apart' = inl (refl, refl)
  two_options one two true false false true false h k same same' apart apart' = absurd (apart refl refl refl)
  two_options one two true false false false false h k same same' apart apart' = inl (refl, refl)
  two_options one two false b2 true true true h k same same' apart apart' = absurd (let e : false ≡ true = same refl in cc)
  two_options one two false b2 true true false h k same same' apart apart' = inr (Some two, Some one, refl, refl)
  two_options one two false b2 true false true h k same same' apart apart' = inl (refl, refl)
  two_options one two false true true false false h k same same' apart apart' = absurd (apart' refl refl refl)
  two_options one two false false true false false h k same same' apart apart' = inl (refl, refl)
  two_options one two false b2 false b4 true h k same same' apart apart' = inl (refl, refl)
  two_options one two false b2 false b4 false h k same same' apart apart' = inl (refl, refl)

  pub are_asked : (options : List (List ℕ)) → AreAsked (files_asked options) (with_options (named None None) options)
  are_asked [] = inr (None, None, refl, refl)
  are_asked (option ∷ []) = inl (refl, refl)
  are_asked (option ∷ name ∷ []) = one_option name (bytes_eq option (codes "--pattmp")) (bytes_eq option (codes "--cells"))
  are_asked (first ∷ one ∷ second ∷ []) = inl (refl, refl)
  are_asked (first ∷ one ∷ second ∷ two ∷ []) =
      two_options one two (bytes_eq first (codes "--pattmp")) (bytes_eq second (codes "--cells")) (bytes_eq first (codes "--cells")) (bytes_eq second (codes "--pattmp")) (bytes_eq first second)
      (apart first) (apart second) (alike first second (codes "--pattmp")) (alike first second (codes "--cells")) (equal first second (codes "--pattmp")) (equal first second (codes "--cells"))
  are_asked (first ∷ one ∷ second ∷ two ∷ more ∷ words) = inl (refl, refl)

  -- what `generate` and `audit` do with the options
  abbrev generates : Option (List (Given × List ℕ)) → Option Plan
  generates asked = option_and_then (λ asked. where_accepted (d ∷ p ∷ t ∷ a ∷ []) (map (λ g. g.1) (files_of o asked r)) (plan_of_generate d p t a (files_of o asked r))) asked

  abbrev to_generate : Option FileNames → Option Plan
  to_generate names = option_map plan_by (option_map ToGenerate (option_and_then (λ n. where_accepted (input_names n) (output_names n) n) names))

  abbrev audits : Option (List (Given × List ℕ)) → Option Plan
  audits asked = option_and_then (λ asked. if list_all is_name (d ∷ p ∷ t ∷ a ∷ map (λ g. g.1) (files_of o asked r)) && not (list_any (λ g. elim g.0 [ given.Cells ↦ true | other ↦ false ]) asked)
      then Some (plan_of_audit d p t a (files_of o asked r)) else None) asked

  abbrev to_audit : Option FileNames → Option Plan
  to_audit names = option_map plan_by (option_map ToAudit (option_and_then (λ n. if list_all is_name (input_names n ++ output_names n) && is_none n.cells then Some n else None) names))

  generated_by : (pattmp cells : Option (List ℕ)) → generates (Some (asked_of (named pattmp cells))) ≡ to_generate (Some (named pattmp cells))
  generated_by pattmp cells = by_options pattmp cells
    where
      taken : (n : FileNames) → where_accepted (input_names n) (output_names n) (generate_plan n)
          ≡ option_map plan_by (option_map ToGenerate (where_accepted (input_names n) (output_names n) n))
      taken n = accepted_as (λ n. plan_by (ToGenerate n)) (input_names n) (output_names n) n ∙ sym (map_two plan_by ToGenerate (where_accepted (input_names n) (output_names n) n))

      by_options : (pattmp cells : Option (List ℕ)) → generates (Some (asked_of (named pattmp cells))) ≡ to_generate (Some (named pattmp cells))
      by_options None None = taken (named None None)
      by_options None (Some c) = taken (named None (Some c))
      by_options (Some m) None = taken (named (Some m) None)
      by_options (Some m) (Some c) = taken (named (Some m) (Some c))

  audited_by : (pattmp cells : Option (List ℕ)) → audits (Some (asked_of (named pattmp cells))) ≡ to_audit (Some (named pattmp cells))
  audited_by pattmp cells = by_options pattmp cells
    where
      taken : (b : Bool) (n : FileNames) → (if b then Some (audit_plan n) else None) ≡ option_map plan_by (option_map ToAudit (if b then Some n else None))
      taken true n = refl
      taken false n = refl

      by_options : (pattmp cells : Option (List ℕ)) → audits (Some (asked_of (named pattmp cells))) ≡ to_audit (Some (named pattmp cells))
      by_options None None = let n = named None None in taken (list_all is_name (input_names n ++ output_names n) && true) n
      by_options None (Some c) = let n = named None (Some c) in taken (list_all is_name (input_names n ++ output_names n) && false) n
      by_options (Some m) None = let n = named (Some m) None in taken (list_all is_name (input_names n ++ output_names n) && true) n
      by_options (Some m) (Some c) = let n = named (Some m) (Some c) in taken (list_all is_name (input_names n ++ output_names n) && false) n

  both_asked : (asked : Option (List (Given × List ℕ))) (names : Option FileNames) → AreAsked asked names → (generates asked ≡ to_generate names) × (audits asked ≡ to_audit names)
  both_asked asked names (inl none) = (ap generates none.0 ∙ ap to_generate (sym none.1), ap audits none.0 ∙ ap to_audit (sym none.1))
  both_asked asked names (inr h) =
      (ap generates h.2 ∙ generated_by h.0 h.1 ∙ ap to_generate (sym h.3), ap audits h.2 ∙ audited_by h.0 h.1 ∙ ap to_audit (sym h.3))

generate_asked : (words : List (List ℕ)) → generate words ≡ option_map plan_by (option_map ToGenerate (generate_in words))
generate_asked [] = refl
generate_asked (a ∷ []) = refl
generate_asked (a ∷ b ∷ []) = refl
generate_asked (a ∷ b ∷ c ∷ []) = refl
generate_asked (a ∷ b ∷ c ∷ d ∷ []) = refl
generate_asked (a ∷ b ∷ c ∷ d ∷ e ∷ []) = refl
generate_asked (d ∷ p ∷ o ∷ t ∷ a ∷ r ∷ options) = (both_asked d p o t a r (files_asked options) (with_options (named d p o t a r None None) options) (are_asked d p o t a r options)).0

audit_asked : (words : List (List ℕ)) → audit words ≡ option_map plan_by (option_map ToAudit (audit_in words))
audit_asked [] = refl
audit_asked (a ∷ []) = refl
audit_asked (a ∷ b ∷ []) = refl
audit_asked (a ∷ b ∷ c ∷ []) = refl
audit_asked (a ∷ b ∷ c ∷ d ∷ []) = refl
audit_asked (a ∷ b ∷ c ∷ d ∷ e ∷ []) = refl
audit_asked (d ∷ p ∷ o ∷ t ∷ a ∷ r ∷ options) = (both_asked d p o t a r (files_asked options) (with_options (named d p o t a r None None) options) (are_asked d p o t a r options)).1

-- a plan or what is asked for, by a test
choice : {X Y : Type 0} (f : X → Y) (b : Bool) (x y : Option X) (x' y' : Option Y) → x' ≡ option_map f x → y' ≡ option_map f y → (if b then x' else y') ≡ option_map f (if b then x else y)
choice f true x y x' y' one two = one
choice f false x y x' y' one two = two

pub plan_asked : (words : List (List ℕ)) → plan_of words ≡ option_map plan_by (request_of words)
plan_asked [] = refl
plan_asked (name ∷ rest) =
    choice plan_by (bytes_eq name (codes "generate")) _ _ _ _ (generate_asked rest) (choice plan_by (bytes_eq name (codes "audit")) _ _ _ _ (audit_asked rest)
    (choice plan_by (bytes_eq name (codes "sample")) _ _ _ _ (sample_asked rest) (choice plan_by (bytes_eq name (codes "pack")) _ _ _ _ (pack_asked rest)
    (choice plan_by (bytes_eq name (codes "totals")) _ _ _ _ (totals_asked rest) (choice plan_by (bytes_eq name (codes "prune")) _ _ _ _ (prune_asked rest)
    (choice plan_by (bytes_eq name (codes "sweep")) _ None _ None (sweep_asked rest) refl))))))
