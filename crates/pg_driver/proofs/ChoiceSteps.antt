-- A step of the choice among the candidates.
use Rattle.std.proofs.Common.{◌≡◌, ℕ, ◌+◌, ◌≤◌, Bool, true, false, cond, ◌||◌, List, [], ◌∷◌, ◌++◌, length, map, fold, Option, Some, None, refl, sym, ap, subst, ◌∙◌, arith}
use Rattle.std.specs.Option.{option_map}
use Rattle.std.specs.List.{sum_by}
use Rattle.std.specs.FinMap.Entries.{put}
use Rattle.std.proofs.lemmas.List.{length-append}
use Rattle.std.proofs.lemmas.List.Elements.{filter-append}
use Rattle.std.proofs.lemmas.List.Sums.{fold-append, sum_by-append, sum_by-cons}
use Rattle.pg_types.specs.declared.parameters.LevelParams.{LevelParams}
use Rattle.pg_types.specs.Placement.{Families, enter}
use Rattle.pg_patterns.specs.DottedSigns.{dotted_cmp}
use Rattle.pg_patterns.specs.Values.{Patterns, raise}
use Rattle.pg_types.specs.Inside.counting.Counts.{Counts}
use Rattle.pg_select.specs.Inside.engine.Meanings.{Meaning, after_choose, after_give_up}
use Rattle.pg_select.specs.declared.choice.Choice.{Choice}
use Rattle.pg_select.specs.declared.choice.Choice.TheVariants.{Hopeless as GivenUp, Chosen, Left}
use Rattle.pg_select.specs.declared.pass.Pass.{Pass}
use Rattle.pg_select.specs.CountedPositions.{Candidate}
use Rattle.pg_select.specs.Windows.{Hopeless}
use Rattle.pg_driver.specs.declared.choices.Choices.{Choices}
use Rattle.pg_driver.specs.Inside.counting.Counting.{weight_in}
use Rattle.pg_driver.specs.Inside.choices.Choosing.{candidate_of, with_candidates, HasChosen}
use Rattle.pg_driver.specs.Inside.level.States.{State, state_of, state_after}
use Rattle.pg_driver.specs.Traces.{is_chosen, is_hopeless, is_entered}
use Rattle.pg_driver.specs.Inside.choices.Fates.{choice_of, chosen_of, hopeless_of, entered_of, chooses, gives_up}
use Rattle.pg_driver.proofs.FateLaws.{chosen_is, hopeless_is}

abbrev Entry : Type 0
Entry = List ℕ × (ℕ × ℕ)

-- the sums of the candidates are within those of the counts
pub good_within : (counts : Counts) → sum_by (λ (c : Candidate). c.good) (map candidate_of counts) ≤ weight_in counts
good_within [] = omega arith
good_within (e ∷ es) = omega (arith, good_within es, sum_by-cons (λ (c : Candidate). c.good) (candidate_of e) (map candidate_of es), sum_by-cons (λ (e : Entry). e.1.0 + e.1.1) e es)

pub bad_within : (counts : Counts) → sum_by (λ (c : Candidate). c.bad) (map candidate_of counts) ≤ weight_in counts
bad_within [] = omega arith
bad_within (e ∷ es) = omega (arith, bad_within es, sum_by-cons (λ (c : Candidate). c.bad) (candidate_of e) (map candidate_of es), sum_by-cons (λ (e : Entry). e.1.0 + e.1.1) e es)

abbrev state : Patterns → Hopeless → Option Families → State
state P H fs = record { known = record { patterns = P; hopeless = H }; families = fs }

same_states : (P Q : Patterns) (H I : Hopeless) (fs gs : Option Families) → P ≡ Q → H ≡ I → fs ≡ gs → state P H fs ≡ state Q I gs
same_states P Q H I fs gs p q r = λ i. record { known = record { patterns = p i; hopeless = q i }; families = r i }

-- the state after a pass that has these candidates
abbrev pub state_with : ℕ → LevelParams → Pass → State → List Candidate → State
state_with signs params pass s cs = state_after signs s.families (record { pass = pass; params = params; before = s.known; candidates = cs })

families_append : (signs : ℕ) (xs ys : List Candidate) (o : Option Families) → option_map (λ fs. fold (λ fs c. enter signs fs c.window) fs (xs ++ ys)) o
    ≡ option_map (λ fs. fold (λ fs c. enter signs fs c.window) fs ys) (option_map (λ fs. fold (λ fs c. enter signs fs c.window) fs xs) o)
families_append signs xs ys None = refl
families_append signs xs ys (Some fs) = ap (λ (gs : Families). Some gs) (fold-append (λ (fs : Families) (c : Candidate). enter signs fs c.window) fs xs ys)

-- some candidates, and then others
pub state_append : (signs : ℕ) (params : LevelParams) (pass : Pass) (s : State) (xs ys : List Candidate) → state_with signs params pass s (xs ++ ys)
    ≡ state_with signs params pass (state_with signs params pass s xs) ys
state_append signs params pass s xs ys =
    same_states _ _ _ _ _ _
    (ap (fold (λ P (c : Candidate). raise P (c.window, pass.dot) pass.level) s.known.patterns) (filter-append (λ c. is_chosen params c) xs ys)
    ∙ fold-append (λ P (c : Candidate). raise P (c.window, pass.dot) pass.level) s.known.patterns (chosen_of params xs) (chosen_of params ys))
    (ap (fold (λ H (c : Candidate). put dotted_cmp (c.window, pass.dot) (tt {0}) H) s.known.hopeless) (filter-append (λ c. is_hopeless params c) xs ys)
    ∙ fold-append (λ H (c : Candidate). put dotted_cmp (c.window, pass.dot) (tt {0}) H) s.known.hopeless (hopeless_of params xs) (hopeless_of params ys))
    (ap (λ (cs : List Candidate). option_map (λ fs. fold (λ fs c. enter signs fs c.window) fs cs) s.families) (filter-append (λ c. is_entered params c) xs ys)
    ∙ families_append signs (entered_of params xs) (entered_of params ys) s.families)

families_none : (o : Option Families) → option_map (λ fs. fs) o ≡ o
families_none None = refl
families_none (Some fs) = refl

-- no candidate
pub state_none : (signs : ℕ) (params : LevelParams) (pass : Pass) (s : State) → state_with signs params pass s [] ≡ s
state_none signs params pass s = same_states _ _ _ _ _ _ refl refl (families_none s.families)

abbrev numbers : ℕ → ℕ → ℕ → ℕ → ℕ → Choices
numbers a b c d e = record { candidates = a; chosen = b; hopeless = c; good = d; bad = e }

same_numbers : (a b c d e f g h j k : ℕ) → a ≡ f → b ≡ g → c ≡ h → d ≡ j → e ≡ k → numbers a b c d e ≡ numbers f g h j k
same_numbers a b c d e f g h j k p q r s t = λ i. record { candidates = p i; chosen = q i; hopeless = r i; good = s i; bad = t i }

pub numbers_append : (params : LevelParams) (s : Choices) (xs ys : List Candidate) → with_candidates params s (xs ++ ys) ≡ with_candidates params (with_candidates params s xs) ys
numbers_append params s xs ys =
    let chosen = filter-append (λ (c : Candidate). is_chosen params c) xs ys in
    let hopeless = filter-append (λ (c : Candidate). is_hopeless params c) xs ys in
    same_numbers _ _ _ _ _ _ _ _ _ _
    (omega (arith, length-append xs ys))
    (omega (arith, ap (λ (cs : List Candidate). length cs) chosen, length-append (chosen_of params xs) (chosen_of params ys)))
    (omega (arith, ap (λ (cs : List Candidate). length cs) hopeless, length-append (hopeless_of params xs) (hopeless_of params ys)))
    (omega (arith, ap (λ (cs : List Candidate). sum_by (λ c. c.good) cs) chosen, sum_by-append (λ (c : Candidate). c.good) (chosen_of params xs) (chosen_of params ys)))
    (omega (arith, ap (λ (cs : List Candidate). sum_by (λ c. c.bad) cs) chosen, sum_by-append (λ (c : Candidate). c.bad) (chosen_of params xs) (chosen_of params ys)))

-- what one candidate adds at most
pub good_adds : (params : LevelParams) (s : Choices) (c : Candidate) → (with_candidates params s (c ∷ [])).good ≤ s.good + c.good
good_adds params s c = elim (is_chosen params c) as (λ (b : Bool). s.good + sum_by (λ (c : Candidate). c.good) (cond b (c ∷ []) []) ≤ s.good + c.good) [ true ↦ omega arith | false ↦ omega arith ]

pub bad_adds : (params : LevelParams) (s : Choices) (c : Candidate) → (with_candidates params s (c ∷ [])).bad ≤ s.bad + c.bad
bad_adds params s c = elim (is_chosen params c) as (λ (b : Bool). s.bad + sum_by (λ (c : Candidate). c.bad) (cond b (c ∷ []) []) ≤ s.bad + c.bad) [ true ↦ omega arith | false ↦ omega arith ]

-- what the choice keeps
abbrev pub KeepsButState : Meaning → Meaning → Type 0
KeepsButState old new = new ≡ record old { patterns = new.patterns; hopeless = new.hopeless; families = new.families; tidy = new.tidy }

pub keeps_on : (m0 m n : Meaning) → KeepsButState m0 m → KeepsButState m n → KeepsButState m0 n
keeps_on m0 m n first then = then ∙ ap (λ (x : Meaning). record x { patterns = n.patterns; hopeless = n.hopeless; families = n.families; tidy = n.tidy }) first

-- a candidate, and then the rest
pub state_step : (m0 m n : Meaning) (params : LevelParams) (c : Candidate) (cs : List Candidate) (whole : State) → KeepsButState m0 m → HasChosen params (c ∷ []) m n
    → state_with m0.signs params m0.pass (state_of m) (c ∷ cs) ≡ whole → state_with m0.signs params m0.pass (state_of n) cs ≡ whole
state_step m0 m n params c cs whole kept has left =
    let here : state_of n ≡ state_with m0.signs params m0.pass (state_of m) (c ∷ []) = has.state ∙ ap (λ (x : Meaning). state_with x.signs params x.pass (state_of m) (c ∷ [])) kept in
    ap (λ (s : State). state_with m0.signs params m0.pass s cs) here ∙ sym (state_append m0.signs params m0.pass (state_of m) (c ∷ []) cs) ∙ left

-- the numbers with one candidate, by whether it is chosen and whether it is hopeless
abbrev numbers_by : Choices → Candidate → Bool → Bool → Choices
numbers_by n c chosen hopeless =
    numbers (n.candidates + 1) (n.chosen + length (cond chosen (c ∷ []) [])) (n.hopeless + length (cond hopeless (c ∷ []) []))
    (n.good + sum_by (λ (x : Candidate). x.good) (cond chosen (c ∷ []) [])) (n.bad + sum_by (λ (x : Candidate). x.bad) (cond chosen (c ∷ []) []))

-- and the state
abbrev state_by : ℕ → Pass → State → Candidate → Bool → Bool → State
state_by signs pass s c chosen hopeless =
    state (fold (λ P (c : Candidate). raise P (c.window, pass.dot) pass.level) s.known.patterns (cond chosen (c ∷ []) []))
    (fold (λ H (c : Candidate). put dotted_cmp (c.window, pass.dot) (tt {0}) H) s.known.hopeless (cond hopeless (c ∷ []) []))
    (option_map (λ fs. fold (λ fs (c : Candidate). enter signs fs c.window) fs (cond (hopeless || chosen) (c ∷ []) [])) s.families)

module _ (params : LevelParams) (c : Candidate) (fate : Choice) (is : choice_of params c ≡ fate) where
  numbers_of : (n : Choices) → numbers_by n c (chooses fate) (gives_up fate) ≡ with_candidates params n (c ∷ [])
  numbers_of n = λ i. numbers_by n c (sym (chosen_is params c ∙ ap chooses is) i) (sym (hopeless_is params c ∙ ap gives_up is) i)

  state_after_one : (signs : ℕ) (pass : Pass) (s : State) → state_by signs pass s c (chooses fate) (gives_up fate) ≡ state_with signs params pass s (c ∷ [])
  state_after_one signs pass s = λ i. state_by signs pass s c (sym (chosen_is params c ∙ ap chooses is) i) (sym (hopeless_is params c ∙ ap gives_up is) i)

-- one candidate is left
pub left_one : (params : LevelParams) (m : Meaning) (c : Candidate) → choice_of params c ≡ Left → HasChosen params (c ∷ []) m m
left_one params m c is = record {
  state = same_states _ _ _ _ _ _ refl refl (sym (families_none m.families)) ∙ state_after_one params c Left is m.signs m.pass (state_of m);
  kept = refl;
}

-- one candidate is chosen
pub chosen_one : (params : LevelParams) (old new : Meaning) (c : Candidate) → choice_of params c ≡ Chosen → new ≡ after_choose old c.window new.tidy → HasChosen params (c ∷ []) old new
chosen_one params old new c is chosen = record {
  state = ap state_of chosen ∙ state_after_one params c Chosen is old.signs old.pass (state_of old);
  kept = subst (λ (x : Meaning). KeepsButState old x) (sym chosen) refl;
}

-- one candidate is given up
pub hopeless_one : (params : LevelParams) (old new : Meaning) (c : Candidate) → choice_of params c ≡ GivenUp → new ≡ after_give_up old c.window new.tidy → HasChosen params (c ∷ []) old new
hopeless_one params old new c is given = record {
  state = ap state_of given ∙ state_after_one params c GivenUp is old.signs old.pass (state_of old);
  kept = subst (λ (x : Meaning). KeepsButState old x) (sym given) refl;
}

-- the numbers with a candidate that is left
pub left_numbers : (params : LevelParams) (n : Choices) (c : Candidate) → choice_of params c ≡ Left → record n { candidates = n.candidates + 1 } ≡ with_candidates params n (c ∷ [])
left_numbers params n c is =
    same_numbers (n.candidates + 1) n.chosen n.hopeless n.good n.bad (n.candidates + 1) (n.chosen + 0) (n.hopeless + 0) (n.good + 0) (n.bad + 0) refl
    (omega arith) (omega arith) (omega arith) (omega arith)
    ∙ numbers_of params c Left is n

-- with one that is chosen
pub chosen_numbers : (params : LevelParams) (n : Choices) (c : Candidate) → choice_of params c ≡ Chosen
    → numbers (n.candidates + 1) (n.chosen + 1) n.hopeless (n.good + c.good) (n.bad + c.bad) ≡ with_candidates params n (c ∷ [])
chosen_numbers params n c is =
    same_numbers (n.candidates + 1) (n.chosen + 1) n.hopeless (n.good + c.good) (n.bad + c.bad)
    (n.candidates + 1) (n.chosen + 1) (n.hopeless + 0) (n.good + sum_by (λ (x : Candidate). x.good) (c ∷ [])) (n.bad + sum_by (λ (x : Candidate). x.bad) (c ∷ [])) refl
    refl (omega arith) (omega (arith, sum_by-cons (λ (x : Candidate). x.good) c [])) (omega (arith, sum_by-cons (λ (x : Candidate). x.bad) c []))
    ∙ numbers_of params c Chosen is n

-- and with one that is hopeless
pub hopeless_numbers : (params : LevelParams) (n : Choices) (c : Candidate) → choice_of params c ≡ GivenUp
    → record n { candidates = n.candidates + 1; hopeless = n.hopeless + 1 } ≡ with_candidates params n (c ∷ [])
hopeless_numbers params n c is =
    same_numbers (n.candidates + 1) n.chosen (n.hopeless + 1) n.good n.bad (n.candidates + 1) (n.chosen + 0) (n.hopeless + 1) (n.good + 0) (n.bad + 0) refl
    (omega arith) refl (omega arith) (omega arith)
    ∙ numbers_of params c GivenUp is n
