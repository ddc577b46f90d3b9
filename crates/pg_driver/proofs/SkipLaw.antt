-- A pass that can be skipped counts nothing.
use Rattle.std.proofs.Common.{◌≡◌, ℕ, suc, ◌+◌, ◌==◌, ◌≤◌, Bool, true, false, cond, ◌&&◌, ◌||◌, ⊎_elim, List, [], ◌∷◌, ◌++◌, length, refl, sym, ap, subst, ◌∙◌, arith}
use Rattle.std.specs.List.{list_all}
use Rattle.std.proofs.lemmas.Bool.{and_parts, or_cases}
use Rattle.std.proofs.lemmas.Bool.Decides.{Decides-eqb, nat_tests}
use Rattle.pg_types.specs.declared.parameters.LevelParams.{LevelParams}
use Rattle.pg_translate.specs.Alphabets.{Alphabet}
use Rattle.pg_dict.specs.Word.{Word}
use Rattle.pg_patterns.specs.Values.{Patterns}
use Rattle.pg_select.specs.Inside.laws.Laws.{CountsNothing}
use Rattle.pg_select.specs.declared.pass.Pass.{Pass}
use Rattle.pg_select.specs.CountedPositions.{Candidate}
use Rattle.pg_select.specs.Inside.words.PositionLists.{with_sums}
use Rattle.pg_select.specs.Windows.{Hopeless}
use Rattle.pg_select.proofs.LawsCounts.{candidates_listed}
use Rattle.pg_select.proofs.LawsLater.{nothing_later}
use Rattle.pg_select.proofs.LawsLonger.{nothing_behind, nothing_before}
use Rattle.pg_select.proofs.LawsNothing.{nothing_counts_after, later_after_pass}
use Rattle.pg_driver.specs.Inside.records.AccountLines.{is_skippable, left_none}
use Rattle.pg_driver.specs.Inside.level.Levels.{SkippableCountNothing}
use Rattle.pg_driver.specs.Traces.{Knowledge, PassTrace, is_chosen, is_hopeless, is_entered, known_after, pass_trace}
use Rattle.pg_driver.specs.Inside.choices.Fates.{chosen_of, hopeless_of}
use Rattle.pg_driver.proofs.FateLaws.{by_fate}
use Rattle.pg_driver.proofs.ListedTraces.{of_listed}
use Rattle.pg_driver.proofs.TraceSteps.{skippable_push}

chosen_or_hopeless : (h x : Bool) → (h || x) ≡ (x || h)
chosen_or_hopeless true true = refl
chosen_or_hopeless true false = refl
chosen_or_hopeless false true = refl
chosen_or_hopeless false false = refl

all_chosen_or_hopeless : (params : LevelParams) (cs : List Candidate) → list_all (is_entered params) cs ≡ list_all (λ c. is_chosen params c || is_hopeless params c) cs
all_chosen_or_hopeless params [] = refl
all_chosen_or_hopeless params (c ∷ cs) = λ i. chosen_or_hopeless (is_hopeless params c) (is_chosen params c) i && all_chosen_or_hopeless params cs i

module _ (m : Alphabet) (words : List Word) (P : Patterns) (H : Hopeless) where
  -- a pass with the same numbers
  same_pass : (number a b x y : ℕ) → a ≡ b → x ≡ y → CountsNothing m words (record { level = number; len = a; dot = x }) P H → CountsNothing m words (record { level = number; len = b; dot = y }) P H
  same_pass number a b x y len dot closed =
      subst (λ (n : ℕ). CountsNothing m words (record { level = number; len = n; dot = y }) P H) len
      (subst (λ (d : ℕ). CountsNothing m words (record { level = number; len = a; dot = d }) P H) dot closed)

  -- the passes that are longer than a closed one by a sign
  longer_closed : (number l d len dot : ℕ) → CountsNothing m words (record { level = number; len = l; dot = d }) P H → (l + 1 == len && (d == dot || d + 1 == dot))
      ≡ true → CountsNothing m words (record { level = number; len = len; dot = dot }) P H
  longer_closed number l d len dot closed is =
      let parts = and_parts (l + 1 == len) (d == dot || d + 1 == dot) is in
      let longer : l + 1 ≡ len = (Decides-eqb (l + 1) len).0 parts.0 in
      ⊎_elim
      (λ (behind : (d == dot) ≡ true). same_pass number (l + 1) len d dot longer ((Decides-eqb d dot).0 behind) (nothing_behind m words (record { level = number; len = l; dot = d }) P H closed))
      (λ (before : (d + 1 == dot) ≡ true). same_pass number (l + 1) len (d + 1) dot longer ((Decides-eqb (d + 1) dot).0 before)
      (nothing_before m words (record { level = number; len = l; dot = d }) P H closed))
      (or_cases (d == dot) (d + 1 == dot) parts.1)

-- a pass that left no candidate counts nothing from its end on
nothing_after : (T : Alphabet) (W : List Word) (params : LevelParams) (known : Knowledge) (pass : Pass)
    → list_all (λ c. is_chosen params c || is_hopeless params c) (pass_trace T W params known pass).candidates ≡ true
    → CountsNothing T W pass (known_after (pass_trace T W params known pass)).patterns (known_after (pass_trace T W params known pass)).hopeless
nothing_after T W params known pass =
    of_listed T W params known pass
    (λ (q : PassTrace). list_all (λ c. is_chosen params c || is_hopeless params c) q.candidates ≡ true → CountsNothing T W pass (known_after q).patterns (known_after q).hopeless)
    (nothing_counts_after T W pass known.patterns known.hopeless (λ c. is_chosen params c) (λ c. is_hopeless params c))

-- each pass that can be skipped counts nothing, after a pass too
pub closed_on : (T : Alphabet) (W : List Word) (params : LevelParams) (number l d : ℕ) (known : Knowledge) (ps : List PassTrace) → SkippableCountNothing T W number ps known
    → SkippableCountNothing T W number (ps ++ pass_trace T W params known (record { level = number; len = l; dot = d }) ∷ [])
    (known_after (pass_trace T W params known (record { level = number; len = l; dot = d })))
closed_on T W params number l d known ps closed len dot is =
    let pass : Pass = record { level = number; len = l; dot = d } in
    let q : PassTrace = pass_trace T W params known pass in
    let after : Knowledge = known_after q in
    let none : Bool = left_none q in
    ⊎_elim
    (λ (here : (none && (l + 1 == len && (d == dot || d + 1 == dot))) ≡ true).
    let parts = and_parts none (l + 1 == len && (d == dot || d + 1 == dot)) here in
    longer_closed T W after.patterns after.hopeless number l d len dot
    (nothing_after T W params known pass (sym (all_chosen_or_hopeless params q.candidates) ∙ parts.0))
    parts.1)
    (λ (before : is_skippable ps (record { level = number; len = len; dot = dot }) ≡ true).
    nothing_later T W (record { level = number; len = len; dot = dot }) known.patterns after.patterns known.hopeless after.hopeless
    (later_after_pass number d known.patterns known.hopeless (chosen_of params q.candidates) (hopeless_of params q.candidates)) (closed len dot before))
    (or_cases (none && (l + 1 == len && (d == dot || d + 1 == dot))) (is_skippable ps (record { level = number; len = len; dot = dot }))
    (sym (skippable_push ps q (record { level = number; len = len; dot = dot })) ∙ is))

-- so it has no candidate
pub skipped_none : (T : Alphabet) (W : List Word) (params : LevelParams) (number len dot : ℕ) (known : Knowledge) (ps : List PassTrace) → SkippableCountNothing T W number ps known
    → is_skippable ps (record { level = number; len = len; dot = dot }) ≡ true
    → (pass_trace T W params known (record { level = number; len = len; dot = dot })).candidates ≡ []
skipped_none T W params number len dot known ps closed is =
    candidates_listed T W (record { level = number; len = len; dot = dot }) known.patterns known.hopeless ∙ ap with_sums (closed len dot is)

-- what became of candidates tells whether one was left
chosen_within : (params : LevelParams) (cs : List Candidate) → length (chosen_of params cs) + length (hopeless_of params cs) ≤ length cs
chosen_within params [] = omega arith
chosen_within params (c ∷ cs) =
    let rest = chosen_within params cs in
    by_fate params c (λ x h. length (cond x (c ∷ chosen_of params cs) (chosen_of params cs)) + length (cond h (c ∷ hopeless_of params cs) (hopeless_of params cs)) ≤ length (c ∷ cs))
    (omega (arith, rest)) (omega (arith, rest)) (omega (arith, rest))

one_more_left : (a b n : ℕ) → (suc a + b == suc n) ≡ (a + b == n)
one_more_left a b n = grind (arith, nat_tests)

one_more_right : (a b n : ℕ) → (a + suc b == suc n) ≡ (a + b == n)
one_more_right a b n = grind (arith, nat_tests)

one_is_left : (a b n : ℕ) → a + b ≤ n → (a + b == suc n) ≡ false
one_is_left a b n within = grind (arith, nat_tests)

pub left_none_is : (params : LevelParams) (cs : List Candidate) → (length (chosen_of params cs) + length (hopeless_of params cs) == length cs) ≡ list_all (is_entered params) cs
left_none_is params [] = refl
left_none_is params (c ∷ cs) =
    let rest : (length (chosen_of params cs) + length (hopeless_of params cs) == length cs) ≡ list_all (is_entered params) cs = left_none_is params cs in
    by_fate params c (λ x h. (length (cond x (c ∷ chosen_of params cs) (chosen_of params cs)) + length (cond h (c ∷ hopeless_of params cs) (hopeless_of params cs)) == length (c ∷ cs))
    ≡ ((h || x) && list_all (is_entered params) cs))
    (one_more_left (length (chosen_of params cs)) (length (hopeless_of params cs)) (length cs) ∙ rest)
    (one_more_right (length (chosen_of params cs)) (length (hopeless_of params cs)) (length cs) ∙ rest)
    (one_is_left (length (chosen_of params cs)) (length (hopeless_of params cs)) (length cs) (chosen_within params cs))
