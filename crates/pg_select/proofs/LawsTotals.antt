-- What a pass makes of the totals.
use Rattle.std.proofs.Common.{◌≡◌, ℕ, ◌+◌, ◌-◌, ◌<◌, ◌≤◌, nat_lt, Bool, true, false, cond, not, ◌&&◌, ◌||◌, List, [], ◌∷◌, length, map, fold, Option, Some, None, max, refl, sym, ap, subst, ◌++◌, ◌∙◌, arith}
use Rattle.std.specs.Bool.{MatchBool}
use Rattle.std.specs.declared.cmp.Ordering.{Ordering}
use Rattle.std.specs.declared.cmp.Ordering.TheVariants.{Less, Equal, Greater}
use Rattle.std.specs.List.{list_any, filter, flat_map, sum_by, slice_index_or}
use Rattle.std.specs.Ordering.{is_eq, is_lt}
use Rattle.std.specs.FinMap.Entries.{is_sorted, below_all}
use Rattle.std.proofs.lemmas.Bool.{and_parts, or_from, ltb-true}
use Rattle.std.proofs.lemmas.Bool.Decides.{nat_tests}
use Rattle.std.proofs.lemmas.List.Sums.{sum_by-cons, sum_by-append}
use Rattle.pg_types.specs.declared.marks.Mark.{Mark}
use Rattle.pg_types.specs.declared.marks.Totals.{Totals}
use Rattle.pg_types.specs.declared.marks.Mark.TheVariants.{Nothing, Error, Missed, Found, DontCare}
use Rattle.pg_translate.specs.Alphabets.{Alphabet}
use Rattle.pg_dict.specs.Word.{Word}
use Rattle.pg_translate.specs.Reach.{positions}
use Rattle.pg_patterns.specs.Values.{Patterns, applies, value_at}
use Rattle.pg_select.specs.Statuses.{is_odd, status_at, position_weight}
use Rattle.pg_select.specs.Sums.{weight_of, totals}
use Rattle.pg_select.specs.Inside.SumSteps.{marks_in, is_found, is_error, is_missed}
use Rattle.pg_select.specs.Windows.{Hopeless, window, fits, is_covered}
use Rattle.pg_select.specs.declared.pass.Pass.{Pass}
use Rattle.pg_select.specs.CountedPositions.{Candidate, counts_as, counted_at}
use Rattle.pg_select.specs.Inside.words.PositionLists.{CountedPosition, counted_positions_at, counted_positions, same_signs, with_window, candidates, with_sums}
use Rattle.pg_select.specs.Inside.words.WordCounts.{counted_positions_in}
use Rattle.pg_select.proofs.LawsCounts.{cmp, same_window, counted_as, is_counted_window, candidates_are_counted, windows_sorted}
use Rattle.pg_select.specs.Inside.laws.Steps.{IsUpTo, candidate_at, is_candidate, patterns_after_pass, good_raised, bad_raised, FindsMore, PreventsMore}
use Rattle.pg_select.specs.Inside.laws.AboveLevel.{counts_above, above_at, above_in, above_positions, good_above, bad_above, MovesAllBut}
use Rattle.pg_types.proofs.BoolFacts.{is_true}
use Rattle.pg_select.proofs.LawsRaised.{same_itself, counted_uncovered, values_after}
use Rattle.pg_select.proofs.LawsClosedDots.{counted_by, counts_by, best_up_to}
use Rattle.std.specs.Cmp.{both_ways}

-- sums that are joined, gained and lost
joined : (x x' y y' a a' b b' n n' k k' : ℕ) → x + a ≡ y + b → x' + a' ≡ y' + b' → n ≡ x + x' → n' ≡ y + y' → k ≡ a + a' → k' ≡ b + b' → n + k ≡ n' + k'
joined x x' y y' a a' b b' n n' k k' here rest p q r s = omega arith

-- a sum of which a part stays is gained, or lost
gained : (new old stays part kept sum : ℕ) → new + stays ≡ old + part → kept ≡ stays → sum ≡ part → kept ≤ sum → new ≡ old + (sum - kept)
gained new old stays part kept sum e p q within = omega arith

lost : (new old stays part kept sum : ℕ) → new + part ≡ old + stays → kept ≡ stays → sum ≡ part → kept ≤ sum → new + (sum - kept) ≡ old
lost new old stays part kept sum e p q within = omega arith

abbrev Windows : Type 0
Windows = List (List ℕ × Unit {0})

sum_same : {X : Type 0} (f g : X → ℕ) (xs : List X) → ((x : X) → f x ≡ g x) → sum_by f xs ≡ sum_by g xs
sum_same f g [] same = refl
sum_same f g (x ∷ xs) same =
    let rest : sum_by f xs ≡ sum_by g xs = sum_same f g xs same in
    let here : f x ≡ g x = same x in
    omega (arith, sum_by-cons f x xs, sum_by-cons g x xs)

sum_none : {X : Type 0} (xs : List X) → sum_by (λ (x : X). 0) xs ≡ 0
sum_none [] = refl
sum_none {X} (x ∷ xs) = let rest : sum_by (λ (x : X). 0) xs ≡ 0 = sum_none xs in omega (arith, sum_by-cons (λ (x : X). 0) x xs)

same_turned : (u v : List ℕ) → same_signs u v ≡ same_signs v u
same_turned u v =
    both_ways (same_signs u v) (same_signs v u)
    (λ is. ap (λ (x : List ℕ). same_signs x u) (sym (same_window u v is)) ∙ same_itself u)
    (λ is. ap (λ (x : List ℕ). same_signs x v) (sym (same_window v u is)) ∙ same_itself v)

-- sums over windows that pass a test, each of what is counted of it that is of a kind
module _ (kind : CountedPosition → Bool) (test : List ℕ → Bool) where
  abbrev own : List ℕ → CountedPosition → ℕ
  own u s = cond (same_signs u s.window && kind s) s.weight 0

  abbrev among : List (List ℕ) → CountedPosition → ℕ
  among us s = cond (kind s && (list_any (same_signs s.window) us && test s.window)) s.weight 0

  point : (S k t r a : Bool) (w : ℕ) → (S ≡ true → (a ≡ false) × (t ≡ r)) → cond t (cond (S && k) w 0) 0 + cond (k && (a && r)) w 0 ≡ cond (k && ((S || a) && r)) w 0
  point true k t r true w is = cc (is refl).0
  point true true true true false w is = omega arith
  point true true true false false w is = cc (is refl).1
  point true true false true false w is = cc (is refl).1
  point true true false false false w is = refl
  point true false true r false w is = refl
  point true false false r false w is = refl
  point false true true r a w is = omega arith
  point false true false r a w is = omega arith
  point false false true r a w is = refl
  point false false false r a w is = refl

  -- one window more
  one_more : (u : List ℕ) (us : List (List ℕ)) → list_any (same_signs u) us ≡ false → (counted : List CountedPosition)
      → cond (test u) (sum_by (own u) counted) 0 + sum_by (among us) counted ≡ sum_by (among (u ∷ us)) counted
  one_more u us new [] = nothing (test u)
    where
      nothing : (b : Bool) → cond b 0 0 + 0 ≡ 0
      nothing true = refl
      nothing false = refl
  one_more u us new (s ∷ counted) =
      let rest : cond (test u) (sum_by (own u) counted) 0 + sum_by (among us) counted ≡ sum_by (among (u ∷ us)) counted = one_more u us new counted in
      let here : cond (test u) (own u s) 0 + among us s ≡ among (u ∷ us) s =
      point (same_signs u s.window) (kind s) (test u) (test s.window) (list_any (same_signs s.window) us) s.weight
      (λ same. (ap (λ (x : List ℕ). list_any (same_signs x) us) (sym (same_window u s.window same)) ∙ new, ap test (same_window u s.window same)))
      ∙ ap (λ b. cond (kind s && ((b || list_any (same_signs s.window) us) && test s.window)) s.weight 0) (same_turned u s.window) in
      let split : cond (test u) (own u s + sum_by (own u) counted) 0 ≡ cond (test u) (own u s) 0 + cond (test u) (sum_by (own u) counted) 0 = parts (test u) (own u s) (sum_by (own u) counted) in
      let first : cond (test u) (sum_by (own u) (s ∷ counted)) 0 ≡ cond (test u) (own u s + sum_by (own u) counted) 0 = ap (λ n. cond (test u) n 0) (sum_by-cons (own u) s counted) in
      omega (arith, sum_by-cons (among us) s counted, sum_by-cons (among (u ∷ us)) s counted)
    where
      parts : (b : Bool) (x y : ℕ) → cond b (x + y) 0 ≡ cond b x 0 + cond b y 0
      parts true x y = refl
      parts false x y = refl

  -- each window stands once in an ordered list
  stands_once : (u : List ℕ) (windows : Windows) → below_all cmp u windows ≡ true → list_any (same_signs u) (map (λ (e : List ℕ × Unit {0}). e.0) windows) ≡ false
  stands_once u [] below = refl
  stands_once u (e ∷ es) below =
      let parts = and_parts (is_lt (cmp u e.0)) (below_all cmp u es) below in
      or_from (same_signs u e.0) (list_any (same_signs u) (map (λ (x : List ℕ × Unit {0}). x.0) es)) (not_same (cmp u e.0) parts.0) (stands_once u es parts.1)
    where
      not_same : (o : Ordering) → is_lt o ≡ true → is_eq o ≡ false
      not_same Less is = refl
      not_same Equal is = cc
      not_same Greater is = refl

  swapped : (windows : Windows) → is_sorted cmp windows ≡ true → (counted : List CountedPosition)
      → sum_by (λ (u : List ℕ). cond (test u) (sum_by (own u) counted) 0) (map (λ (e : List ℕ × Unit {0}). e.0) windows) ≡ sum_by (among (map (λ (e : List ℕ × Unit {0}). e.0) windows)) counted
  swapped [] sorted counted = sym (sum_same (among []) (λ (s : CountedPosition). 0) counted (λ s. none (kind s) s.weight) ∙ sum_none counted)
    where
      none : (k : Bool) (w : ℕ) → cond (k && false) w 0 ≡ 0
      none true w = refl
      none false w = refl
  swapped (e ∷ es) sorted counted =
      let parts = and_parts (below_all cmp e.0 es) (is_sorted cmp es) sorted in
      let rest : sum_by (λ (u : List ℕ). cond (test u) (sum_by (own u) counted) 0) (map (λ (x : List ℕ × Unit {0}). x.0) es)
      ≡ sum_by (among (map (λ (x : List ℕ × Unit {0}). x.0) es)) counted = swapped es parts.1 counted in
      sum_by-cons (λ (u : List ℕ). cond (test u) (sum_by (own u) counted) 0) e.0 (map (λ (x : List ℕ × Unit {0}). x.0) es)
      ∙ ap (λ n. cond (test e.0) (sum_by (own e.0) counted) 0 + n) rest
      ∙ one_more e.0 (map (λ (x : List ℕ × Unit {0}). x.0) es) (stands_once e.0 es parts.0) counted

-- a sum over candidates that pass, as a sum over windows
passing_sum : (raised : Candidate → Bool) (g : Candidate → ℕ) (counted : List CountedPosition) (us : List (List ℕ)) → sum_by g (filter raised (map (candidate_at counted) us))
    ≡ sum_by (λ (u : List ℕ). cond (raised (candidate_at counted u)) (g (candidate_at counted u)) 0) us
passing_sum raised g counted [] = refl
passing_sum raised g counted (u ∷ us) =
    let rest : sum_by g (filter raised (map (candidate_at counted) us)) ≡ sum_by (λ (v : List ℕ). cond (raised (candidate_at counted v)) (g (candidate_at counted v)) 0) us =
    passing_sum raised g counted us in
    kept (raised (candidate_at counted u))
    ∙ ap (λ n. cond (raised (candidate_at counted u)) (g (candidate_at counted u)) 0 + n) rest
    ∙ sym (sum_by-cons (λ (v : List ℕ). cond (raised (candidate_at counted v)) (g (candidate_at counted v)) 0) u us)
  where
    kept : (b : Bool) → sum_by g (cond b (candidate_at counted u ∷ filter raised (map (candidate_at counted) us)) (filter raised (map (candidate_at counted) us)))
        ≡ cond b (g (candidate_at counted u)) 0 + sum_by g (filter raised (map (candidate_at counted) us))
    kept true = sum_by-cons g (candidate_at counted u) (filter raised (map (candidate_at counted) us))
    kept false = zero (sum_by g (filter raised (map (candidate_at counted) us)))
      where
        zero : (n : ℕ) → n ≡ 0 + n
        zero n = omega arith

-- the weight of a counted position of a kind whose window passes
abbrev pub raised_weight : (Candidate → Bool) → List CountedPosition → (CountedPosition → Bool) → CountedPosition → ℕ
raised_weight raised counted kind s = cond (kind s && is_candidate raised counted s.window) s.weight 0

sum_raised : (kind : CountedPosition → Bool) (raised : Candidate → Bool) (g : Candidate → ℕ) (counted : List CountedPosition)
    → ((u : List ℕ) → g (candidate_at counted u) ≡ sum_by (own kind (λ (u : List ℕ). raised (candidate_at counted u)) u) counted)
    → sum_by g (filter raised (with_sums counted)) ≡ sum_by (raised_weight raised counted kind) counted
sum_raised kind raised g counted part =
    passing_sum raised g counted (candidates counted)
    ∙ sum_same (λ (u : List ℕ). cond (raised (candidate_at counted u)) (g (candidate_at counted u)) 0)
    (λ (u : List ℕ). cond (raised (candidate_at counted u)) (sum_by (own kind (λ (v : List ℕ). raised (candidate_at counted v)) u) counted) 0)
    (candidates counted) (λ u. ap (λ n. cond (raised (candidate_at counted u)) n 0) (part u))
    ∙ swapped kind (λ (u : List ℕ). raised (candidate_at counted u)) (fold with_window [] counted) (is_true (is_sorted cmp (fold with_window [] counted)) (windows_sorted [] counted tt)) counted
    ∙ sum_same (among kind (λ (u : List ℕ). raised (candidate_at counted u)) (candidates counted)) (raised_weight raised counted kind) counted
    (λ s. ap (λ b. cond (kind s && (b && raised (candidate_at counted s.window))) s.weight 0) (candidates_are_counted counted s.window))

good_raised_sum : (raised : Candidate → Bool) (counted : List CountedPosition) → good_raised raised counted ≡ sum_by (raised_weight raised counted (λ (s : CountedPosition). s.good)) counted
good_raised_sum raised counted = sum_raised (λ (s : CountedPosition). s.good) raised (λ (c : Candidate). c.good) counted (λ u. refl)

bad_raised_sum : (raised : Candidate → Bool) (counted : List CountedPosition) → bad_raised raised counted ≡ sum_by (raised_weight raised counted (λ (s : CountedPosition). not s.good)) counted
bad_raised_sum raised counted = sum_raised (λ (s : CountedPosition). not s.good) raised (λ (c : Candidate). c.bad) counted (λ u. refl)

-- the marks of a position by its tests, before and after
abbrev mark_by : Bool → Bool → Bool → Mark
mark_by hyphen care odd = cond care (cond hyphen (cond odd Found Missed) (cond odd Error Nothing)) DontCare

-- the weight that a position moves, where its value rises and it counts
abbrev changed_weight : (Bool → Bool) → ℕ → Bool → Option Bool → ℕ
changed_weight kind x rises None = 0
changed_weight kind x rises (Some good) = cond (kind good && rises) x 0

abbrev itself : Bool → Bool
itself b = b

abbrev weight_in : (Mark → Bool) → Mark → ℕ → ℕ
weight_in test mark x = cond (test mark) x 0

abbrev OddAt : Bool → Bool → Bool → Bool → ℕ → Type 0
OddAt hyphen care v r x =
    (weight_in is_found (mark_by hyphen care (cond r true v)) x + 0 ≡ weight_in is_found (mark_by hyphen care v) x + changed_weight itself x r (counted_by true (mark_by hyphen care v)))
    × (weight_in is_error (mark_by hyphen care (cond r true v)) x + 0 ≡ weight_in is_error (mark_by hyphen care v) x + changed_weight not x r (counted_by true (mark_by hyphen care v)))
    × (weight_in is_missed (mark_by hyphen care (cond r true v)) x + changed_weight itself x r (counted_by true (mark_by hyphen care v)) ≡ weight_in is_missed (mark_by hyphen care v) x + 0)

odd_at : (hyphen care v r : Bool) (x : ℕ) → OddAt hyphen care v r x
odd_at hyphen false v r x = (refl, refl, refl)
odd_at true true true true x = (omega arith, omega arith, omega arith)
odd_at true true true false x = (omega arith, omega arith, omega arith)
odd_at true true false true x = (omega arith, omega arith, omega arith)
odd_at true true false false x = (omega arith, omega arith, omega arith)
odd_at false true true true x = (omega arith, omega arith, omega arith)
odd_at false true true false x = (omega arith, omega arith, omega arith)
odd_at false true false true x = (omega arith, omega arith, omega arith)
odd_at false true false false x = (omega arith, omega arith, omega arith)

abbrev EvenAt : Bool → Bool → Bool → Bool → ℕ → Type 0
EvenAt hyphen care v r x =
    (weight_in is_found (mark_by hyphen care (cond r false v)) x + changed_weight not x r (counted_by false (mark_by hyphen care v)) ≡ weight_in is_found (mark_by hyphen care v) x + 0)
    × (weight_in is_error (mark_by hyphen care (cond r false v)) x + changed_weight itself x r (counted_by false (mark_by hyphen care v)) ≡ weight_in is_error (mark_by hyphen care v) x + 0)
    × (weight_in is_missed (mark_by hyphen care (cond r false v)) x + 0 ≡ weight_in is_missed (mark_by hyphen care v) x + changed_weight not x r (counted_by false (mark_by hyphen care v)))

even_at : (hyphen care v r : Bool) (x : ℕ) → EvenAt hyphen care v r x
even_at hyphen false v r x = (refl, refl, refl)
even_at true true true true x = (omega arith, omega arith, omega arith)
even_at true true true false x = (omega arith, omega arith, omega arith)
even_at true true false true x = (omega arith, omega arith, omega arith)
even_at true true false false x = (omega arith, omega arith, omega arith)
even_at false true true true x = (omega arith, omega arith, omega arith)
even_at false true true false x = (omega arith, omega arith, omega arith)
even_at false true false true x = (omega arith, omega arith, omega arith)
even_at false true false false x = (omega arith, omega arith, omega arith)

-- what moves at a position, as what is counted there
none_moves : (x : ℕ) (k : Bool) → 0 ≡ cond (k && false) x 0
none_moves x true = refl
none_moves x false = refl

changed_one : (kind : Bool → Bool) (x : ℕ) (f r c : Bool) (o : Option Bool) → (r ≡ true → c ≡ false) → changed_weight kind x r (cond (f && not c) o None) ≡ changed_weight kind x (f && r) o
changed_one kind x false r c None open_now = refl
changed_one kind x false r c (Some good) open_now = none_moves x (kind good)
changed_one kind x true r false o open_now = refl
changed_one kind x true true true o open_now = cc (open_now refl)
changed_one kind x true false true None open_now = refl
changed_one kind x true false true (Some good) open_now = none_moves x (kind good)

-- and where its value is above the level
stays_one : (kind : Bool → Bool) (x : ℕ) (f r a : Bool) (o : Option Bool) → changed_weight kind x r (cond f (cond a o None) None) ≡ changed_weight kind x ((f && r) && a) o
stays_one kind x false r a None = refl
stays_one kind x false r a (Some good) = none_moves x (kind good)
stays_one kind x true r false None = refl
stays_one kind x true true false (Some good) = none_moves x (kind good)
stays_one kind x true false false (Some good) = none_moves x (kind good)
stays_one kind x true true true o = refl
stays_one kind x true false true o = refl

-- what moves at a position is what is lifted and what stays
parted : (kind : Bool → Bool) (x : ℕ) (r a : Bool) (o : Option Bool) → changed_weight kind x (r && not a) o + changed_weight kind x (r && a) o ≡ changed_weight kind x r o
parted kind x r a None = refl
parted kind x false a (Some good) = none (kind good)
  where
    none : (k : Bool) → cond (k && false) x 0 + cond (k && false) x 0 ≡ cond (k && false) x 0
    none true = refl
    none false = refl
parted kind x true true (Some good) = left (kind good)
  where
    left : (k : Bool) → cond (k && false) x 0 + cond (k && true) x 0 ≡ cond (k && true) x 0
    left true = omega arith
    left false = refl
parted kind x true false (Some good) = right (kind good)
  where
    right : (k : Bool) → cond (k && true) x 0 + cond (k && false) x 0 ≡ cond (k && true) x 0
    right true = omega arith
    right false = refl

-- a value after a pass of the level
above_or_not : (level v : ℕ) → nat_lt level v ≡ false → v ≤ level
above_or_not level v is = grind (arith, nat_tests)

not_above_itself : (level : ℕ) → nat_lt level level ≡ false
not_above_itself level = grind (arith, nat_tests)

odd_by : (level v : ℕ) (r a : Bool) → nat_lt level v ≡ a → is_odd (max (cond r level 0) v) ≡ cond (r && not a) (is_odd level) (is_odd v)
odd_by level v false a is = let same : max 0 v ≡ v = omega arith in ap is_odd same
odd_by level v true true is =
    let more : level < v = ltb-true level v is in
    let same : max level v ≡ v = omega arith in
    ap is_odd same
odd_by level v true false is =
    let low : v ≤ level = above_or_not level v is in
    let highest : max level v ≡ level = omega arith in
    ap is_odd highest

module _ (m : Alphabet) (words : List Word) (pass : Pass) (P : Patterns) (H : Hopeless) (raised : Candidate → Bool) (w : Word) (p : ℕ) where
  abbrev is_raised : Bool
  is_raised = is_candidate raised (counted_positions m words pass P H) (window w.signs p pass.len pass.dot)

  abbrev rises : Bool
  rises = fits w.signs p pass.len pass.dot && is_raised

  abbrev is_above : Bool
  is_above = nat_lt pass.level (value_at P w.signs p)

  abbrev hyphen_at : Bool
  hyphen_at = slice_index_or w.hyphens p false

  abbrev care_at : Bool
  care_at = slice_index_or w.cares p true

  abbrev odd_before : Bool
  odd_before = is_odd (value_at P w.signs p)

  abbrev counts_before : Option Bool
  counts_before = counted_by (is_odd pass.level) (status_at P w p)

  mark_after : status_at (patterns_after_pass m words pass P H raised) w p ≡ mark_by hyphen_at care_at (cond (rises && not is_above) (is_odd pass.level) odd_before)
  mark_after = ap (λ b. mark_by hyphen_at care_at b) (ap is_odd (values_after m words pass P H raised w.signs p) ∙ odd_by pass.level (value_at P w.signs p) rises is_above refl)

  -- a position that counts above the level counts so after a pass, and as the same
  pub above_stay : counts_above pass.level (patterns_after_pass m words pass P H raised) w p ≡ counts_above pass.level P w p
  above_stay = ap counts_by_value (values_after m words pass P H raised w.signs p) ∙ by_test rises is_above refl
    where
      counts_by_value : ℕ → Option Bool
      counts_by_value v = cond (nat_lt pass.level v) (counts_as pass.level (mark_by hyphen_at care_at (is_odd v))) None

      by_test : (r a : Bool) → is_above ≡ a → counts_by_value (max (cond r pass.level 0) (value_at P w.signs p)) ≡ counts_by_value (value_at P w.signs p)
      by_test false a is = let same : max 0 (value_at P w.signs p) ≡ value_at P w.signs p = omega arith in ap counts_by_value same
      by_test true true is =
          let more : pass.level < value_at P w.signs p = ltb-true pass.level (value_at P w.signs p) is in
          let same : max pass.level (value_at P w.signs p) ≡ value_at P w.signs p = omega arith in
          ap counts_by_value same
      by_test true false is =
          let low : value_at P w.signs p ≤ pass.level = above_or_not pass.level (value_at P w.signs p) is in
          let highest : max pass.level (value_at P w.signs p) ≡ pass.level = omega arith in
          ap counts_by_value highest
          ∙ ap (λ b. cond b (counts_as pass.level (mark_by hyphen_at care_at (is_odd pass.level))) None) (not_above_itself pass.level)
          ∙ sym (ap (λ b. cond b (counts_as pass.level (mark_by hyphen_at care_at odd_before)) None) is)

  abbrev part_of : (Bool → Bool) → CountedPosition → ℕ
  part_of kind = raised_weight raised (counted_positions m words pass P H) (λ (s : CountedPosition). kind s.good)

  single : (kind : Bool → Bool) (o : Option Bool) → sum_by (part_of kind) (counted_as (window w.signs p pass.len pass.dot) (position_weight w p) o)
      ≡ changed_weight kind (position_weight w p) is_raised o
  single kind None = refl
  single kind (Some good) = zero (cond (kind good && is_raised) (position_weight w p) 0)
    where
      zero : (n : ℕ) → 0 + n ≡ n
      zero n = omega arith

  moved_is : (kind : Bool → Bool) → sum_by (part_of kind) (counted_positions_at pass P H w p) ≡ changed_weight kind (position_weight w p) rises counts_before
  moved_is kind =
      single kind (counted_at pass P H w p)
      ∙ changed_one kind (position_weight w p) (fits w.signs p pass.len pass.dot) is_raised (is_covered pass.level P H (window w.signs p pass.len pass.dot) pass.dot)
      (counts_as pass.level (status_at P w p))
      (λ is. (counted_uncovered m words pass P H (window w.signs p pass.len pass.dot)
      (and_parts (is_counted_window (counted_positions m words pass P H) (window w.signs p pass.len pass.dot))
      (raised (candidate_at (counted_positions m words pass P H) (window w.signs p pass.len pass.dot))) is).0).1)
      ∙ ap (λ (o : Option Bool). changed_weight kind (position_weight w p) rises o) (counts_by pass.level (status_at P w p))

  stays_is : (kind : Bool → Bool) → sum_by (part_of kind) (above_at pass P w p) ≡ changed_weight kind (position_weight w p) (rises && is_above) counts_before
  stays_is kind =
      single kind (cond (fits w.signs p pass.len pass.dot) (counts_above pass.level P w p) None)
      ∙ stays_one kind (position_weight w p) (fits w.signs p pass.len pass.dot) is_raised is_above (counts_as pass.level (status_at P w p))
      ∙ ap (λ (o : Option Bool). changed_weight kind (position_weight w p) (rises && is_above) o) (counts_by pass.level (status_at P w p))

  -- no more stays than is raised
  stays_less : (kind : Bool → Bool) → sum_by (part_of kind) (above_at pass P w p) ≤ sum_by (part_of kind) (counted_positions_at pass P H w p)
  stays_less kind = omega (arith, stays_is kind, moved_is kind, parted kind (position_weight w p) rises is_above counts_before)

  abbrev lifted : (Bool → Bool) → ℕ
  lifted kind = changed_weight kind (position_weight w p) (rises && not is_above) counts_before

  -- what a test of marks gains at the position, or loses
  gains : (test : Mark → Bool) (kind : Bool → Bool)
      → weight_in test (mark_by hyphen_at care_at (cond (rises && not is_above) (is_odd pass.level) odd_before)) (position_weight w p) + 0
      ≡ weight_in test (status_at P w p) (position_weight w p) + lifted kind
      → weight_in test (status_at (patterns_after_pass m words pass P H raised) w p) (position_weight w p) + sum_by (part_of kind) (above_at pass P w p)
      ≡ weight_in test (status_at P w p) (position_weight w p) + sum_by (part_of kind) (counted_positions_at pass P H w p)
  gains test kind is =
      let mark : weight_in test (status_at (patterns_after_pass m words pass P H raised) w p) (position_weight w p)
      ≡ weight_in test (mark_by hyphen_at care_at (cond (rises && not is_above) (is_odd pass.level) odd_before)) (position_weight w p) =
      ap (λ (x : Mark). weight_in test x (position_weight w p)) mark_after in
      omega (arith, mark, is, stays_is kind, moved_is kind, parted kind (position_weight w p) rises is_above counts_before)

  loses : (test : Mark → Bool) (kind : Bool → Bool)
      → weight_in test (mark_by hyphen_at care_at (cond (rises && not is_above) (is_odd pass.level) odd_before)) (position_weight w p) + lifted kind
      ≡ weight_in test (status_at P w p) (position_weight w p) + 0
      → weight_in test (status_at (patterns_after_pass m words pass P H raised) w p) (position_weight w p) + sum_by (part_of kind) (counted_positions_at pass P H w p)
      ≡ weight_in test (status_at P w p) (position_weight w p) + sum_by (part_of kind) (above_at pass P w p)
  loses test kind is =
      let mark : weight_in test (status_at (patterns_after_pass m words pass P H raised) w p) (position_weight w p)
      ≡ weight_in test (mark_by hyphen_at care_at (cond (rises && not is_above) (is_odd pass.level) odd_before)) (position_weight w p) =
      ap (λ (x : Mark). weight_in test x (position_weight w p)) mark_after in
      omega (arith, mark, is, stays_is kind, moved_is kind, parted kind (position_weight w p) rises is_above counts_before)

-- what balances at each position balances in sum
module _ (m : Alphabet) (P P' : Patterns) (test : Mark → Bool) (part : CountedPosition → ℕ) (f g : Word → ℕ → List CountedPosition)
    (each : (w : Word) (p : ℕ) → weight_in test (status_at P' w p) (position_weight w p) + sum_by part (f w p) ≡ weight_in test (status_at P w p) (position_weight w p) + sum_by part (g w p)) where
  abbrev weighed : Mark × ℕ → ℕ
  weighed e = cond (test e.0) e.1 0

  abbrev in_reach : (Word → ℕ → List CountedPosition) → Word → List CountedPosition
  in_reach h w = flat_map (h w) (positions m.left m.right (length w.signs))

  balanced_word : (w : Word) (ps : List ℕ) → sum_by weighed (map (λ p. (status_at P' w p, position_weight w p)) ps) + sum_by part (flat_map (f w) ps)
      ≡ sum_by weighed (map (λ p. (status_at P w p, position_weight w p)) ps) + sum_by part (flat_map (g w) ps)
  balanced_word w [] = refl
  balanced_word w (p ∷ ps) =
      joined _ _ _ _ _ _ _ _ _ _ _ _
      (each w p)
      (balanced_word w ps)
      (sum_by-cons weighed (status_at P' w p, position_weight w p) (map (λ p. (status_at P' w p, position_weight w p)) ps))
      (sum_by-cons weighed (status_at P w p, position_weight w p) (map (λ p. (status_at P w p, position_weight w p)) ps))
      (sum_by-append part (f w p) (flat_map (f w) ps))
      (sum_by-append part (g w p) (flat_map (g w) ps))

  balanced : (words : List Word) → weight_of test (flat_map (marks_in m P') words) + sum_by part (flat_map (in_reach f) words)
      ≡ weight_of test (flat_map (marks_in m P) words) + sum_by part (flat_map (in_reach g) words)
  balanced [] = refl
  balanced (w ∷ words) =
      joined _ _ _ _ _ _ _ _ _ _ _ _
      (balanced_word w (positions m.left m.right (length w.signs)))
      (balanced words)
      (sum_by-append weighed (marks_in m P' w) (flat_map (marks_in m P') words))
      (sum_by-append weighed (marks_in m P w) (flat_map (marks_in m P) words))
      (sum_by-append part (in_reach f w) (flat_map (in_reach f) words))
      (sum_by-append part (in_reach g w) (flat_map (in_reach g) words))

-- and so what is no more at each
less_flat : {X : Type 0} (part : CountedPosition → ℕ) (f g : X → List CountedPosition) → ((x : X) → sum_by part (f x) ≤ sum_by part (g x)) → (xs : List X)
    → sum_by part (flat_map f xs) ≤ sum_by part (flat_map g xs)
less_flat part f g each [] = omega arith
less_flat part f g each (x ∷ xs) = omega (arith, each x, less_flat part f g each xs, sum_by-append part (f x) (flat_map f xs), sum_by-append part (g x) (flat_map g xs))

-- where no value is above the level, nothing stays
flat_none : {X Y : Type 0} (f : X → List Y) → ((x : X) → f x ≡ []) → (xs : List X) → flat_map f xs ≡ []
flat_none f none [] = refl
flat_none f none (x ∷ xs) = (λ i. none x i ++ flat_none f none xs i)

none_above : (m : Alphabet) (words : List Word) (pass : Pass) (P : Patterns) → IsUpTo pass.level P → above_positions m words pass P ≡ []
none_above m words pass P upto = flat_none (above_in m pass P) (λ w. flat_none (above_at pass P w) (λ p. here w p) (positions m.left m.right (length w.signs))) words
  where
    not_above : (v : ℕ) → v ≤ pass.level → nat_lt pass.level v ≡ false
    not_above v low = grind (arith, nat_tests)

    none_at : (w : Word) (p : ℕ) (f : Bool) (o : Option Bool) → counted_as (window w.signs p pass.len pass.dot) (position_weight w p) (cond f (cond false o None) None) ≡ []
    none_at w p true o = refl
    none_at w p false o = refl

    here : (w : Word) (p : ℕ) → above_at pass P w p ≡ []
    here w p =
        ap (λ b. counted_as (window w.signs p pass.len pass.dot) (position_weight w p) (cond (fits w.signs p pass.len pass.dot) (cond b (counts_as pass.level (status_at P w p)) None) None))
        (not_above (value_at P w.signs p) (best_up_to pass.level (applies w.signs p) P upto))
        ∙ none_at w p (fits w.signs p pass.len pass.dot) (counts_as pass.level (status_at P w p))

module _ (m : Alphabet) (words : List Word) (pass : Pass) (P : Patterns) (H : Hopeless) (raised : Candidate → Bool) where
  abbrev weighs : (Bool → Bool) → CountedPosition → ℕ
  weighs kind = raised_weight raised (counted_positions m words pass P H) (λ (s : CountedPosition). kind s.good)

  less_above : (kind : Bool → Bool) → sum_by (weighs kind) (above_positions m words pass P) ≤ sum_by (weighs kind) (counted_positions m words pass P H)
  less_above kind = less_flat (weighs kind) (above_in m pass P) (counted_positions_in m pass P H)
      (λ w. less_flat (weighs kind) (above_at pass P w) (counted_positions_at pass P H w) (λ p. stays_less m words pass P H raised w p kind) (positions m.left m.right (length w.signs))) words

  good_within : good_above raised (counted_positions m words pass P H) (above_positions m words pass P) ≤ good_raised raised (counted_positions m words pass P H)
  good_within = omega (arith, less_above itself, good_raised_sum raised (counted_positions m words pass P H))

  bad_within : bad_above raised (counted_positions m words pass P H) (above_positions m words pass P) ≤ bad_raised raised (counted_positions m words pass P H)
  bad_within = omega (arith, less_above not, bad_raised_sum raised (counted_positions m words pass P H))

  -- a test of marks gains at each position what is lifted there, or loses it, at a level that is odd or not
  abbrev GainsBy : (Mark → Bool) → (Bool → Bool) → Bool → Type 0
  GainsBy test kind odd = (w : Word) (p : ℕ) → weight_in test (mark_by (hyphen_at m words pass P H raised w p) (care_at m words pass P H raised w p)
      (cond (rises m words pass P H raised w p && not (is_above m words pass P H raised w p)) odd (odd_before m words pass P H raised w p))) (position_weight w p) + 0
      ≡ weight_in test (status_at P w p) (position_weight w p) + changed_weight kind (position_weight w p) (rises m words pass P H raised w p && not (is_above m words pass P H raised w p))
      (counted_by odd (status_at P w p))

  abbrev LosesBy : (Mark → Bool) → (Bool → Bool) → Bool → Type 0
  LosesBy test kind odd = (w : Word) (p : ℕ) → weight_in test (mark_by (hyphen_at m words pass P H raised w p) (care_at m words pass P H raised w p)
      (cond (rises m words pass P H raised w p && not (is_above m words pass P H raised w p)) odd (odd_before m words pass P H raised w p)))
      (position_weight w p) + changed_weight kind (position_weight w p) (rises m words pass P H raised w p && not (is_above m words pass P H raised w p)) (counted_by odd (status_at P w p))
      ≡ weight_in test (status_at P w p) (position_weight w p) + 0

  gained_of : (test : Mark → Bool) (kind : Bool → Bool) → GainsBy test kind (is_odd pass.level)
      → weight_of test (flat_map (marks_in m (patterns_after_pass m words pass P H raised)) words) + sum_by (weighs kind) (above_positions m words pass P)
      ≡ weight_of test (flat_map (marks_in m P) words) + sum_by (weighs kind) (counted_positions m words pass P H)
  gained_of test kind each = balanced m P (patterns_after_pass m words pass P H raised) test (weighs kind) (above_at pass P) (counted_positions_at pass P H)
      (λ w p. gains m words pass P H raised w p test kind (each w p)) words

  lost_of : (test : Mark → Bool) (kind : Bool → Bool) → LosesBy test kind (is_odd pass.level)
      → weight_of test (flat_map (marks_in m (patterns_after_pass m words pass P H raised)) words) + sum_by (weighs kind) (counted_positions m words pass P H)
      ≡ weight_of test (flat_map (marks_in m P) words) + sum_by (weighs kind) (above_positions m words pass P)
  lost_of test kind each = balanced m P (patterns_after_pass m words pass P H raised) test (weighs kind) (counted_positions_at pass P H) (above_at pass P)
      (λ w p. loses m words pass P H raised w p test kind (each w p)) words

  abbrev raised_good : ℕ
  raised_good = good_raised raised (counted_positions m words pass P H)

  abbrev raised_bad : ℕ
  raised_bad = bad_raised raised (counted_positions m words pass P H)

  abbrev stays_good : ℕ
  stays_good = good_above raised (counted_positions m words pass P H) (above_positions m words pass P)

  abbrev stays_bad : ℕ
  stays_bad = bad_above raised (counted_positions m words pass P H) (above_positions m words pass P)

  abbrev new_totals : Totals
  new_totals = totals m words (patterns_after_pass m words pass P H raised)

  odd_tests : (w : Word) (p : ℕ) → OddAt (hyphen_at m words pass P H raised w p) (care_at m words pass P H raised w p) (odd_before m words pass P H raised w p)
      (rises m words pass P H raised w p && not (is_above m words pass P H raised w p)) (position_weight w p)
  odd_tests w p = odd_at (hyphen_at m words pass P H raised w p) (care_at m words pass P H raised w p) (odd_before m words pass P H raised w p)
      (rises m words pass P H raised w p && not (is_above m words pass P H raised w p)) (position_weight w p)

  even_tests : (w : Word) (p : ℕ) → EvenAt (hyphen_at m words pass P H raised w p) (care_at m words pass P H raised w p) (odd_before m words pass P H raised w p)
      (rises m words pass P H raised w p && not (is_above m words pass P H raised w p)) (position_weight w p)
  even_tests w p = even_at (hyphen_at m words pass P H raised w p) (care_at m words pass P H raised w p) (odd_before m words pass P H raised w p)
      (rises m words pass P H raised w p && not (is_above m words pass P H raised w p)) (position_weight w p)

  finds_more : is_odd pass.level ≡ true → FindsMore (totals m words P) new_totals (raised_good - stays_good) (raised_bad - stays_bad)
  finds_more odd = record {
    found = gained _ _ _ _ _ _ (gained_of is_found itself (subst (GainsBy is_found itself) (sym odd) (λ w p. (odd_tests w p).0))) refl
        (good_raised_sum raised (counted_positions m words pass P H)) good_within;
    errors = gained _ _ _ _ _ _ (gained_of is_error not (subst (GainsBy is_error not) (sym odd) (λ w p. (odd_tests w p).1))) refl
        (bad_raised_sum raised (counted_positions m words pass P H)) bad_within;
    missed = lost _ _ _ _ _ _ (lost_of is_missed itself (subst (LosesBy is_missed itself) (sym odd) (λ w p. (odd_tests w p).2))) refl
        (good_raised_sum raised (counted_positions m words pass P H)) good_within;
  }

  prevents_more : is_odd pass.level ≡ false → PreventsMore (totals m words P) new_totals (raised_good - stays_good) (raised_bad - stays_bad)
  prevents_more even = record {
    found = lost _ _ _ _ _ _ (lost_of is_found not (subst (LosesBy is_found not) (sym even) (λ w p. (even_tests w p).0))) refl (bad_raised_sum raised (counted_positions m words pass P H)) bad_within;
    errors = lost _ _ _ _ _ _ (lost_of is_error itself (subst (LosesBy is_error itself) (sym even) (λ w p. (even_tests w p).1))) refl
        (good_raised_sum raised (counted_positions m words pass P H)) good_within;
    missed = gained _ _ _ _ _ _ (gained_of is_missed not (subst (GainsBy is_missed not) (sym even) (λ w p. (even_tests w p).2))) refl
        (bad_raised_sum raised (counted_positions m words pass P H)) bad_within;
  }

  by_parity : (odd : Bool) → is_odd pass.level ≡ odd → MatchBool odd (FindsMore (totals m words P) new_totals (raised_good - stays_good) (raised_bad - stays_bad))
      (PreventsMore (totals m words P) new_totals (raised_good - stays_good) (raised_bad - stays_bad))
  by_parity true odd = finds_more odd
  by_parity false even = prevents_more even

  pub totals_after_above : MovesAllBut (is_odd pass.level) (totals m words P) new_totals raised_good raised_bad stays_good stays_bad
  totals_after_above = record { good_within = good_within; bad_within = bad_within; totals = by_parity (is_odd pass.level) refl }

  -- where no value is above the level, all that is raised moves
  abbrev Moves : ℕ → ℕ → Type 0
  Moves good bad = MatchBool (is_odd pass.level) (FindsMore (totals m words P) new_totals good bad) (PreventsMore (totals m words P) new_totals good bad)

  pub totals_after : IsUpTo pass.level P → MatchBool (is_odd pass.level) (FindsMore (totals m words P) new_totals raised_good raised_bad)
      (PreventsMore (totals m words P) new_totals raised_good raised_bad)
  totals_after upto =
      let some : Moves (raised_good - 0) (raised_bad - 0) =
      subst (λ (above : List CountedPosition). Moves (raised_good - good_above raised (counted_positions m words pass P H) above)
      (raised_bad - bad_above raised (counted_positions m words pass P H) above)) (none_above m words pass P upto) totals_after_above.totals in
      subst (λ (good : ℕ). Moves good raised_bad) (less_none raised_good) (subst (Moves (raised_good - 0)) (less_none raised_bad) some)
    where
      less_none : (n : ℕ) → n - 0 ≡ n
      less_none n = omega arith
