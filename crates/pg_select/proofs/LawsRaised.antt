-- What a pass makes of values and covers.
use Rattle.std.proofs.Common.{◌≡◌, ℕ, ◌+◌, ◌-◌, ◌≤◌, nat_le, nat_eq, Bool, true, false, cond, not, ◌&&◌, ◌||◌, ⊎_elim, List, [], ◌∷◌, length, map, take, drop, Option, Some, None, max, refl, sym, ap, ◌∙◌, arith}
use Rattle.std.specs.List.{list_any, list_all, filter}
use Rattle.std.specs.Ordering.{is_eq}
use Rattle.std.specs.Cmp.{tied_itself, both_ways}
use Rattle.std.specs.Cmp.Lexicographic.{pointwise, texts_ties, nat_list_cmp_total}
use Rattle.std.specs.FinMap.Entries.{put}
use Rattle.std.proofs.lemmas.Bool.{and_parts, and_from, leb-true, eq-eqb, eqb-true, not-true, or_cases}
use Rattle.std.proofs.lemmas.List.{take_all}
use Rattle.std.proofs.lemmas.List.Folds.{list_all-map}
use Rattle.pg_translate.specs.Alphabets.{Alphabet}
use Rattle.pg_dict.specs.Word.{Word}
use Rattle.pg_translate.specs.Reach.{positions}
use Rattle.pg_patterns.specs.DottedSigns.{dotted_cmp}
use Rattle.pg_patterns.specs.Values.{Patterns, raise, applies, stands_at, value_at}
use Rattle.pg_patterns.proofs.Joins.{only}
use Rattle.pg_select.specs.Inside.laws.Laws.{raised_all, hopeless_all}
use Rattle.pg_select.specs.Statuses.{status_at, position_weight}
use Rattle.pg_select.specs.Windows.{Hopeless, window, fits, is_covered}
use Rattle.pg_select.specs.declared.pass.Pass.{Pass}
use Rattle.pg_select.specs.CountedPositions.{Candidate, counts_as}
use Rattle.pg_select.specs.Inside.words.PositionLists.{CountedPosition, counted_positions_at, counted_positions, same_signs, candidates, with_sums}
use Rattle.pg_select.specs.Inside.words.WordCounts.{counted_positions_in}
use Rattle.pg_select.proofs.LawsCounts.{same_window, counted_as, is_counted_window, candidates_are_counted}
use Rattle.pg_select.proofs.LawsValues.{raised_value, covered_raised, covered_hopeless}
use Rattle.pg_select.proofs.LawsNothing.{is_among}
use Rattle.pg_select.proofs.LawsLonger.{part_length}
use Rattle.pg_select.proofs.LawsCandidates.{all_candidates, all_flat, applies_itself}
use Rattle.pg_select.specs.Inside.laws.Steps.{candidate_at, is_candidate, patterns_after_pass, hopeless_after_pass}
use Rattle.pg_select.proofs.LawsLengths.{fits_parts}

pub same_itself : (u : List ℕ) → same_signs u u ≡ true
same_itself u = ap is_eq (tied_itself nat_list_cmp_total u)

-- what holds of the windows that fit and are not covered holds of those that are counted
pub all_seen : (test : List ℕ → Bool) (m : Alphabet) (words : List Word) (pass : Pass) (P : Patterns) (H : Hopeless)
    → ((w : List ℕ) (p : ℕ) → fits w p pass.len pass.dot ≡ true → is_covered pass.level P H (window w p pass.len pass.dot) pass.dot ≡ false → test (window w p pass.len pass.dot) ≡ true)
    → list_all (λ (s : CountedPosition). test s.window) (counted_positions m words pass P H) ≡ true
all_seen test m words pass P H each =
    all_flat (λ (s : CountedPosition). test s.window) (counted_positions_in m pass P H) words (λ w.
    all_flat (λ (s : CountedPosition). test s.window) (counted_positions_at pass P H w) (positions m.left m.right (length w.signs)) (λ p. at w p))
  where
    by_test : (u : List ℕ) (x : ℕ) (a c : Bool) (o : Option Bool) → (a ≡ true → c ≡ false → test u ≡ true)
        → list_all (λ (s : CountedPosition). test s.window) (counted_as u x (cond (a && not c) o None)) ≡ true
    by_test u x false c o holds = refl
    by_test u x true true o holds = refl
    by_test u x true false None holds = refl
    by_test u x true false (Some good) holds = and_from (test u) true (holds refl refl) refl

    at : (w : Word) (p : ℕ) → list_all (λ (s : CountedPosition). test s.window) (counted_positions_at pass P H w p) ≡ true
    at w p =
        by_test (window w.signs p pass.len pass.dot) (position_weight w p) (fits w.signs p pass.len pass.dot) (is_covered pass.level P H (window w.signs p pass.len pass.dot) pass.dot)
        (counts_as pass.level (status_at P w p)) (each w.signs p)

-- what holds of all that is counted holds of a window that is counted
all_of_seen : (test : List ℕ → Bool) (u : List ℕ) (counted : List CountedPosition) → list_all (λ (s : CountedPosition). test s.window) counted ≡ true
    → is_counted_window counted u ≡ true → test u ≡ true
all_of_seen test u [] all is = cc
all_of_seen test u (s ∷ counted) all is =
    let parts = and_parts (test s.window) (list_all (λ (x : CountedPosition). test x.window) counted) all in
    ⊎_elim
    (λ (same : same_signs u s.window ≡ true). ap test (same_window u s.window same) ∙ parts.0)
    (λ (rest : is_counted_window counted u ≡ true). all_of_seen test u counted parts.1 rest)
    (or_cases (same_signs u s.window) (is_counted_window counted u) is)

-- the windows that are counted have the length of the pass, and none is covered
pub counted_uncovered : (m : Alphabet) (words : List Word) (pass : Pass) (P : Patterns) (H : Hopeless) (u : List ℕ) → is_counted_window (counted_positions m words pass P H) u
    ≡ true → (length u ≡ pass.len) × (is_covered pass.level P H u pass.dot ≡ false)
counted_uncovered m words pass P H u is =
    let tested = all_of_seen (λ (v : List ℕ). nat_eq (length v) pass.len && not (is_covered pass.level P H v pass.dot)) u (counted_positions m words pass P H)
    (all_seen (λ (v : List ℕ). nat_eq (length v) pass.len && not (is_covered pass.level P H v pass.dot)) m words pass P H
    (λ w p fit none. and_from (nat_eq (length (window w p pass.len pass.dot)) pass.len) (not (is_covered pass.level P H (window w p pass.len pass.dot) pass.dot))
    (eq-eqb (length (window w p pass.len pass.dot)) pass.len (part_length w (p - pass.dot) pass.len (fits_parts w p pass.len pass.dot fit).1))
    (ap not none)))
    is in
    let parts = and_parts (nat_eq (length u) pass.len) (not (is_covered pass.level P H u pass.dot)) tested in
    (eqb-true (length u) pass.len parts.0, not-true (is_covered pass.level P H u pass.dot) parts.1)

-- the candidates that pass a test are the windows that are counted and pass it
among_windows : (test : Candidate → Bool) (counted : List CountedPosition) (u : List ℕ) (us : List (List ℕ)) → is_among u (filter test (map (candidate_at counted) us))
    ≡ (list_any (same_signs u) us && test (candidate_at counted u))
among_windows test counted u [] = refl
among_windows test counted u (v ∷ us) =
    kept (test (candidate_at counted v))
    ∙ by_same (same_signs u v) (test (candidate_at counted v)) (test (candidate_at counted u)) (list_any (same_signs u) us)
    (λ same. ap (λ (x : List ℕ). test (candidate_at counted x)) (sym (same_window u v same))) (among_windows test counted u us)
  where
    kept : (b : Bool) → is_among u (cond b (candidate_at counted v ∷ filter test (map (candidate_at counted) us)) (filter test (map (candidate_at counted) us)))
        ≡ ((same_signs u v && b) || is_among u (filter test (map (candidate_at counted) us)))
    kept true = at (same_signs u v)
      where
        at : (s : Bool) → (s || is_among u (filter test (map (candidate_at counted) us))) ≡ ((s && true) || is_among u (filter test (map (candidate_at counted) us)))
        at true = refl
        at false = refl
    kept false = at (same_signs u v)
      where
        at : (s : Bool) → is_among u (filter test (map (candidate_at counted) us)) ≡ ((s && false) || is_among u (filter test (map (candidate_at counted) us)))
        at true = refl
        at false = refl

    by_same : (s b t a : Bool) {r : Bool} → (s ≡ true → b ≡ t) → r ≡ (a && t) → ((s && b) || r) ≡ ((s || a) && t)
    by_same true true t a tied rest = ap (λ (x : Bool). x) (tied refl)
    by_same true false t a tied rest = rest ∙ ap (λ (x : Bool). a && x) (sym (tied refl)) ∙ none a ∙ tied refl
      where
        none : (a : Bool) → (a && false) ≡ false
        none true = refl
        none false = refl
    by_same false b t a tied rest = rest

pub among_candidates : (test : Candidate → Bool) (counted : List CountedPosition) (u : List ℕ) → is_among u (filter test (with_sums counted)) ≡ is_candidate test counted u
among_candidates test counted u = among_windows test counted u (candidates counted) ∙ ap (λ b. b && test (candidate_at counted u)) (candidates_are_counted counted u)

-- what holds of all holds of those that pass
pub all_kept : {X : Type 0} (t q : X → Bool) (xs : List X) → list_all t xs ≡ true → list_all t (filter q xs) ≡ true
all_kept t q [] all = refl
all_kept t q (x ∷ xs) all =
    let parts = and_parts (t x) (list_all t xs) all in
    elim (q x) as (λ (b : Bool). list_all t (cond b (x ∷ filter q xs) (filter q xs)) ≡ true) [
      | true ↦ and_from (t x) (list_all t (filter q xs)) parts.0 (all_kept t q xs parts.1)
      | false ↦ all_kept t q xs parts.1
    ]

-- each candidate that passes has a window of the pass's length
abbrev pub AreLong : ℕ → List Candidate → Type 0
AreLong len cs = list_all (λ (c : Candidate). nat_eq (length c.window) len) cs ≡ true

pub passing_long : (test : Candidate → Bool) (m : Alphabet) (words : List Word) (pass : Pass) (P : Patterns) (H : Hopeless)
    → AreLong pass.len (filter test (with_sums (counted_positions m words pass P H)))
passing_long test m words pass P H =
    let counted : List CountedPosition = counted_positions m words pass P H in
    all_kept (λ (c : Candidate). nat_eq (length c.window) pass.len) test (with_sums (counted_positions m words pass P H))
    (list_all-map (λ (c : Candidate). nat_eq (length c.window) pass.len) (candidate_at (counted_positions m words pass P H)) (candidates (counted_positions m words pass P H))
    ∙ all_candidates (λ (u : List ℕ). nat_eq (length u) pass.len) (counted_positions m words pass P H)
    ∙ all_seen (λ (u : List ℕ). nat_eq (length u) pass.len) m words pass P H
    (λ w p fit none. eq-eqb (length (window w p pass.len pass.dot)) pass.len (part_length w (p - pass.dot) pass.len (fits_parts w p pass.len pass.dot fit).1)))

-- where a window of that length applies in a word
point_same : (u v : List ℕ) → pointwise nat_eq v u ≡ same_signs u v
point_same u v =
    both_ways (pointwise nat_eq v u) (same_signs u v)
    (λ is. ap (same_signs u) (same_window v u (sym (texts_ties v u) ∙ is)) ∙ same_itself u)
    (λ is. ap (λ (x : List ℕ). pointwise nat_eq x u) (sym (same_window u v is)) ∙ texts_ties u u ∙ same_itself u)

applies_word : (w v : List ℕ) (p len dot : ℕ) → length v ≡ len → applies w p (v, dot) ≡ (fits w p len dot && same_signs (window w p len dot) v)
applies_word w v p len dot long =
    (λ i. nat_le dot p && (nat_le (p - dot + long i) (length w) && pointwise nat_eq v (take (long i) (drop (p - dot) w))))
    ∙ ap (λ b. nat_le dot p && (nat_le (p - dot + len) (length w) && b)) (point_same (window w p len dot) v)
    ∙ grouped (nat_le dot p) (nat_le (p - dot + len) (length w)) (same_signs (window w p len dot) v)
  where
    grouped : (a b c : Bool) → (a && (b && c)) ≡ ((a && b) && c)
    grouped true b c = refl
    grouped false b c = refl

applies_window : (w v : List ℕ) (p len d dot : ℕ) → length v ≡ len → fits w p len d ≡ true → applies (window w p len d) d (v, dot) ≡ (nat_eq d dot && same_signs (window w p len dot) v)
applies_window w v p len d dot long fit =
    let size : length (window w p len d) ≡ len = part_length w (p - d) len (fits_parts w p len d fit).1 in
    both_ways (applies (window w p len d) d (v, dot)) (nat_eq d dot && same_signs (window w p len dot) v)
    (λ is.
    let tests = and_parts (nat_le dot d) (stands_at v (window w p len d) (d - dot)) is in
    let parts = and_parts (nat_le (d - dot + length v) (length (window w p len d))) (pointwise nat_eq v (take (length v) (drop (d - dot) (window w p len d)))) tests.1 in
    let low : dot ≤ d = leb-true dot d tests.0 in
    let wide : d - dot + length v ≤ length (window w p len d) = leb-true (d - dot + length v) (length (window w p len d)) parts.0 in
    let same : d ≡ dot = omega arith in
    let none : d - dot ≡ 0 = omega arith in
    let whole : take (length v) (drop (d - dot) (window w p len d)) ≡ window w p len d = ap (λ k. take (length v) (drop k (window w p len d))) none
    ∙ take_all (length v) (window w p len d) (omega arith) in
    and_from (nat_eq d dot) (same_signs (window w p len dot) v) (eq-eqb d dot same)
    (ap (λ k. same_signs (window w p len k) v) (sym same) ∙ sym (point_same (window w p len d) v) ∙ ap (pointwise nat_eq v) (sym whole) ∙ parts.1))
    (λ is.
    let parts = and_parts (nat_eq d dot) (same_signs (window w p len dot) v) is in
    let same : d ≡ dot = eqb-true d dot parts.0 in
    let tied : window w p len d ≡ v = ap (λ k. window w p len k) same ∙ same_window (window w p len dot) v parts.1 in
    (λ i. applies (tied i) (same i) (v, dot)) ∙ applies_itself v dot)

any_applies : (w : List ℕ) (p len dot : ℕ) (cs : List Candidate) → AreLong len cs → list_any (λ (c : Candidate). applies w p (c.window, dot)) cs
    ≡ (fits w p len dot && is_among (window w p len dot) cs)
any_applies w p len dot [] long = none (fits w p len dot)
  where
    none : (b : Bool) → false ≡ (b && false)
    none true = refl
    none false = refl
any_applies w p len dot (c ∷ cs) long =
    let parts = and_parts (nat_eq (length c.window) len) (list_all (λ (x : Candidate). nat_eq (length x.window) len) cs) long in
    (λ i. applies_word w c.window p len dot (eqb-true (length c.window) len parts.0) i || any_applies w p len dot cs parts.1 i)
    ∙ grouped (fits w p len dot) (same_signs (window w p len dot) c.window) (is_among (window w p len dot) cs)
  where
    grouped : (a b c : Bool) → ((a && b) || (a && c)) ≡ (a && (b || c))
    grouped true b c = refl
    grouped false b c = refl

any_covers : (w : List ℕ) (p len d dot : ℕ) (cs : List Candidate) → fits w p len d ≡ true → AreLong len cs → list_any (λ (c : Candidate). applies (window w p len d) d (c.window, dot)) cs
    ≡ (nat_eq d dot && is_among (window w p len dot) cs)
any_covers w p len d dot [] fit long = none (nat_eq d dot)
  where
    none : (b : Bool) → false ≡ (b && false)
    none true = refl
    none false = refl
any_covers w p len d dot (c ∷ cs) fit long =
    let parts = and_parts (nat_eq (length c.window) len) (list_all (λ (x : Candidate). nat_eq (length x.window) len) cs) long in
    (λ i. applies_window w c.window p len d dot (eqb-true (length c.window) len parts.0) fit i || any_covers w p len d dot cs fit parts.1 i)
    ∙ grouped (nat_eq d dot) (same_signs (window w p len dot) c.window) (is_among (window w p len dot) cs)
  where
    grouped : (a b c : Bool) → ((a && b) || (a && c)) ≡ (a && (b || c))
    grouped true b c = refl
    grouped false b c = refl

-- values and covers after raises, and covers after dotted strings that are made hopeless
value_all : (level dot : ℕ) (P : Patterns) (w : List ℕ) (p : ℕ) (cs : List Candidate) → value_at (raised_all level dot P cs) w p
    ≡ max (only (list_any (λ (c : Candidate). applies w p (c.window, dot)) cs) level) (value_at P w p)
value_all level dot P w p [] = none (value_at P w p)
  where
    none : (n : ℕ) → n ≡ max 0 n
    none n = omega arith
value_all level dot P w p (c ∷ cs) =
    value_all level dot (raise P (c.window, dot) level) w p cs
    ∙ ap (λ n. max (only (list_any (λ (x : Candidate). applies w p (x.window, dot)) cs) level) n) (raised_value P (c.window, dot) level w p)
    ∙ joined (applies w p (c.window, dot)) (list_any (λ (x : Candidate). applies w p (x.window, dot)) cs) level (value_at P w p)
  where
    joined : (a b : Bool) (l n : ℕ) → max (only b l) (max (only a l) n) ≡ max (only (a || b) l) n
    joined true true l n = omega arith
    joined true false l n = omega arith
    joined false b l n = omega arith

turned : (a b c : Bool) → (b || (a || c)) ≡ ((a || b) || c)
turned true true c = refl
turned true false c = refl
turned false b c = refl

cover_raised : (level dot : ℕ) (P : Patterns) (H : Hopeless) (u : List ℕ) (d : ℕ) (cs : List Candidate) → is_covered level (raised_all level dot P cs) H u d
    ≡ (list_any (λ (c : Candidate). applies u d (c.window, dot)) cs || is_covered level P H u d)
cover_raised level dot P H u d [] = refl
cover_raised level dot P H u d (c ∷ cs) =
    cover_raised level dot (raise P (c.window, dot) level) H u d cs
    ∙ ap (λ b. list_any (λ (x : Candidate). applies u d (x.window, dot)) cs || b) (covered_raised level P H (c.window, dot) u d)
    ∙ turned (applies u d (c.window, dot)) (list_any (λ (x : Candidate). applies u d (x.window, dot)) cs) (is_covered level P H u d)

cover_hopeless : (level dot : ℕ) (P : Patterns) (H : Hopeless) (u : List ℕ) (d : ℕ) (cs : List Candidate) → is_covered level P (hopeless_all dot H cs) u d
    ≡ (list_any (λ (c : Candidate). applies u d (c.window, dot)) cs || is_covered level P H u d)
cover_hopeless level dot P H u d [] = refl
cover_hopeless level dot P H u d (c ∷ cs) =
    cover_hopeless level dot P (put dotted_cmp (c.window, dot) (tt {0}) H) u d cs
    ∙ ap (λ b. list_any (λ (x : Candidate). applies u d (x.window, dot)) cs || b) (covered_hopeless level P H (c.window, dot) u d)
    ∙ turned (applies u d (c.window, dot)) (list_any (λ (x : Candidate). applies u d (x.window, dot)) cs) (is_covered level P H u d)

pub values_after : (m : Alphabet) (words : List Word) (pass : Pass) (P : Patterns) (H : Hopeless) (raised : Candidate → Bool) (w : List ℕ) (p : ℕ)
    → value_at (patterns_after_pass m words pass P H raised) w p ≡ max
    (cond (fits w p pass.len pass.dot && is_candidate raised (counted_positions m words pass P H) (window w p pass.len pass.dot)) pass.level 0) (value_at P w p)
values_after m words pass P H raised w p =
    value_all pass.level pass.dot P w p (filter raised (with_sums (counted_positions m words pass P H)))
    ∙ ap (λ b. max (only b pass.level) (value_at P w p))
    (any_applies w p pass.len pass.dot (filter raised (with_sums (counted_positions m words pass P H))) (passing_long raised m words pass P H)
    ∙ ap (λ b. fits w p pass.len pass.dot && b) (among_candidates raised (counted_positions m words pass P H) (window w p pass.len pass.dot)))

pub covers_after : (m : Alphabet) (words : List Word) (pass : Pass) (P : Patterns) (H : Hopeless) (raised hopeless : Candidate → Bool) (w : List ℕ) (p d : ℕ) → fits w p pass.len d ≡ true
    → is_covered pass.level (patterns_after_pass m words pass P H raised) (hopeless_after_pass m words pass P H hopeless) (window w p pass.len d) d
    ≡ ((nat_eq d pass.dot && (is_candidate raised (counted_positions m words pass P H) (window w p pass.len pass.dot)
    || is_candidate hopeless (counted_positions m words pass P H) (window w p pass.len pass.dot))) || is_covered pass.level P H (window w p pass.len d) d)
covers_after m words pass P H raised hopeless w p d fit =
    cover_hopeless pass.level pass.dot (patterns_after_pass m words pass P H raised) H (window w p pass.len d) d (filter hopeless (with_sums (counted_positions m words pass P H)))
    ∙ ap (λ b. list_any (λ (x : Candidate). applies (window w p pass.len d) d (x.window, pass.dot)) (filter hopeless (with_sums (counted_positions m words pass P H))) || b)
    (cover_raised pass.level pass.dot P H (window w p pass.len d) d (filter raised (with_sums (counted_positions m words pass P H))))
    ∙ (λ i. those hopeless i || (those raised i || is_covered pass.level P H (window w p pass.len d) d))
    ∙ grouped (nat_eq d pass.dot) (is_candidate raised (counted_positions m words pass P H) (window w p pass.len pass.dot))
    (is_candidate hopeless (counted_positions m words pass P H) (window w p pass.len pass.dot)) (is_covered pass.level P H (window w p pass.len d) d)
  where
    those : (test : Candidate → Bool) → list_any (λ (x : Candidate). applies (window w p pass.len d) d (x.window, pass.dot)) (filter test (with_sums (counted_positions m words pass P H)))
        ≡ (nat_eq d pass.dot && is_candidate test (counted_positions m words pass P H) (window w p pass.len pass.dot))
    those test =
        any_covers w p pass.len d pass.dot (filter test (with_sums (counted_positions m words pass P H))) fit (passing_long test m words pass P H)
        ∙ ap (λ b. nat_eq d pass.dot && b) (among_candidates test (counted_positions m words pass P H) (window w p pass.len pass.dot))

    grouped : (a r h c : Bool) → ((a && h) || ((a && r) || c)) ≡ ((a && (r || h)) || c)
    grouped true true true c = refl
    grouped true true false c = refl
    grouped true false h c = refl
    grouped false r h c = refl
