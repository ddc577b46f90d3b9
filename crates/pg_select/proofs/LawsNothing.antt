-- A pass that leaves no candidate counts nothing from its end on.
use Rattle.std.proofs.Common.{◌≡◌, ℕ, Bool, true, false, cond, not, ◌&&◌, ◌||◌, ⊎_elim, List, [], ◌∷◌, ◌++◌, length, map, Option, Some, None, refl, sym, ap, ◌∙◌}
use Rattle.std.specs.Ordering.{is_eq}
use Rattle.std.specs.List.{list_any, list_all, flat_map, filter}
use Rattle.std.specs.Cmp.{tied_itself}
use Rattle.std.specs.Cmp.Lexicographic.{nat_list_cmp_total}
use Rattle.std.specs.FinMap.Entries.{put}
use Rattle.std.proofs.lemmas.Bool.{and_parts, and_from, not-true, or_cases, or_left, or_right}
use Rattle.std.proofs.lemmas.List.Folds.{list_all-append}
use Rattle.pg_translate.specs.Alphabets.{Alphabet}
use Rattle.pg_dict.specs.Word.{Word}
use Rattle.pg_translate.specs.Reach.{positions}
use Rattle.pg_patterns.specs.DottedSigns.{dotted_cmp}
use Rattle.pg_patterns.specs.Values.{Patterns, raise, applies}
use Rattle.pg_select.specs.Statuses.{status_at, position_weight}
use Rattle.pg_select.specs.Windows.{Hopeless, window, fits, is_covered}
use Rattle.pg_select.specs.declared.pass.Pass.{Pass}
use Rattle.pg_select.specs.CountedPositions.{Candidate, counts_as, counted_at}
use Rattle.pg_select.specs.Inside.words.PositionLists.{CountedPosition, counted_positions_at, counted_positions, same_signs, candidates, good_of, bad_of, with_sums}
use Rattle.pg_select.specs.Inside.words.WordCounts.{counted_positions_in}
use Rattle.pg_select.specs.Inside.laws.Laws.{IsLater, raised_all, hopeless_all}
use Rattle.pg_select.proofs.LawsCounts.{same_window, counted_as}
use Rattle.pg_select.proofs.LawsValues.{covered_raised, covered_hopeless}
use Rattle.pg_select.proofs.LawsCandidates.{all_candidates, applies_itself}
use Rattle.pg_select.proofs.LawsLater.{later_at_once, later_still, later_raised, later_hopeless, some_parts, counted_back}

later_all_raised : (level dot : ℕ) (P : Patterns) (H : Hopeless) (cs : List Candidate) → IsLater level P H (raised_all level dot P cs) H
later_all_raised level dot P H [] = later_at_once level P H
later_all_raised level dot P H (c ∷ cs) =
    later_still level P (raise P (c.window, dot) level) (raised_all level dot (raise P (c.window, dot) level) cs) H H H (later_raised level P H (c.window, dot))
    (later_all_raised level dot (raise P (c.window, dot) level) H cs)

later_all_hopeless : (level dot : ℕ) (P : Patterns) (H : Hopeless) (cs : List Candidate) → IsLater level P H P (hopeless_all dot H cs)
later_all_hopeless level dot P H [] = later_at_once level P H
later_all_hopeless level dot P H (c ∷ cs) =
    later_still level P P P H (put dotted_cmp (c.window, dot) (tt {0}) H) (hopeless_all dot (put dotted_cmp (c.window, dot) (tt {0}) H) cs)
    (later_hopeless level P H (c.window, dot)) (later_all_hopeless level dot P (put dotted_cmp (c.window, dot) (tt {0}) H) cs)

-- a pass leads to a later point
pub later_after_pass : (level dot : ℕ) (P : Patterns) (H : Hopeless) (raised hopeless : List Candidate) → IsLater level P H (raised_all level dot P raised) (hopeless_all dot H hopeless)
later_after_pass level dot P H raised hopeless =
    later_still level P (raised_all level dot P raised) (raised_all level dot P raised) H H (hopeless_all dot H hopeless) (later_all_raised level dot P H raised)
    (later_all_hopeless level dot (raised_all level dot P raised) H hopeless)

-- a window is that of one of the candidates
abbrev pub is_among : List ℕ → List Candidate → Bool
is_among u cs = list_any (λ (c : Candidate). same_signs u c.window) cs

-- a window stands with its dot in one with the same signs
stands_same : (u v : List ℕ) (dot : ℕ) → same_signs u v ≡ true → applies u dot (v, dot) ≡ true
stands_same u v dot same = ap (λ (x : List ℕ). applies u dot (x, dot)) (sym (same_window u v same)) ∙ applies_itself u dot

-- each window that was raised is covered
covered_all_raised : (level dot : ℕ) (P : Patterns) (H : Hopeless) (u : List ℕ) (cs : List Candidate) → is_among u cs ≡ true
    → is_covered level (raised_all level dot P cs) H u dot ≡ true
covered_all_raised level dot P H u [] among = cc
covered_all_raised level dot P H u (c ∷ cs) among =
    ⊎_elim
    (λ (same : same_signs u c.window ≡ true). (later_all_raised level dot (raise P (c.window, dot) level) H cs).covers u dot
    (covered_raised level P H (c.window, dot) u dot ∙ or_left (applies u dot (c.window, dot)) (is_covered level P H u dot) (stands_same u c.window dot same)))
    (λ (rest : is_among u cs ≡ true). covered_all_raised level dot (raise P (c.window, dot) level) H u cs rest)
    (or_cases (same_signs u c.window) (is_among u cs) among)

-- and so is each that was made hopeless
covered_all_hopeless : (level dot : ℕ) (P : Patterns) (H : Hopeless) (u : List ℕ) (cs : List Candidate) → is_among u cs ≡ true → is_covered level P (hopeless_all dot H cs) u dot ≡ true
covered_all_hopeless level dot P H u [] among = cc
covered_all_hopeless level dot P H u (c ∷ cs) among =
    ⊎_elim
    (λ (same : same_signs u c.window ≡ true). (later_all_hopeless level dot P (put dotted_cmp (c.window, dot) (tt {0}) H) cs).covers u dot
    (covered_hopeless level P H (c.window, dot) u dot ∙ or_left (applies u dot (c.window, dot)) (is_covered level P H u dot) (stands_same u c.window dot same)))
    (λ (rest : is_among u cs ≡ true). covered_all_hopeless level dot P (put dotted_cmp (c.window, dot) (tt {0}) H) u cs rest)
    (or_cases (same_signs u c.window) (is_among u cs) among)

-- what is counted of a window passes a test that fails where the window is counted still
seen_tested : (test : List ℕ → Bool) (u : List ℕ) (x : ℕ) (o r : Option Bool) → ((g : Bool) → r ≡ Some g → o ≡ Some g) → ((g : Bool) → r ≡ Some g → test u ≡ false)
    → list_all (λ (s : CountedPosition). test s.window) (counted_as u x o) ≡ true → counted_as u x r ≡ []
seen_tested test u x o None back fails all = refl
seen_tested test u x None (Some g) back fails all = cc (back g refl)
seen_tested test u x (Some h) (Some g) back fails all = cc (fails g refl, (and_parts (test u) true all).0)

nil_tested : {X Y : Type 0} (test : Y → Bool) (f g : X → List Y) → ((x : X) → list_all test (f x) ≡ true → g x ≡ []) → (xs : List X) → list_all test (flat_map f xs) ≡ true → flat_map g xs ≡ []
nil_tested test f g each [] all = refl
nil_tested {Y = Y} test f g each (x ∷ xs) all =
    let parts = and_parts (list_all test (f x)) (list_all test (flat_map f xs)) (sym (list_all-append test (f x) (flat_map f xs)) ∙ all) in
    ap (λ (ys : List Y). ys ++ flat_map g xs) (each x parts.0) ∙ nil_tested test f g each xs parts.1

-- where all that a pass counted is covered later, it counts nothing then
pub nothing_counts_when_covered : (m : Alphabet) (words : List Word) (pass : Pass) (P P' : Patterns) (H H' : Hopeless) → IsLater pass.level P H P' H'
    → list_all (λ u. is_covered pass.level P' H' u pass.dot) (candidates (counted_positions m words pass P H)) ≡ true → counted_positions m words pass P' H' ≡ []
nothing_counts_when_covered m words pass P P' H H' later all =
    nil_tested (λ (s : CountedPosition). is_covered pass.level P' H' s.window pass.dot) (counted_positions_in m pass P H) (counted_positions_in m pass P' H') (λ w.
    nil_tested (λ (s : CountedPosition). is_covered pass.level P' H' s.window pass.dot) (counted_positions_at pass P H w) (counted_positions_at pass P' H' w) (λ p.
    seen_tested (λ (u : List ℕ). is_covered pass.level P' H' u pass.dot) (window w.signs p pass.len pass.dot) (position_weight w p) (counted_at pass P H w p) (counted_at pass P' H' w p)
    (λ g counted. counted_back pass P P' H H' w p g later counted)
    (λ g counted. uncovered w p g counted))
    (positions m.left m.right (length w.signs)))
    words
    (sym (all_candidates (λ (u : List ℕ). is_covered pass.level P' H' u pass.dot) (counted_positions m words pass P H)) ∙ all)
  where
    uncovered : (w : Word) (p : ℕ) (g : Bool) → counted_at pass P' H' w p ≡ Some g → is_covered pass.level P' H' (window w.signs p pass.len pass.dot) pass.dot ≡ false
    uncovered w p g is =
        let parts = some_parts (fits w.signs p pass.len pass.dot && not (is_covered pass.level P' H' (window w.signs p pass.len pass.dot) pass.dot)) (counts_as pass.level (status_at P' w p)) g is in
        not-true (is_covered pass.level P' H' (window w.signs p pass.len pass.dot) pass.dot)
        (and_parts (fits w.signs p pass.len pass.dot) (not (is_covered pass.level P' H' (window w.signs p pass.len pass.dot) pass.dot)) parts.0).1

pub all_weaker : {X : Type 0} (t s : X → Bool) → ((x : X) → t x ≡ true → s x ≡ true) → (xs : List X) → list_all t xs ≡ true → list_all s xs ≡ true
all_weaker t s more [] all = refl
all_weaker t s more (x ∷ xs) all = let parts = and_parts (t x) (list_all t xs) all in and_from (s x) (list_all s xs) (more x parts.0) (all_weaker t s more xs parts.1)

-- the window of a candidate is among those that pass one of two tests
abbrev is_decided : (Candidate → Bool) → (Candidate → Bool) → List Candidate → Candidate → Bool
is_decided raised hopeless cs c = is_among c.window (filter raised cs) || is_among c.window (filter hopeless cs)

among_more : (test : Candidate → Bool) (u : List ℕ) (c : Candidate) (cs : List Candidate) → is_among u (filter test cs) ≡ true → is_among u (filter test (c ∷ cs)) ≡ true
among_more test u c cs among =
    elim (test c) as (λ (b : Bool). is_among u (cond b (c ∷ filter test cs) (filter test cs)) ≡ true) [
      | true ↦ or_right (same_signs u c.window) (is_among u (filter test cs)) among
      | false ↦ among
    ]

among_here : (test : Candidate → Bool) (c : Candidate) (cs : List Candidate) → test c ≡ true → is_among c.window (filter test (c ∷ cs)) ≡ true
among_here test c cs pass =
    ap (λ b. is_among c.window (cond b (c ∷ filter test cs) (filter test cs))) pass
    ∙ or_left (same_signs c.window c.window) (is_among c.window (filter test cs)) (ap is_eq (tied_itself nat_list_cmp_total c.window))

all_decided : (raised hopeless : Candidate → Bool) (cs : List Candidate) → list_all (λ c. raised c || hopeless c) cs ≡ true → list_all (is_decided raised hopeless cs) cs ≡ true
all_decided raised hopeless [] all = refl
all_decided raised hopeless (c ∷ cs) all =
    let parts = and_parts (raised c || hopeless c) (list_all (λ (x : Candidate). raised x || hopeless x) cs) all in
    and_from (is_decided raised hopeless (c ∷ cs) c) (list_all (is_decided raised hopeless (c ∷ cs)) cs)
    (⊎_elim
    (λ (pass : raised c ≡ true). or_left (is_among c.window (filter raised (c ∷ cs))) (is_among c.window (filter hopeless (c ∷ cs))) (among_here raised c cs pass))
    (λ (pass : hopeless c ≡ true). or_right (is_among c.window (filter raised (c ∷ cs))) (is_among c.window (filter hopeless (c ∷ cs))) (among_here hopeless c cs pass))
    (or_cases (raised c) (hopeless c) parts.0))
    (all_weaker (is_decided raised hopeless cs) (is_decided raised hopeless (c ∷ cs)) (λ x decided. more x decided) cs (all_decided raised hopeless cs parts.1))
  where
    more : (x : Candidate) → is_decided raised hopeless cs x ≡ true → is_decided raised hopeless (c ∷ cs) x ≡ true
    more x decided =
        ⊎_elim
        (λ (among : is_among x.window (filter raised cs) ≡ true). or_left (is_among x.window (filter raised (c ∷ cs))) (is_among x.window (filter hopeless (c ∷ cs)))
        (among_more raised x.window c cs among))
        (λ (among : is_among x.window (filter hopeless cs) ≡ true). or_right (is_among x.window (filter raised (c ∷ cs))) (is_among x.window (filter hopeless (c ∷ cs)))
        (among_more hopeless x.window c cs among))
        (or_cases (is_among x.window (filter raised cs)) (is_among x.window (filter hopeless cs)) decided)

-- candidates that were each raised or made hopeless are covered
decided_covered : (level dot : ℕ) (P : Patterns) (H : Hopeless) (raised hopeless : Candidate → Bool) (cs : List Candidate) → list_all (λ c. raised c || hopeless c) cs ≡ true
    → list_all (λ c. is_covered level (raised_all level dot P (filter raised cs)) (hopeless_all dot H (filter hopeless cs)) c.window dot) cs ≡ true
decided_covered level dot P H raised hopeless cs all =
    all_weaker (is_decided raised hopeless cs) (λ (c : Candidate). is_covered level (raised_all level dot P (filter raised cs)) (hopeless_all dot H (filter hopeless cs)) c.window dot)
    (λ c decided. covers c decided) cs (all_decided raised hopeless cs all)
  where
    covers : (c : Candidate) → is_decided raised hopeless cs c ≡ true → is_covered level (raised_all level dot P (filter raised cs)) (hopeless_all dot H (filter hopeless cs)) c.window dot ≡ true
    covers c decided =
        ⊎_elim
        (λ (among : is_among c.window (filter raised cs) ≡ true).
        (later_all_hopeless level dot (raised_all level dot P (filter raised cs)) H (filter hopeless cs)).covers c.window dot (covered_all_raised level dot P H c.window (filter raised cs) among))
        (λ (among : is_among c.window (filter hopeless cs) ≡ true). covered_all_hopeless level dot (raised_all level dot P (filter raised cs)) H c.window (filter hopeless cs) among)
        (or_cases (is_among c.window (filter raised cs)) (is_among c.window (filter hopeless cs)) decided)

windows_of : (test : List ℕ → Bool) (counted : List CountedPosition) (us : List (List ℕ))
    → list_all (λ (c : Candidate). test c.window) (map (λ (u : List ℕ). record { window = u; good = good_of counted u; bad = bad_of counted u }) us) ≡ list_all test us
windows_of test counted [] = refl
windows_of test counted (u ∷ us) = ap (λ b. test u && b) (windows_of test counted us)

-- a pass of which each candidate was raised or made hopeless counts nothing afterwards
pub nothing_counts_after : (m : Alphabet) (words : List Word) (pass : Pass) (P : Patterns) (H : Hopeless) (raised hopeless : Candidate → Bool)
    → list_all (λ c. raised c || hopeless c) (with_sums (counted_positions m words pass P H)) ≡ true
    → counted_positions m words pass (raised_all pass.level pass.dot P (filter raised (with_sums (counted_positions m words pass P H))))
    (hopeless_all pass.dot H (filter hopeless (with_sums (counted_positions m words pass P H)))) ≡ []
nothing_counts_after m words pass P H raised hopeless all = from (with_sums (counted_positions m words pass P H)) refl all
  where
    from : (cs : List Candidate) → with_sums (counted_positions m words pass P H) ≡ cs → list_all (λ c. raised c || hopeless c) cs ≡ true
        → counted_positions m words pass (raised_all pass.level pass.dot P (filter raised cs)) (hopeless_all pass.dot H (filter hopeless cs)) ≡ []
    from cs is all =
        nothing_counts_when_covered m words pass P (raised_all pass.level pass.dot P (filter raised cs)) H (hopeless_all pass.dot H (filter hopeless cs))
        (later_after_pass pass.level pass.dot P H (filter raised cs) (filter hopeless cs))
        (sym (windows_of (λ (u : List ℕ). is_covered pass.level (raised_all pass.level pass.dot P (filter raised cs)) (hopeless_all pass.dot H (filter hopeless cs)) u pass.dot)
        (counted_positions m words pass P H) (candidates (counted_positions m words pass P H)))
        ∙ ap (λ (xs : List Candidate). list_all (λ (c : Candidate). is_covered pass.level (raised_all pass.level pass.dot P (filter raised cs))
        (hopeless_all pass.dot H (filter hopeless cs)) c.window pass.dot) xs) is
        ∙ decided_covered pass.level pass.dot P H raised hopeless cs all)
