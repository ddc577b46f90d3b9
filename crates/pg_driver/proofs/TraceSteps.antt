-- One pass more, and what is read off the passes then.
use Rattle.std.proofs.Common.{◌≡◌, ℕ, ◌+◌, ◌≤◌, ◌==◌, nat_le, Bool, true, false, cond, not, ◌&&◌, ◌||◌, List, [], ◌∷◌, ◌++◌, fold, length, map, filter, Option, None, Some, refl, ap, ◌∙◌, arith}
use Rattle.std.specs.List.{list_all}
use Rattle.std.specs.Option.{option_map}
use Rattle.std.proofs.lemmas.Bool.{and_parts, leb-true}
use Rattle.std.proofs.lemmas.Bool.Decides.{nat_tests}
use Rattle.std.proofs.lemmas.List.{map-append, length-append}
use Rattle.std.proofs.lemmas.List.Elements.{filter-append}
use Rattle.std.proofs.lemmas.List.Folds.{list_any-append}
use Rattle.std.proofs.lemmas.List.Sums.{fold-append, sum_by_push}
use Rattle.pg_types.specs.Placement.{Families, top}
use Rattle.pg_types.specs.Inside.PlacementSteps.{taken_count}
use Rattle.pg_select.specs.declared.pass.Pass.{Pass}
use Rattle.pg_driver.specs.Accounts.{has_candidate, makes_skippable}
use Rattle.pg_driver.specs.Inside.records.AccountLines.{begun_among, chosen_by, is_skippable, left_none}
use Rattle.pg_driver.specs.Inside.Layouts.{after_pass}
use Rattle.pg_driver.specs.Inside.records.CellsAccounts.{pass_layouts, passes_with_families}
use Rattle.pg_driver.specs.Inside.level.Levels.{layouts_in}
use Rattle.pg_driver.specs.Inside.level.States.{State, state_after, state_at_end}
use Rattle.pg_driver.specs.Traces.{Knowledge, PassTrace, chosen_in, known_after}
use Rattle.pg_driver.specs.Inside.level.Passes.{known_at_end}

-- what is known at the end of passes and one more
known_push : (known : Knowledge) (ps : List PassTrace) (q : PassTrace) → known_at_end known (ps ++ q ∷ []) ≡ known_after q
known_push known [] q = refl
known_push known (p ∷ ps) q = known_push (known_after p) ps q

families_push : (signs : ℕ) (o : Option Families) (ps : List PassTrace) (q : PassTrace) → option_map (λ fs. fold (after_pass signs) fs (ps ++ q ∷ [])) o
    ≡ option_map (λ fs. after_pass signs fs q) (option_map (λ fs. fold (after_pass signs) fs ps) o)
families_push signs None ps q = refl
families_push signs (Some fs) ps q = ap (λ (gs : Families). Some gs) (fold-append (after_pass signs) fs ps (q ∷ []))

-- the state
pub state_push : (signs : ℕ) (s : State) (ps : List PassTrace) (q : PassTrace) → state_at_end signs s (ps ++ q ∷ []) ≡ state_after signs (state_at_end signs s ps).families q
state_push signs s ps q =
    let known = known_push s.known ps q in
    let families = families_push signs s.families ps q in
    λ i. record { known = known i; families = families i }

-- what is read off those that pass a test
one_more : {A C : Type 0} (g : A → C) (b : Bool) (y : A) → map g (cond b (y ∷ []) []) ≡ cond b (g y ∷ []) []
one_more g true y = refl
one_more g false y = refl

pub filter_push : {A C : Type 0} (g : A → C) (f : A → Bool) (xs : List A) (y : A) → map g (filter f (xs ++ y ∷ [])) ≡ map g (filter f xs) ++ cond (f y) (g y ∷ []) []
filter_push g f xs y =
    ap (map g) (filter-append f xs (y ∷ []))
    ∙ map-append g (filter f xs) (filter f (y ∷ []))
    ∙ ap (λ zs. map g (filter f xs) ++ zs) (one_more g (f y) y)

-- passes with the families after them
with_families_push : (signs : ℕ) (fs : Families) (ps : List PassTrace) (q : PassTrace) → passes_with_families signs fs (ps ++ q ∷ [])
    ≡ passes_with_families signs fs ps ++ (q, fold (after_pass signs) fs (ps ++ q ∷ [])) ∷ []
with_families_push signs fs [] q = refl
with_families_push signs fs (p ∷ ps) q = ap (λ es. (p, after_pass signs fs p) ∷ es) (with_families_push signs (after_pass signs fs p) ps q)

abbrev layout_after : PassTrace × Families → Pass × ℕ × ℕ
layout_after e = (e.0.pass, taken_count e.1, top e.1)

-- the layouts of passes
pub layouts_push : (signs : ℕ) (o : Option Families) (ps : List PassTrace) (q : PassTrace)
    → layouts_in signs o (ps ++ q ∷ []) ≡ layouts_in signs o ps ++ cond (has_candidate q)
    (option_map (λ fs. (q.pass, taken_count fs, top fs)) (option_map (λ fs. fold (after_pass signs) fs (ps ++ q ∷ [])) o) ∷ []) []
layouts_push signs None ps q = filter_push (λ (_ : PassTrace). let none : Option (Pass × ℕ × ℕ) = None in none) has_candidate ps q
layouts_push signs (Some fs) ps q =
    let last : PassTrace × Families = (q, fold (after_pass signs) fs (ps ++ q ∷ [])) in
    let some : Pass × ℕ × ℕ → Option (Pass × ℕ × ℕ) = λ x. Some x in
    ap (λ (es : List (PassTrace × Families)). map some (map layout_after (filter (λ e. has_candidate e.0) es))) (with_families_push signs fs ps q)
    ∙ ap (map some) (filter_push layout_after (λ e. has_candidate e.0) (passes_with_families signs fs ps) last)
    ∙ map-append some (pass_layouts signs fs ps) (cond (has_candidate q) (layout_after last ∷ []) [])
    ∙ ap (λ zs. map some (pass_layouts signs fs ps) ++ zs) (one_more some (has_candidate q) (layout_after last))

pub chosen_push : (ps : List PassTrace) (q : PassTrace) → chosen_by (ps ++ q ∷ []) ≡ chosen_by ps + length (chosen_in q)
chosen_push ps q = sum_by_push (λ p. length (chosen_in p)) ps q

-- a pass is skippable by one of the passes before it or by the last
or_last : (a b : Bool) → (a || (b || false)) ≡ (b || a)
or_last true true = refl
or_last true false = refl
or_last false true = refl
or_last false false = refl

pub skippable_push : (ps : List PassTrace) (q : PassTrace) (x : Pass) → is_skippable (ps ++ q ∷ []) x ≡ (makes_skippable q x || is_skippable ps x)
skippable_push ps q x = list_any-append (λ p. makes_skippable p x) ps (q ∷ []) ∙ or_last (is_skippable ps x) (makes_skippable q x)

not_shorter : (n k : ℕ) → k ≤ n → (n + 1 == k) ≡ false
not_shorter n k least = grind (arith, nat_tests)

off : (a t r : Bool) → t ≡ false → (a && (t && r)) ≡ false
off true t r is = ap (λ x. x && r) is
off false t r is = refl

-- a pass makes none skippable that is not longer
pub skips_none : (q : PassTrace) (x : Pass) → x.len ≤ q.pass.len → makes_skippable q x ≡ false
skips_none q x least = off (left_none q) (q.pass.len + 1 == x.len) (q.pass.dot == x.dot || q.pass.dot + 1 == x.dot) (not_shorter q.pass.len x.len least)

same_begun : (all : List PassTrace) (q : PassTrace) (xs : List PassTrace) → list_all (λ p. nat_le p.pass.len q.pass.len) xs ≡ true
    → filter (λ x. not (is_skippable (all ++ q ∷ []) x.pass)) xs ≡ filter (λ x. not (is_skippable all x.pass)) xs
same_begun all q [] short = refl
same_begun all q (x ∷ xs) short =
    let parts = and_parts (nat_le x.pass.len q.pass.len) (list_all (λ p. nat_le p.pass.len q.pass.len) xs) short in
    let same : is_skippable (all ++ q ∷ []) x.pass ≡ is_skippable all x.pass =
    skippable_push all q x.pass ∙ ap (λ b. b || is_skippable all x.pass) (skips_none q x.pass (leb-true x.pass.len q.pass.len parts.0)) in
    ap (λ b. cond (not b) (x ∷ filter (λ x. not (is_skippable (all ++ q ∷ []) x.pass)) xs) (filter (λ x. not (is_skippable (all ++ q ∷ []) x.pass)) xs)) same
    ∙ ap (λ ys. cond (not (is_skippable all x.pass)) (x ∷ ys) ys) (same_begun all q xs parts.1)

counted_one : (b : Bool) (q : PassTrace) → length (cond (not b) (q ∷ []) []) ≡ cond b 0 1
counted_one true q = refl
counted_one false q = refl

-- how many of passes are begun, and of those and one more that is not shorter
pub begun_push : (ps : List PassTrace) (q : PassTrace) → list_all (λ p. nat_le p.pass.len q.pass.len) ps ≡ true → length (begun_among (ps ++ q ∷ []))
    ≡ length (begun_among ps) + cond (is_skippable ps q.pass) 0 1
begun_push ps q short =
    let f : PassTrace → Bool = λ x. not (is_skippable (ps ++ q ∷ []) x.pass) in
    let last : is_skippable (ps ++ q ∷ []) q.pass ≡ is_skippable ps q.pass = skippable_push ps q q.pass ∙ ap (λ b. b || is_skippable ps q.pass) (skips_none q q.pass (omega arith)) in
    ap (λ (xs : List PassTrace). length xs) (filter-append f ps (q ∷ []))
    ∙ length-append (filter f ps) (filter f (q ∷ []))
    ∙ ap (λ (xs : List PassTrace). length xs + length (filter f (q ∷ []))) (same_begun ps q ps short)
    ∙ ap (λ b. length (begun_among ps) + length (cond (not b) (q ∷ []) [])) last
    ∙ ap (λ n. length (begun_among ps) + n) (counted_one (is_skippable ps q.pass) q)
