-- The first law of skipped passes: what is no longer counted in a level is not counted later in it.
use Rattle.std.proofs.Common.{◌≡◌, ℕ, Bool, true, false, cond, not, ◌&&◌, inl, inr, ⊎_elim, List, [], ◌∷◌, ◌++◌, length, Option, Some, None, refl, sym, ap, ◌∙◌}
use Rattle.std.specs.List.{flat_map, slice_index_or}
use Rattle.std.specs.FinMap.Entries.{put}
use Rattle.std.proofs.lemmas.Bool.{and_parts, and_from, or_right}
use Rattle.pg_types.specs.declared.marks.Mark.TheVariants.{Nothing, Error, Missed, Found}
use Rattle.pg_translate.specs.Alphabets.{Alphabet}
use Rattle.pg_dict.specs.Word.{Word}
use Rattle.pg_translate.specs.Reach.{positions}
use Rattle.pg_patterns.specs.DottedSigns.{dotted_cmp}
use Rattle.pg_patterns.specs.Values.{Patterns, raise, applies, value_at}
use Rattle.pg_select.specs.Statuses.{is_odd, status, status_at, position_weight}
use Rattle.pg_select.specs.Windows.{Hopeless, window, fits, is_covered}
use Rattle.pg_select.specs.declared.pass.Pass.{Pass}
use Rattle.pg_select.specs.CountedPositions.{counts_as, counted_at}
use Rattle.pg_select.specs.Inside.words.PositionLists.{counted_positions_at, counted_positions}
use Rattle.pg_select.specs.Inside.words.WordCounts.{counted_positions_in}
use Rattle.pg_select.specs.Inside.laws.Laws.{IsLater}
use Rattle.pg_select.proofs.LawsCounts.{counted_as}
use Rattle.pg_select.proofs.LawsValues.{raised_to, covered_raised, covered_hopeless}

-- a value of the level is not counted at the level
pub none_at_level : (hyphen care : Bool) (level : ℕ) → counts_as level (status hyphen care level) ≡ None
none_at_level hyphen false level = refl
none_at_level true true level =
    elim (is_odd level) as (λ (b : Bool). is_odd level ≡ b → counts_as level (cond b Found Missed) ≡ None) [
      | true ↦ λ e. ap (λ b. cond b None (Some false)) e
      | false ↦ λ e. ap (λ b. cond b (Some true) None) e
    ] refl
none_at_level false true level =
    elim (is_odd level) as (λ (b : Bool). is_odd level ≡ b → counts_as level (cond b Error Nothing) ≡ None) [
      | true ↦ λ e. ap (λ b. cond b None (Some true)) e
      | false ↦ λ e. ap (λ b. cond b (Some false) None) e
    ] refl

pub later_at_once : (level : ℕ) (P : Patterns) (H : Hopeless) → IsLater level P H P H
later_at_once level P H = record { values = λ w p. inl refl; covers = λ u d is. is }

pub later_still : (level : ℕ) (P P' P'' : List ((List ℕ × ℕ) × ℕ)) (H H' H'' : Hopeless) → IsLater level P H P' H' → IsLater level P' H' P'' H'' → IsLater level P H P'' H''
later_still level P P' P'' H H' H'' first second = record {
  values = λ w p. ⊎_elim (λ (same : value_at P'' w p ≡ value_at P' w p). ⊎_elim (λ (kept : value_at P' w p ≡ value_at P w p). inl (same ∙ kept))
      (λ (raised : value_at P' w p ≡ level). inr (same ∙ raised)) (first.values w p)) (λ (raised : value_at P'' w p ≡ level). inr raised) (second.values w p);
  covers = λ u d is. second.covers u d (first.covers u d is);
}

pub later_raised : (level : ℕ) (P : Patterns) (H : Hopeless) (k : List ℕ × ℕ) → IsLater level P H (raise P k level) H
later_raised level P H k = record {
  values = λ w p. raised_to P k level w p;
  covers = λ u d is. covered_raised level P H k u d ∙ or_right (applies u d k) (is_covered level P H u d) is;
}

pub later_hopeless : (level : ℕ) (P : Patterns) (H : Hopeless) (k : List ℕ × ℕ) → IsLater level P H P (put dotted_cmp k (tt {0}) H)
later_hopeless level P H k = record {
  values = λ w p. inl refl;
  covers = λ u d is. covered_hopeless level P H k u d ∙ or_right (applies u d k) (is_covered level P H u d) is;
}

-- what a test lets through
pub some_parts : (b : Bool) (o : Option Bool) (g : Bool) → cond b o None ≡ Some g → (b ≡ true) × (o ≡ Some g)
some_parts true o g is = (refl, is)
some_parts false o g is = cc

pub some_from : (b : Bool) (o : Option Bool) (g : Bool) → b ≡ true → o ≡ Some g → cond b o None ≡ Some g
some_from true o g pass is = is
some_from false o g pass is = cc

-- what is uncovered after was uncovered before
pub uncovered_back : (a b : Bool) → (a ≡ true → b ≡ true) → not b ≡ true → not a ≡ true
uncovered_back true b more is = cc (more refl)
uncovered_back false b more is = refl

-- the first law: of the status of a position, and of the position with its window
pub status_back : (level : ℕ) (P P' : Patterns) (H H' : Hopeless) (w : Word) (p : ℕ) (good : Bool) → IsLater level P H P' H'
    → counts_as level (status_at P' w p) ≡ Some good → counts_as level (status_at P w p) ≡ Some good
status_back level P P' H H' w p good later is =
    ⊎_elim
    (λ (same : value_at P' w.signs p ≡ value_at P w.signs p). ap (λ (v : ℕ). counts_as level (status hyphen care v)) (sym same) ∙ is)
    (λ (raised : value_at P' w.signs p ≡ level). absurd (none_some good (sym (none_at_level hyphen care level) ∙ ap (λ (v : ℕ). counts_as level (status hyphen care v)) (sym raised) ∙ is)))
    (later.values w.signs p)
  where
    hyphen : Bool
    hyphen = slice_index_or w.hyphens p false

    care : Bool
    care = slice_index_or w.cares p true

    none_some : (g : Bool) → None ≡ Some g → ⊥
    none_some g is = cc

pub counted_back : (pass : Pass) (P P' : Patterns) (H H' : Hopeless) (w : Word) (p : ℕ) (good : Bool) → IsLater pass.level P H P' H'
    → counted_at pass P' H' w p ≡ Some good → counted_at pass P H w p ≡ Some good
counted_back pass P P' H H' w p good later is =
    let parts = some_parts (fits w.signs p pass.len pass.dot && not (is_covered pass.level P' H' (window w.signs p pass.len pass.dot) pass.dot)) (counts_as pass.level (status_at P' w p)) good is in
    let tests = and_parts (fits w.signs p pass.len pass.dot) (not (is_covered pass.level P' H' (window w.signs p pass.len pass.dot) pass.dot)) parts.0 in
    some_from (fits w.signs p pass.len pass.dot && not (is_covered pass.level P H (window w.signs p pass.len pass.dot) pass.dot)) (counts_as pass.level (status_at P w p)) good
    (and_from (fits w.signs p pass.len pass.dot) (not (is_covered pass.level P H (window w.signs p pass.len pass.dot) pass.dot)) tests.0
    (uncovered_back (is_covered pass.level P H (window w.signs p pass.len pass.dot) pass.dot) (is_covered pass.level P' H' (window w.signs p pass.len pass.dot) pass.dot)
    (later.covers (window w.signs p pass.len pass.dot) pass.dot) tests.1))
    (status_back pass.level P P' H H' w p good later parts.1)

nil_parts : {X : Type 0} (xs ys : List X) → xs ++ ys ≡ [] → (xs ≡ []) × (ys ≡ [])
nil_parts [] ys is = (refl, is)
nil_parts (x ∷ xs) ys is = cc

-- where what gives nothing gives nothing still
pub nil_more : {X Y : Type 0} (f g : X → List Y) → ((x : X) → f x ≡ [] → g x ≡ []) → (xs : List X) → flat_map f xs ≡ [] → flat_map g xs ≡ []
nil_more f g each [] is = refl
nil_more {Y = Y} f g each (x ∷ xs) is =
    let parts = nil_parts (f x) (flat_map f xs) is in
    ap (λ (ys : List Y). ys ++ flat_map g xs) (each x parts.0) ∙ nil_more f g each xs parts.1

-- nothing is counted at a position that is not counted
unseen_more : (u v : List ℕ) (x : ℕ) (o r : Option Bool) → ((g : Bool) → r ≡ Some g → o ≡ Some g) → counted_as u x o ≡ [] → counted_as v x r ≡ []
unseen_more u v x o None back is = refl
unseen_more u v x None (Some g) back is = cc (back g refl)
unseen_more u v x (Some h) (Some g) back is = cc

-- where nothing is counted, nothing is counted in a pass in which no other position is counted
pub closed_more : (m : Alphabet) (words : List Word) (pass other : Pass) (P P' : Patterns) (H H' : Hopeless)
    → ((w : Word) (p : ℕ) (g : Bool) → counted_at other P' H' w p ≡ Some g → counted_at pass P H w p ≡ Some g) → counted_positions m words pass P H ≡ [] → counted_positions m words other P' H' ≡ []
closed_more m words pass other P P' H H' back is =
    nil_more (counted_positions_in m pass P H) (counted_positions_in m other P' H') (λ w.
    nil_more (counted_positions_at pass P H w) (counted_positions_at other P' H' w)
    (λ p. unseen_more (window w.signs p pass.len pass.dot) (window w.signs p other.len other.dot) (position_weight w p) (counted_at pass P H w p) (counted_at other P' H' w p) (back w p))
    (positions m.left m.right (length w.signs))) words is

pub nothing_later : (m : Alphabet) (words : List Word) (pass : Pass) (P P' : Patterns) (H H' : Hopeless) → IsLater pass.level P H P' H'
    → counted_positions m words pass P H ≡ [] → counted_positions m words pass P' H' ≡ []
nothing_later m words pass P P' H H' later is = closed_more m words pass pass P P' H H' (λ w p g counted. counted_back pass P P' H H' w p g later counted) is
