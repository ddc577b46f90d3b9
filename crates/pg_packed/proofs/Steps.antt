-- The patterns of a start, entered one after the other.
use Rattle.std.proofs.Common.{◌≡◌, ℕ, suc, zero, ◌+◌, ◌≤◌, Bool, true, false, cond, ◌&&◌, T, List, [], ◌∷◌, map, take, fold, max, unwrap_or, Some, None, slice_get, sym, refl, ap, subst, ◌∙◌, arith, add-one}
use Rattle.std.proofs.lemmas.Bool.{leb-true}
use Rattle.std.proofs.lemmas.List.Elements.{All-nil, All-cons, All-head, All-tail}
use Rattle.std.specs.declared.cmp.Ordering.{Ordering}
use Rattle.std.specs.declared.cmp.Ordering.TheVariants.{Less, Equal, Greater}
use Rattle.std.specs.Ordering.{is_lt, is_eq, ordering_reverse}
use Rattle.std.specs.FinMap.Entries.{put, find, is_sorted, below_all, by_order}
use Rattle.std.specs.List.{All, list_all}
use Rattle.pg_types.specs.Placement.{root, enter, kept_families}
use Rattle.pg_types.specs.Inside.Signs.{is_sign}
use Rattle.pg_patterns.specs.DottedSigns.{dotted_cmp}
use Rattle.pg_patterns.specs.Inside.DottedOrder.{dotted_total}
use Rattle.pg_patterns.specs.Values.{raise}
use Rattle.pg_patterns.specs.Inside.PatternMaps.{IsPatternMap, SignsUpTo}
use Rattle.pg_trie.specs.Inside.Maps.{Maps}
use Rattle.pg_packed.specs.Inside.Starts.{pattern_families}
use Rattle.pg_packed.specs.Inside.EnteredPatterns.{AreEntered}
use Rattle.pg_types.proofs.EntryLists.{below_get, put_next}
use Rattle.pg_packed.proofs.Kept.{kept_entered}
use Rattle.pg_types.proofs.BoolFacts.{and_first, and_second, some_is, first_half, second_half, less_from}

abbrev Entries : Type 0
Entries = List ((List ℕ × ℕ) × ℕ)

after_first : (k : List ℕ × ℕ) (v : ℕ) (e : (List ℕ × ℕ) × ℕ) (es : Entries) (i : ℕ) → T (is_sorted dotted_cmp (e ∷ es)) → slice_get es i ≡ Some (k, v) → dotted_cmp k e.0 ≡ Greater
after_first k v e es i sorted there = dotted_total.antisymm k e.0 ∙ ap ordering_reverse (below_get dotted_cmp dotted_total e.0 k v es i (first_half _ _ sorted) there)

-- it has no value before
not_before : (k : List ℕ × ℕ) (v : ℕ) (es : Entries) (i : ℕ) → T (is_sorted dotted_cmp es) → slice_get es i ≡ Some (k, v) → find dotted_cmp k (take i es) ≡ None
not_before k v [] zero sorted there = cc
not_before k v [] (suc i) sorted there = cc
not_before k v (e ∷ es) zero sorted there = refl
not_before k v (e ∷ es) (suc i) sorted there =
    ap (λ r. cond (is_eq r) (Some e.1) (find dotted_cmp k (take i es))) (after_first k v e es i sorted there) ∙ not_before k v es i (second_half _ _ sorted) there

greater_none : (v : ℕ) → max v 0 ≡ v
greater_none v = omega arith

-- the next entry of a map is raised behind those before it
pub raised_next : (P Q : Entries) (i : ℕ) (k : List ℕ × ℕ) (v : ℕ) → IsPatternMap P → Q ≡ take i P → slice_get P i ≡ Some (k, v) → raise Q k v ≡ take (i + 1) P
raised_next P Q i k v map same there =
    ap (λ x. raise x k v) same
    ∙ ap (λ o. put dotted_cmp k (max v (unwrap_or o 0)) (take i P)) (not_before k v P i map.sorted there)
    ∙ ap (λ n. put dotted_cmp k n (take i P)) (greater_none v)
    ∙ put_next dotted_cmp dotted_total k v P i map.sorted there ∙ ap (λ x. take x P) (sym (add-one i))

fold_next : {X Y Z : Type 0} (f : Y → Z → Y) (g : X → Z) (a : Y) (x : X) (xs : List X) (i : ℕ) → slice_get xs i ≡ Some x → fold f a (map g (take (suc i) xs)) ≡ f (fold f a (map g (take i xs))) (g x)
fold_next f g a x [] zero there = cc
fold_next f g a x [] (suc i) there = cc
fold_next f g a x (y ∷ ys) zero there = ap (λ z. f a (g z)) (some_is y x there)
fold_next f g a x (y ∷ ys) (suc i) there = fold_next f g (f a (g y)) x ys i there

-- and its string is entered
pub families_next : (n : ℕ) (P : Entries) (i : ℕ) (k : List ℕ × ℕ) (v : ℕ) → slice_get P i ≡ Some (k, v) → enter n (pattern_families n (take i P)) k.0 ≡ pattern_families n (take (i + 1) P)
families_next n P i k v there = sym (fold_next (enter n) (λ (e : (List ℕ × ℕ) × ℕ). e.0.0) (root n) (k, v) P i there) ∙ ap (λ x. pattern_families n (take x P)) (sym (add-one i))

upto_get : (n : ℕ) (k : List ℕ × ℕ) (v : ℕ) (P : Entries) (i : ℕ) → SignsUpTo n P → slice_get P i ≡ Some (k, v) → All (λ s. s ≤ n) k.0
upto_get n k v [] zero known there = cc
upto_get n k v [] (suc i) known there = cc
upto_get n k v (e ∷ es) zero known there = subst (λ (z : (List ℕ × ℕ) × ℕ). All (λ s. s ≤ n) z.0.0) (some_is e (k, v) there) (All-head (λ (e : (List ℕ × ℕ) × ℕ). All (λ s. s ≤ n) e.0.0) e es known)
upto_get n k v (e ∷ es) (suc i) known there = upto_get n k v es i (All-tail (λ (e : (List ℕ × ℕ) × ℕ). All (λ s. s ≤ n) e.0.0) e es known) there

within : (n : ℕ) (q : List ℕ) → list_all is_sign q ≡ true → All (λ s. s ≤ n) q → All (λ s. (1 ≤ s) × (s ≤ n)) q
within n [] signs upto = All-nil (λ s. (1 ≤ s) × (s ≤ n))
within n (s ∷ q) signs upto =
    All-cons (λ s. (1 ≤ s) × (s ≤ n)) s q (leb-true 1 s (and_first _ _ signs), All-head (λ s. s ≤ n) s q upto) (within n q (and_second _ _ signs) (All-tail (λ s. s ≤ n) s q upto))

-- the signs of each entry are within those of the trie
pub signs_within : (n : ℕ) (P : Entries) (i : ℕ) (q : List ℕ) (dot v : ℕ) → SignsUpTo n P → slice_get P i ≡ Some ((q, dot), v) → list_all is_sign q ≡ true → All (λ s. (1 ≤ s) × (s ≤ n)) q
signs_within n P i q dot v known there signs = within n q signs (upto_get n (q, dot) v P i known there)

-- the next pattern is entered
pub entered_next : (n : ℕ) (P : Entries) (i : ℕ) (k : List ℕ × ℕ) (v : ℕ) (old new : Maps) → IsPatternMap P → slice_get P i ≡ Some (k, v)
    → AreEntered n (take i P) old → new ≡ record old { patterns = raise old.patterns k v; families = enter old.signs old.families k.0; records = new.records } → AreEntered n (take (i + 1) P) new
entered_next n P i k v old new map there so raised = record {
  signs = ap (λ (m : Maps). m.signs) raised ∙ so.signs;
  families = ap (λ (m : Maps). m.families) raised ∙ ap (λ x. enter x old.families k.0) so.signs ∙ ap (λ fs. enter n fs k.0) so.families ∙ families_next n P i k v there;
  patterns = ap (λ (m : Maps). m.patterns) raised ∙ raised_next P old.patterns i k v map so.patterns there;
  hopeless = ap (λ (m : Maps). m.hopeless) raised ∙ so.hopeless;
}

-- deleting the hopeless marks, of which there are none, leaves the families
pub entered_tidy : (n : ℕ) (P : Entries) (old new : Maps) → 1 ≤ n → AreEntered n P old → new
    ≡ record old { hopeless = []; families = kept_families (map (λ e. e.0.0) old.patterns) old.families; records = new.records } → AreEntered n P new
entered_tidy n P old new some so tidied = record {
  signs = ap (λ (m : Maps). m.signs) tidied ∙ so.signs;
  families = ap (λ (m : Maps). m.families) tidied ∙ ap (λ es. kept_families (map (λ e. e.0.0) es) old.families) so.patterns
      ∙ ap (λ fs. kept_families (map (λ e. e.0.0) P) fs) so.families ∙ kept_entered n P some;
  patterns = ap (λ (m : Maps). m.patterns) tidied ∙ so.patterns;
  hopeless = ap (λ (m : Maps). m.hopeless) tidied;
}
