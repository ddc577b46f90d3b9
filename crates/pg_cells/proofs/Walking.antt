-- Laws of walks: where a string has no cell, and what entering a sign leaves of the values.
use Rattle.std.proofs.Common.{◌≡◌, ◌≢◌, ℕ, ◌+◌, ◌-◌, ◌<◌, inl, inr, cond, nat_eq, List, [], ◌∷◌, ◌++◌, length, take, drop, get_or, Option, None, Some, refl, sym, ◌∙◌, ap, arith}
use Rattle.std.proofs.lemmas.Bool.{cases_eq, eq-eqb, ne_eqb}
use Rattle.std.proofs.lemmas.List.{append_assoc, take_more, drop_more, take-append-drop, append-nil, length-take}
use Rattle.std.specs.List.{list_any}
use Rattle.std.specs.Option.{option_map}
use Rattle.std.specs.FinMap.{find, put}
use Rattle.pg_types.specs.Placement.{Family, Families, family_at, base_of, with_sign}
use Rattle.pg_types.specs.Inside.PlacementSteps.{enter_after, enter_by}
use Rattle.pg_types.specs.Inside.Placing.{cell_of}
use Rattle.pg_cells.specs.Inside.linked.ValuedFamilies.{ValuedFamilies}
use Rattle.pg_cells.specs.Inside.linked.AreValuedFamilies.{AreValuedFamilies}
use Rattle.pg_cells.specs.Inside.linked.Walks.{EndsBefore, NeedsNoCell, StepsBy, Steps, AddsBlanks}
use Rattle.pg_cells.proofs.StringMaps.{order, equal_or_not, find_put_same, find_put_other}
use Rattle.pg_cells.proofs.PlacementLaws.{cell_of_last}
use Rattle.pg_cells.proofs.SignLaws.{sign_stays}

-- where there is no family, it has no sign
no_family : (o : Option Family) (x : ℕ) → option_map (λ f. f.base) o ≡ None
    → (elim o as (λ _. Option ℕ) [ None ↦ None | Some f ↦ cond (list_any (nat_eq x) f.signs) (Some (f.base + x)) None ]) ≡ None
no_family None x e = refl
no_family (Some f) x e = cc

pub childless : (fs : Families) (q : List ℕ) (x : ℕ) → base_of fs q ≡ None → cell_of fs (q ++ x ∷ []) ≡ None
childless fs q x e = cell_of_last fs q x ∙ no_family (family_at fs q) x e

-- one sign further on the way to w
pub way_more : (w : List ℕ) (k : ℕ) → k < length w → take (k + 1) w ≡ take k w ++ get_or w k 0 ∷ []
way_more w k lt = take_more w k 0 lt

-- the last sign of a string is entered last
enter_after_last : (n : ℕ) (fs : Families) (a q : List ℕ) (s : ℕ) → enter_after n fs a (q ++ s ∷ []) ≡ with_sign n (enter_after n fs a q) (a ++ q) s
enter_after_last n fs a [] s = ap (λ p. with_sign n fs p s) (sym (append-nil a))
enter_after_last n fs a (t ∷ q) s =
    enter_after_last n (with_sign n fs a t) (a ++ t ∷ []) q s
    ∙ ap (λ p. with_sign n (enter_after n (with_sign n fs a t) (a ++ t ∷ []) q) p s) (append_assoc a (t ∷ []) q)

enter_last : (n : ℕ) (fs : Families) (w : List ℕ) (s : ℕ) → 0 < length w → enter_by n fs (w ++ s ∷ []) ≡ with_sign n (enter_by n fs w) w s
enter_last n fs [] s some = absurd (omega arith)
enter_last n fs (t ∷ q) s some = enter_after_last n fs (t ∷ []) q s

-- the first sign of a string is known
pub first_known : (n : ℕ) (fs : Families) (w : List ℕ) → 0 < length w → NeedsNoCell n fs w 1
first_known n fs [] some = absurd (omega arith)
first_known n fs (s ∷ q) some = record { front = refl; rest = refl }

-- and one more, where it changes nothing
pub more_known : (n : ℕ) (fs : Families) (w : List ℕ) (k : ℕ) → 0 < k → k < length w → with_sign n fs (take k w) (get_or w k 0) ≡ fs → NeedsNoCell n fs w k
    → NeedsNoCell n fs w (k + 1)
more_known n fs w k up lt same known =
    let p = take k w in
    let s = get_or w k 0 in
    record {
      front =
          sym same
          ∙ ap (λ g. with_sign n g p s) known.front
          ∙ sym (enter_last n fs p s (omega (arith, length-take k w)))
          ∙ sym (ap (enter_by n fs) (way_more w k lt));
      rest =
          ap (λ l. enter_after n fs l (drop (k + 1) w)) (way_more w k lt)
          ∙ sym (ap (λ g. enter_after n g (p ++ s ∷ []) (drop (k + 1) w)) same)
          ∙ sym (ap (enter_after n fs p) (drop_more w k 0 lt))
          ∙ known.rest;
    }

module _ {V : Type 0} where
  -- where a string has no cell, no string that begins with it has a value
  pub ends_before : (h : ValuedFamilies V) → AreValuedFamilies h → (p : List ℕ) (x : ℕ) → cell_of h.families (p ++ x ∷ []) ≡ None → EndsBefore h.values (p ++ x ∷ [])
  ends_before h held p x none more = by (find order ((p ++ x ∷ []) ++ more) h.values) refl
    where
      by : (o : Option V) → find order ((p ++ x ∷ []) ++ more) h.values ≡ o → find order ((p ++ x ∷ []) ++ more) h.values ≡ None
      by None is = is
      by (Some v) is =
          let cell = held.celled ((p ++ x ∷ []) ++ more) v is in
          let none : None ≡ Some cell.0 = sym (held.none_longer p x more none) ∙ cell.1 in
          absurd (let no : ⊥ = cc in no)

  -- where there is no base, no string goes on
  pub none_below : (h : ValuedFamilies V) → AreValuedFamilies h → (q : List ℕ) (base : ℕ) → base_of h.families q ≡ cond (nat_eq base 0) None (Some base)
      → base ≡ 0 → (x : ℕ) → EndsBefore h.values (q ++ x ∷ [])
  none_below h held q base e z x = ends_before h held q x (childless h.families q x (e ∙ ap (λ b. cond b None (Some base)) (eq-eqb base 0 z)))

  -- and where there is one, some string does
  pub some_below : (h : ValuedFamilies V) → AreValuedFamilies h → (q : List ℕ) (base : ℕ) → base_of h.families q ≡ cond (nat_eq base 0) None (Some base)
      → 0 < base → (x : ℕ) × (v : V) × (find order (q ++ x ∷ []) h.values ≡ Some v)
  some_below h held q base e up =
      let other : base ≢ 0 = λ z. omega arith in
      let below = held.filled q base (e ∙ ap (λ b. cond b None (Some base)) (ne_eqb base 0 other)) in
      let value = held.valued (q ++ below.0 ∷ []) below.1 below.2 in
      (below.0, value.0, value.1)

  -- a sign that is entered below a string on the way to w
  pub blank_added : (w : List ℕ) (blank : V) (old new : List (List ℕ × V)) (k : ℕ) → find order (take k w) old ≡ None → new ≡ put order (take k w) blank old → AddsBlanks w blank old new
  blank_added w blank old new k none is = record {
    keeps = λ q v e. ap (find order q) is ∙ elim (equal_or_not q (take k w)) [
      | inl h ↦ absurd (let no : None ≡ Some v = sym none ∙ ap (λ y. find order y old) (sym h.0) ∙ e in cc)
      | inr h ↦ find_put_other q (take k w) blank old h.0 ∙ e
    ];
    blanks = λ q v e d. elim (equal_or_not q (take k w)) [
      | inl h ↦
          let there : Some blank ≡ Some v = sym (find_put_same (take k w) blank old) ∙ ap (λ y. find order y (put order (take k w) blank old)) (sym h.0) ∙ ap (find order q) (sym is) ∙ d in
          (let same : v ≡ blank = cc in same, k, h.0)
      | inr h ↦ absurd (let no : None ≡ Some v = sym e ∙ sym (find_put_other q (take k w) blank old h.0) ∙ ap (find order q) (sym is) ∙ d in cc)
    ];
  }

  pub none_added : (w : List ℕ) (blank : V) (old new : List (List ℕ × V)) → new ≡ old → AddsBlanks w blank old new
  none_added w blank old new is = record {
    keeps = λ q v e. ap (find order q) is ∙ e;
    blanks = λ q v e d. absurd (let no : None ≡ Some v = sym e ∙ ap (find order q) (sym is) ∙ d in cc);
  }

  -- blanks that are added in turn
  pub more_added : (w : List ℕ) (blank : V) (old mid new : List (List ℕ × V)) → AddsBlanks w blank old mid → AddsBlanks w blank mid new → AddsBlanks w blank old new
  more_added w blank old mid new a b = record {
    keeps = λ q v e. b.keeps q v (a.keeps q v e);
    blanks = λ q v e d. by q v e d (find order q mid) refl;
  }
    where
      by : (q : List ℕ) (v : V) → find order q old ≡ None → find order q new ≡ Some v → (o : Option V) → find order q mid ≡ o → (v ≡ blank) × (k : ℕ) × (q ≡ take k w)
      by q v e d None is = b.blanks q v is d
      by q v e d (Some u) is =
          let same : Some v ≡ Some u = sym d ∙ b.keeps q u is in
          let there : v ≡ u = cc in
          let first = a.blanks q u e is in
          (there ∙ first.0, first.1, first.2)

  -- a string without a value had none before
  pub still_none : (w : List ℕ) (blank : V) (old new : List (List ℕ × V)) → AddsBlanks w blank old new → (q : List ℕ) → find order q new ≡ None → find order q old ≡ None
  still_none w blank old new a q none = by (find order q old) refl
    where
      by : (o : Option V) → find order q old ≡ o → find order q old ≡ None
      by None is = is
      by (Some v) is = absurd (let no : None ≡ Some v = sym none ∙ a.keeps q v is in cc)

  -- the families after a step
  pub step_families : (old new : ValuedFamilies V) (q : List ℕ) (s : ℕ) (blank : V) → AreValuedFamilies old → Steps old new q s blank
      → new.families ≡ with_sign old.signs old.families q s
  step_families old new q s blank held steps = by (cell_of old.families (q ++ s ∷ [])) refl steps
    where
      by : (o : Option ℕ) → cell_of old.families (q ++ s ∷ []) ≡ o → StepsBy o old new q s blank → new.families ≡ with_sign old.signs old.families q s
      by None is e = ap (λ (h : ValuedFamilies V). h.families) e
      by (Some cell) is e = ap (λ (h : ValuedFamilies V). h.families) e ∙ sym (sign_stays old.signs old held q s cell is)

  pub step_signs : (old new : ValuedFamilies V) (q : List ℕ) (s : ℕ) (blank : V) → Steps old new q s blank → new.signs ≡ old.signs
  step_signs old new q s blank steps = by (cell_of old.families (q ++ s ∷ [])) steps
    where
      by : (o : Option ℕ) → StepsBy o old new q s blank → new.signs ≡ old.signs
      by None e = ap (λ (h : ValuedFamilies V). h.signs) e
      by (Some cell) e = ap (λ (h : ValuedFamilies V). h.signs) e

  -- the values after a step on the way to w
  pub step_values : (w : List ℕ) (old new : ValuedFamilies V) (k : ℕ) (q : List ℕ) (s : ℕ) (blank : V) → AreValuedFamilies old → take k w ≡ q
      ++ s ∷ [] → Steps old new q s blank → AddsBlanks w blank old.values new.values
  step_values w old new k q s blank held way steps = by (cell_of old.families (q ++ s ∷ [])) refl steps
    where
      by : (o : Option ℕ) → cell_of old.families (q ++ s ∷ []) ≡ o → StepsBy o old new q s blank → AddsBlanks w blank old.values new.values
      by None is e =
          let none : find order (take k w) old.values ≡ None = ap (λ y. find order y old.values) way ∙ sym (ap (λ y. find order y old.values) (append-nil (q ++ s ∷ [])))
          ∙ ends_before old held q s is [] in
          blank_added w blank old.values new.values k none (ap (λ (h : ValuedFamilies V). h.values) e ∙ ap (λ y. put order y blank old.values) (sym way))
      by (Some cell) is e = none_added w blank old.values new.values (ap (λ (h : ValuedFamilies V). h.values) e)

  pub enter_more : (n : ℕ) (old new : ValuedFamilies V) (w : List ℕ) (k : ℕ) (blank : V) → AreValuedFamilies old → old.signs ≡ n → k < length w → Steps old new (take k w) (get_or w k 0) blank
      → enter_after n new.families (take (k + 1) w) (drop (k + 1) w) ≡ enter_after n old.families (take k w) (drop k w)
  enter_more n old new w k blank held signs lt steps =
      let p = take k w in
      let s = get_or w k 0 in
      ap (λ l. enter_after n new.families l (drop (k + 1) w)) (way_more w k lt)
      ∙ ap (λ l. enter_after n l (p ++ s ∷ []) (drop (k + 1) w)) (step_families old new p s blank held steps ∙ ap (λ m. with_sign m old.families p s) signs)
      ∙ sym (ap (enter_after n old.families p) (drop_more w k 0 lt))

  -- so much of w is entered
  pub front_more : (n : ℕ) (fs : Families) (old new : ValuedFamilies V) (w : List ℕ) (k : ℕ) (blank : V) → AreValuedFamilies old → old.signs ≡ n → 0 < k → k < length w
      → Steps old new (take k w) (get_or w k 0) blank → old.families ≡ enter_by n fs (take k w) → new.families ≡ enter_by n fs (take (k + 1) w)
  front_more n fs old new w k blank held signs up lt steps front =
      let p = take k w in
      let s = get_or w k 0 in
      step_families old new p s blank held steps
      ∙ ap (λ m. with_sign m old.families p s) signs
      ∙ ap (λ g. with_sign n g p s) front
      ∙ sym (enter_last n fs p s (omega (arith, length-take k w)))
      ∙ sym (ap (enter_by n fs) (way_more w k lt))

  -- the string that a refused step does not reach has no value
  pub not_reached : (values : List (List ℕ × V)) (w : List ℕ) (k : ℕ) → k < length w → EndsBefore values (take k w ++ get_or w k 0 ∷ []) → find order w values ≡ None
  not_reached values w k lt ends =
      ap (λ q. find order q values) (sym (take-append-drop (k + 1) w) ∙ ap (λ l. l ++ drop (k + 1) w) (way_more w k lt))
      ∙ ends (drop (k + 1) w)

-- the measure of a walk along signs falls
pub sign_falls : (s y : ℕ) → s ≢ 0 → s < 65536 → (0 < y → s < y) → cond (nat_eq y 0) 0 (65536 - y) < cond (nat_eq s 0) 0 (65536 - s)
sign_falls s y some small later = elim (cases_eq y 0) [
  | inl z ↦ less (ap (λ b. cond b 0 (65536 - y)) (eq-eqb y 0 z)) (omega arith)
  | inr n ↦ less (ap (λ b. cond b 0 (65536 - y)) (ne_eqb y 0 n)) (let up = later (omega arith) in omega arith)
]
  where
    less : {a b : ℕ} → a ≡ b → b < 65536 - s → a < cond (nat_eq s 0) 0 (65536 - s)
    less e lt = let same = ap (λ b. cond b 0 (65536 - s)) (ne_eqb s 0 some) in omega (arith, e, same, lt)
