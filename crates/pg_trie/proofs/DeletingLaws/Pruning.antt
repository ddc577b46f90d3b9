-- Strings that lose their cells, one by one.
use Rattle.std.proofs.Common.{◌≡◌, ◌≢◌, ℕ, T, ◌+◌, ◌<◌, ◌≤◌, ◌⊎◌, Bool, true, false, cond, List, [], ◌∷◌, ◌++◌, length, Option, None, Some, is_some, inl, inr, refl, sym, ◌∙◌, ap, subst, arith, append_assoc, length-append}
use Rattle.std.proofs.lemmas.Bool.{cases_lt, cases_eq, cases_Bool}
use Rattle.std.proofs.lemmas.List.{append-nil, length_push, same_from_push}
use Rattle.std.specs.FinMap.Entries.{find, is_sorted}
use Rattle.pg_types.specs.Inside.Placing.{cell_of, without_sign}
use Rattle.pg_cells.specs.Inside.linked.ValuedFamilies.{ValuedFamilies, without_key}
use Rattle.pg_cells.specs.Inside.linked.AreValuedFamilies.{AreValuedFamilies}
use Rattle.pg_cells.specs.Inside.linked.Members.{IsNextSign, IsBefore, goes_on}
use Rattle.pg_cells.proofs.LinkLaws.{goes_cell, cell_goes}
use Rattle.pg_cells.proofs.Walking.{ends_before}
use Rattle.pg_cells.proofs.StringMaps.{order, equal_or_not, find_without_same, find_without_other}
use Rattle.pg_trie.specs.Inside.PrunedFamilies.{IsDropped, IsNeeded, Drops, IsKeep, PrunesSome, IsProperPrefix, PrunesTo, PrunesBelow, Prunes}
use Rattle.pg_trie.proofs.DeletingLaws.KeptFamilies.{kept_all, kept_less, kept_same}

-- a string without a cell has no value
pub no_value_there : (h : ValuedFamilies ℕ) → AreValuedFamilies h → (q : List ℕ) → cell_of h.families q ≡ None → find order q h.values ≡ None
no_value_there h held q none = by (find order q h.values) refl
  where
    by : (o : Option ℕ) → find order q h.values ≡ o → find order q h.values ≡ None
    by None is = is
    by (Some v) is =
        let cell = held.celled q v is in
        let no : None ≡ Some cell.0 = sym none ∙ cell.1 in
        absurd (cc)

pub not_both : (b : Bool) → b ≡ true → b ≡ false → ⊥
not_both b e d = let no : true ≡ false = sym e ∙ d in cc

pub none_some : {X : Type 0} (o : Option X) (v : X) → o ≡ None → o ≡ Some v → ⊥
none_some o v e d = let no : None ≡ Some v = sym e ∙ d in cc

-- a value that was not there does not come
pub none_stays : (old new : ValuedFamilies ℕ) → ((r : List ℕ) (v : ℕ) → find order r new.values ≡ Some v → find order r old.values ≡ Some v) → (r : List ℕ)
    → find order r old.values ≡ None → find order r new.values ≡ None
none_stays old new less r none = by (find order r new.values) refl
  where
    by : (o : Option ℕ) → find order r new.values ≡ o → find order r new.values ≡ None
    by None e = e
    by (Some v) e = absurd (none_some (find order r old.values) v none (less r v e))

pub some_start : (keep : List ℕ → Bool) (old : ValuedFamilies ℕ) → AreValuedFamilies old → PrunesSome keep old old
some_start keep old held = record {
  held = held;
  signs = refl;
  either = λ q. inl refl;
  families = sym (kept_all (λ q. is_some (find order q old.values)) old held (λ q cell at. let v = held.valued q cell at in ap is_some v.1));
}

-- what a string that is dropped leaves
dropped_none : (mid new : ValuedFamilies ℕ) (k : List ℕ) → IsDropped mid new k → (q : List ℕ) → q ≡ k → find order q new.values ≡ None
dropped_none mid new k d q e = ap (find order q) d.values ∙ ap (λ x. find order x (without_key k mid.values)) e ∙ find_without_same k mid.values

dropped_stays : (mid new : ValuedFamilies ℕ) (k : List ℕ) → IsDropped mid new k → (q : List ℕ) → q ≢ k → find order q new.values ≡ find order q mid.values
dropped_stays mid new k d q n = ap (find order q) d.values ∙ find_without_other q k mid.values n

pub drops_less : (mid new : ValuedFamilies ℕ) (k : List ℕ) → Drops mid new k → (r : List ℕ) (v : ℕ) → find order r new.values ≡ Some v → find order r mid.values ≡ Some v
drops_less mid new k d r v e = elim d.either [
  | inl same ↦ sym (ap (λ (h : ValuedFamilies ℕ). find order r h.values) same.0) ∙ e
  | inr drop ↦ elim (equal_or_not r k) [
    | inl h ↦ absurd (none_some (find order r new.values) v (dropped_none mid new k drop r h.0) e)
    | inr h ↦ sym (dropped_stays mid new k drop r h.0) ∙ e
  ]
]

pub drops_other : (mid new : ValuedFamilies ℕ) (k : List ℕ) → Drops mid new k → (r : List ℕ) → r ≢ k → find order r new.values ≡ find order r mid.values
drops_other mid new k d r other = elim d.either [
  | inl same ↦ ap (λ (h : ValuedFamilies ℕ). find order r h.values) same.0
  | inr drop ↦ dropped_stays mid new k drop r other
]

module _ (keep : List ℕ → Bool) (start mid new : ValuedFamilies ℕ) (k : List ℕ) (held : AreValuedFamilies start) (is_keep : IsKeep keep start)
    (p : PrunesSome keep start mid) (gone : (x : ℕ) (more : List ℕ) → keep (k ++ x ∷ more) ≡ false → find order (k ++ x ∷ more) mid.values ≡ None) where
  -- the value of a string was there from the start
  was_there : (q : List ℕ) (v : ℕ) → find order q mid.values ≡ Some v → find order q start.values ≡ Some v
  was_there q v now = elim (p.either q) [ inl same ↦ sym same ∙ now | inr none ↦ absurd (none_some (find order q mid.values) v none.0 now) ]

  -- a string that is needed though it is not to keep its cell has none
  needed_gone : IsNeeded mid k → keep k ≡ false → find order k mid.values ≡ None
  needed_gone (inl none) not_kept = no_value_there mid p.held k none
  needed_gone (inr (inl one)) not_kept = absurd (not_both (keep k) (is_keep.single k one) not_kept)
  needed_gone (inr (inr (inl l))) not_kept = absurd (not_both (keep k) (is_keep.listed k l.0 (was_there k l.0 l.1) l.2) not_kept)
  needed_gone (inr (inr (inr w))) not_kept = absurd (by (keep (k ++ w.0 ∷ [])) refl)
    where
      by : (b : Bool) → keep (k ++ w.0 ∷ []) ≡ b → ⊥
      by true e = not_both (keep k) (is_keep.goes_on k w.0 e) not_kept
      by false e = none_some (find order (k ++ w.0 ∷ []) mid.values) w.1 (gone w.0 [] e) w.2

  -- a string that lost its cell was not to keep it
  dropped_not_kept : (d : IsDropped mid new k) → keep k ≡ false
  dropped_not_kept d = is_keep.blank k (several d.front d.several d.whole) (was_there k 0 d.blank) (λ x v is. by x v is (p.either (k ++ x ∷ [])))
    where
      several : (f : List ℕ) → f ≢ [] → k ≡ f ++ d.last ∷ [] → 1 < length k
      several [] n e = absurd (n refl)
      several (z ∷ f) n e = omega (arith, ap length e, length_push f d.last)

      by : (x v : ℕ) → find order (k ++ x ∷ []) start.values ≡ Some v → (find order (k ++ x ∷ []) mid.values ≡ find order (k ++ x ∷ []) start.values)
          ⊎ ((find order (k ++ x ∷ []) mid.values ≡ None) × (keep (k ++ x ∷ []) ≡ false)) → keep (k ++ x ∷ []) ≡ false
      by x v is (inl same) =
          let none : find order (k ++ x ∷ []) mid.values ≡ None = ap (λ q. find order q mid.values) (sym (append-nil (k ++ x ∷ []))) ∙ d.ends x [] in
          absurd (none_some (find order (k ++ x ∷ []) mid.values) v none (same ∙ is))
      by x v is (inr none) = none.1

  dropped_some : AreValuedFamilies new → new.signs ≡ mid.signs → IsDropped mid new k → PrunesSome keep start new
  dropped_some new_held signs d = record {
    held = new_held;
    signs = signs ∙ p.signs;
    either = λ q. elim (equal_or_not q k) [
      | inl h ↦ inr (dropped_none mid new k d q h.0, ap keep h.0 ∙ dropped_not_kept d)
      | inr h ↦ elim (p.either q) [ inl same ↦ inl (dropped_stays mid new k d q h.0 ∙ same) | inr none ↦ inr (dropped_stays mid new k d q h.0 ∙ none.0, none.1) ]
    ];
    families =
        d.families
        ∙ ap (λ fs. without_sign fs d.front d.last) p.families
        ∙ kept_less (λ q. is_some (find order q mid.values)) (λ q. is_some (find order q new.values)) start.families d.front d.last held.sorted
        (subst (λ fs. T (is_sorted order fs)) (d.families ∙ ap (λ fs. without_sign fs d.front d.last) p.families) new_held.sorted)
        (λ q n. ap is_some (dropped_stays mid new k d q (λ e. n (e ∙ d.whole))))
        (ap is_some (dropped_none mid new k d (d.front ++ d.last ∷ []) (sym d.whole)));
  }

  pub step_some : Drops mid new k → PrunesSome keep start new
  step_some d = elim d.either [
    | inl same ↦ subst (PrunesSome keep start) (sym same.0) p
    | inr drop ↦ dropped_some d.held d.signs drop
  ]

  pub step_gone : Drops mid new k → keep k ≡ false → find order k new.values ≡ None
  step_gone d not_kept = elim d.either [
    | inl same ↦ ap (λ (h : ValuedFamilies ℕ). find order k h.values) same.0 ∙ needed_gone same.1 not_kept
    | inr drop ↦ dropped_none mid new k drop k refl
  ]

-- a longer string is not below one with the same number of signs
pub above_longer : (q : List ℕ) (s : ℕ) (r : List ℕ) → (IsProperPrefix q r → ⊥) → IsProperPrefix (q ++ s ∷ []) r → ⊥
above_longer q s r off b = off (s, b.0 ∷ b.1, b.2 ∙ append_assoc q (s ∷ []) (b.0 ∷ b.1))

pub not_below : (q : List ℕ) → IsProperPrefix q q → ⊥
not_below q b = omega (arith, ap length b.2, length-append q (b.0 ∷ b.1))

-- no string goes on by a sign that the family lacks
absent_gone : (h : ValuedFamilies ℕ) → AreValuedFamilies h → (q : List ℕ) (x : ℕ) (more : List ℕ) → goes_on h.values q x ≡ false → find order (q ++ x ∷ more) h.values ≡ None
absent_gone h held q x more off =
    ap (λ r. find order r h.values) (sym (append_assoc q (x ∷ []) more)) ∙ ends_before h held q x (none (cell_of h.families (q ++ x ∷ [])) refl) more
  where
    none : (o : Option ℕ) → cell_of h.families (q ++ x ∷ []) ≡ o → cell_of h.families (q ++ x ∷ []) ≡ None
    none None e = e
    none (Some cell) e = absurd (let wrong : false ≡ true = sym off ∙ cell_goes h held q x cell e in cc)

-- a sign that goes on did so before, where no value came
less_goes : (old new : ValuedFamilies ℕ) → ((r : List ℕ) (v : ℕ) → find order r new.values ≡ Some v → find order r old.values ≡ Some v) → (q : List ℕ) (z : ℕ)
    → goes_on new.values q z ≡ true → goes_on old.values q z ≡ true
less_goes old new less q z on = by (find order (q ++ z ∷ []) new.values) refl
  where
    by : (o : Option ℕ) → find order (q ++ z ∷ []) new.values ≡ o → goes_on old.values q z ≡ true
    by None e = absurd (let wrong : false ≡ true = sym (ap is_some e) ∙ on in cc)
    by (Some v) e = ap is_some (less (q ++ z ∷ []) v e)

-- the signs of a family go on as before, where strings below one of them lost their cells
below_goes : (now mid : ValuedFamilies ℕ) (q : List ℕ) (s : ℕ) → PrunesBelow now mid (q ++ s ∷ []) → (z : ℕ) → goes_on mid.values q z ≡ goes_on now.values q z
below_goes now mid q s below z =
    ap is_some (below.elsewhere (q ++ z ∷ []) (λ b. omega (arith, ap length b.2, length_push q z, length-append (q ++ s ∷ []) (b.0 ∷ b.1), length_push q s))).0

-- no sign is before the first one
pub before_first : (h : ValuedFamilies ℕ) (q : List ℕ) (s : ℕ) → IsNextSign h.values q 0 s → 0 < s → IsBefore h.values q s 0
before_first h q s next up = record { less = up; there = inl refl; most = λ z lt goes. most z lt goes (cases_lt 0 z) }
  where
    most : (z : ℕ) → z < s → goes_on h.values q z ≡ true → (0 < z) ⊎ (z ≤ 0) → z ≤ 0
    most z lt goes (inl some) = let l = next.least z some goes in let late = l.1 in absurd (omega arith)
    most z lt goes (inr none) = none

-- the sign before another one is as before, where strings below that one lost their cells
pub before_stays : (now mid : ValuedFamilies ℕ) (q : List ℕ) (s b : ℕ) → PrunesBelow now mid (q ++ s ∷ []) → IsBefore now.values q s b → IsBefore mid.values q s b
before_stays now mid q s b below is = record {
  less = is.less;
  there = elim is.there [ inl z ↦ inl z | inr goes ↦ inr (below_goes now mid q s below b ∙ goes) ];
  most = λ z lt goes. is.most z lt (sym (below_goes now mid q s below z) ∙ goes);
}

-- nothing is done yet
pub to_start : (h : ValuedFamilies ℕ) → AreValuedFamilies h → (q : List ℕ) (s : ℕ) → IsNextSign h.values q 0 s → PrunesTo h h q s
to_start h held q s next = record {
  held = held;
  signs = refl;
  less = λ r v e. e;
  elsewhere = λ r off. (refl, refl);
  some = λ keep start is_keep held0 p. p;
  gone = λ keep start is_keep held0 p x more early not_kept. elim (cases_Bool (goes_on h.values q x)) [
    | inr off ↦ absent_gone h held q x more off
    | inl goes ↦
        let cell = goes_cell h held q x goes in
        let sign = held.signs q x cell.0 cell.1 in
        let up = sign.0 in
        absurd (late x (next.least x (omega arith) goes) early)
  ];
}
  where
    late : (x : ℕ) → (0 < s) × (s ≤ x) → (s ≡ 0) ⊎ (x < s) → ⊥
    late x l (inl z) = let up = l.0 in omega arith
    late x l (inr lt) = let le = l.1 in omega arith

module _ (old now mid new : ValuedFamilies ℕ) (q : List ℕ) (s next : ℕ) (to : PrunesTo old now q s) (below : PrunesBelow now mid (q ++ s ∷ []))
    (drop : Drops mid new (q ++ s ∷ [])) (is_next : IsNextSign now.values q s next) where
  all_less : (r : List ℕ) (v : ℕ) → find order r new.values ≡ Some v → find order r now.values ≡ Some v
  all_less r v e = below.less r v (drops_less mid new (q ++ s ∷ []) drop r v e)

  -- the strings that are as before
  pub step_elsewhere : (r : List ℕ) → (IsProperPrefix (q ++ s ∷ []) r → ⊥) → r ≢ q ++ s ∷ [] → (find order r new.values ≡ find order r now.values) × (cell_of new.families r ≡ cell_of now.families r)
  step_elsewhere r off other = let b = below.elsewhere r off in (drops_other mid new (q ++ s ∷ []) drop r other ∙ b.0, drop.cells r other ∙ b.1)

  step_gone_at : (keep : List ℕ → Bool) (start : ValuedFamilies ℕ) → IsKeep keep start → AreValuedFamilies start → PrunesSome keep start now → (more : List ℕ)
      → keep (q ++ s ∷ more) ≡ false → find order (q ++ s ∷ more) new.values ≡ None
  step_gone_at keep start is_keep held0 p [] not_kept =
      step_gone keep start mid new (q ++ s ∷ []) held0 is_keep (below.some keep start is_keep held0 p) (λ x more off. below.gone keep start is_keep held0 p x more (inl refl) off) drop not_kept
  step_gone_at keep start is_keep held0 p (y ∷ ys) not_kept =
      let whole : (q ++ s ∷ []) ++ y ∷ ys ≡ q ++ s ∷ y ∷ ys = append_assoc q (s ∷ []) (y ∷ ys) in
      none_stays mid new (drops_less mid new (q ++ s ∷ []) drop) (q ++ s ∷ y ∷ ys)
      (ap (λ r. find order r mid.values) (sym whole) ∙ below.gone keep start is_keep held0 p y ys (inl refl) (ap keep whole ∙ not_kept))

  pub to_step : PrunesTo old new q next
  to_step = record {
    held = drop.held;
    signs = drop.signs ∙ below.signs ∙ to.signs;
    less = λ r v e. to.less r v (all_less r v e);
    elsewhere = λ r off.
        let here = step_elsewhere r (above_longer q s r off) (λ e. off (s, [], e)) in
        let before = to.elsewhere r off in
        (here.0 ∙ before.0, here.1 ∙ before.1);
    some = λ keep start is_keep held0 p.
        step_some keep start mid new (q ++ s ∷ []) held0 is_keep (below.some keep start is_keep held0 (to.some keep start is_keep held0 p))
        (λ x more off. below.gone keep start is_keep held0 (to.some keep start is_keep held0 p) x more (inl refl) off) drop;
    gone = λ keep start is_keep held0 p x more early not_kept. elim (cases_lt x s) [
      | inl lt ↦ none_stays now new all_less (q ++ x ∷ more) (to.gone keep start is_keep held0 p x more (inr lt) not_kept)
      | inr le ↦ elim (cases_eq x s) [
        | inl e ↦
            let same : q ++ x ∷ more ≡ q ++ s ∷ more = ap (λ z. q ++ z ∷ more) e in
            ap (λ r. find order r new.values) same ∙ step_gone_at keep start is_keep held0 (to.some keep start is_keep held0 p) more (ap keep (sym same) ∙ not_kept)
        | inr other ↦ elim (cases_Bool (goes_on now.values q x)) [
          | inr off ↦ none_stays now new all_less (q ++ x ∷ more) (absent_gone now to.held q x more off)
          | inl goes ↦ absurd (late x (is_next.least x (omega arith) goes) early)
        ]
      ]
    ];
  }
    where
      late : (x : ℕ) → (0 < next) × (next ≤ x) → (next ≡ 0) ⊎ (x < next) → ⊥
      late x l (inl z) = let up = l.0 in omega arith
      late x l (inr lt) = let le = l.1 in omega arith

  -- the next sign still goes on
  pub next_goes : 0 < next → goes_on new.values q next ≡ true
  next_goes up =
      let f = is_next.found up in
      ap is_some (step_elsewhere (q ++ next ∷ [])
      (λ b. omega (arith, ap length b.2, length_push q next, length-append (q ++ s ∷ []) (b.0 ∷ b.1), length_push q s))
      (λ e. (let same = (same_from_push q q next s e).1 in let lt = f.0 in omega arith))).0
      ∙ f.1

  -- the last sign that stayed is before the next one
  pub next_before : (b last : ℕ) → IsBefore now.values q s b → last ≡ cond (goes_on new.values q s) s b → 0 < next → IsBefore new.values q next last
  next_before b last before is up = by (goes_on new.values q s) refl
    where
      -- no sign stands between the two
      up_to : (z : ℕ) → z < next → goes_on new.values q z ≡ true → z ≤ s
      up_to z lt on = elim (cases_lt s z) [
        | inr le ↦ le
        | inl late ↦ absurd (let l = is_next.least z late (less_goes now new all_less q z on) in let le = l.1 in omega arith)
      ]

      stayed : goes_on new.values q s ≡ true → IsBefore new.values q next s
      stayed goes = record { less = (is_next.found up).0; there = inr goes; most = up_to }

      kept : (z : ℕ) → z ≢ s → goes_on new.values q z ≡ goes_on now.values q z
      kept z other = ap is_some (drops_other mid new (q ++ s ∷ []) drop (q ++ z ∷ []) (λ e. other (same_from_push q q z s e).1)) ∙ below_goes now mid q s below z

      went : goes_on new.values q s ≡ false → IsBefore new.values q next b
      went gone = record {
        less = let a = before.less in let c = (is_next.found up).0 in omega arith;
        there = elim before.there [
          | inl z ↦ inl z
          | inr goes ↦ inr (kept b (λ e. (let a = before.less in omega arith)) ∙ goes)
        ];
        most = λ z lt on. most z (up_to z lt on) on (cases_eq z s);
      }
        where
          most : (z : ℕ) → z ≤ s → goes_on new.values q z ≡ true → (z ≡ s) ⊎ (z ≢ s) → z ≤ b
          most z le on (inl e) = absurd (not_both (goes_on new.values q s) (ap (goes_on new.values q) (sym e) ∙ on) gone)
          most z le on (inr other) = before.most z (omega arith) (less_goes now new all_less q z on)

      by : (t : Bool) → goes_on new.values q s ≡ t → IsBefore new.values q next last
      by true goes = subst (IsBefore new.values q next) (sym (is ∙ ap (λ t. cond t s b) goes)) (stayed goes)
      by false gone = subst (IsBefore new.values q next) (sym (is ∙ ap (λ t. cond t s b) gone)) (went gone)

-- the root: below each sign in turn
pub root_start : (h : ValuedFamilies ℕ) → AreValuedFamilies h → PrunesTo h h [] 1
root_start h held = record {
  held = held;
  signs = refl;
  less = λ r v e. e;
  elsewhere = λ r off. (refl, refl);
  some = λ keep start is_keep held0 p. p;
  gone = λ keep start is_keep held0 p x more early not_kept. absent_gone h held [] x more (zero_off x early);
}
  where
    zero_off : (x : ℕ) → (◌≡◌ {A = ℕ} 1 0) ⊎ (x < 1) → goes_on h.values [] x ≡ false
    zero_off x early = elim (cases_Bool (goes_on h.values [] x)) [
      | inr off ↦ off
      | inl goes ↦
          let cell = goes_cell h held [] x goes in
          let sign = held.signs [] x cell.0 cell.1 in
          absurd (late (sign.0) early)
    ]
      where
        late : 1 ≤ x → (◌≡◌ {A = ℕ} 1 0) ⊎ (x < 1) → ⊥
        late up (inl z) = omega arith
        late up (inr lt) = omega arith

pub root_step : (old now new : ValuedFamilies ℕ) (s : ℕ) → 0 < s → PrunesTo old now [] s → PrunesBelow now new (s ∷ []) → PrunesTo old new [] (s + 1)
root_step old now new s up to below = record {
  held = below.held;
  signs = below.signs ∙ to.signs;
  less = λ r v e. to.less r v (below.less r v e);
  elsewhere = λ r off.
      let here = below.elsewhere r (above_longer [] s r off) in
      let before = to.elsewhere r off in
      (here.0 ∙ before.0, here.1 ∙ before.1);
  some = λ keep start is_keep held0 p. below.some keep start is_keep held0 (to.some keep start is_keep held0 p);
  gone = λ keep start is_keep held0 p x more early not_kept. by keep start is_keep held0 p x more not_kept (cases_eq x s) early;
}
  where
    by : (keep : List ℕ → Bool) (start : ValuedFamilies ℕ) → IsKeep keep start → AreValuedFamilies start → PrunesSome keep start old → (x : ℕ) (more : List ℕ)
        → keep (x ∷ more) ≡ false → (x ≡ s) ⊎ (x ≢ s) → (s + 1 ≡ 0) ⊎ (x < s + 1) → find order (x ∷ more) new.values ≡ None
    by keep start is_keep held0 p x more not_kept e (inl z) = absurd (omega arith)
    by keep start is_keep held0 p x more not_kept (inr other) (inr lt) = none_stays now new below.less (x ∷ more) (to.gone keep start is_keep held0 p x more (inr (omega arith)) not_kept)
    by keep start is_keep held0 p x [] not_kept (inl e) (inr lt) = absurd (not_both (keep (x ∷ [])) (is_keep.single (x ∷ []) (omega arith)) not_kept)
    by keep start is_keep held0 p x (y ∷ ys) not_kept (inl e) (inr lt) =
        ap (λ z. find order (z ∷ y ∷ ys) new.values) e
        ∙ below.gone keep start is_keep held0 (to.some keep start is_keep held0 p) y ys (inl refl) (ap (λ z. keep (z ∷ y ∷ ys)) (sym e) ∙ not_kept)

pub pruned : (keep : List ℕ → Bool) (old new : ValuedFamilies ℕ) (s : ℕ) → AreValuedFamilies old → IsKeep keep old → PrunesTo old new [] s → old.signs < s → Prunes keep old new
pruned keep old new s held is_keep to late = record {
  held = p.held;
  signs = p.signs;
  stays = stays;
  gone = gone;
  families = p.families ∙ kept_same (λ q. is_some (find order q new.values)) keep old.families held.sorted (λ q cell at. by q cell at (keep q) refl);
}
  where
    p : PrunesSome keep old new
    p = to.some keep old is_keep held (some_start keep old held)

    past_signs : (x : ℕ) → s ≤ x → goes_on old.values [] x ≡ false
    past_signs x le = elim (cases_Bool (goes_on old.values [] x)) [
      | inr off ↦ off
      | inl goes ↦
          let cell = goes_cell old held [] x goes in
          let sign = held.signs [] x cell.0 cell.1 in
          absurd (let high = sign.1 in omega arith)
    ]

    stays : (q : List ℕ) → keep q ≡ true → find order q new.values ≡ find order q old.values
    stays q is_kept = elim (p.either q) [ inl same ↦ same | inr none ↦ absurd (not_both (keep q) is_kept none.1) ]

    gone : (q : List ℕ) → keep q ≡ false → find order q new.values ≡ None
    gone [] not_kept = absurd (not_both (keep []) (is_keep.single [] (omega arith)) not_kept)
    gone (x ∷ more) not_kept = elim (cases_lt x s) [
      | inl lt ↦ to.gone keep old is_keep held (some_start keep old held) x more (inr lt) not_kept
      | inr le ↦ none_stays old new to.less (x ∷ more) (absent_gone old held [] x more (past_signs x le))
    ]

    by : (q : List ℕ) (cell : ℕ) → cell_of old.families q ≡ Some cell → (b : Bool) → keep q ≡ b → is_some (find order q new.values) ≡ keep q
    by q cell at true is_kept = let v = held.valued q cell at in ap is_some (stays q is_kept ∙ v.1) ∙ sym is_kept
    by q cell at false not_kept = ap is_some (gone q not_kept) ∙ sym not_kept
