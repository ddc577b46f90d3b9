-- Laws of the links: what a base tells of the signs below a string, and how a sign is linked in and out.
use Rattle.std.proofs.Common.{◌≡◌, ◌≢◌, ℕ, ◌+◌, ◌<◌, ◌≤◌, ◌⊎◌, inl, inr, Bool, true, false, cond, nat_eq, List, [], ◌∷◌, ◌++◌, Option, None, Some, length, get_or, add-one, refl, sym, ◌∙◌, ap, subst, arith}
use Rattle.std.proofs.lemmas.Bool.{cases_eq, cases_lt, ne_eqb, both_ways, false≢true}
use Rattle.std.proofs.lemmas.List.{append-nil, same_from_push, length_push, get_or_append_left, get_or_push}
use Rattle.std.specs.Option.{is_some}
use Rattle.std.specs.FinMap.{find}
use Rattle.pg_types.specs.Placement.{Families, base_of}
use Rattle.pg_types.specs.Inside.Placing.{cell_of}
use Rattle.pg_cells.specs.Inside.linked.ValuedFamilies.{ValuedFamilies}
use Rattle.pg_cells.specs.Inside.linked.AreValuedFamilies.{AreValuedFamilies}
use Rattle.pg_cells.specs.Inside.linked.Members.{IsNext, goes_on, has_sign, number_before}
use Rattle.pg_cells.proofs.StringMaps.{order}
use Rattle.pg_cells.proofs.StringCells.{cell_parts}
use Rattle.pg_cells.proofs.Walking.{none_below}

-- a string with a cell is not empty
pub some_string : (fs : Families) (q : List ℕ) (cell : ℕ) → cell_of fs q ≡ Some cell → q ≢ []
some_string fs q cell at e = let no : None ≡ Some cell = sym (ap (cell_of fs) e) ∙ at in cc

pub some_base : (fs : Families) (q : List ℕ) (base : ℕ) → base_of fs q ≡ cond (nat_eq base 0) None (Some base) → base ≢ 0 → base_of fs q ≡ Some base
some_base fs q base told up = told ∙ ap (λ b. cond b None (Some base)) (ne_eqb base 0 up)

module _ {V : Type 0} (h : ValuedFamilies V) (held : AreValuedFamilies h) where
  -- where a string has no family below it, no sign goes on
  pub none_goes_on : (q : List ℕ) (base : ℕ) → base_of h.families q ≡ cond (nat_eq base 0) None (Some base) → base ≡ 0 → (x : ℕ) → goes_on h.values q x ≡ false
  none_goes_on q base told z x = ap is_some (ap (λ l. find order l h.values) (sym (append-nil (q ++ x ∷ []))) ∙ none_below h held q base told z x [])

  -- by a sign that goes on there is a cell
  pub goes_cell : (q : List ℕ) (s : ℕ) → goes_on h.values q s ≡ true → (cell : ℕ) × (cell_of h.families (q ++ s ∷ []) ≡ Some cell)
  goes_cell q s is = by (find order (q ++ s ∷ []) h.values) refl
    where
      by : (o : Option V) → find order (q ++ s ∷ []) h.values ≡ o → (cell : ℕ) × (cell_of h.families (q ++ s ∷ []) ≡ Some cell)
      by None e = absurd (false≢true (sym (ap is_some e) ∙ is))
      by (Some v) e = held.celled (q ++ s ∷ []) v e

  -- and the other way round
  pub cell_goes : (q : List ℕ) (s cell : ℕ) → cell_of h.families (q ++ s ∷ []) ≡ Some cell → goes_on h.values q s ≡ true
  cell_goes q s cell e = ap is_some (held.valued (q ++ s ∷ []) cell e).1

  -- a sign goes on where the family has it
  pub goes_has : (q : List ℕ) (s : ℕ) → goes_on h.values q s ≡ has_sign h.families q s
  goes_has q s = by (cell_of h.families (q ++ s ∷ [])) refl (find order (q ++ s ∷ []) h.values) refl
    where
      by : (o : Option ℕ) → cell_of h.families (q ++ s ∷ []) ≡ o → (v : Option V) → find order (q ++ s ∷ []) h.values ≡ v → goes_on h.values q s ≡ has_sign h.families q s
      by (Some cell) e v d = cell_goes q s cell e ∙ sym (ap is_some e)
      by None e None d = ap is_some d ∙ sym (ap is_some e)
      by None e (Some v) d = let cell = held.celled (q ++ s ∷ []) v d in absurd (let no : None ≡ Some cell.0 = sym e ∙ cell.1 in cc)

  -- the signs of the root have each its next one
  cell_up : (p : List ℕ) (s cell : ℕ) → cell_of h.families (p ++ s ∷ []) ≡ Some cell → 1 ≤ cell
  cell_up p s cell e =
      let c = cell_parts h.families (p ++ s ∷ []) cell e in
      let parts = same_from_push p c.front s c.last c.whole in
      let sign = held.signs p s cell e in
      let is = c.is in
      let same = parts.1 in
      let up = sign.0 in
      omega arith

  root_cell : (p : List ℕ) (s cell : ℕ) → cell_of h.families (p ++ s ∷ []) ≡ Some cell → cell ≤ h.signs → (p ≡ []) × (s ≡ cell)
  root_cell p s cell e le =
      let whole : p ++ s ∷ [] ≡ [] ++ cell ∷ [] = held.apart (p ++ s ∷ []) (cell ∷ []) cell e (held.alone cell (cell_up p s cell e) le) in
      same_from_push p [] s cell whole

  pub root_next : (p : List ℕ) (s cell : ℕ) → cell_of h.families (p ++ s ∷ []) ≡ Some cell → cell < h.signs → IsNext (goes_on h.values p) s (cell + 1)
  root_next p s cell e lt =
      let at = root_cell p s cell e (omega arith) in
      let sign = at.1 in
      subst (λ r. IsNext (goes_on h.values r) s (cell + 1)) (sym at.0) (record {
        found = λ up. (omega arith, cell_goes [] (cell + 1) (cell + 1) (held.alone (cell + 1) (omega arith) (omega arith)));
        least = λ z less is. (omega arith, omega arith);
      })

  -- the first of which is 1
  pub root_first : IsNext (goes_on h.values []) 0 1
  root_first =
      let x = held.filled [] 0 held.root in
      let sign = held.signs [] x.0 x.1 x.2 in
      record {
        found = λ up. (omega arith, cell_goes [] 1 1 (held.alone 1 (omega arith) (let low = sign.0 in let high = sign.1 in omega arith)));
        least = λ z lt is. (omega arith, omega arith);
      }

  pub root_last : (p : List ℕ) (s cell : ℕ) → cell_of h.families (p ++ s ∷ []) ≡ Some cell → cell ≡ h.signs → IsNext (goes_on h.values p) s 0
  root_last p s cell e same =
      let at = root_cell p s cell e (omega arith) in
      let sign = at.1 in
      subst (λ r. IsNext (goes_on h.values r) s 0) (sym at.0) (record {
        found = λ up. absurd (omega arith);
        least = λ z less is. absurd (let c = goes_cell [] z is in let k = held.signs [] z c.0 c.1 in let most = k.1 in omega arith);
      })

  -- and no other cell is the root's
  pub not_root : (p : List ℕ) (s cell : ℕ) → cell_of h.families (p ++ s ∷ []) ≡ Some cell → h.signs < cell → p ≢ []
  not_root p s cell e late z =
      let alone : cell_of h.families (s ∷ []) ≡ Some cell = ap (λ r. cell_of h.families (r ++ s ∷ [])) (sym z) ∙ e in
      let k = held.signs [] s cell alone in
      let own : Some s ≡ Some cell = sym (held.alone s k.0 k.1) ∙ alone in
      let same : s ≡ cell = cc in
      let most = k.1 in
      omega arith

-- the numbers that pass with one more, which stands behind the number b
pub record HasMore (test more : ℕ → Bool) (s : ℕ) : Type 0 where
  pub here : more s ≡ true
  pub stays : (z : ℕ) → test z ≡ true → more z ≡ true
  pub came : (z : ℕ) → z ≢ s → more z ≡ true → test z ≡ true

module _ (test more : ℕ → Bool) (s b after : ℕ) (has : HasMore test more s) (less : b < s) (there_b : (b ≡ 0) ⊎ (test b ≡ true))
    (most : (z : ℕ) → z < s → test z ≡ true → z ≤ b) (next : IsNext test b after) (lacks : test s ≡ false) where
  after_later : 0 < after → s < after
  after_later up = elim (cases_eq after s) [
    | inl e ↦ absurd (both_ways (test s) lacks (ap test (sym e) ∙ (next.found up).1))
    | inr other ↦ let f = next.found up in late (next.found up) other
  ]
    where
      late : (b < after) × (test after ≡ true) → after ≢ s → s < after
      late f other = by (cases_lt s after)
        where
          by : (s < after) ⊎ (after ≤ s) → s < after
          by (inl lt) = lt
          by (inr le) = let m = most after (omega arith) f.1 in absurd (omega arith)

  -- the new number has the next one of b
  pub more_after : IsNext more s after
  more_after = record {
    found = λ up. (after_later up, has.stays after (next.found up).1);
    least = λ z lt is. (let l = next.least z (omega arith) (has.came z (λ e. omega arith) is) in l);
  }

  -- b has the new number
  pub more_before : IsNext more b s
  more_before = record {
    found = λ up. (less, has.here);
    least = λ z lt is. elim (cases_eq z s) [
      | inl e ↦ (omega arith, omega arith)
      | inr other ↦ (
        omega arith,
        (elim (cases_lt z s) [
          | inl early ↦ absurd (let m = most z early (has.came z other is) in omega arith)
          | inr le ↦ le
        ]),
      )
    ];
  }

  -- and each other number its next one
  pub more_other : (t y : ℕ) → t ≢ b → t ≢ s → (t ≡ 0) ⊎ (test t ≡ true) → IsNext test t y → IsNext more t y
  more_other t y off not_s there old = record {
    found = λ up. (let f = old.found up in (f.0, has.stays y f.1));
    least = λ z lt is. elim (cases_eq z s) [
      | inr other ↦ old.least z lt (has.came z other is)
      | inl e ↦ below z lt e (before t off there (omega arith))
    ];
  }
    where
      before : (t : ℕ) → t ≢ b → (t ≡ 0) ⊎ (test t ≡ true) → t < s → t < b
      before t off (inl z) lt = omega arith
      before t off (inr is) lt = let m = most t lt is in omega arith

      passes : (b ≡ 0) ⊎ (test b ≡ true) → t < b → test b ≡ true
      passes (inl z) early = absurd (omega arith)
      passes (inr is) early = is

      below : (z : ℕ) → t < z → z ≡ s → t < b → (0 < y) × (y ≤ z)
      below z lt e early = let l = old.least b early (passes there_b early) in (l.0, (let le = l.1 in omega arith))

-- the numbers that pass without the one that stands behind the number b
pub record HasLess (test fewer : ℕ → Bool) (s : ℕ) : Type 0 where
  pub here : fewer s ≡ false
  pub other : (z : ℕ) → z ≢ s → fewer z ≡ test z

module _ (test fewer : ℕ → Bool) (s b after : ℕ) (has : HasLess test fewer s) (less : b < s) (there_b : (b ≡ 0) ⊎ (test b ≡ true))
    (most : (z : ℕ) → z < s → test z ≡ true → z ≤ b) (next : IsNext test s after) where
  not_gone : (z : ℕ) → fewer z ≡ true → z ≢ s
  not_gone z is e = both_ways (fewer s) has.here (ap fewer (sym e) ∙ is)

  passed : (z : ℕ) → fewer z ≡ true → test z ≡ true
  passed z is = sym (has.other z (not_gone z is)) ∙ is

  -- b has the next one of the number that is gone
  pub less_before : IsNext fewer b after
  less_before = record {
    found = λ up. (let f = next.found up in (omega (arith, f.0), has.other after (λ e. (let lt = f.0 in omega arith)) ∙ f.1));
    least = λ z lt is. next.least z (late z lt is (cases_lt s z)) (passed z is);
  }
    where
      late : (z : ℕ) → b < z → fewer z ≡ true → (s < z) ⊎ (z ≤ s) → s < z
      late z lt is (inl up) = up
      late z lt is (inr le) = elim (cases_eq z s) [
        | inl e ↦ absurd (not_gone z is e)
        | inr other ↦ absurd (let m = most z (omega arith) (passed z is) in omega arith)
      ]

  -- and each other number its next one
  pub less_other : (t y : ℕ) → t ≢ b → t ≢ s → (t ≡ 0) ⊎ (test t ≡ true) → IsNext test t y → IsNext fewer t y
  less_other t y off not_s there old = record {
    found = λ up. (let f = old.found up in (f.0, has.other y (λ e. not_next e f.0 (before there (let lt = f.0 in omega arith))) ∙ f.1));
    least = λ z lt is. old.least z lt (passed z is);
  }
    where
      before : (t ≡ 0) ⊎ (test t ≡ true) → t < s → t < b
      before (inl z) lt = omega arith
      before (inr is) lt = let m = most t lt is in omega arith

      passes : (b ≡ 0) ⊎ (test b ≡ true) → t < b → test b ≡ true
      passes (inl z) early = absurd (omega arith)
      passes (inr is) early = is

      not_next : y ≡ s → t < y → t < b → ⊥
      not_next e lt early = let l = old.least b early (passes there_b early) in let le = l.1 in omega arith

-- a list with its next number
pub passing_more : (test : ℕ → Bool) (xs : List ℕ) (x : ℕ) → ((k : ℕ) → k < length xs → (0 < get_or xs k 0) × IsNext test (number_before xs k) (get_or xs k 0))
    → 0 < x → IsNext test (number_before xs (length xs)) x
    → (k : ℕ) → k < length (xs ++ x ∷ []) → (0 < get_or (xs ++ x ∷ []) k 0) × IsNext test (number_before (xs ++ x ∷ []) k) (get_or (xs ++ x ∷ []) k 0)
passing_more test xs x each up next k lt = elim (cases_lt k (length xs)) [
  | inl early ↦
      let same : get_or (xs ++ x ∷ []) k 0 ≡ get_or xs k 0 = get_or_append_left xs (x ∷ []) 0 k early in
      let before : number_before (xs ++ x ∷ []) k ≡ number_before xs k = get_or_append_left (0 ∷ xs) (x ∷ []) 0 k (omega arith) in
      let h = each k early in
      (let p = h.0 in omega arith, subst (λ b. IsNext test b (get_or (xs ++ x ∷ []) k 0)) (sym before) (subst (IsNext test (number_before xs k)) (sym same) h.1))
  | inr late ↦
      let size : length xs ≡ k = omega (arith, length_push xs x) in
      let same : get_or (xs ++ x ∷ []) k 0 ≡ x = get_or_push xs x 0 k size in
      let before : number_before (xs ++ x ∷ []) k ≡ number_before xs (length xs) = get_or_append_left (0 ∷ xs) (x ∷ []) 0 k (omega arith) ∙ ap (number_before xs) (sym size) in
      (omega arith, subst (λ b. IsNext test b (get_or (xs ++ x ∷ []) k 0)) (sym before) (subst (IsNext test (number_before xs (length xs))) (sym same) next))
]

-- and its last number
pub last_of_more : (xs : List ℕ) (x : ℕ) → number_before (xs ++ x ∷ []) (length (xs ++ x ∷ [])) ≡ x
last_of_more xs x = ap (number_before (xs ++ x ∷ [])) (length_push xs x) ∙ ap (λ j. get_or (0 ∷ (xs ++ x ∷ [])) j 0) (add-one (length xs)) ∙ get_or_push xs x 0 (length xs) refl

-- a number whose next one is not below s is the one before s
pub none_between : (test : ℕ → Bool) (b next s : ℕ) → IsNext test b next → (next ≡ 0) ⊎ (s ≤ next) → (z : ℕ) → z < s → test z ≡ true → z ≤ b
none_between test b next s is late z lt there = elim (cases_lt b z) [
  | inr le ↦ le
  | inl up ↦ absurd (let l = is.least z up there in no l.0 l.1 late)
]
  where
    no : 0 < next → next ≤ z → (next ≡ 0) ⊎ (s ≤ next) → ⊥
    no up le (inl e) = omega arith
    no up le (inr e) = omega arith

-- where the numbers above a bound and below s fail, and those above another one up to the bound, so do all above that one
pub none_down : (test : ℕ → Bool) (bound low s : ℕ) → ((z : ℕ) → bound < z → z < s → test z ≡ false) → ((z : ℕ) → low < z → z ≤ bound → test z ≡ false) → (z : ℕ) → low < z → z < s → test z ≡ false
none_down test bound low s free fails z late lt = elim (cases_lt bound z) [
  | inl above ↦ free z above lt
  | inr le ↦ fails z late le
]

-- such a bound is not below the number before s
pub below_most : (test : ℕ → Bool) (bound s : ℕ) → ((z : ℕ) → bound < z → z < s → test z ≡ false) → (z : ℕ) → z < s → test z ≡ true → z ≤ bound
below_most test bound s free z lt is = elim (cases_lt bound z) [
  | inr le ↦ le
  | inl late ↦ absurd (both_ways (test z) (free z late lt) is)
]
