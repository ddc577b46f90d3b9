-- The list of the strings that have a cell, as it grows.
use Rattle.std.proofs.Common.{◌≡◌, ◌≢◌, ℕ, zero, suc, cond, nat_eq, ◌+◌, ◌<◌, ◌≤◌, ◌⊎◌, true, false, nat_le, List, [], ◌∷◌, ◌++◌, length, get_or, take, drop, slice_get, Option, None, Some, is_some, Result, Ok, Err, OnOk, inl, inr, refl, sym, ◌∙◌, ap, subst, arith, append_assoc}
use Rattle.std.proofs.lemmas.Bool.{leb-true, cases_lt, ne_eqb}
use Rattle.std.proofs.lemmas.List.{append-nil, length_push, take_more, take-append-drop}
use Rattle.std.proofs.lemmas.List.Elements.{All-nil, All-cons}
use Rattle.std.proofs.lemmas.Option.{slice_get_within}
use Rattle.std.specs.List.{list_all, All}
use Rattle.std.specs.FinMap.Entries.{find}
use Rattle.pg_types.specs.Inside.Placing.{cell_of}
use Rattle.pg_types.proofs.BoolFacts.{and_first, and_second}
use Rattle.pg_cells.specs.Inside.linked.ValuedFamilies.{ValuedFamilies}
use Rattle.pg_cells.specs.Inside.linked.AreValuedFamilies.{AreValuedFamilies}
use Rattle.pg_cells.specs.Inside.linked.Members.{IsNext, goes_on}
use Rattle.pg_cells.specs.Inside.linked.Walks.{EndsBefore}
use Rattle.pg_cells.proofs.LinkLaws.{cell_goes}
use Rattle.pg_cells.proofs.StringMaps.{order}
use Rattle.pg_trie.specs.Inside.Strings.{HasShortStrings, IsString, StandsFrom, PutsBelow, AreStringsTo, AreStrings}
use Rattle.pg_trie.proofs.TrieLaws.Kept.{is_known, string_signs}

-- where a string's front has no cell, it has none
pub no_cell : (h : ValuedFamilies ℕ) → AreValuedFamilies h → (w : List ℕ) (i : ℕ) → i < length w → cell_of h.families (take i w ++ get_or w i 0 ∷ []) ≡ None → cell_of h.families w ≡ None
no_cell h held w i lt none =
    ap (cell_of h.families) (sym (take-append-drop (i + 1) w) ∙ ap (λ l. l ++ drop (i + 1) w) (take_more w i 0 lt))
    ∙ held.none_longer (take i w) (get_or w i 0) (drop (i + 1) w) none

known_all : (n : ℕ) (q : List ℕ) → list_all (is_known n) q ≡ true → All (λ s. (1 ≤ s) × (s ≤ n)) q
known_all n [] h = All-nil (λ s. (1 ≤ s) × (s ≤ n))
known_all n (x ∷ q) h =
    let here = and_first (is_known n x) (list_all (is_known n) q) h in
    All-cons (λ s. (1 ≤ s) × (s ≤ n)) x q (leb-true 1 x (and_first (nat_le 1 x) (nat_le x n) here), leb-true x n (and_second (nat_le 1 x) (nat_le x n) here))
    (known_all n q (and_second (is_known n x) (list_all (is_known n) q) h))

-- a string with a cell
pub is_string : (h : ValuedFamilies ℕ) → AreValuedFamilies h → HasShortStrings h → (q : List ℕ) (cell : ℕ) → cell_of h.families q ≡ Some cell → IsString h q
is_string h held short q cell at = record {
  celled = (cell, at);
  known = known_all h.signs q (string_signs h held q cell at);
  few = let v = held.valued q cell at in short q v.0 v.1;
}

-- a longer string of one more sign leaves room
pub has_room : (h : ValuedFamilies ℕ) → AreValuedFamilies h → HasShortStrings h → (q : List ℕ) (s cell : ℕ) → cell_of h.families (q ++ s ∷ []) ≡ Some cell → length q + 1 ≤ 32
has_room h held short q s cell at = let few = (is_string h held short (q ++ s ∷ []) cell at).few in omega (arith, length_push q s)

module _ {X : Type 0} where
  -- what stands in a list stands in a longer one
  pub get_longer : (xs ys : List X) (j : ℕ) (x : X) → slice_get xs j ≡ Some x → slice_get (xs ++ ys) j ≡ Some x
  get_longer [] ys j x at = absurd (let no : None ≡ Some x = at in cc)
  get_longer (y ∷ xs) ys zero x at = at
  get_longer (y ∷ xs) ys (suc j) x at = get_longer xs ys j x at

  pub get_last : (xs : List X) (x : X) → slice_get (xs ++ x ∷ []) (length xs) ≡ Some x
  get_last [] x = refl
  get_last (y ∷ xs) x = get_last xs x

  -- what stands in a list with one more stands in the list, or is the last
  pub get_either : (xs : List X) (x : X) (j : ℕ) (y : X) → slice_get (xs ++ x ∷ []) j ≡ Some y → (slice_get xs j ≡ Some y) ⊎ (y ≡ x)
  get_either [] x zero y at = inr (cc)
  get_either [] x (suc j) y at = absurd (let no : None ≡ Some y = at in cc)
  get_either (z ∷ xs) x zero y at = inl at
  get_either (z ∷ xs) x (suc j) y at = get_either xs x j y at

  pub get_there : (xs : List X) (j : ℕ) → j < length xs → (x : X) × (slice_get xs j ≡ Some x)
  get_there [] j lt = absurd (omega arith)
  get_there (x ∷ xs) zero lt = (x, refl)
  get_there (x ∷ xs) (suc j) lt = get_there xs j (omega arith)

  pub get_index : (xs : List X) (j : ℕ) (x d : X) → slice_get xs j ≡ Some x → get_or xs j d ≡ x
  get_index [] j x d at = absurd (let no : None ≡ Some x = at in cc)
  get_index (y ∷ xs) zero x d at = (cc)
  get_index (y ∷ xs) (suc j) x d at = get_index xs j x d at

-- a number below the bound that a sign sets, which is none for 0
past : (next s most : ℕ) → s < cond (nat_eq next 0) most next → (0 < next) × (next ≤ s) → ⊥
past next s most lt le =
    let same : s < next = subst (λ b. s < cond b most next) (ne_eqb next 0 (λ e. let up = le.0 in omega arith)) lt in
    let most = le.1 in
    omega arith

pub bound_is : (s most : ℕ) → s ≢ 0 → cond (nat_eq s 0) most s ≡ s
bound_is s most up = ap (λ b. cond b most s) (ne_eqb s 0 up)

-- no string was put
pub puts_start : (h : ValuedFamilies ℕ) (p : List ℕ) (m : ℕ) (items : List (List ℕ × ℕ)) → ((s cell : ℕ) → s < m → cell_of h.families (p ++ s ∷ []) ≡ Some cell → ⊥) → PutsBelow h p m items items
puts_start h p m items none = record {
  keeps = λ j k at. at;
  longer = omega arith;
  sound = λ j k at. inl at;
  below = λ s cell lt at. absurd (none s cell lt at);
}

-- where no string goes on, there is nothing to put
pub puts_nothing : (h : ValuedFamilies ℕ) → AreValuedFamilies h → (p : List ℕ) (m : ℕ) (items : List (List ℕ × ℕ)) → ((x : ℕ) → EndsBefore h.values (p ++ x ∷ [])) → PutsBelow h p m items items
puts_nothing h held p m items ends = puts_start h p m items (λ s cell lt at.
    let v = held.valued (p ++ s ∷ []) cell at in
    let none : find order (p ++ s ∷ []) h.values ≡ None = ap (λ q. find order q h.values) (sym (append-nil (p ++ s ∷ []))) ∙ ends s [] in
    let no : None ≡ Some v.0 = sym none ∙ v.1 in
    (cc))

-- no sign stands before the first one of a family
pub puts_first : (h : ValuedFamilies ℕ) → AreValuedFamilies h → (p : List ℕ) (first : ℕ) (items : List (List ℕ × ℕ)) → IsNext (goes_on h.values p) 0 first
    → PutsBelow h p (cond (nat_eq first 0) (h.signs + 1) first) items items
puts_first h held p first items is = puts_start h p (cond (nat_eq first 0) (h.signs + 1) first) items (λ s cell lt at.
    let low = held.signs p s cell at in
    past first s (h.signs + 1) lt (is.least s low.0 (cell_goes h held p s cell at)))

-- nor between a sign and the next one
pub puts_next : (h : ValuedFamilies ℕ) → AreValuedFamilies h → (p : List ℕ) (s next : ℕ) (old new : List (List ℕ × ℕ)) → IsNext (goes_on h.values p) s next
    → PutsBelow h p (s + 1) old new → PutsBelow h p (cond (nat_eq next 0) (h.signs + 1) next) old new
puts_next h held p s next old new is puts = record {
  keeps = puts.keeps;
  longer = puts.longer;
  sound = puts.sound;
  below = λ x cell lt at. elim (cases_lt x (s + 1)) [
    | inl early ↦ puts.below x cell early at
    | inr late ↦ absurd (past next x (h.signs + 1) lt (is.least x (omega arith) (cell_goes h held p x cell at)))
  ];
}

-- the string with the sign m was put
pub puts_one : (h : ValuedFamilies ℕ) (p : List ℕ) (m : ℕ) (old mid new : List (List ℕ × ℕ)) → PutsBelow h p m old mid → IsString h (p ++ m ∷ []) → new
    ≡ mid ++ (p ++ m ∷ [], 0) ∷ [] → PutsBelow h p (m + 1) old new
puts_one h p m old mid new puts string is = subst (λ l. PutsBelow h p (m + 1) old l) (sym is) (record {
  keeps = λ j k at. get_longer mid ((p ++ m ∷ [], 0) ∷ []) j k (puts.keeps j k at);
  longer = omega (arith, puts.longer, length_push mid (p ++ m ∷ [], 0));
  sound = λ j k at. elim (get_either mid (p ++ m ∷ [], 0) j k at) [
    | inl there ↦ puts.sound j k there
    | inr e ↦ inr (subst (λ (x : List ℕ × ℕ). IsString h x.0) (sym e) string)
  ];
  below = λ s cell lt at. elim (less_or_same s m lt) [
    | inl l ↦ let b = puts.below s cell l at in (b.0, b.1, get_longer mid ((p ++ m ∷ [], 0) ∷ []) b.0 (p ++ s ∷ [], 0) b.2)
    | inr e ↦ (length mid, puts.longer, get_last mid (p ++ m ∷ [], 0) ∙ ap (λ x. Some (p ++ x ∷ [], 0)) (sym e))
  ];
})
  where
    less_or_same : (s m : ℕ) → s < m + 1 → (s < m) ⊎ (s ≡ m)
    less_or_same s m lt = elim (cases_lt s m) [ inl l ↦ inl l | inr g ↦ inr (omega arith) ]

-- the strings of one sign
pub strings_start : (h : ValuedFamilies ℕ) → AreValuedFamilies h → (items : List (List ℕ × ℕ)) → PutsBelow h [] (h.signs + 1) [] items → AreStringsTo h items 0
strings_start h held items puts = record {
  sound = λ j k at. elim (puts.sound j k at) [ inl e ↦ absurd (let n : None ≡ Some k = e in cc) | inr s ↦ s ];
  below = λ j k lt at s cell there. absurd (omega arith);
  roots = λ s cell at. let known = held.signs [] s cell at in puts.below s cell (omega (arith, known.1)) at;
}

-- the strings behind the next one
pub strings_step : (h : ValuedFamilies ℕ) → AreValuedFamilies h → (i : ℕ) (old new : List (List ℕ × ℕ)) (k : List ℕ × ℕ) → AreStringsTo h old i
    → slice_get old i ≡ Some k → PutsBelow h k.0 (h.signs + 1) old new → AreStringsTo h new (i + 1)
strings_step h held i old new k strings at puts = record {
  sound = λ j y there. elim (puts.sound j y there) [ inl before ↦ strings.sound j y before | inr s ↦ s ];
  below = λ j y lt there s cell celled. below j y lt there s cell celled (get_there old j (omega (arith, slice_get_within old i k at)));
  roots = λ s cell celled. let r = strings.roots s cell celled in (r.0, omega arith, puts.keeps r.0 (s ∷ [], 0) r.2);
}
  where
    below : (j : ℕ) (y : List ℕ × ℕ) → j < i + 1 → slice_get new j ≡ Some y → (s cell : ℕ) → cell_of h.families (y.0 ++ s ∷ []) ≡ Some cell → (x : List ℕ × ℕ)
        × (slice_get old j ≡ Some x) → StandsFrom new (j + 1) (y.0 ++ s ∷ [])
    below j y lt there s cell celled old_one =
        let same : Some y ≡ Some old_one.0 = sym there ∙ puts.keeps j old_one.0 old_one.1 in
        let is : y ≡ old_one.0 = cc in
        let before : slice_get old j ≡ Some y = old_one.1 ∙ ap Some (sym is) in
        elim (cases_lt j i) [
          | inl l ↦ let b = strings.below j y l before s cell celled in (b.0, b.1, puts.keeps b.0 (y.0 ++ s ∷ [], 0) b.2)
          | inr g ↦
              let e : j ≡ i = omega arith in
              let here : Some y ≡ Some k = sym before ∙ ap (slice_get old) e ∙ at in
              let y_is : y ≡ k = cc in
              let known = held.signs y.0 s cell celled in
              let b = puts.below s cell (omega (arith, known.1)) (ap (λ (x : List ℕ × ℕ). cell_of h.families (x.0 ++ s ∷ [])) (sym y_is) ∙ celled) in
              (b.0, omega (arith, b.1, slice_get_within old i k at), b.2 ∙ ap (λ (x : List ℕ × ℕ). Some (x.0 ++ s ∷ [], 0)) (sym y_is))
        ]

-- each string with a cell stands in the list
pub every_string : (h : ValuedFamilies ℕ) → AreValuedFamilies h → (items : List (List ℕ × ℕ)) → AreStrings h items → (q : List ℕ) (cell : ℕ) → cell_of h.families q ≡ Some cell → StandsFrom items 0 q
every_string h held items strings [] cell at = absurd (let no : None ≡ Some cell = at in cc)
every_string h held items strings (x ∷ q) cell at = from_root (cell_of h.families (x ∷ [])) refl
  where
    behind : (p rest : List ℕ) (cell : ℕ) → StandsFrom items 0 p → cell_of h.families (p ++ rest) ≡ Some cell → StandsFrom items 0 (p ++ rest)
    behind p [] cell there at = subst (StandsFrom items 0) (sym (append-nil p)) there
    behind p (s ∷ more) cell there at =
        let whole : (p ++ s ∷ []) ++ more ≡ p ++ s ∷ more = append_assoc p (s ∷ []) more in
        let at' : cell_of h.families ((p ++ s ∷ []) ++ more) ≡ Some cell = ap (cell_of h.families) whole ∙ at in
        let front : (c : ℕ) × (cell_of h.families (p ++ s ∷ []) ≡ Some c) = fronted p s more cell at' (cell_of h.families (p ++ s ∷ [])) refl in
        let b = strings.below there.0 (p, 0) (slice_get_within items there.0 (p, 0) there.2) there.2 s front.0 front.1 in
        subst (StandsFrom items 0) whole (behind (p ++ s ∷ []) more cell (b.0, omega arith, b.2) at')
      where
        fronted : (p : List ℕ) (s : ℕ) (more : List ℕ) (cell : ℕ) → cell_of h.families ((p ++ s ∷ []) ++ more) ≡ Some cell → (o : Option ℕ)
            → cell_of h.families (p ++ s ∷ []) ≡ o → (c : ℕ) × (cell_of h.families (p ++ s ∷ []) ≡ Some c)
        fronted p s more cell at (Some c) is = (c, is)
        fronted p s more cell at None none = absurd (let no : None ≡ Some cell = sym (held.none_longer p s more none) ∙ at in cc)

    from_root : (o : Option ℕ) → cell_of h.families (x ∷ []) ≡ o → StandsFrom items 0 (x ∷ q)
    from_root None none = absurd (let no : None ≡ Some cell = sym (held.none_longer [] x q none) ∙ at in cc)
    from_root (Some c) some = behind (x ∷ []) q cell (strings.roots x c some) at

-- an option that is told to be there, or not
pub some_there : {X : Type 0} (o : Option X) → is_some o ≡ true → (x : X) × (o ≡ Some x)
some_there None e = absurd (let n : false ≡ true = e in cc)
some_there (Some x) e = (x, refl)

-- what follows where a call is Ok
pub on_ok : {V E : Type 0} (A B : Type 0) (r : Result V E) → (A → B) → OnOk r A → OnOk r B
on_ok A B (Ok x) f h = f h
on_ok A B (Err e) f h = tt

pub on_value : {V E : Type 0} (B : Type 0) (r : Result V E) → ((x : V) → r ≡ Ok x → B) → OnOk r B
on_value B (Ok x) f = f x refl
on_value B (Err e) f = tt
