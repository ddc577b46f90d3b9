-- Walks along a word from cell to cell.
use Rattle.std.proofs.Common.{◌≡◌, ℕ, suc, zero, ◌+◌, ◌-◌, ◌<◌, ◌≤◌, ◌≢◌, max, Bool, true, false, cond, ◌&&◌, nat_eq, nat_lt, nat_le, List, [], ◌∷◌, ◌++◌, length, take, drop, get_or, replicate, refl, sym, ◌∙◌, ap, arith, inl, inr}
use Rattle.std.specs.List.{range_with_len}
use Rattle.std.proofs.Math.Seq.{take-add}
use Rattle.std.proofs.lemmas.Bool.{cases_Bool, cases_lt, le-leb, lt-leb, lt-ltb, le-ltb, eqb-true, eqb-false, eq-eqb, ne_eqb}
use Rattle.std.proofs.lemmas.List.{drop-drop, drop_more}
use Rattle.pg_types.specs.declared.limits.TheConstants.{PATTERN_SIGNS_MAX}
use Rattle.pg_table.specs.Forms.{cell_at}
use Rattle.pg_table.specs.Lookups.{cell_has_sign, lookup, lookup_from, table_entry, value_from, table_value}
use Rattle.pg_table.specs.Inside.view.ListsOf.{list_in}
use Rattle.pg_table.specs.Inside.view.Greatest.{greatest, value_in_list}
use Rattle.pg_table.proofs.laws.Greatest.{entry_as, value_as}
use Rattle.pg_table.specs.Inside.view.Raising.{by_value, by_record_list, by_table_strings, by_table_starts}

-- the greatest of numbers that are all 0
pub greatest_none : (f : ℕ → ℕ) (a n : ℕ) → ((i : ℕ) → a ≤ i → i < a + n → f i ≡ 0) → greatest f (range_with_len a n) ≡ 0
greatest_none f a zero each = refl
greatest_none f a (suc n) each =
    let here : f a ≡ 0 = each a (omega arith) (omega arith) in
    let rest : greatest f (range_with_len (a + 1) n) ≡ 0 = greatest_none f (a + 1) n (λ i low high. each i (omega arith) (omega arith)) in
    omega arith

-- a family that lacks the next sign gives no longer string a list
pub no_sign : (b : List ℕ) (base s : ℕ) → cell_has_sign b base s ≡ false → (more : List ℕ) → lookup_from b base (s ∷ more) ≡ []
no_sign b base s none [] = ap (λ t. cond t (list_in b (cell_at b (base + s)).head) []) none
no_sign b base s none (t ∷ more) = ap (λ x. cond (x && nat_lt 0 (cell_at b (base + s)).child) (lookup_from b (cell_at b (base + s)).child (t ∷ more)) []) none

-- nor does a cell without a family below it
pub no_child : (b : List ℕ) (base s : ℕ) → (cell_at b (base + s)).child ≡ 0 → (t : ℕ) (more : List ℕ) → lookup_from b base (s ∷ t ∷ more) ≡ []
no_child b base s none t more =
    let ends : nat_lt 0 (cell_at b (base + s)).child ≡ false = le-ltb 0 (cell_at b (base + s)).child (omega arith) in
    elim (cases_Bool (cell_has_sign b base s)) [
      | inl has ↦ ap (λ x. cond (cell_has_sign b base s && x) (lookup_from b (cell_at b (base + s)).child (t ∷ more)) []) ends
          ∙ ap (λ x. cond (x && false) (lookup_from b (cell_at b (base + s)).child (t ∷ more)) []) has
      | inr lacks ↦ no_sign b base s lacks (t ∷ more)
    ]

-- the list of a string that ends at its cell
pub list_here : (b : List ℕ) (base s : ℕ) → cell_has_sign b base s ≡ true → lookup_from b base (s ∷ []) ≡ list_in b (cell_at b (base + s)).head
list_here b base s has = ap (λ t. cond t (list_in b (cell_at b (base + s)).head) []) has

-- and a longer one goes on in the family below it
pub list_below : (b : List ℕ) (base s : ℕ) → cell_has_sign b base s ≡ true → (cell_at b (base + s)).child ≢ 0 → (t : ℕ) (more : List ℕ)
    → lookup_from b base (s ∷ t ∷ more) ≡ lookup_from b (cell_at b (base + s)).child (t ∷ more)
list_below b base s has child t more =
    let goes : nat_lt 0 (cell_at b (base + s)).child ≡ true = lt-ltb 0 (cell_at b (base + s)).child (omega arith) in
    ap (λ x. cond (cell_has_sign b base s && x) (lookup_from b (cell_at b (base + s)).child (t ∷ more)) []) goes
    ∙ ap (λ x. cond (x && true) (lookup_from b (cell_at b (base + s)).child (t ∷ more)) []) has

-- the signs from a start on, up to a stop and on
pub record GoesOn (w : List ℕ) (start stop n : ℕ) : Type 0 where
  pub more : List ℕ
  pub whole : take n (drop start w) ≡ take (stop - start) (drop start w) ++ get_or w stop 0 ∷ more
  pub size : n ≡ stop + 1 - start → more ≡ []
  pub longer : stop + 1 - start < n → (t : ℕ) × (rest : List ℕ) × (more ≡ t ∷ rest)

pub goes_on : (w : List ℕ) (start stop n : ℕ) → start ≤ stop → stop < start + n → start + n ≤ length w → GoesOn w start stop n
goes_on w start stop n low high inside =
    let k : ℕ = stop - start in
    let m : ℕ = n - k - 1 in
    let cut : n ≡ k + suc m = omega arith in
    let there : start + k ≡ stop = omega arith in
    let rest : drop k (drop start w) ≡ get_or w stop 0 ∷ drop (stop + 1) w = drop-drop k start w ∙ ap (λ j. drop j w) there ∙ drop_more w stop 0 (omega arith) in
    record {
      more = take m (drop (stop + 1) w);
      whole = ap (λ j. take j (drop start w)) cut ∙ take-add k (suc m) (drop start w) ∙ ap (λ l. take k (drop start w) ++ take (suc m) l) rest;
      size = λ e. let none : m ≡ 0 = omega arith in ap (λ j. take j (drop (stop + 1) w)) none;
      longer = λ lt.
          let some : m ≡ suc (m - 1) = omega arith in
          let more : drop (stop + 1) w ≡ get_or w (stop + 1) 0 ∷ drop (stop + 1 + 1) w = drop_more w (stop + 1) 0 (omega arith) in
          (get_or w (stop + 1) 0, take (m - 1) (drop (stop + 1 + 1) w), ap (λ j. take j (drop (stop + 1) w)) some ∙ ap (λ l. take (suc (m - 1)) l) more);
    }

module _ (b w : List ℕ) where
  -- what strings give that have no list
  value_none : (p start n : ℕ) → (start + n ≤ length w → lookup b (take n (drop start w)) ≡ []) → value_from b w p start n ≡ 0
  value_none p start n none = elim (cases_lt (length w) (start + n)) [
    | inl past ↦ ap (λ t. cond (t && (nat_le start p && nat_le (p - start) n)) (table_entry b (take n (drop start w)) (p - start)) 0) (lt-leb (start + n) (length w) past)
    | inr inside ↦
        ap (λ v. cond (nat_le (start + n) (length w) && (nat_le start p && nat_le (p - start) n)) v 0) (entry_as b (take n (drop start w)) (p - start) ∙ ap (value_in_list (p - start)) (none inside))
        ∙ same (nat_le (start + n) (length w) && (nat_le start p && nat_le (p - start) n)) 0
  ]
    where
      same : (t : Bool) (z : ℕ) → cond t z z ≡ z
      same true z = refl
      same false z = refl

  pub strings_none : (p start n : ℕ) → ((m : ℕ) → n ≤ m → m ≤ PATTERN_SIGNS_MAX → start + m ≤ length w → lookup b (take m (drop start w)) ≡ []) → by_table_strings b w start n p ≡ 0
  unfolding by_table_strings
  strings_none p start n none = greatest_none (value_from b w p start) n (PATTERN_SIGNS_MAX + 1 - n) (λ m low high. value_none p start m (none m low (omega arith)))

  -- what the strings of n signs or more give is what that of n signs gives, and what the longer ones do
  pub strings_more : (p start n : ℕ) → n ≤ PATTERN_SIGNS_MAX → start + n ≤ length w → by_table_strings b w start n p
      ≡ max (by_record_list start n (lookup b (take n (drop start w))) p) (by_table_strings b w start (n + 1) p)
  unfolding by_table_strings
  strings_more p start n few inside =
      let size : PATTERN_SIGNS_MAX + 1 - n ≡ suc (PATTERN_SIGNS_MAX + 1 - (n + 1)) = omega arith in
      ap (λ k. greatest (value_from b w p start) (range_with_len n k)) size
      ∙ ap (λ v. max (cond (nat_le (start + n) (length w) && (nat_le start p && nat_le (p - start) n)) v 0) (by_table_strings b w start (n + 1) p)) (entry_as b (take n (drop start w)) (p - start))
      ∙ ap (λ t. max (cond (t && (nat_le start p && nat_le (p - start) n)) (value_in_list (p - start) (lookup b (take n (drop start w)))) 0) (by_table_strings b w start (n + 1) p))
      (le-leb (start + n) (length w) inside)

  -- and so for the starts
  pub starts_more : (p start : ℕ) → start < length w → by_table_starts b w start p ≡ max (by_table_strings b w start 1 p) (by_table_starts b w (start + 1) p)
  unfolding by_table_starts
  starts_more p start inside =
      let size : length w - start ≡ suc (length w - (start + 1)) = omega arith in
      ap (λ k. greatest (λ i. by_table_strings b w i 1 p) (range_with_len start k)) size

-- what one value gives, of those of a list
pub list_more : (start n : ℕ) (x : ℕ × ℕ) (xs : List (ℕ × ℕ)) (p : ℕ) → by_record_list start n (x ∷ xs) p ≡ max (by_value start n x p) (by_record_list start n xs p)
list_more start n x xs p = elim (cases_lt p start) [
  | inl before ↦
      let no : nat_le start p ≡ false = lt-leb start p before in
      let other : nat_eq (start + x.1) p ≡ false = ne_eqb (start + x.1) p (λ e. omega arith) in
      ap (λ t. cond (t && nat_le (p - start) n) (value_in_list (p - start) (x ∷ xs)) 0) no
      ∙ sym (ap (λ t. max (cond (nat_le x.1 n && t) x.0 0) (by_record_list start n xs p)) other ∙ ap (λ t. max (cond t x.0 0) (by_record_list start n xs p)) (no_and (nat_le x.1 n))
      ∙ ap (λ t. max 0 (cond (t && nat_le (p - start) n) (value_in_list (p - start) xs) 0)) no)
  | inr after ↦
      let yes : nat_le start p ≡ true = le-leb start p after in
      ap (λ t. cond (t && nat_le (p - start) n) (value_in_list (p - start) (x ∷ xs)) 0) yes
      ∙ inside (nat_eq x.1 (p - start)) (nat_le (p - start) n) refl refl after
      ∙ ap (λ t. max (by_value start n x p) (cond (t && nat_le (p - start) n) (value_in_list (p - start) xs) 0)) (sym yes)
]
  where
    no_and : (t : Bool) → (t && false) ≡ false
    no_and true = refl
    no_and false = refl

    by_cases : (same fits : Bool) (v g : ℕ) → cond fits (max (cond same v 0) g) 0 ≡ max (cond (fits && same) v 0) (cond fits g 0)
    by_cases true true v g = refl
    by_cases true false v g = refl
    by_cases false true v g = refl
    by_cases false false v g = refl

    inside : (same fits : Bool) → nat_eq x.1 (p - start) ≡ same → nat_le (p - start) n ≡ fits → start ≤ p
        → cond (nat_le (p - start) n) (max (cond (nat_eq x.1 (p - start)) x.0 0) (value_in_list (p - start) xs)) 0
        ≡ max (by_value start n x p) (cond (nat_le (p - start) n) (value_in_list (p - start) xs) 0)
    inside same fits e d after =
        let g : ℕ = value_in_list (p - start) xs in
        let left : cond (nat_le (p - start) n) (max (cond (nat_eq x.1 (p - start)) x.0 0) g) 0 ≡ cond fits (max (cond same x.0 0) g) 0 =
        ap (λ t. cond t (max (cond (nat_eq x.1 (p - start)) x.0 0) g) 0) d ∙ ap (λ t. cond fits (max (cond t x.0 0) g) 0) e in
        let right : max (by_value start n x p) (cond (nat_le (p - start) n) g 0) ≡ max (cond (fits && same) x.0 0) (cond fits g 0) =
        ap (λ t. max (by_value start n x p) (cond t g 0)) d ∙ ap (λ t. max (cond t x.0 0) (cond fits g 0)) (tests same e) in
        left ∙ by_cases same fits x.0 g ∙ sym right
      where
        tests : (same : Bool) → nat_eq x.1 (p - start) ≡ same → (nat_le x.1 n && nat_eq (start + x.1) p) ≡ (fits && same)
        tests true e =
            let at : x.1 ≡ p - start = eqb-true x.1 (p - start) e in
            let there : nat_eq (start + x.1) p ≡ true = eq-eqb (start + x.1) p (omega arith) in
            ap (λ t. nat_le x.1 n && t) there ∙ ap (λ k. nat_le k n && true) at ∙ ap (λ t. t && true) d
        tests false e =
            let other : nat_eq (start + x.1) p ≡ false = ne_eqb (start + x.1) p (λ z. eqb-false x.1 (p - start) e (omega arith)) in
            ap (λ t. nat_le x.1 n && t) other ∙ no_and (nat_le x.1 n) ∙ sym (no_and fits)

pub empty_list : (start n p : ℕ) → by_record_list start n [] p ≡ 0
empty_list start n p = same (nat_le start p && nat_le (p - start) n) 0
  where
    same : (t : Bool) (z : ℕ) → cond t z z ≡ z
    same true z = refl
    same false z = refl

-- no string begins at the end of a word
pub starts_none : (b w : List ℕ) (p start : ℕ) → length w ≤ start → by_table_starts b w start p ≡ 0
unfolding by_table_starts
starts_none b w p start past =
    let none : length w - start ≡ 0 = omega arith in
    ap (λ n. greatest (λ i. by_table_strings b w i 1 p) (range_with_len start n)) none

-- a list of one element, again and again
pub all_same : {X : Type 0} (x : X) (n p : ℕ) → get_or (replicate n x) p x ≡ x
all_same x zero p = refl
all_same x (suc n) zero = refl
all_same x (suc n) (suc p) = all_same x n p

-- what the strings of all starts give is the value
pub table_value_is : (b w : List ℕ) (p : ℕ) → by_table_starts b w 0 p ≡ table_value b w p
unfolding by_table_starts by_table_strings
table_value_is b w p =
    let size : length w - 0 ≡ length w = omega arith in
    ap (λ n. greatest (λ i. greatest (value_from b w p i) (range_with_len 1 PATTERN_SIGNS_MAX)) (range_with_len 0 n)) size ∙ sym (value_as b w p)
