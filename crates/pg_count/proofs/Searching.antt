-- Steps of the search for the least counted string above a floor.
use Rattle.std.proofs.Common.{◌≡◌, ℕ, ◌+◌, ◌-◌, ◌<◌, ◌≤◌, ◌≢◌, true, false, cond, nat_eq, List, [], ◌∷◌, ◌++◌, length, unwrap_or, Option, None, Some, refl, sym, ◌∙◌, ap, arith, drop, set, length-drop}
use Rattle.std.proofs.lemmas.Bool.{ne_eqb}
use Rattle.std.proofs.lemmas.Bool.Decides.{nat_tests}
use borrow.Rule.Slice.PartMut.{put_mid}
use Rattle.std.proofs.lemmas.List.{append_assoc, append-nil, drop_all}
use Rattle.std.specs.FinMap.{nat_cmp-IsAntisymmetric}
use Rattle.std.specs.declared.cmp.Ordering.{Ordering}
use Rattle.std.specs.declared.cmp.Ordering.TheVariants.{Less, Equal, Greater}
use Rattle.std.specs.List.{list_all}
use Rattle.std.specs.Ordering.{nat_cmp, ordering_then, is_lt}
use Rattle.std.specs.FinMap.Entries.{find}
use Rattle.pg_types.specs.Inside.Placing.{cell_of}
use Rattle.pg_types.specs.Inside.Signs.{is_sign}
use Rattle.pg_cells.specs.Inside.linked.ValuedFamilies.{ValuedFamilies}
use Rattle.pg_cells.specs.Inside.linked.AreValuedFamilies.{AreValuedFamilies}
use Rattle.pg_cells.specs.Inside.linked.Walks.{EndsBefore}
use Rattle.pg_cells.proofs.StringMaps.{order}
use Rattle.pg_count.specs.Inside.Floors.{first_sign, rest_after, is_past}
use Rattle.pg_count.specs.Inside.Counting.{Tallies, sums_at}
use Rattle.pg_count.specs.Inside.Least.{NoneAt, NoneAbove, LeastAbove, LeastAt}
use Rattle.pg_count.proofs.Flooring.{nat_equal, below_first, rest_decides, past_is}
use Rattle.pg_types.proofs.BoolFacts.{less_is}

-- a string that goes on by s and more goes on from the longer string
goes_on : (p : List ℕ) (s : ℕ) (q : List ℕ) → p ++ s ∷ q ≡ (p ++ s ∷ []) ++ q
goes_on p s q = sym (append_assoc p (s ∷ []) q)

-- what is counted has a value
value_of : (ts : Tallies) (q : List ℕ) (n : ℕ × ℕ) → sums_at ts q ≡ Some n → find order q ts ≡ Some (Some n)
value_of ts q n there = by (find order q ts) refl
  where
    by : (o : Option (Option (ℕ × ℕ))) → find order q ts ≡ o → find order q ts ≡ Some (Some n)
    by None is = absurd (let wrong : None ≡ Some n = sym (ap (λ o. unwrap_or o None) is) ∙ there in cc)
    by (Some tally) is = is ∙ ap Some (sym (ap (λ o. unwrap_or o None) is) ∙ there)

-- and each of its signs is one of the table
pub counted_sign : (h : ValuedFamilies (Option (ℕ × ℕ))) → AreValuedFamilies h → (p : List ℕ) (s : ℕ) (q : List ℕ) (n : ℕ × ℕ) → sums_at h.values (p ++ s ∷ q) ≡ Some n → (1 ≤ s) × (s ≤ h.signs)
counted_sign h held p s q n there = by (cell_of h.families (p ++ s ∷ [])) refl
  where
    by : (o : Option ℕ) → cell_of h.families (p ++ s ∷ []) ≡ o → (1 ≤ s) × (s ≤ h.signs)
    by None is =
        let cell = held.celled (p ++ s ∷ q) (Some n) (value_of h.values (p ++ s ∷ q) n there) in
        absurd (let wrong : None ≡ Some cell.0 = sym (held.none_longer p s q is) ∙ sym (ap (cell_of h.families) (goes_on p s q)) ∙ cell.1 in cc)
    by (Some cell) is = held.signs p s cell is

-- no sign before the first of the floor serves
pub none_before : (h : ValuedFamilies (Option (ℕ × ℕ))) → AreValuedFamilies h → (p floor : List ℕ) (k s : ℕ) → s < first_sign floor → NoneAt h.values p floor k s
none_before h held p floor k s lt = λ q n size there over.
    let sign = counted_sign h held p s q n there in
    let less = below_first floor s q sign.0 lt in
    let wrong : Less ≡ Greater = sym over ∙ less in
    cc

-- nor one past the table's
pub none_past : (h : ValuedFamilies (Option (ℕ × ℕ))) → AreValuedFamilies h → (p floor : List ℕ) (k s : ℕ) → h.signs < s → NoneAt h.values p floor k s
none_past h held p floor k s lt = λ q n size there over. let sign = counted_sign h held p s q n there in omega arith

-- nor one below which no string has a value
pub none_ends : (ts : Tallies) (p floor : List ℕ) (k s : ℕ) → EndsBefore ts (p ++ s ∷ []) → NoneAt ts p floor k s
none_ends ts p floor k s ends = λ q n size there over.
    let none : find order (p ++ s ∷ q) ts ≡ None = ap (λ x. find order x ts) (goes_on p s q) ∙ ends q in
    let wrong : None ≡ Some (Some n) = sym none ∙ value_of ts (p ++ s ∷ q) n there in
    cc

-- nor one without a family below it, where more signs are left
pub none_childless : (ts : Tallies) (p floor : List ℕ) (k s : ℕ) → 1 < k → ((x : ℕ) → EndsBefore ts ((p ++ s ∷ []) ++ x ∷ [])) → NoneAt ts p floor k s
none_childless ts p floor k s more ends = by
  where
    by : NoneAt ts p floor k s
    by [] n size there over = omega arith
    by (x ∷ q) n size there over =
        let way : p ++ s ∷ x ∷ q ≡ ((p ++ s ∷ []) ++ x ∷ []) ++ q = goes_on p s (x ∷ q) ∙ goes_on (p ++ s ∷ []) x q in
        let none : find order (p ++ s ∷ x ∷ q) ts ≡ None = ap (λ y. find order y ts) way ∙ ends x q in
        let wrong : None ≡ Some (Some n) = sym none ∙ value_of ts (p ++ s ∷ x ∷ q) n there in
        cc

-- nor one behind which none is above the rest of the floor
pub none_behind : (ts : Tallies) (p floor : List ℕ) (k j s : ℕ) → k ≡ j + 1 → 0 < j → first_sign floor ≤ s → NoneAbove ts (p ++ s ∷ []) (rest_after floor s) j → NoneAt ts p floor k s
none_behind ts p floor k j s size some from none = by
  where
    by : NoneAt ts p floor k s
    by [] n long there over = omega arith
    by (x ∷ q) n long there over =
        none x q n (omega arith) (sym (ap (sums_at ts) (goes_on p s (x ∷ q))) ∙ there)
        (sym (rest_decides floor s (x ∷ q) from (omega arith)) ∙ over)

less_behind : (s : ℕ) (q r : List ℕ) → order (s ∷ q) (s ∷ r) ≡ order q r
less_behind s q r = ap (λ o. ordering_then o (order q r)) (nat_equal s s refl)

-- the sign before the least path behind it
pub least_behind : (ts : Tallies) (p floor : List ℕ) (s : ℕ) (path : List ℕ) (sums : ℕ × ℕ) → 1 ≤ s → 0 < length path → first_sign floor ≤ s
    → LeastAbove ts (p ++ s ∷ []) (rest_after floor s) path sums → LeastAt ts p floor s (s ∷ path) sums
least_behind ts p floor s path sums sign some from least = record {
  tail = path;
  starts = refl;
  least = record {
    found = ap (sums_at ts) (goes_on p s path) ∙ (least 0).found;
    over = rest_decides floor s path from some ∙ (least 0).over;
    are_signs = signs;
    least = none;
  };
}
  where
    signs : list_all is_sign (s ∷ path) ≡ true
    signs = grind (arith, (least 0).are_signs)

    none : (q : List ℕ) (n : ℕ × ℕ) → length (s ∷ q) ≡ length (s ∷ path) → sums_at ts (p ++ s ∷ q) ≡ Some n → order floor (s ∷ q) ≡ Less → order (s ∷ q) (s ∷ path) ≡ Less → ⊥
    none [] n size there over less = omega arith
    none (x ∷ q) n size there over less =
        (least x).least q n (omega arith) (sym (ap (sums_at ts) (goes_on p s (x ∷ q))) ∙ there)
        (sym (rest_decides floor s (x ∷ q) from (omega arith)) ∙ over) (sym (less_behind s (x ∷ q) path) ∙ less)

empty : (q : List ℕ) (s : ℕ) → length (s ∷ q) ≡ 1 → q ≡ []
empty [] s size = refl
empty (x ∷ q) s size = absurd (omega arith)

-- the last sign does not serve where it is not above the floor
pub none_passes : (ts : Tallies) (p floor : List ℕ) (s : ℕ) → is_past floor s ≡ false → NoneAt ts p floor 1 s
none_passes ts p floor s fails = λ q n size there over.
    let less : order floor (s ∷ []) ≡ Less = sym (ap (λ x. order floor (s ∷ x)) (empty q s size)) ∙ over in
    let wrong : true ≡ false = sym (ap is_lt less) ∙ past_is floor s ∙ fails in
    cc

-- nor where its string is not counted
pub none_counted : (ts : Tallies) (p floor : List ℕ) (s : ℕ) → find order (p ++ s ∷ []) ts ≡ Some None → NoneAt ts p floor 1 s
none_counted ts p floor s at = λ q n size there over.
    let none : sums_at ts (p ++ s ∷ q) ≡ None = ap (λ x. sums_at ts (p ++ s ∷ x)) (empty q s size) ∙ ap (λ o. unwrap_or o None) at in
    let wrong : None ≡ Some n = sym none ∙ there in
    cc

-- the last sign, where it serves
pub least_last : (ts : Tallies) (p floor : List ℕ) (s : ℕ) (sums : ℕ × ℕ) → 1 ≤ s → is_past floor s ≡ true → find order (p ++ s ∷ []) ts ≡ Some (Some sums) → LeastAt ts p floor s (s ∷ []) sums
least_last ts p floor s sums sign over there = record {
  tail = [];
  starts = refl;
  least = record {
    found = ap (λ o. unwrap_or o None) there;
    over = less_is (order floor (s ∷ [])) (past_is floor s ∙ over);
    are_signs = signs;
    least = λ q n size at up less.
        let same : order (s ∷ q) (s ∷ []) ≡ Equal = less_behind s q [] ∙ ap (λ x. order x []) (empty q s size) in
        let wrong : Less ≡ Equal = sym less ∙ same in
        cc;
  };
}
  where
    signs : list_all is_sign (s ∷ []) ≡ true
    signs = grind arith

below_from : (x s : ℕ) → nat_cmp x s ≡ Less → x < s
below_from x s is = grind (arith, nat_tests)

-- a path that is the least of its first sign, where no less sign serves
pub least_above : (ts : Tallies) (p floor : List ℕ) (s : ℕ) (path : List ℕ) (sums : ℕ × ℕ) (k : ℕ) → k ≡ length path → ((x : ℕ) → x < s → NoneAt ts p floor k x) → LeastAt ts p floor s path sums → LeastAbove ts p floor path sums
least_above ts p floor s path sums k long none at = λ x. record {
  found = at.least.found;
  over = at.least.over;
  are_signs = at.least.are_signs;
  least = λ q n size there over less. by x q n size there over less (nat_cmp x s) refl;
}
  where
    by : (x : ℕ) (q : List ℕ) (n : ℕ × ℕ) → length (x ∷ q) ≡ length path → sums_at ts (p ++ x ∷ q) ≡ Some n → order floor (x ∷ q) ≡ Less → order (x ∷ q) path ≡ Less → (o : Ordering) → nat_cmp x s ≡ o → ⊥
    by x q n size there over less Less is = none x (below_from x s is) q n (omega arith) there over
    by x q n size there over less Equal is =
        let same : x ≡ s = nat_cmp-IsAntisymmetric x s is in
        at.least.least q n (omega arith) (sym (ap (λ y. sums_at ts (p ++ y ∷ q)) same) ∙ there) (sym (ap (λ y. order floor (y ∷ q)) same) ∙ over) (sym (ap (λ y. order (y ∷ q) path) same) ∙ less)
    by x q n size there over less Greater is =
        let more : order (x ∷ q) path ≡ Greater = ap (order (x ∷ q)) at.starts ∙ ap (λ o. ordering_then o (order q at.tail)) is in
        let wrong : Less ≡ Greater = sym less ∙ more in
        cc

-- a base that is not 0
pub base_there : (o : Option ℕ) (base : ℕ) → o ≡ cond (nat_eq base 0) None (Some base) → base ≢ 0 → o ≡ Some base
base_there o base is other = is ∙ ap (λ b. cond b None (Some base)) (ne_eqb base 0 other)

-- a path whose signs behind the first were written, and then the first
pub path_is : (path rest : List ℕ) (s : ℕ) → 0 < length path → set (put_mid 1 (length path - 1) path rest) 0 s ≡ s ∷ rest
path_is [] rest s some = absurd (omega arith)
path_is (x ∷ xs) rest s some =
    let end : drop (length (x ∷ xs) - 1) (drop 1 (x ∷ xs)) ≡ [] = drop_all (length (x ∷ xs) - 1) (drop 1 (x ∷ xs)) (omega (arith, length-drop 1 (x ∷ xs))) in
    ap (λ r. s ∷ (rest ++ r)) end ∙ ap (λ r. s ∷ r) (append-nil rest)

-- a path of one sign
pub one_is : (path : List ℕ) (s : ℕ) → length path ≡ 1 → set path 0 s ≡ s ∷ []
one_is [] s one = absurd (omega arith)
one_is (x ∷ []) s one = refl
one_is (x ∷ y ∷ path) s one = absurd (omega arith)
