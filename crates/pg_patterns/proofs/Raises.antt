-- How a value is raised in a list of entries in order.
use Rattle.std.proofs.Common.{◌≡◌, ℕ, suc, zero, ◌-◌, ◌<◌, ◌≤◌, Bool, true, false, T, List, [], ◌∷◌, ◌++◌, length, drop, take, get_or, set, unwrap_or, max, sym, refl, ap, subst, ◌∙◌, arith, add-one}
use Rattle.std.proofs.lemmas.List.{take-append-drop, drop_more, set_split, get_or_default}
use Rattle.std.specs.FinMap.Entries.{put, is_sorted}
use Rattle.std.specs.Ordering.{is_eq}
use Rattle.std.specs.Bool.{OnTrue}
use Rattle.std.specs.List.{list_all, insert, All}
use Rattle.std.specs.List.Sorted.{IsPartitionPoint, IsPartitionedBy}
use Rattle.pg_patterns.specs.DottedSigns.{dotted_cmp}
use Rattle.pg_patterns.specs.Inside.DottedOrder.{same_dotted, dotted_total, dotted_ties}
use Rattle.pg_patterns.specs.Values.{raise, value_of}
use Rattle.pg_patterns.specs.Inside.Search.{is_after, begins_with}
use Rattle.pg_patterns.proofs.Ordered.{put_over, find_over, put_there, find_there, put_gap, find_gap, first_before, first_at, all_before, first_not_before, sorted_drop, after_at}

-- the entry of the dotted string has the greater value
pub raise_there : (k : List ℕ × ℕ) (v : ℕ) (before rest : List ((List ℕ × ℕ) × ℕ)) (e : (List ℕ × ℕ) × ℕ) → list_all (is_after k) before ≡ true
    → same_dotted k e.0 ≡ true → raise (before ++ e ∷ rest) k v ≡ before ++ (e.0, max v e.1) ∷ rest
raise_there k v before rest e after same =
    let tied : is_eq (dotted_cmp k e.0) ≡ true = sym (dotted_ties k e.0) ∙ same in
    let found : value_of (before ++ e ∷ rest) k ≡ e.1 = ap (λ r. unwrap_or r 0) (find_over dotted_cmp k before (e ∷ rest) after ∙ find_there dotted_cmp k e rest tied) in
    ap (λ n. put dotted_cmp k (max v n) (before ++ e ∷ rest)) found
    ∙ put_over dotted_cmp k (max v e.1) before (e ∷ rest) after
    ∙ ap (λ t. before ++ t) (put_there dotted_cmp k (max v e.1) e rest tied)

pub max_zero : (n : ℕ) → max n 0 ≡ n
max_zero n = omega arith

first_at_begins : (k : List ℕ × ℕ) (es : List ((List ℕ × ℕ) × ℕ)) → begins_with k es ≡ first_at dotted_cmp k es
first_at_begins k [] = refl
first_at_begins k (e ∷ es) = dotted_ties k e.0

-- a dotted string that has no entry gets one between those before it and those after it
pub raise_gap : (k : List ℕ × ℕ) (v : ℕ) (before rest : List ((List ℕ × ℕ) × ℕ)) → list_all (is_after k) before ≡ true → T (is_sorted dotted_cmp rest)
    → first_before dotted_cmp k rest ≡ false → begins_with k rest ≡ false → raise (before ++ rest) k v ≡ before ++ (k, v) ∷ rest
raise_gap k v before rest after sorted first here =
    let at : first_at dotted_cmp k rest ≡ false = sym (first_at_begins k rest) ∙ here in
    let found : value_of (before ++ rest) k ≡ 0 = ap (λ r. unwrap_or r 0) (find_over dotted_cmp k before rest after ∙ find_gap dotted_cmp dotted_total k rest sorted first at) in
    ap (λ n. put dotted_cmp k (max v n) (before ++ rest)) found
    ∙ ap (λ n. put dotted_cmp k n (before ++ rest)) (max_zero v)
    ∙ put_over dotted_cmp k v before rest after
    ∙ ap (λ t. before ++ t) (put_gap dotted_cmp k v rest first at)

within : (k : List ℕ × ℕ) (es : List ((List ℕ × ℕ) × ℕ)) (i : ℕ) → begins_with k (drop i es) ≡ true → i < length es
within k [] zero here = cc
within k [] (suc i) here = cc
within k (e ∷ es) zero here = omega arith
within k (e ∷ es) (suc i) here = let inside : i < length es = within k es i here in omega arith

-- where a search says that the dotted string k stands at i, in s and in t, which are es
abbrev pub Point : List ℕ × ℕ → List ((List ℕ × ℕ) × ℕ) → ℕ → Type 0
Point k es i = IsPartitionPoint (λ e. is_after k e ≡ true) (λ e. is_after k e ≡ false) es i

max_swapped : (a b : ℕ) → max a b ≡ max b a
max_swapped a b = omega arith

pub raised_there : (k : List ℕ × ℕ) (v : ℕ) (es s t : List ((List ℕ × ℕ) × ℕ)) (i : ℕ) (e f : (List ℕ × ℕ) × ℕ) (w : ℕ) → s ≡ es → t ≡ es → i ≤ length s
    → Point k s i → begins_with k (drop i t) ≡ true → e ≡ get_or es i e → f ≡ get_or es i f → w ≡ max f.1 v → set es i (e.0, w) ≡ raise es k v
raised_there k v es s t i e f w first second bound point here entry held greater =
    let start : begins_with k (drop i es) ≡ true = subst (λ x. begins_with k (drop i x) ≡ true) second here in
    let inside : i < length es = within k es i start in
    let upto : i ≤ length es = subst (λ x. i ≤ length x) first bound in
    let search : Point k es i = subst (λ x. Point k x i) first point in
    let cut : drop i es ≡ e ∷ drop (suc i) es = drop_more es i e inside ∙ (λ j. sym entry j ∷ drop (add-one i j) es) in
    let same : same_dotted k e.0 ≡ true = ap (begins_with k) (sym cut) ∙ start in
    let whole : take i es ++ e ∷ drop (suc i) es ≡ es = ap (λ x. take i es ++ x) (sym cut) ∙ take-append-drop i es in
    let one : f ≡ e = held ∙ get_or_default es i f e inside ∙ sym entry in
    set_split es i (e.0, w) inside
    ∙ ap (λ n. take i es ++ (e.0, n) ∷ drop (suc i) es) (greater ∙ max_swapped f.1 v ∙ ap (λ x. max v x.1) one)
    ∙ sym (raise_there k v (take i es) (drop (suc i) es) e (all_before dotted_cmp k es i upto search.0) same)
    ∙ ap (λ x. raise x k v) whole

pub raised_gap : (k : List ℕ × ℕ) (v : ℕ) (es s t : List ((List ℕ × ℕ) × ℕ)) (i : ℕ) → s ≡ es → t ≡ es → T (is_sorted dotted_cmp es) → i ≤ length s
    → Point k s i → begins_with k (drop i t) ≡ false → insert es i (k, v) ≡ raise es k v
raised_gap k v es s t i first second sorted bound point here =
    let start : begins_with k (drop i es) ≡ false = subst (λ x. begins_with k (drop i x) ≡ false) second here in
    let upto : i ≤ length es = subst (λ x. i ≤ length x) first bound in
    let search : Point k es i = subst (λ x. Point k x i) first point in
    sym (raise_gap k v (take i es) (drop i es) (all_before dotted_cmp k es i upto search.0) (sorted_drop dotted_cmp es i sorted)
    (first_not_before dotted_cmp k es i (λ d inside. search.1 i d (omega arith) inside)) start)
    ∙ ap (λ x. raise x k v) (take-append-drop i es)

-- what a search asks: what comes after an entry comes after those before it
pub parted : (k : List ℕ × ℕ) (es : List ((List ℕ × ℕ) × ℕ)) → T (is_sorted dotted_cmp es) → IsPartitionedBy (is_after k) es
parted k es sorted i j d upto inside after = after_at dotted_cmp dotted_total k es i j d sorted upto inside after

-- what comes after the last entry comes after each
pub after_each : (k : List ℕ × ℕ) (es : List ((List ℕ × ℕ) × ℕ)) (last : (List ℕ × ℕ) × ℕ) → T (is_sorted dotted_cmp es) → last ≡ get_or es (length es - 1) last
    → is_after k last ≡ true → (j : ℕ) (d : (List ℕ × ℕ) × ℕ) → j < length es → is_after k (get_or es j d) ≡ true
after_each k es last sorted is after j d inside =
    let there : get_or es (length es - 1) last ≡ get_or es (length es - 1) d = get_or_default es (length es - 1) last d (omega arith) in
    after_at dotted_cmp dotted_total k es j (length es - 1) d sorted (omega arith) (omega arith) (subst (λ x. is_after k x ≡ true) (is ∙ there) after)

pub told_by_last : (k : List ℕ × ℕ) (es : List ((List ℕ × ℕ) × ℕ)) (last : (List ℕ × ℕ) × ℕ) (t : Bool) → T (is_sorted dotted_cmp es) → last
    ≡ get_or es (length es - 1) last → t ≡ is_after k last → OnTrue t (All (λ e. is_after k e ≡ true) es)
told_by_last k es last false sorted is after = tt
told_by_last k es last true sorted is after = after_each k es last sorted is (sym after)
