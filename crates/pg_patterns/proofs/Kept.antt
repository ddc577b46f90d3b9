-- What a sort by dotted string and falling value leaves, when the first entry of each is kept.
use Rattle.std.proofs.Common.{◌≡◌, ℕ, suc, ◌<◌, ◌≤◌, Bool, true, false, cond, not, T, ◌⊎◌, inl, inr, List, []}
use Rattle.std.proofs.Common.{◌∷◌, length, get_or, Option, Some, None, unwrap_or, max, nat_cmp, sym, refl, ap, subst, ◌∙◌, arith}
use Rattle.std.proofs.lemmas.Cmp.{ranked, then_total, on_total, back_total}
use Rattle.std.proofs.lemmas.List.Elements.{All-nil, All-cons, All-head, All-tail}
use Rattle.std.proofs.lemmas.List.Filters.{All-dedup}
use Rattle.std.proofs.lemmas.List.Sorted.{All-permutation, ranks_by, sorted_far}
use Rattle.std.specs.declared.cmp.Ordering.{Ordering}
use Rattle.std.specs.declared.cmp.Ordering.TheVariants.{Less, Equal, Greater}
use Rattle.std.specs.Ordering.{is_eq, is_lt, ordering_then, ordering_reverse, MatchOrdering}
use Rattle.std.specs.Cmp.{IsTotalOrder, IsStrictWeakOrder, nat_cmp_total}
use Rattle.std.specs.FinMap.Entries.{find, is_sorted, below_all}
use Rattle.std.specs.List.{list_all, All, dedup_from, dedup}
use Rattle.std.specs.List.Sorted.{IsPermutation, IsSortedBy}
use Rattle.pg_patterns.specs.DottedSigns.{dotted_cmp}
use Rattle.pg_patterns.specs.Inside.DottedOrder.{dotted_total, same_dotted, dotted_ties, dotted_exact}
use Rattle.pg_patterns.specs.Values.{value_of, greatest_value, map_of_entries}
use Rattle.pg_patterns.specs.Inside.PatternMaps.{is_entry, IsPatternMap}
use Rattle.pg_patterns.specs.Inside.Search.{entry_cmp}
use Rattle.pg_types.proofs.BoolFacts.{and_first, and_second, equal_is, less_is, is_true, holds, first_half, second_half}
use Rattle.pg_patterns.proofs.Joins.{only, same_maps, joined_keeps, value_of_joined, best-IsPermutation}
use Rattle.std.proofs.lemmas.Bool.{and_from, not-true, not_from_false}

-- f does not come before e
abbrev not_first : (List ℕ × ℕ) × ℕ → (List ℕ × ℕ) × ℕ → Bool
not_first e f = not (is_lt (entry_cmp f e))

-- no entry comes before one that stands before it
abbrev InOrder : List ((List ℕ × ℕ) × ℕ) → Type 0
InOrder [] = Unit {0}
InOrder (e ∷ es) = (list_all (not_first e) es ≡ true) × InOrder es

entry_total : IsTotalOrder entry_cmp
entry_total = then_total (on_total (λ e. e.0) dotted_total) (back_total (on_total (λ e. e.1) nat_cmp_total))

pub entry_ranks : IsStrictWeakOrder (λ e f. is_lt (entry_cmp e f))
entry_ranks = ranks_by entry_total (λ e. e)

each_after : (e : (List ℕ × ℕ) × ℕ) (es : List ((List ℕ × ℕ) × ℕ)) → ((j : ℕ) (d : (List ℕ × ℕ) × ℕ) → j < length es → is_lt (entry_cmp (get_or es j d) e) ≡ false) → list_all (not_first e) es ≡ true
each_after e [] after = refl
each_after e (f ∷ es) after =
    and_from _ _ (not_from_false _ (after 0 e (omega arith))) (each_after e es (λ j d inside. after (suc j) d (omega arith)))

in_order : (es : List ((List ℕ × ℕ) × ℕ)) → ((i j : ℕ) (d : (List ℕ × ℕ) × ℕ) → i ≤ j → j < length es → is_lt (entry_cmp (get_or es j d) (get_or es i d)) ≡ false) → InOrder es
in_order [] far = tt
in_order (e ∷ es) far =
    (each_after e es (λ j d inside. far 0 (suc j) d (omega arith) (omega arith)), in_order es (λ i j d upto inside. far (suc i) (suc j) d (omega arith) (omega arith)))

-- what does not come before e is of a later dotted string, or of the same with a value that is not greater
rank_cases : (r s : Ordering) → is_lt (ordering_then r s) ≡ false → (r ≡ Greater) ⊎ ((r ≡ Equal) × (is_lt s ≡ false))
rank_cases Less s after = cc
rank_cases Equal s after = inr (refl, after)
rank_cases Greater s after = inl refl

turn : (r : Ordering) → r ≡ Greater → ordering_reverse r ≡ Less
turn Less e = cc
turn Equal e = cc
turn Greater e = refl

value_upto : (a b : ℕ) → is_lt (nat_cmp a b) ≡ false → b ≤ a
value_upto a b after = upto (nat_cmp a b) (ranked a b (nat_cmp a b) refl) after
  where
    upto : (r : Ordering) → MatchOrdering r (a < b) (a ≡ b) (b < a) → is_lt r ≡ false → b ≤ a
    upto Less rank after = cc
    upto Equal rank after = omega arith
    upto Greater rank after = omega arith

later : (e f : (List ℕ × ℕ) × ℕ) → not_first e f ≡ true → (dotted_cmp e.0 f.0 ≡ Less) ⊎ ((dotted_cmp f.0 e.0 ≡ Equal) × (f.1 ≤ e.1))
later e f after = by_case (rank_cases (dotted_cmp f.0 e.0) (nat_cmp e.1 f.1) (not-true _ after))
  where
    by_case : (dotted_cmp f.0 e.0 ≡ Greater) ⊎ ((dotted_cmp f.0 e.0 ≡ Equal) × (is_lt (nat_cmp e.1 f.1) ≡ false)) → (dotted_cmp e.0 f.0 ≡ Less) ⊎ ((dotted_cmp f.0 e.0 ≡ Equal) × (f.1 ≤ e.1))
    by_case (inl after) = inl (dotted_total.antisymm e.0 f.0 ∙ turn (dotted_cmp f.0 e.0) after)
    by_case (inr tied) = inr (tied.0, value_upto e.1 f.1 tied.1)

-- of another dotted string
apart : (e f : (List ℕ × ℕ) × ℕ) → not_first e f ≡ true → same_dotted f.0 e.0 ≡ false → dotted_cmp e.0 f.0 ≡ Less
apart e f after other = by_case (later e f after)
  where
    by_case : (dotted_cmp e.0 f.0 ≡ Less) ⊎ ((dotted_cmp f.0 e.0 ≡ Equal) × (f.1 ≤ e.1)) → dotted_cmp e.0 f.0 ≡ Less
    by_case (inl less) = less
    by_case (inr tied) = cc (dotted_ties f.0 e.0 ∙ ap is_eq tied.0, other)

-- a dotted string before the first is before all
below_rest : (x : List ℕ × ℕ) (e : (List ℕ × ℕ) × ℕ) (es : List ((List ℕ × ℕ) × ℕ)) → dotted_cmp x e.0 ≡ Less → list_all (not_first e) es ≡ true → T (below_all dotted_cmp x es)
below_rest x e [] less after = tt
below_rest x e (f ∷ es) less after =
    holds _ (and_from _ _ (ap is_lt (by_case (later e f (and_first _ _ after)))) (is_true _ (below_rest x e es less (and_second _ _ after))))
  where
    by_case : (dotted_cmp e.0 f.0 ≡ Less) ⊎ ((dotted_cmp f.0 e.0 ≡ Equal) × (f.1 ≤ e.1)) → dotted_cmp x f.0 ≡ Less
    by_case (inl further) = dotted_total.trans x e.0 f.0 less further
    by_case (inr tied) = ap (λ k. dotted_cmp x k) (dotted_exact f.0 e.0 tied.0) ∙ less

-- a dotted string before all has no value
best_below : (x k : List ℕ × ℕ) (es : List ((List ℕ × ℕ) × ℕ)) → same_dotted k x ≡ true → T (below_all dotted_cmp x es) → greatest_value (same_dotted k) es ≡ 0
best_below x k [] same below = refl
best_below x k (e ∷ es) same below =
    let tied : dotted_cmp k x ≡ Equal = equal_is _ (sym (dotted_ties k x) ∙ same) in
    let less : dotted_cmp k e.0 ≡ Less = dotted_total.congr k x e.0 tied ∙ less_is _ (is_true _ (first_half _ _ below)) in
    let other : same_dotted k e.0 ≡ false = dotted_ties k e.0 ∙ ap is_eq less in
    ap (λ t. max (only t e.1) (greatest_value (same_dotted k) es)) other ∙ ap (λ n. max 0 n) (best_below x k es same (second_half _ _ below))

-- the list that keeps the first of each dotted string is a map, whose values are the greatest
kept_below : (x : List ℕ × ℕ) (e : (List ℕ × ℕ) × ℕ) (es : List ((List ℕ × ℕ) × ℕ)) → InOrder (e ∷ es) → dotted_cmp x e.0 ≡ Less
    → T (below_all dotted_cmp x (dedup_from (λ f g. same_dotted f.0 g.0) e es))
kept_below x e [] order less = holds _ (and_from _ _ (ap is_lt less) refl)
kept_below x e (f ∷ es) order less =
    elim (same_dotted f.0 e.0) as
    (λ t. same_dotted f.0 e.0 ≡ t → T (below_all dotted_cmp x (cond t (dedup_from (λ f g. same_dotted f.0 g.0) e es) (e ∷ dedup_from (λ f g. same_dotted f.0 g.0) f es)))) [
      | true ↦ λ same. kept_below x e es (and_second _ _ order.0, order.1.1) less
      | false ↦ λ other. holds _ (and_from _ _ (ap is_lt less) (is_true _ (kept_below x f es order.1 (dotted_total.trans x e.0 f.0 less (apart e f (and_first _ _ order.0) other)))))
    ] refl

kept_sorted : (e : (List ℕ × ℕ) × ℕ) (es : List ((List ℕ × ℕ) × ℕ)) → InOrder (e ∷ es) → T (is_sorted dotted_cmp (dedup_from (λ f g. same_dotted f.0 g.0) e es))
kept_sorted e [] order = tt
kept_sorted e (f ∷ es) order =
    elim (same_dotted f.0 e.0) as (λ t. same_dotted f.0 e.0 ≡ t → T (is_sorted dotted_cmp (cond t (dedup_from (λ f g. same_dotted f.0 g.0) e es) (e ∷ dedup_from (λ f g. same_dotted f.0 g.0) f es)))) [
      | true ↦ λ same. kept_sorted e es (and_second _ _ order.0, order.1.1)
      | false ↦ λ other. holds _ (and_from _ _ (is_true _ (kept_below e.0 f es order.1 (apart e f (and_first _ _ order.0) other))) (is_true _ (kept_sorted f es order.1)))
    ] refl

smaller_hidden : (t s : Bool) (a b n : ℕ) → t ≡ s → b ≤ a → max (only t a) n ≡ max (only t a) (max (only s b) n)
smaller_hidden true true a b n same bound = omega arith
smaller_hidden true false a b n same bound = cc
smaller_hidden false true a b n same bound = cc
smaller_hidden false false a b n same bound = omega arith

-- the value of the first entry, or of those behind it
first_or_rest : (t : Bool) (a n : ℕ) (r : Option ℕ) → unwrap_or r 0 ≡ n → (t ≡ true → n ≡ 0) → unwrap_or (cond t (Some a) r) 0 ≡ max (only t a) n
first_or_rest true a n r is none = let no_rest : n ≡ 0 = none refl in omega arith
first_or_rest false a n r is none = is ∙ sym (max_first n)
  where
    max_first : (m : ℕ) → max 0 m ≡ m
    max_first m = omega arith

-- of the same dotted string
value_within : (e f : (List ℕ × ℕ) × ℕ) → not_first e f ≡ true → same_dotted f.0 e.0 ≡ true → f.1 ≤ e.1
value_within e f after same = by_case (later e f after)
  where
    by_case : (dotted_cmp e.0 f.0 ≡ Less) ⊎ ((dotted_cmp f.0 e.0 ≡ Equal) × (f.1 ≤ e.1)) → f.1 ≤ e.1
    by_case (inl less) = cc (sym same ∙ dotted_ties f.0 e.0 ∙ ap is_eq (dotted_total.antisymm f.0 e.0 ∙ ap ordering_reverse less))
    by_case (inr tied) = tied.1

kept_value : (e : (List ℕ × ℕ) × ℕ) (es : List ((List ℕ × ℕ) × ℕ)) (k : List ℕ × ℕ) → InOrder (e ∷ es) → value_of (dedup_from (λ f g. same_dotted f.0 g.0) e es) k
    ≡ greatest_value (same_dotted k) (e ∷ es)
kept_value e [] k order =
    ap (λ t. unwrap_or (cond t (Some e.1) None) 0) (sym (dotted_ties k e.0)) ∙ first_or_rest (same_dotted k e.0) e.1 0 None refl (λ _. refl)
kept_value e (f ∷ es) k order =
    elim (same_dotted f.0 e.0) as (λ t. same_dotted f.0 e.0 ≡ t → value_of (cond t (dedup_from (λ f g. same_dotted f.0 g.0) e es) (e ∷ dedup_from (λ f g. same_dotted f.0 g.0) f es)) k
    ≡ max (only (same_dotted k e.0) e.1) (max (only (same_dotted k f.0) f.1) (greatest_value (same_dotted k) es))) [
      | true ↦ λ same.
          let one : f.0 ≡ e.0 = dotted_exact f.0 e.0 (equal_is _ (sym (dotted_ties f.0 e.0) ∙ same)) in
          kept_value e es k (and_second _ _ order.0, order.1.1)
          ∙ smaller_hidden (same_dotted k e.0) (same_dotted k f.0) e.1 f.1 (greatest_value (same_dotted k) es) (ap (λ x. same_dotted k x) (sym one)) (value_within e f (and_first _ _ order.0) same)
      | false ↦ λ other.
          let less : dotted_cmp e.0 f.0 ≡ Less = apart e f (and_first _ _ order.0) other in
          ap (λ t. unwrap_or (cond t (Some e.1) (find dotted_cmp k (dedup_from (λ f g. same_dotted f.0 g.0) f es))) 0) (sym (dotted_ties k e.0))
          ∙ first_or_rest (same_dotted k e.0) e.1 (greatest_value (same_dotted k) (f ∷ es)) (find dotted_cmp k (dedup_from (λ f g. same_dotted f.0 g.0) f es))
          (kept_value f es k order.1) (λ same. best_below e.0 k (f ∷ es) same (holds _ (and_from _ _ (ap is_lt less) (is_true _ (below_rest e.0 f es less order.1.0)))))
    ] refl

-- a strictly sorted list finds its greatest values
pub value_of_sorted : (es : List ((List ℕ × ℕ) × ℕ)) (k : List ℕ × ℕ) → T (is_sorted dotted_cmp es) → value_of es k ≡ greatest_value (same_dotted k) es
value_of_sorted [] k sorted = refl
value_of_sorted (e ∷ es) k sorted =
    ap (λ t. unwrap_or (cond t (Some e.1) (find dotted_cmp k es)) 0) (sym (dotted_ties k e.0))
    ∙ first_or_rest (same_dotted k e.0) e.1 (greatest_value (same_dotted k) es) (find dotted_cmp k es) (value_of_sorted es k (second_half _ _ sorted))
    (λ same. best_below e.0 k es same (first_half _ _ sorted))

kept_whole : (es : List ((List ℕ × ℕ) × ℕ)) → InOrder es → T (is_sorted dotted_cmp (dedup (λ f g. same_dotted f.0 g.0) es))
    × ((k : List ℕ × ℕ) → value_of (dedup (λ f g. same_dotted f.0 g.0) es) k ≡ greatest_value (same_dotted k) es)
kept_whole [] order = (tt, λ k. refl)
kept_whole (e ∷ es) order = (kept_sorted e es order, λ k. kept_value e es k order)

-- the entries that are kept are those of the list
all_told : (es : List ((List ℕ × ℕ) × ℕ)) → list_all is_entry es ≡ true → All (λ (e : (List ℕ × ℕ) × ℕ). is_entry e ≡ true) es
all_told [] sound = All-nil _
all_told (e ∷ es) sound = All-cons (λ (e : (List ℕ × ℕ) × ℕ). is_entry e ≡ true) e es (and_first _ _ sound) (all_told es (and_second _ _ sound))

pub told_all : (es : List ((List ℕ × ℕ) × ℕ)) → All (λ (e : (List ℕ × ℕ) × ℕ). is_entry e ≡ true) es → list_all is_entry es ≡ true
told_all [] all = refl
told_all (e ∷ es) all = and_from _ _ (All-head (λ (e : (List ℕ × ℕ) × ℕ). is_entry e ≡ true) e es all) (told_all es (All-tail (λ (e : (List ℕ × ℕ) × ℕ). is_entry e ≡ true) e es all))

-- sorted by dotted string and falling value, without the later entries of one, a list is joined
pub joined_by_sort : (es fs gs : List ((List ℕ × ℕ) × ℕ)) → list_all is_entry es ≡ true → IsPermutation es fs → IsSortedBy (λ e f. is_lt (entry_cmp e f)) fs
    → gs ≡ dedup (λ f g. same_dotted f.0 g.0) fs → IsPatternMap gs × (gs ≡ map_of_entries es)
joined_by_sort es fs gs sound moved sorted kept =
    let order : InOrder fs = in_order fs (sorted_far (λ e f. is_lt (entry_cmp e f)) entry_ranks fs sorted) in
    let whole = kept_whole fs order in
    let all : All (λ (e : (List ℕ × ℕ) × ℕ). is_entry e ≡ true) fs = All-permutation (λ (e : (List ℕ × ℕ) × ℕ). is_entry e ≡ true) es fs moved (all_told es sound) in
    let left : list_all is_entry (dedup (λ f g. same_dotted f.0 g.0) fs) ≡ true = told_all _ (All-dedup (λ f g. same_dotted f.0 g.0) (λ (e : (List ℕ × ℕ) × ℕ). is_entry e ≡ true) fs all) in
    let map : IsPatternMap (dedup (λ f g. same_dotted f.0 g.0) fs) = record { sorted = whole.0; sound = left } in
    let same : dedup (λ f g. same_dotted f.0 g.0) fs ≡ map_of_entries es =
    same_maps (dedup (λ f g. same_dotted f.0 g.0) fs) (map_of_entries es) map (joined_keeps es sound) (λ k. whole.1 k ∙ best-IsPermutation (same_dotted k) es fs moved ∙ sym (value_of_joined es k)) in
    (subst IsPatternMap (sym kept) map, kept ∙ same)

-- a list in order is its own map
pub joined-sorted : (es : List ((List ℕ × ℕ) × ℕ)) → IsPatternMap es → map_of_entries es ≡ es
joined-sorted es map =
    same_maps (map_of_entries es) es (joined_keeps es map.sound) map (λ k. value_of_joined es k ∙ sym (value_of_sorted es k map.sorted))
