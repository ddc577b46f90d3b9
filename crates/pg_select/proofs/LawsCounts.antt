-- The candidates of a pass and their sums, counted position by position.
use Rattle.std.proofs.Common.{◌≡◌, ℕ, zero, suc, ◌+◌, ◌<◌, Bool, true, false, cond, not, ◌&&◌, ◌||◌, T, List, [], ◌∷◌, length, map, fold, get_or, is_some, unwrap_or, Option, Some, None, refl, sym, ap, subst, ◌∙◌, arith}
use Rattle.std.specs.declared.cmp.Ordering.{Ordering}
use Rattle.std.specs.declared.cmp.Ordering.TheVariants.{Less, Equal}
use Rattle.std.specs.Ordering.{nat_cmp, is_lt}
use Rattle.std.specs.Cmp.Lexicographic.{slice_cmp, nat_list_cmp_total}
use Rattle.std.specs.Option.{option_map_or}
use Rattle.std.specs.FinMap.{nat_cmp-IsAntisymmetric, slice_cmp-IsAntisymmetric}
use Rattle.std.specs.FinMap.Entries.{find, is_sorted, below_all, is_sorted-put, find-put, find_tied, same_entries, is_some-find}
use Rattle.std.specs.List.{list_any, flat_map}
use Rattle.std.proofs.lemmas.List.Sums.{sum_by-cons, fold-append}
use Rattle.pg_types.proofs.BoolFacts.{equal_is}
use Rattle.pg_patterns.proofs.Ordered.{sorted_at}
use Rattle.pg_select.specs.CountedPositions.{Candidate, counted_at, sums_with, sums_at, candidates_of}
use Rattle.pg_translate.specs.Alphabets.{Alphabet}
use Rattle.pg_translate.specs.Reach.{positions}
use Rattle.pg_dict.specs.Word.{Word}
use Rattle.pg_patterns.specs.Values.{Patterns}
use Rattle.pg_select.specs.declared.pass.Pass.{Pass}
use Rattle.pg_select.specs.Statuses.{position_weight}
use Rattle.pg_select.specs.Windows.{Hopeless, window}
use Rattle.pg_select.specs.Inside.words.PositionLists.{counted_positions_at, counted_positions, CountedPosition, same_signs, with_window, candidates, good_of, bad_of, with_sums}
use Rattle.pg_types.specs.Inside.counting.Counts.{Counts, sums_of, with_weight}
use Rattle.pg_select.specs.Inside.engine.Meanings.{with_position}
use Rattle.pg_select.specs.Inside.laws.Laws.{counts_entry_of}

abbrev pub cmp : List ℕ → List ℕ → Ordering
cmp = slice_cmp nat_cmp

-- windows with the same signs are equal
pub window_exact : (u v : List ℕ) → cmp u v ≡ Equal → u ≡ v
window_exact u v e = slice_cmp-IsAntisymmetric nat_cmp-IsAntisymmetric u v e

pub same_window : (u v : List ℕ) → same_signs u v ≡ true → u ≡ v
same_window u v same = window_exact u v (equal_is (cmp u v) same)

-- what is counted of a window at a position, where it is counted
abbrev pub counted_as : List ℕ → ℕ → Option Bool → List CountedPosition
counted_as u x counted = option_map_or (λ (good : Bool). record { window = u; good = good; weight = x } ∷ []) counted []

-- a window is counted
abbrev pub is_counted_window : List CountedPosition → List ℕ → Bool
is_counted_window counted u = list_any (λ s. same_signs u s.window) counted

-- the windows stay in order
pub windows_sorted : (windows : List (List ℕ × Unit {0})) (counted : List CountedPosition) → T (is_sorted cmp windows) → T (is_sorted cmp (fold with_window windows counted))
windows_sorted windows [] sorted = sorted
windows_sorted windows (s ∷ ss) sorted = windows_sorted (with_window windows s) ss (is_sorted-put cmp nat_list_cmp_total s.window tt windows sorted)

-- and so do the counts
pub counts_sorted : (counts : Counts) (counted : List CountedPosition) → T (is_sorted cmp counts) → T (is_sorted cmp (fold with_position counts counted))
counts_sorted counts [] sorted = sorted
counts_sorted counts (s ∷ ss) sorted = counts_sorted (with_position counts s) ss (is_sorted-put cmp nat_list_cmp_total s.window (with_weight (sums_of counts s.window) s.good s.weight) counts sorted)

one_window : (t b : Bool) (o : Option (Unit {0})) → (is_some (cond t (Some tt) o) || b) ≡ (is_some o || (t || b))
one_window true b None = refl
one_window true b (Some x) = refl
one_window false b o = refl

-- the windows that are found are those of before and those that are counted
pub windows_found : (u : List ℕ) (windows : List (List ℕ × Unit {0})) (counted : List CountedPosition) → is_some (find cmp u (fold with_window windows counted))
    ≡ (is_some (find cmp u windows) || is_counted_window counted u)
windows_found u windows [] = or_false (is_some (find cmp u windows))
  where
    or_false : (b : Bool) → b ≡ (b || false)
    or_false true = refl
    or_false false = refl
windows_found u windows (s ∷ ss) =
    windows_found u (with_window windows s) ss
    ∙ ap (λ (o : Option (Unit {0})). is_some o || is_counted_window ss u) (find-put cmp nat_list_cmp_total u s.window tt windows)
    ∙ one_window (same_signs u s.window) (is_counted_window ss u) (find cmp u windows)

-- the sums of a window with more weights, where it is counted or counted
abbrev added : Option (ℕ × ℕ) → Bool → ℕ → ℕ → Option (ℕ × ℕ)
added o counted good bad = cond (is_some o || counted) (Some ((unwrap_or o (0, 0)).0 + good, (unwrap_or o (0, 0)).1 + bad)) None

abbrev sums : ℕ → ℕ → Option (ℕ × ℕ)
sums good bad = Some (good, bad)

pairs : (a b c d : ℕ) → a ≡ c → b ≡ d → sums a b ≡ sums c d
pairs a b c d p q = λ i. sums (p i) (q i)

one_more : (good : Bool) (weight : ℕ) (o : Option (ℕ × ℕ)) (b : Bool) (gs bs : ℕ) → added (Some (with_weight (unwrap_or o (0, 0)) good weight)) b gs bs
    ≡ added o true (cond good weight 0 + gs) (cond (not good) weight 0 + bs)
one_more true weight None b gs bs = pairs _ _ _ _ (omega arith) (omega arith)
one_more false weight None b gs bs = pairs _ _ _ _ (omega arith) (omega arith)
one_more true weight (Some x) b gs bs = pairs _ _ _ _ (omega arith) (omega arith)
one_more false weight (Some x) b gs bs = pairs _ _ _ _ (omega arith) (omega arith)

one_position : (t good : Bool) (weight : ℕ) (o r : Option (ℕ × ℕ)) (b : Bool) (gs bs : ℕ) → (t ≡ true → r ≡ o)
    → added (cond t (Some (with_weight (unwrap_or r (0, 0)) good weight)) o) b gs bs ≡ added o (t || b) (cond (t && good) weight 0 + gs) (cond (t && not good) weight 0 + bs)
one_position true good weight o r b gs bs tied = ap (λ (x : Option (ℕ × ℕ)). added (Some (with_weight (unwrap_or x (0, 0)) good weight)) b gs bs) (tied refl) ∙ one_more good weight o b gs bs
one_position false good weight o r b gs bs tied =
    let g : gs ≡ 0 + gs = omega arith in
    let h : bs ≡ 0 + bs = omega arith in
    λ i. added o b (g i) (h i)

none_more : (o : Option (ℕ × ℕ)) → o ≡ added o false 0 0
none_more None = refl
none_more (Some x) = pairs x.0 x.1 (x.0 + 0) (x.1 + 0) (omega arith) (omega arith)

-- the sums that are found are those of before with those that are counted
pub sums_found : (u : List ℕ) (counts : Counts) (counted : List CountedPosition) → find cmp u (fold with_position counts counted)
    ≡ added (find cmp u counts) (is_counted_window counted u) (good_of counted u) (bad_of counted u)
sums_found u counts [] = none_more (find cmp u counts)
sums_found u counts (s ∷ ss) =
    let good : good_of (s ∷ ss) u ≡ cond (same_signs u s.window && s.good) s.weight 0 + good_of ss u = sum_by-cons (λ (x : CountedPosition). cond (same_signs u x.window && x.good) x.weight 0) s ss in
    let bad : bad_of (s ∷ ss) u ≡ cond (same_signs u s.window && not s.good) s.weight 0 + bad_of ss u =
    sum_by-cons (λ (x : CountedPosition). cond (same_signs u x.window && not x.good) x.weight 0) s ss in
    sums_found u (with_position counts s) ss
    ∙ ap (λ (o : Option (ℕ × ℕ)). added o (is_counted_window ss u) (good_of ss u) (bad_of ss u))
    (find-put cmp nat_list_cmp_total u s.window (with_weight (sums_of counts s.window) s.good s.weight) counts)
    ∙ one_position (same_signs u s.window) s.good s.weight (find cmp u counts) (find cmp s.window counts) (is_counted_window ss u) (good_of ss u)
    (bad_of ss u) (λ t. find_tied cmp nat_list_cmp_total u s.window (equal_is (cmp u s.window) t) counts)
    ∙ (λ i. added (find cmp u counts) (is_counted_window (s ∷ ss) u) (sym good i) (sym bad i))

-- the entries of windows with their sums
abbrev entries_of : List CountedPosition → List (List ℕ × Unit {0}) → Counts
entries_of counted windows = map counts_entry_of (map (λ (u : List ℕ). record { window = u; good = good_of counted u; bad = bad_of counted u }) (map (λ (e : List ℕ × Unit {0}). e.0) windows))

entries_below : (counted : List CountedPosition) (u : List ℕ) (windows : List (List ℕ × Unit {0})) → below_all cmp u (entries_of counted windows) ≡ below_all cmp u windows
entries_below counted u [] = refl
entries_below counted u (e ∷ es) = ap (λ b. is_lt (cmp u e.0) && b) (entries_below counted u es)

entries_sorted : (counted : List CountedPosition) (windows : List (List ℕ × Unit {0})) → is_sorted cmp (entries_of counted windows) ≡ is_sorted cmp windows
entries_sorted counted [] = refl
entries_sorted counted (e ∷ es) = λ i. entries_below counted e.0 es i && entries_sorted counted es i

entries_found : (counted : List CountedPosition) (u : List ℕ) (windows : List (List ℕ × Unit {0})) → find cmp u (entries_of counted windows)
    ≡ cond (is_some (find cmp u windows)) (Some (good_of counted u, bad_of counted u)) None
entries_found counted u [] = refl
entries_found counted u (e ∷ es) =
    elim (same_signs u e.0) as (λ (t : Bool). same_signs u e.0 ≡ t → cond t (Some (good_of counted e.0, bad_of counted e.0)) (find cmp u (entries_of counted es))
    ≡ cond (is_some (cond t (Some e.1) (find cmp u es))) (Some (good_of counted u, bad_of counted u)) None) [
      | true ↦ λ t. ap (λ (v : List ℕ). Some (good_of counted v, bad_of counted v)) (sym (same_window u e.0 t))
      | false ↦ λ t. entries_found counted u es
    ] refl

none_before : (b : Bool) (g h : ℕ) → added None b g h ≡ cond b (Some (g, h)) None
none_before true g h = pairs _ _ _ _ (omega arith) (omega arith)
none_before false g h = refl

-- the law of sums: counting position by position gives the candidates with their sums
pub counts_give_sums : (counted : List CountedPosition) → fold with_position [] counted ≡ map counts_entry_of (with_sums counted)
counts_give_sums counted =
    let windows : List (List ℕ × Unit {0}) = fold with_window [] counted in
    same_entries cmp nat_list_cmp_total window_exact (fold with_position [] counted) (entries_of counted (fold with_window [] counted))
    (counts_sorted [] counted tt)
    (subst T (sym (entries_sorted counted (fold with_window [] counted))) (windows_sorted [] counted tt))
    (λ u. sums_found u [] counted
    ∙ none_before (is_counted_window counted u) (good_of counted u) (bad_of counted u)
    ∙ ap (λ b. cond b (Some (good_of counted u, bad_of counted u)) None) (sym (windows_found u [] counted))
    ∙ sym (entries_found counted u (fold with_window [] counted)))

abbrev pub candidate_of : List ℕ × (ℕ × ℕ) → Candidate
candidate_of e = record { window = e.0; good = e.1.0; bad = e.1.1 }

candidates_back : (cs : List Candidate) → cs ≡ map candidate_of (map counts_entry_of cs)
candidates_back [] = refl
candidates_back (c ∷ cs) = ap (λ (x : List Candidate). c ∷ x) (candidates_back cs)

-- the same, with a candidate for each entry
pub with_sums_is : (counted : List CountedPosition) → with_sums counted ≡ map candidate_of (fold with_position [] counted)
with_sums_is counted = candidates_back (with_sums counted) ∙ ap (λ (counts : Counts). map candidate_of counts) (sym (counts_give_sums counted))

keys_at : (windows : List (List ℕ × Unit {0})) (i : ℕ) (d : List ℕ × Unit {0}) → get_or (map (λ (e : List ℕ × Unit {0}). e.0) windows) i d.0 ≡ (get_or windows i d).0
keys_at [] i d = refl
keys_at (e ∷ es) zero d = refl
keys_at (e ∷ es) (suc i) d = keys_at es i d

pub keys_length : (windows : List (List ℕ × Unit {0})) → length (map (λ (e : List ℕ × Unit {0}). e.0) windows) ≡ length windows
keys_length [] = refl
keys_length (e ∷ es) = ap suc (keys_length es)

-- the candidates stand in order
pub candidates_in_order : (counted : List CountedPosition) (i j : ℕ) (d : List ℕ) → i < j → j < length (candidates counted)
    → cmp (get_or (candidates counted) i d) (get_or (candidates counted) j d) ≡ Less
candidates_in_order counted i j d before inside =
    let windows : List (List ℕ × Unit {0}) = fold with_window [] counted in
    let within : j < length (fold with_window [] counted) = omega (arith, keys_length (fold with_window [] counted)) in
    let less = sorted_at cmp (fold with_window [] counted) i j (d, tt) (windows_sorted [] counted tt) before within in
    (λ k. cmp (keys_at (fold with_window [] counted) i (d, tt) k) (keys_at (fold with_window [] counted) j (d, tt) k)) ∙ less

-- and are the windows that are counted
pub candidates_are_counted : (counted : List CountedPosition) (u : List ℕ) → list_any (same_signs u) (candidates counted) ≡ is_counted_window counted u
candidates_are_counted counted u = sym (is_some-find cmp u (fold with_window [] counted)) ∙ windows_found u [] counted

-- the sums of a pass, position by position, are the counts of the list of what it counts
fold_flat : {X Y Z : Type 0} (f : Z → Y → Z) (g : X → List Y) (z : Z) (xs : List X) → fold (λ a x. fold f a (g x)) z xs ≡ fold f z (flat_map g xs)
fold_flat f g z [] = refl
fold_flat f g z (x ∷ xs) = fold_flat f g (fold f z (g x)) xs ∙ sym (fold-append f z (g x) (flat_map g xs))

fold_same : {X Z : Type 0} (f g : Z → X → Z) → ((z : Z) (x : X) → f z x ≡ g z x) → (z : Z) (xs : List X) → fold f z xs ≡ fold g z xs
fold_same f g same z [] = refl
fold_same f g same z (x ∷ xs) = fold_same f g same (f z x) xs ∙ ap (λ a. fold g a xs) (same z x)

one_at : (counts : Counts) (u : List ℕ) (weight : ℕ) (counted : Option Bool) → option_map_or (sums_with counts u weight) counted counts ≡ fold with_position counts (counted_as u weight counted)
one_at counts u weight None = refl
one_at counts u weight (Some good) = refl

word_at : (pass : Pass) (P : Patterns) (H : Hopeless) (w : Word) (counts : Counts) (ps : List ℕ) → fold (sums_at pass P H w) counts ps ≡ fold with_position counts (flat_map (counted_positions_at pass P H w) ps)
word_at pass P H w counts ps =
    fold_same (sums_at pass P H w) (λ a p. fold with_position a (counted_positions_at pass P H w p))
    (λ a p. one_at a (window w.signs p pass.len pass.dot) (position_weight w p) (counted_at pass P H w p)) counts ps
    ∙ fold_flat with_position (counted_positions_at pass P H w) counts ps

-- what a pass counts, as one fold
abbrev pub sums_in : Alphabet → List Word → Pass → Patterns → Hopeless → Counts
sums_in T W pass P H = fold (λ counts (w : Word). fold (sums_at pass P H w) counts (positions T.left T.right (length w.signs))) [] W

pub sums_are_counts : (T : Alphabet) (W : List Word) (pass : Pass) (P : Patterns) (H : Hopeless) → sums_in T W pass P H ≡ fold with_position [] (counted_positions T W pass P H)
sums_are_counts T W pass P H =
    fold_same (λ counts (w : Word). fold (sums_at pass P H w) counts (positions T.left T.right (length w.signs)))
    (λ counts (w : Word). fold with_position counts (flat_map (counted_positions_at pass P H w) (positions T.left T.right (length w.signs))))
    (λ counts (w : Word). word_at pass P H w counts (positions T.left T.right (length w.signs))) [] W
    ∙ fold_flat with_position (λ (w : Word). flat_map (counted_positions_at pass P H w) (positions T.left T.right (length w.signs))) [] W

-- the candidates of a pass are those of the list of what it counts
pub candidates_listed : (T : Alphabet) (W : List Word) (pass : Pass) (P : Patterns) (H : Hopeless) → candidates_of T W pass P H ≡ with_sums (counted_positions T W pass P H)
candidates_listed T W pass P H =
    ap (λ (counts : Counts). map candidate_of counts) (sums_are_counts T W pass P H)
    ∙ sym (with_sums_is (counted_positions T W pass P H))
