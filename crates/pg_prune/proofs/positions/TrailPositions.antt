-- The positions at which a string stands, by its starts.
use Rattle.std.proofs.Common.{◌≡◌, ℕ, zero, suc, ◌+◌, ◌-◌, ◌<◌, ◌≤◌, Bool, true, false, cond, ◌&&◌, nat_le, if◌then◌else◌, List}
use Rattle.std.proofs.Common.{[], ◌∷◌, ◌++◌, length, map, drop, get_or, slice_get, Option, Some, None, refl, sym, ap, ◌∙◌, arith}
use Rattle.std.specs.List.{range_with_len, filter, filter_map, cons_option}
use Rattle.std.specs.Option.{option_map_or}
use Rattle.std.proofs.lemmas.Bool.{le-leb, lt-leb, and_from, and_left, and_right}
use Rattle.std.proofs.lemmas.List.{append-nil, length-drop, drop_more}
use Rattle.std.proofs.lemmas.Option.{slice_get-get_or}
use Rattle.std.proofs.lemmas.List.Elements.{filter-append, filter_map-append}
use Rattle.std.proofs.lemmas.List.FromFn.{length-map-range_with_len}
use Rattle.pg_translate.specs.Alphabets.{Alphabet}
use Rattle.pg_translate.specs.Reach.{reach}
use Rattle.pg_dict.specs.Word.{Word}
use Rattle.pg_patterns.specs.Values.{stands_at, applies}
use Rattle.pg_select.proofs.Reaches.{Reaches, reach_is}
use Rattle.pg_prune.specs.Positions.{positions_in_reach}
use Rattle.pg_prune.specs.Inside.positions.PositionInReach.{PositionInReach}
use Rattle.pg_prune.specs.Inside.positions.WordPositions.{positions_in, positions_from}
use Rattle.pg_prune.proofs.positions.PositionForms.{positions_as}
use Rattle.pg_prune.specs.Inside.positions.EntryPositions.{numbers_of, stands, positions_of_entry}
use Rattle.pg_prune.specs.declared.positions.trail.Start.{Start}
use Rattle.pg_prune.specs.Inside.positions.Trails.{count_between, reach_count, start_at, starts_in, starts_from, all_starts, begins_at, starts_of, position_number, number_at_dot}
use Rattle.pg_prune.proofs.positions.TrailLists.{range_parts, nothing_in, given_shifted}
use Rattle.pg_prune.proofs.positions.TrailStarts.{signs_at}

-- a position of a word
abbrev pub position_at : ℕ → List ℕ → ℕ → PositionInReach
position_at number signs p = (record { word = number; position = p }, signs)

-- what is given where a test passes
abbrev pub only_if : Bool → Option ℕ → Option ℕ
only_if b o = if b then o else None

module _ (u : List ℕ) (d : ℕ) (w : List ℕ) (r : Option (ℕ × ℕ)) (b : ℕ) where
  -- the number of a position of a word, where the string stands there
  abbrev pub found : ℕ → Option ℕ
  found p = only_if (applies w p (u, d)) (position_number r b p)

  -- the number of the position that a start leads to, where the string begins there
  abbrev pub found_start : ℕ → Option ℕ
  found_start a = only_if (stands_at u w a) (position_number r b (a + d))

  start_found : (a : ℕ) → found_start a ≡ found (a + d)
  start_found a =
      let low : nat_le d (a + d) ≡ true = le-leb d (a + d) (omega arith) in
      let back : a + d - d ≡ a = omega arith in
      sym (ap (λ t. only_if (t && stands_at u w (a + d - d)) (position_number r b (a + d))) low
      ∙ ap (λ (n : ℕ). only_if (stands_at u w n) (position_number r b (a + d))) back)

  -- nothing is found where the string does not stand
  not_standing : (p : ℕ) → applies w p (u, d) ≡ false → found p ≡ None
  not_standing p not = ap (λ t. only_if t (position_number r b p)) not

  -- nothing is found out of reach
  out_of_reach : (p : ℕ) → position_number r b p ≡ None → found p ≡ None
  out_of_reach p none = ap (only_if (applies w p (u, d))) none ∙ by_test (applies w p (u, d))
    where
      by_test : (t : Bool) → only_if t None ≡ None
      by_test true = refl
      by_test false = refl

  before_dot : (p : ℕ) → p < d → found p ≡ None
  before_dot p low = not_standing p (and_left (nat_le d p) (stands_at u w (p - d)) (lt-leb d p low))

  -- the positions of the starts are all at which something is found
  by_starts : filter_map found_start (range_with_len 0 (length w)) ≡ filter_map found (range_with_len 0 (d + length w))
  by_starts =
      let first : filter_map found (range_with_len 0 d) ≡ [] = nothing_in found 0 d (λ p low high. before_dot p (omega arith)) in
      given_shifted found_start found d 0 (length w) start_found
      ∙ ap (λ (xs : List ℕ). xs ++ filter_map found (range_with_len (0 + d) (length w))) (sym first)
      ∙ sym (filter_map-append found (range_with_len 0 d) (range_with_len (0 + d) (length w)))
      ∙ ap (λ (xs : List ℕ). filter_map found xs) (sym (range_parts 0 d (length w)))

module _ (u : List ℕ) (v d : ℕ) (w : List ℕ) (first last b : ℕ) where
  in_reach : (p : ℕ) → first ≤ p → p ≤ last → position_number (Some (first, last)) b p ≡ Some (b + (p - first))
  in_reach p low high = ap (λ t. if t then Some (b + (p - first)) else None) (and_from (nat_le first p) (nat_le p last) (le-leb first p low) (le-leb p last high))

  before_reach : (p : ℕ) → p < first → position_number (Some (first, last)) b p ≡ None
  before_reach p low = ap (λ t. if t then Some (b + (p - first)) else None) (and_left (nat_le first p) (nat_le p last) (lt-leb first p low))

  behind_reach : (p : ℕ) → last < p → position_number (Some (first, last)) b p ≡ None
  behind_reach p high = ap (λ t. if t then Some (b + (p - first)) else None) (and_right (nat_le first p) (nat_le p last) (lt-leb p last high))

  -- the numbers of positions from a position on
  numbered : (number p n at : ℕ) → first ≤ p → p + n ≤ last + 1 → at ≡ b + (p - first)
      → numbers_of (stands ((u, d), v)) at (map (position_at number w) (range_with_len p n))
      ≡ filter_map (found u d w (Some (first, last)) b) (range_with_len p n)
  numbered number p zero at low high is = refl
  numbered number p (suc n) at low high is =
      let rest = numbered number (p + 1) n (at + 1) (omega arith) (omega arith) (omega arith) in
      let here : position_number (Some (first, last)) b p ≡ Some at = in_reach p low (omega arith) ∙ ap (λ (k : ℕ). Some k) (sym is) in
      by_test (applies w p (u, d)) _ _ rest
      ∙ ap (λ o. cons_option (only_if (applies w p (u, d)) o) (filter_map (found u d w (Some (first, last)) b) (range_with_len (p + 1) n))) (sym here)
    where
      by_test : (t : Bool) (xs ys : List ℕ) → xs ≡ ys → (if t then at ∷ xs else xs) ≡ cons_option (only_if t (Some at)) ys
      by_test true xs ys same = ap (λ zs. at ∷ zs) same
      by_test false xs ys same = same

  -- the positions in reach are all at which something is found
  by_reach : (total : ℕ) → last + 1 ≤ total → first ≤ last → filter_map (found u d w (Some (first, last)) b) (range_with_len first (last + 1 - first))
      ≡ filter_map (found u d w (Some (first, last)) b) (range_with_len 0 total)
  by_reach total inside some =
      let g = found u d w (Some (first, last)) b in
      let size : total ≡ first + ((last + 1 - first) + (total - (last + 1))) = omega arith in
      let end : 0 + first + (last + 1 - first) ≡ last + 1 = omega arith in
      let begins : filter_map g (range_with_len 0 first) ≡ [] = nothing_in g 0 first (λ p low high. out_of_reach u d w (Some (first, last)) b p (before_reach p (omega arith))) in
      let ends : filter_map g (range_with_len (0 + first + (last + 1 - first)) (total - (last + 1)))
      ≡ [] = nothing_in g (0 + first + (last + 1 - first)) (total - (last + 1)) (λ p low high. out_of_reach u d w (Some (first, last)) b p (behind_reach p (omega arith))) in
      let parts : filter_map g (range_with_len 0 total) ≡ filter_map g (range_with_len 0 first)
      ++ (filter_map g (range_with_len (0 + first) (last + 1 - first)) ++ filter_map g (range_with_len (0 + first + (last + 1 - first)) (total - (last + 1)))) =
      ap (λ n. filter_map g (range_with_len 0 n)) size
      ∙ ap (λ xs. filter_map g xs) (range_parts 0 first ((last + 1 - first) + (total - (last + 1))))
      ∙ filter_map-append g (range_with_len 0 first) (range_with_len (0 + first) ((last + 1 - first) + (total - (last + 1))))
      ∙ ap (λ xs. filter_map g (range_with_len 0 first) ++ filter_map g xs) (range_parts (0 + first) (last + 1 - first) (total - (last + 1)))
      ∙ ap (λ xs. filter_map g (range_with_len 0 first) ++ xs) (filter_map-append g (range_with_len (0 + first) (last + 1 - first))
      (range_with_len (0 + first + (last + 1 - first)) (total - (last + 1)))) in
      let front : 0 + first ≡ first = omega arith in
      sym (parts
      ∙ ap (λ xs. xs ++ (filter_map g (range_with_len (0 + first) (last + 1 - first)) ++ filter_map g (range_with_len (0 + first + (last + 1 - first)) (total - (last + 1))))) begins
      ∙ ap (λ xs. filter_map g (range_with_len (0 + first) (last + 1 - first)) ++ xs) ends
      ∙ append-nil (filter_map g (range_with_len (0 + first) (last + 1 - first)))
      ∙ ap (λ n. filter_map g (range_with_len n (last + 1 - first))) front)

-- the numbers in two lists, one behind the other
numbers-append : (test : PositionInReach → Bool) (at : ℕ) (xs ys : List PositionInReach) → numbers_of test at (xs ++ ys) ≡ numbers_of test at xs ++ numbers_of test (at + length xs) ys
numbers-append test at [] ys = let same : at ≡ at + 0 = omega arith in ap (λ n. numbers_of test n ys) same
numbers-append test at (x ∷ xs) ys =
    let next : at + 1 + length xs ≡ at + suc (length xs) = omega arith in
    by_test (test x) (numbers_of test (at + 1) xs) (numbers_of test (at + suc (length xs)) ys) (numbers_of test (at + 1) (xs ++ ys))
    (numbers-append test (at + 1) xs ys ∙ ap (λ n. numbers_of test (at + 1) xs ++ numbers_of test n ys) next)
  where
    by_test : (t : Bool) (front back whole : List ℕ) → whole ≡ front ++ back → (if t then at ∷ whole else whole) ≡ (if t then at ∷ front else front) ++ back
    by_test true front back whole same = ap (λ zs. at ∷ zs) same
    by_test false front back whole same = same

-- a function of what is kept
kept_given : {X : Type 0} (f : X → Option ℕ) (p : X → Bool) (g : ℕ → X) (h : ℕ → Option ℕ) → ((a : ℕ) → h a ≡ only_if (p (g a)) (f (g a))) → (xs : List ℕ)
    → filter_map f (filter p (map g xs)) ≡ filter_map h xs
kept_given f p g h same [] = refl
kept_given {X} f p g h same (a ∷ rest) =
    by_test (p (g a)) (filter p (map g rest)) ∙ ap (λ (o : Option ℕ). cons_option o (filter_map f (filter p (map g rest)))) (sym (same a))
    ∙ ap (cons_option (h a)) (kept_given f p g h same rest)
  where
    by_test : (t : Bool) (xs : List X) → filter_map f (cond t (g a ∷ xs) xs) ≡ cons_option (only_if t (f (g a))) (filter_map f xs)
    by_test true xs = refl
    by_test false xs = refl

module _ (m : Alphabet) (all : List Word) (u : List ℕ) (v d : ℕ) where
  -- the starts in a word, and what is found there
  in_word : (word b : ℕ) (w : Word) → slice_get all word ≡ Some w → filter_map (number_at_dot m all d) (filter (begins_at all u) (starts_in word b (length w.signs)))
      ≡ filter_map (found_start u d w.signs (reach m.left m.right (length w.signs)) b) (range_with_len 0 (length w.signs))
  in_word word b w at =
      kept_given (number_at_dot m all d) (begins_at all u) (start_at word b) (found_start u d w.signs (reach m.left m.right (length w.signs)) b)
      (λ a. ap (λ (s : List ℕ). only_if (stands_at u s a) (position_number (reach m.left m.right (length s)) b (a + d))) (sym (signs_at all word w at)))
      (range_with_len 0 (length w.signs))

  -- the positions of a word
  in_reach_of : (number b : ℕ) (w : List ℕ) (r : Option (ℕ × ℕ)) → reach m.left m.right (length w) ≡ r
      → filter_map (found u d w r b) (range_with_len 0 (d + length w))
      ≡ numbers_of (stands ((u, d), v)) b (map (position_at number w) (option_map_or (λ ends. range_with_len ends.0 (ends.1 + 1 - ends.0)) r []))
  in_reach_of number b w None is = nothing_in (found u d w None b) 0 (d + length w) (λ p low high. out_of_reach u d w None b p refl)
  in_reach_of number b w (Some ends) is =
      let h : Reaches m.left m.right (length w) ends.0 ends.1 = reach_is m.left m.right (length w) ends.0 ends.1 is in
      let begins : ends.0 ≡ m.left + 1 = h.begins in
      let behind : ends.1 + m.right + 1 ≡ length w = h.ends in
      let enough : m.left + m.right + 2 ≤ length w = h.enough in
      sym (numbered u v d w ends.0 ends.1 b number ends.0 (ends.1 + 1 - ends.0) b (omega arith) (omega arith) (omega arith)
      ∙ by_reach u v d w ends.0 ends.1 b (d + length w) (omega arith) (omega arith))

  width_is : (w : Word) (number : ℕ) (r : Option (ℕ × ℕ)) → length (map (position_at number w.signs) (option_map_or (λ ends. range_with_len ends.0 (ends.1 + 1 - ends.0)) r [])) ≡ count_between r
  width_is w number None = refl
  width_is w number (Some ends) = length-map-range_with_len (position_at number w.signs) ends.0 (ends.1 + 1 - ends.0)

  in_words : (ws : List Word) (word b : ℕ) → drop word all ≡ ws → filter_map (number_at_dot m all d) (filter (begins_at all u) (starts_from m word b ws))
      ≡ numbers_of (stands ((u, d), v)) b (positions_from m (word + 1) ws)
  in_words [] word b is = refl
  in_words (w ∷ ws) word b is =
      let first : List Start = starts_in word b (length w.signs) in
      let behind : List Start = starts_from m (word + 1) (b + reach_count m (length w.signs)) ws in
      let size : length all - word ≡ suc (length ws) = sym (length-drop word all) ∙ ap (λ (xs : List Word). length xs) is in
      let within : word < length all = omega arith in
      let more : w ∷ ws ≡ get_or all word w ∷ drop (word + 1) all = sym is ∙ drop_more all word w within in
      let same : get_or all word w ≡ w = cc in
      let next : drop (word + 1) all ≡ ws = cc in
      let at : slice_get all word ≡ Some w = slice_get-get_or all word w within ∙ ap (λ (x : Word). Some x) same in
      let here : filter_map (number_at_dot m all d) (filter (begins_at all u) first) ≡ numbers_of (stands ((u, d), v)) b (positions_in m (word + 1) w) =
      in_word word b w at ∙ by_starts u d w.signs (reach m.left m.right (length w.signs)) b ∙ in_reach_of (word + 1) b w.signs (reach m.left m.right (length w.signs)) refl in
      let there : filter_map (number_at_dot m all d) (filter (begins_at all u) behind)
      ≡ numbers_of (stands ((u, d), v)) (b + length (positions_in m (word + 1) w)) (positions_from m (word + 1 + 1) ws) =
      in_words ws (word + 1) (b + reach_count m (length w.signs)) next
      ∙ ap (λ n. numbers_of (stands ((u, d), v)) (b + n) (positions_from m (word + 1 + 1) ws)) (sym (width_is w (word + 1) (reach m.left m.right (length w.signs)))) in
      ap (filter_map (number_at_dot m all d)) (filter-append (begins_at all u) first behind)
      ∙ filter_map-append (number_at_dot m all d) (filter (begins_at all u) first) (filter (begins_at all u) behind)
      ∙ ap (λ (xs : List ℕ). xs ++ filter_map (number_at_dot m all d) (filter (begins_at all u) behind)) here
      ∙ ap (λ (xs : List ℕ). numbers_of (stands ((u, d), v)) b (positions_in m (word + 1) w) ++ xs) there
      ∙ sym (numbers-append (stands ((u, d), v)) b (positions_in m (word + 1) w) (positions_from m (word + 1 + 1) ws))

  -- the positions at which a string stands, by its starts
  pub positions_by_starts : filter_map (number_at_dot m all d) (starts_of all (all_starts m all) u) ≡ positions_of_entry (positions_in_reach m all) ((u, d), v)
  positions_by_starts = in_words all 0 0 refl ∙ ap (λ (xs : List PositionInReach). positions_of_entry xs ((u, d), v)) (positions_as m all)
