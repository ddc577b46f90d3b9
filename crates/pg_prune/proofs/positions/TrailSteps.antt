-- The starts of a string that is longer by a sign, and the trail of a string.
use Rattle.std.proofs.Common.{◌≡◌, ℕ, zero, suc, ◌+◌, ◌-◌, ◌<◌, ◌≤◌, true, ◌&&◌, nat_le, nat_lt, nat_eq, if◌then◌else◌, List}
use Rattle.std.proofs.Common.{[], ◌∷◌, ◌++◌, length, take, drop, get_or, refl, sym, ap, ◌∙◌, arith, All, length-append, length-drop}
use Rattle.std.specs.List.{filter, starts_with}
use Rattle.std.specs.Cmp.{both_ways}
use Rattle.std.specs.Cmp.Lexicographic.{bytes_decides}
use Rattle.std.proofs.Math.Seq.{take-append_seam, get_or-append_seam}
use Rattle.std.proofs.lemmas.Bool.{leb-true, le-leb, ltb-true, lt-ltb, eqb-true, eq-eqb, ne_eqb, and_from}
use Rattle.std.proofs.lemmas.List.{take_more, take_all, get_or-drop, take-take, length-take-le}
use Rattle.std.proofs.lemmas.List.FromFn.{take-map-range_with_len, map-range_with_len_more, get_or-map-range_with_len, length-map-range_with_len}
use Rattle.pg_types.proofs.BoolFacts.{and_first, and_second}
use Rattle.pg_dict.specs.Word.{Word}
use Rattle.pg_patterns.specs.Values.{stands_at}
use Rattle.pg_prune.specs.declared.positions.trail.Start.{Start}
use Rattle.pg_prune.specs.Inside.positions.Trails.{signs_of_word, IsStart, begins_at, continues_with, starts_of, trail_upto, IsTrail, last_list}
use Rattle.pg_prune.proofs.positions.TrailLists.{range_agree, filter_both, filter_all}

-- what it means that q stands in w at a
pub record Stands (q w : List ℕ) (a : ℕ) : Type 0 where
  pub fits : a + length q ≤ length w
  pub signs : q ≡ take (length q) (drop a w)

pub stands_parts : (q w : List ℕ) (a : ℕ) → stands_at q w a ≡ true → Stands q w a
stands_parts q w a is = record {
  fits = leb-true (a + length q) (length w) (and_first (nat_le (a + length q) (length w)) (starts_with nat_eq (drop a w) q) is);
  signs = (bytes_decides q (take (length q) (drop a w))).0 (and_second (nat_le (a + length q) (length w)) (starts_with nat_eq (drop a w) q) is);
}

stands_from : (q w : List ℕ) (a : ℕ) → Stands q w a → stands_at q w a ≡ true
stands_from q w a h =
    and_from (nat_le (a + length q) (length w)) (starts_with nat_eq (drop a w) q)
    (le-leb (a + length q) (length w) h.fits) ((bytes_decides q (take (length q) (drop a w))).1 h.signs)

-- the signs of a word from one of them on, and the next one
next_sign : (w : List ℕ) (a n : ℕ) → a + n < length w → take (n + 1) (drop a w) ≡ take n (drop a w) ++ get_or w (a + n) 0 ∷ []
next_sign w a n inside =
    let size : length (drop a w) ≡ length w - a = length-drop a w in
    take_more (drop a w) n 0 (omega arith) ∙ ap (λ (s : ℕ). take n (drop a w) ++ s ∷ []) (get_or-drop a w n 0)

module _ (q w : List ℕ) (a s : ℕ) where
  longer_size : length (q ++ s ∷ []) ≡ length q + 1
  longer_size = length-append q (s ∷ [])

  longer_cut : stands_at (q ++ s ∷ []) w a ≡ true → (stands_at q w a && (nat_lt (a + length q) (length w) && nat_eq (get_or w (a + length q) 0) s)) ≡ true
  longer_cut is =
      let h : Stands (q ++ s ∷ []) w a = stands_parts (q ++ s ∷ []) w a is in
      let size : length (q ++ s ∷ []) ≡ length q + 1 = longer_size in
      let fits : a + length (q ++ s ∷ []) ≤ length w = h.fits in
      let inside : a + length q < length w = omega arith in
      let dropped : length (drop a w) ≡ length w - a = length-drop a w in
      let first_len : length (take (length q) (drop a w)) ≡ length q = length-take-le (length q) (drop a w) (omega arith) in
      let whole : q ++ s ∷ [] ≡ take (length q) (drop a w) ++ get_or w (a + length q) 0 ∷ [] = h.signs ∙ ap (λ (n : ℕ). take n (drop a w)) size ∙ next_sign w a (length q) inside in
      let first : q ≡ take (length q) (drop a w) =
      sym (take-append_seam q (s ∷ [])) ∙ ap (λ (x : List ℕ). take (length q) x) whole
      ∙ ap (λ (n : ℕ). take n (take (length q) (drop a w) ++ get_or w (a + length q) 0 ∷ [])) (sym first_len)
      ∙ take-append_seam (take (length q) (drop a w)) (get_or w (a + length q) 0 ∷ []) in
      let last : s ≡ get_or w (a + length q) 0 =
      sym (get_or-append_seam q s [] 0) ∙ ap (λ (x : List ℕ). get_or x (length q) 0) whole
      ∙ ap (λ (n : ℕ). get_or (take (length q) (drop a w) ++ get_or w (a + length q) 0 ∷ []) n 0) (sym first_len)
      ∙ get_or-append_seam (take (length q) (drop a w)) (get_or w (a + length q) 0) [] 0 in
      and_from (stands_at q w a) (nat_lt (a + length q) (length w) && nat_eq (get_or w (a + length q) 0) s)
      (stands_from q w a (record { fits = omega arith; signs = first }))
      (and_from (nat_lt (a + length q) (length w)) (nat_eq (get_or w (a + length q) 0) s) (lt-ltb (a + length q) (length w) inside) (eq-eqb (get_or w (a + length q) 0) s (sym last)))

  longer_joined : (stands_at q w a && (nat_lt (a + length q) (length w) && nat_eq (get_or w (a + length q) 0) s)) ≡ true → stands_at (q ++ s ∷ []) w a ≡ true
  longer_joined is =
      let h : Stands q w a = stands_parts q w a (and_first (stands_at q w a) (nat_lt (a + length q) (length w) && nat_eq (get_or w (a + length q) 0) s) is) in
      let more = and_second (stands_at q w a) (nat_lt (a + length q) (length w) && nat_eq (get_or w (a + length q) 0) s) is in
      let inside : a + length q < length w = ltb-true (a + length q) (length w) (and_first (nat_lt (a + length q) (length w)) (nat_eq (get_or w (a + length q) 0) s) more) in
      let sign : get_or w (a + length q) 0 ≡ s = eqb-true (get_or w (a + length q) 0) s (and_second (nat_lt (a + length q) (length w)) (nat_eq (get_or w (a + length q) 0) s) more) in
      let size : length (q ++ s ∷ []) ≡ length q + 1 = longer_size in
      let signs : q ++ s ∷ [] ≡ take (length (q ++ s ∷ [])) (drop a w) =
      ap (λ (x : List ℕ). x ++ s ∷ []) h.signs ∙ ap (λ (x : ℕ). take (length q) (drop a w) ++ x ∷ []) (sym sign)
      ∙ sym (next_sign w a (length q) inside) ∙ ap (λ (n : ℕ). take n (drop a w)) (sym size) in
      stands_from (q ++ s ∷ []) w a (record { fits = omega arith; signs = signs })

  -- a string stands where it stands without its last sign and that sign follows
  pub stands_longer : stands_at (q ++ s ∷ []) w a ≡ (stands_at q w a && (nat_lt (a + length q) (length w) && nat_eq (get_or w (a + length q) 0) s))
  stands_longer = both_ways _ _ longer_cut longer_joined

module _ (ws : List Word) (all : List Start) (u : List ℕ) where
  -- the starts of a string that is longer by a sign
  pub longer_starts : (i : ℕ) → i < length u → filter (continues_with ws i (get_or u i 0)) (starts_of ws all (take i u)) ≡ starts_of ws all (take (i + 1) u)
  longer_starts i inside =
      let size : length (take i u) ≡ i = length-take-le i u (omega arith) in
      filter_both (continues_with ws i (get_or u i 0)) (begins_at ws (take i u)) (begins_at ws (take (i + 1) u))
      (λ x.
      ap (λ (q : List ℕ). stands_at q (signs_of_word ws x.word) x.at) (take_more u i 0 inside)
      ∙ stands_longer (take i u) (signs_of_word ws x.word) x.at (get_or u i 0)
      ∙ ap (λ (n : ℕ). stands_at (take i u) (signs_of_word ws x.word) x.at
      && (nat_lt (x.at + n) (length (signs_of_word ws x.word)) && nat_eq (get_or (signs_of_word ws x.word) (x.at + n) 0) (get_or u i 0))) size)
      all

  -- the empty string begins at each start
  pub all_begin : All (IsStart ws) all → all ≡ starts_of ws all []
  all_begin known = filter_all (begins_at ws []) all (λ k d below. let at = (known k d below).at in
      stands_from [] (signs_of_word ws (get_or all k d).word) (get_or all k d).at (record { fits = omega (arith, at); signs = refl }))

  -- the last list of a trail
  pub last_trail : (i : ℕ) → All (IsStart ws) all → last_list all (trail_upto ws all u i) ≡ starts_of ws all (take i u)
  last_trail zero known = all_begin known
  last_trail (suc j) known =
      let size : length (trail_upto ws all u (suc j)) ≡ suc j = length-map-range_with_len (λ k. starts_of ws all (take (k + 1) u)) 0 (suc j) in
      let next : j + 1 ≡ suc j = omega arith in
      ap (λ (n : ℕ). if nat_eq n 0 then all else get_or (trail_upto ws all u (suc j)) (n - 1) []) size
      ∙ ap (λ t. if t then all else get_or (trail_upto ws all u (suc j)) (suc j - 1) []) (ne_eqb (suc j) 0 (λ (e : suc j ≡ 0). omega arith))
      ∙ get_or-map-range_with_len (λ k. starts_of ws all (take (k + 1) u)) 0 (suc j) (suc j - 1) j [] (omega arith) (omega arith)
      ∙ ap (λ (n : ℕ). starts_of ws all (take n u)) next

  pub whole_trail : (lists : List (List Start)) → All (IsStart ws) all → IsTrail ws all u lists → last_list all lists ≡ starts_of ws all u
  whole_trail lists known is = ap (last_list all) is ∙ last_trail (length u) known ∙ ap (starts_of ws all) (take_all (length u) u (omega arith))

  -- a list more
  pub trail_more : (i : ℕ) → trail_upto ws all u i ++ starts_of ws all (take (i + 1) u) ∷ [] ≡ trail_upto ws all u (i + 1)
  trail_more i = sym (map-range_with_len_more (λ k. starts_of ws all (take (k + 1) u)) 0 i i (omega arith))

  -- what a trail has in common with that of another string
  pub trail_cut : (v : List ℕ) (kept count : ℕ) → kept ≤ count → take kept u ≡ take kept v → take kept (trail_upto ws all u count) ≡ trail_upto ws all v kept
  trail_cut v kept count few same =
      take-map-range_with_len (λ k. starts_of ws all (take (k + 1) u)) 0 count kept few
      ∙ range_agree (λ k. starts_of ws all (take (k + 1) u)) (λ k. starts_of ws all (take (k + 1) v)) 0 kept
      (λ k low high. ap (starts_of ws all) (
      sym (take-take (k + 1) kept u (omega arith)) ∙ ap (λ (x : List ℕ). take (k + 1) x) same ∙ take-take (k + 1) kept v (omega arith)))
