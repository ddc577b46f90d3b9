-- What the sites of words tell of the signs around a sign.
use Rattle.std.proofs.Common.{◌≡◌, ℕ, ◌+◌, ◌-◌, ◌*◌, ◌/◌, ◌<◌, ◌≤◌, nat_le, nat_lt, Bool, true, false, cond, ◌&&◌, List, []}
use Rattle.std.proofs.Common.{◌∷◌, ◌++◌, length, take, drop, get_or, slice_get, Some, inl, inr, refl, sym, ap, ◌∙◌, arith, length-append}
use Rattle.std.specs.List.{range_with_len}
use Rattle.std.proofs.lemmas.Bool.{cases_lt}
use Rattle.std.proofs.lemmas.Bool.Decides.{nat_tests}
use Rattle.std.proofs.lemmas.Grind.{flat_map-append}
use Rattle.std.proofs.lemmas.List.{get_or_append_left, get_or-append_right, length-map, take-append-drop}
use Rattle.std.proofs.lemmas.List.Concat.{get_or-flat_map}
use Rattle.std.proofs.lemmas.List.FromFn.{get_or-map-range_with_len, length-range_with_len}
use Rattle.std.proofs.lemmas.Option.{get_or_from_slice_get, slice_get_within}
use Rattle.pg_dict.specs.declared.sites.Site.{Site}
use Rattle.pg_dict.specs.Word.{Word}
use Rattle.pg_dict.specs.Inside.Sites.{site_of, sites_in, all_sites}
use Rattle.pg_dict.specs.Inside.Store.{all_signs}

sites_len : (w : Word) → length (sites_in w) ≡ length w.signs
sites_len w = length-map (range_with_len 0 (length w.signs)) (site_of w) ∙ length-range_with_len 0 (length w.signs)

-- there is a site for each sign
pub sites_count : (words : List Word) → length (all_sites words) ≡ length (all_signs words)
sites_count [] = refl
sites_count (w ∷ words) =
    let here = sites_len w in
    let rest = sites_count words in
    omega (arith, length-append (sites_in w) (all_sites words), length-append w.signs (all_signs words))

site_in : (w : Word) (p : ℕ) (d : Site) → p < length w.signs → get_or (sites_in w) p d ≡ site_of w p
site_in w p d low = let at : 0 + p ≡ p = omega arith in get_or-map-range_with_len (site_of w) 0 (length w.signs) p p d low at

-- a hyphen as a number
bit : (b : Bool) → cond {A = ℕ} b 1 0 ≤ 1
bit true = omega arith
bit false = omega arith

-- half of what a site has
left_of : (w : Word) (p left : ℕ) (site : Site) → left ≡ site.left / 2 → site ≡ site_of w p → left ≡ length w.signs - p
left_of w p left site half is =
    let small = bit (get_or w.hyphens p false) in
    let whole : site.left ≡ 2 * (length w.signs - p) + cond (get_or w.hyphens p false) 1 0 = ap (λ (s : Site). s.left) is in
    omega arith

-- the signs that are left of a word end with the word
ends : (words : List Word) (i : ℕ) (d : Site) → i < length (all_sites words) → i + (get_or (all_sites words) i d).left / 2 ≤ length (all_sites words)
ends [] i d low = absurd (omega arith)
ends (w ∷ words) i d low = elim (cases_lt i (length w.signs)) [
  | inl before ↦
      let is : get_or (sites_in w ++ all_sites words) i d ≡ site_of w i =
      get_or_append_left (sites_in w) (all_sites words) d i (omega (arith, sites_len w)) ∙ site_in w i d before in
      let left = left_of w i _ _ refl is in
      omega (arith, left, length-append (sites_in w) (all_sites words), sites_len w)
  | inr past ↦
      let is : get_or (sites_in w ++ all_sites words) i d ≡ get_or (all_sites words) (i - length w.signs) d =
      get_or-append_right (sites_in w) (all_sites words) (length w.signs) i d (sites_len w) past in
      let more = ends words (i - length w.signs) d (omega (arith, length-append (sites_in w) (all_sites words), sites_len w)) in
      let same = ap (λ (s : Site). s.left / 2) is in
      omega (arith, same, more, length-append (sites_in w) (all_sites words), sites_len w)
]

module _ (words : List Word) (n p back sign : ℕ) (w : Word) (d : Site) (there : slice_get words n ≡ Some w) (within : p < length w.signs)
    (is : sign ≡ length (all_signs (take n words)) + p) (room : back ≤ sign) where
  near : back ≤ p → get_or (all_sites words) (sign - back) d ≡ site_of w (p - back)
  near low =
      let here : get_or words n w ≡ w = get_or_from_slice_get words n w w there in
      let long : length (sites_in (get_or words n w)) ≡ length w.signs = ap (λ (v : Word). length (sites_in v)) here ∙ sites_len w in
      let at : sign - back ≡ length (all_sites (take n words)) + (p - back) = omega (arith, sites_count (take n words)) in
      ap (λ i. get_or (all_sites words) i d) at
      ∙ get_or-flat_map sites_in words n (p - back) w d (slice_get_within words n w there) (omega (arith, long))
      ∙ ap (λ (v : Word). get_or (sites_in v) (p - back) d) here
      ∙ site_in w (p - back) d (omega arith)

  far : p < back → (get_or (all_sites words) (sign - back) d).left / 2 ≤ back
  far high =
      let before : List Site = all_sites (take n words) in
      let parts : all_sites words ≡ before ++ all_sites (drop n words) =
      ap all_sites (sym (take-append-drop n words)) ∙ flat_map-append sites_in (take n words) (drop n words) in
      let low : sign - back < length before = omega (arith, sites_count (take n words)) in
      let same : get_or (all_sites words) (sign - back) d ≡ get_or before (sign - back) d =
      ap (λ (xs : List Site). get_or xs (sign - back) d) parts ∙ get_or_append_left before (all_sites (drop n words)) d (sign - back) low in
      let end = ends (take n words) (sign - back) d low in
      omega (arith, ap (λ (s : Site). s.left / 2) same, end, sites_count (take n words))

  -- whether signs around a sign lie in its word
  pub around : (len left : ℕ) → left ≡ (get_or (all_sites words) (sign - back) d).left / 2
      → (nat_lt back left && nat_le len left) ≡ (nat_le back p && nat_le (p - back + len) (length w.signs))
  around len left half = elim (cases_lt p back) [
    | inl high ↦ let few = far high in let no : left ≤ back = omega (arith, half, few) in grind (arith, nat_tests)
    | inr low ↦ let all : left ≡ length w.signs - (p - back) = left_of w (p - back) left _ half (near low) in grind (arith, nat_tests)
  ]
