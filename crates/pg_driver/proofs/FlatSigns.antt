-- Windows in the row of the signs of all words, and the rows of their sites and weights.
use Rattle.std.proofs.Common.{◌≡◌, ℕ, zero, suc, ◌+◌, ◌-◌, ◌≤◌, ◌<◌, nat_le, Bool, true, false, cond, ◌&&◌, List, [], ◌∷◌, ◌++◌, length, take, drop, fold, get_or, slice_get, Option, Some, None, refl, sym, ap, subst, ◌∙◌, arith, length-append, length-drop}
use Rattle.std.specs.List.{All, flat_map, range_with_len}
use Rattle.std.specs.Option.{option_map, option_map_or}
use Rattle.std.proofs.lemmas.Bool.{and_parts, leb-true}
use Rattle.std.proofs.lemmas.List.{drop-append-le, drop-drop, drop_at, length-map, take-append-le}
use Rattle.std.proofs.lemmas.List.Elements.{All-head, All-tail}
use Rattle.std.proofs.lemmas.List.FromFn.{length-range_with_len}
use Rattle.std.proofs.lemmas.Option.{get_or_from_slice_get, slice_get_within, slice_get-get_or, slice_get-map}
use Rattle.pg_types.specs.Inside.counting.Counts.{Counts, with_count}
use Rattle.pg_dict.specs.declared.sites.Site.{Site}
use Rattle.pg_dict.specs.Inside.Sites.{all_sites, site_of, sites_in}
use Rattle.pg_dict.proofs.WordStore.Told.{word_in}
use Rattle.pg_dict.specs.Inside.SoundWords.{IsWord}
use Rattle.pg_dict.specs.Inside.Store.{all_signs, all_weights}
use Rattle.pg_dict.specs.Word.{Word}
use Rattle.pg_select.specs.Inside.laws.ClosedDots.{is_good, pass_at}
use Rattle.pg_select.specs.Inside.engine.Meanings.{with_position}
use Rattle.pg_select.specs.Statuses.{position_weight}
use Rattle.pg_select.specs.Windows.{window, fits}
use Rattle.pg_driver.specs.Inside.counting.OpenPositions.{counted_in, counted_of}
use Rattle.pg_driver.specs.Inside.counting.OpenSigns.{sign_count, start_of}
use Rattle.pg_driver.proofs.NumberSteps.{get_left, get_right}
use Rattle.pg_driver.proofs.OpenSigns.{IsSignOf, range_get, sign_of, start_before, start_past}

-- a part of a word stands in the row of all signs behind the word's start
pub flat_part : (words : List Word) (n a k : ℕ) (w : Word) → slice_get words n ≡ Some w → a + k ≤ length w.signs → take k (drop (start_of words n + a) (all_signs words)) ≡ take k (drop a w.signs)
flat_part [] n a k w at inside = absurd (let no : None ≡ Some w = at in cc)
flat_part (v ∷ words) zero a k w at inside =
    let same : v ≡ w = (let both : Some v ≡ Some w = at in cc) in
    let size : length v.signs ≡ length w.signs = ap (λ (u : Word). length u.signs) same in
    let sign : zero + a ≡ a = omega arith in
    ap (λ b. take k (drop b (v.signs ++ all_signs words))) sign
    ∙ ap (take k) (drop-append-le a v.signs (all_signs words) (omega arith))
    ∙ take-append-le k (drop a v.signs) (all_signs words) (omega (arith, length-drop a v.signs))
    ∙ ap (λ (u : Word). take k (drop a u.signs)) same
flat_part (v ∷ words) (suc n) a k w at inside =
    let sign : length v.signs + start_of words n + a ≡ length v.signs + (start_of words n + a) = omega arith in
    ap (λ b. take k (drop b (v.signs ++ all_signs words))) sign
    ∙ ap (take k) (sym (drop-drop (start_of words n + a) (length v.signs) (v.signs ++ all_signs words)))
    ∙ ap (λ (xs : List ℕ). take k (drop (start_of words n + a) xs)) (drop_at v.signs (all_signs words) (length v.signs) refl)
    ∙ flat_part words n a k w at inside

-- how far a window that fits goes in its word
pub fit_within : (size p len dot : ℕ) → (nat_le dot p && nat_le (p - dot + len) size) ≡ true → (dot ≤ p) × (p - dot + len ≤ size)
fit_within size p len dot fit =
    let parts = and_parts (nat_le dot p) (nat_le (p - dot + len) size) fit in
    (leb-true dot p parts.0, leb-true (p - dot + len) size parts.1)

-- the window at a position of a word begins at this sign of all words
pub flat_window : (words : List Word) (n p len dot first : ℕ) (w : Word) → slice_get words n ≡ Some w → fits w.signs p len dot ≡ true → first
    ≡ start_of words n + (p - dot) → take len (drop first (all_signs words)) ≡ window w.signs p len dot
flat_window words n p len dot first w at fit is =
    ap (λ b. take len (drop b (all_signs words))) is
    ∙ flat_part words n (p - dot) len w at (fit_within (length w.signs) p len dot fit).1

-- and ends before they do
pub flat_inside : (words : List Word) (n p len dot first : ℕ) (w : Word) → slice_get words n ≡ Some w → fits w.signs p len dot ≡ true → first
    ≡ start_of words n + (p - dot) → first + len ≤ length (all_signs words)
flat_inside words n p len dot first w at fit is =
    let before = start_before words n (length words) w at (slice_get_within words n w at) in
    let whole = start_past words (length words) (omega arith) in
    omega (arith, (fit_within (length w.signs) p len dot fit).1, before, whole)

-- a position that counts has a window that fits
pub fit_of : (f x : Bool) (o : Option Bool) (good : Bool) → cond (f && x) o None ≡ Some good → f ≡ true
fit_of true x o good some = refl
fit_of false x o good some = absurd (let clash : None ≡ Some good = some in cc)

-- the sites of a word
sites_len : (w : Word) → length (sites_in w) ≡ length w.signs
sites_len w = length-map (range_with_len 0 (length w.signs)) (site_of w) ∙ length-range_with_len 0 (length w.signs)

site_in : (w : Word) (p : ℕ) → p < length w.signs → slice_get (sites_in w) p ≡ Some (site_of w p)
site_in w p low =
    let at : 0 + p ≡ p = omega arith in
    slice_get-map (site_of w) (range_with_len 0 (length w.signs)) p
    ∙ ap (option_map (site_of w)) (range_get 0 (length w.signs) p low ∙ ap (λ (n : ℕ). Some n) at)

-- rows of the words, joined: with one element for each sign of a word, they have one for each sign
-- of all words
module _ {X : Type 0} (row : Word → List X) where
  pub row_count : (words : List Word) → All (λ w. length (row w) ≡ length w.signs) words → length (flat_map row words) ≡ sign_count words
  row_count [] each = refl
  row_count (w ∷ words) each =
      let here : length (row w) ≡ length w.signs = All-head (λ w. length (row w) ≡ length w.signs) w words each in
      let rest = row_count words (All-tail (λ w. length (row w) ≡ length w.signs) w words each) in
      omega (arith, length-append (row w) (flat_map row words), length-append w.signs (all_signs words))

  -- and that of a sign of a word stands at that sign
  pub row_there : (words : List Word) → All (λ w. length (row w) ≡ length w.signs) words → (n p : ℕ) (w : Word) (x : X) → slice_get words n ≡ Some w
      → slice_get (row w) p ≡ Some x → slice_get (flat_map row words) (start_of words n + p) ≡ Some x
  row_there [] each n p w x at is = absurd (let no : None ≡ Some w = at in cc)
  row_there (v ∷ words) each zero p w x at is =
      let same : w ≡ v = (let both : Some v ≡ Some w = at in cc) in
      let sign : zero + p ≡ p = omega arith in
      ap (slice_get (row v ++ flat_map row words)) sign
      ∙ get_left (row v) (flat_map row words) p x (subst (λ (u : Word). slice_get (row u) p ≡ Some x) same is)
  row_there (v ∷ words) each (suc n) p w x at is =
      let here : length (row v) ≡ length v.signs = All-head (λ w. length (row w) ≡ length w.signs) v words each in
      let sign : length v.signs + start_of words n + p ≡ length (row v) + (start_of words n + p) = omega arith in
      ap (slice_get (row v ++ flat_map row words)) sign
      ∙ get_right (row v) (flat_map row words) (start_of words n + p)
      ∙ row_there words (All-tail (λ w. length (row w) ≡ length w.signs) v words each) n p w x at is

-- there is a site for each sign of all words, and a weight
pub sites_count : (words : List Word) → length (all_sites words) ≡ sign_count words
sites_count words = row_count sites_in words (λ k d within. sites_len (get_or words k d))

pub weights_count : (words : List Word) → All IsWord words → length (all_weights words) ≡ sign_count words
weights_count words each = row_count (λ w. w.weights) words (λ k d within. (each k d within).weights_len)

-- the signs of the words before a word
start_is : (words : List Word) (n : ℕ) → start_of words n ≡ length (all_signs (take n words))
start_is [] zero = refl
start_is [] (suc n) = refl
start_is (w ∷ words) zero = refl
start_is (w ∷ words) (suc n) =
    let rest = start_is words n in
    omega (arith, length-append w.signs (all_signs (take n words)))

pub sign_is : (words : List Word) (sign : ℕ) (of : IsSignOf words sign) → sign ≡ length (all_signs (take of.number words)) + of.at
sign_is words sign of = let start = start_is words of.number in omega (arith, of.is)

-- a sign of words, and its site
pub record IsSiteOf (words : List Word) (sign : ℕ) (site : Site) : Type 0 where
  pub of : IsSignOf words sign
  pub is : site ≡ site_of of.word of.at

pub site_at : (words : List Word) (sites : List Site) (sign : ℕ) (d : Site) → sites ≡ all_sites words → sign < sign_count words → IsSiteOf words sign (get_or sites sign d)
site_at words sites sign d are low =
    let of = sign_of words sign low in
    record {
      of = of;
      is =
          get_or_from_slice_get sites sign (site_of of.word of.at) d
          (ap (λ (xs : List Site). slice_get xs sign) are ∙ ap (slice_get (all_sites words)) (sym of.is)
          ∙ row_there sites_in words (λ k d within. sites_len (get_or words k d)) of.number of.at of.word _ of.there (site_in of.word of.at of.within));
    }

-- the weight at a sign is that of its position
pub weight_at : (words : List Word) (weights : List ℕ) (sign d : ℕ) (of : IsSignOf words sign) → weights ≡ all_weights words → All IsWord words → get_or weights sign d ≡ position_weight of.word of.at
weight_at words weights sign d of are each =
    let word = word_in words of.number of.word each of.there in
    get_or_from_slice_get weights sign (position_weight of.word of.at) d
    (ap (λ (xs : List ℕ). slice_get xs sign) are ∙ ap (slice_get (all_weights words)) (sym of.is)
    ∙ row_there (λ w. w.weights) words (λ k d within. (each k d within).weights_len) of.number of.at of.word _ of.there
    (slice_get-get_or of.word.weights of.at 0 (omega (arith, of.within, word.weights_len))))

-- what a pass counts at a position of a word where its window fits
module _ (cs : Counts) (level len dot : ℕ) (words : List Word) (n p : ℕ) (w : Word) (at : slice_get words n ≡ Some w) where
  pub counted_there : fold with_position cs (counted_of (pass_at level len dot) words (record { word = n; at = p })) ≡ fold with_position cs (counted_in (pass_at level len dot) w p)
  counted_there = ap (λ (o : Option Word). fold with_position cs (option_map_or (λ (v : Word). counted_in (pass_at level len dot) v p) o [])) at

  pub counted_fit : (u : List ℕ) (good : Bool) (weight : ℕ) → fits w.signs p len dot ≡ true → u ≡ window w.signs p len dot → good ≡ is_good level w p → weight ≡ position_weight w p
      → with_count cs u good weight ≡ fold with_position cs (counted_of (pass_at level len dot) words (record { word = n; at = p }))
  counted_fit u good weight fit u_is good_is weight_is =
      (λ i. with_count cs (u_is i) (good_is i) (weight_is i)) ∙ sym (by (fits w.signs p len dot) fit) ∙ sym counted_there
    where
      by : (b : Bool) → b ≡ true → fold with_position cs (option_map_or (λ good. record { window = window w.signs p len dot; good = good; weight = position_weight w p } ∷ [])
          (cond (b && true) (Some (is_good level w p)) None) []) ≡ with_count cs (window w.signs p len dot) (is_good level w p) (position_weight w p)
      by true e = refl
      by false e = absurd (let wrong : false ≡ true = e in cc)

  -- and where it does not
  pub counted_none : fits w.signs p len dot ≡ false → fold with_position cs (counted_of (pass_at level len dot) words (record { word = n; at = p })) ≡ cs
  counted_none other = counted_there ∙ by (fits w.signs p len dot) other
    where
      by : (b : Bool) → b ≡ false → fold with_position cs (option_map_or (λ good. record { window = window w.signs p len dot; good = good; weight = position_weight w p } ∷ [])
          (cond (b && true) (Some (is_good level w p)) None) []) ≡ cs
      by true e = absurd (let wrong : true ≡ false = e in cc)
      by false e = refl
