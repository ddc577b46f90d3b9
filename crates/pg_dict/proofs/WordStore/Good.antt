-- A word as it is read keeps what every word keeps.
use Rattle.std.proofs.Common.{◌≡◌, ℕ, ◌+◌, ◌-◌, ◌<◌, ◌≤◌, ◌==◌, Bool, true, false, not, ◌&&◌, ◌||◌, nat_le, nat_lt, List}
use Rattle.std.proofs.Common.{[], ◌∷◌, ◌++◌, length, map, take, slice_index, slice_index_or, slice_range, refl, sym, ◌∙◌, ap, arith, length-append}
use Rattle.std.specs.List.{list_all}
use Rattle.std.proofs.lemmas.List.{length-map, map-append, get_or_push, length_push, take_at}
use Rattle.std.proofs.lemmas.List.Folds.{list_all-append}
use Rattle.std.proofs.lemmas.Bool.{false≢true, and_parts, and_from, le-leb, lt-ltb, eq-eqb}
use Rattle.pg_types.specs.declared.limits.TheConstants.{EDGE, WEIGHT_MAX, WORD_LETTERS_MAX}
use Rattle.pg_types.specs.declared.marks.Mark.{Mark}
use Rattle.pg_types.specs.declared.marks.Mark.TheVariants.{Nothing, Error, Missed, Found, DontCare}
use Rattle.pg_translate.specs.Tokens.{Token, Letter, Digit, Weight, Marked, Edge}
use Rattle.pg_dict.specs.declared.store.Store.{Store}
use Rattle.pg_dict.specs.Inside.Lines.PositionedSigns.{PositionedSign, positioned_sign, Columns, with_signs}
use Rattle.pg_dict.specs.Inside.MarkedPositions.{sets_hyphen, keeps_care}
use Rattle.pg_dict.specs.Word.{Word}
use Rattle.pg_dict.specs.Inside.SoundWords.{word_of_signs, is_weight}
use Rattle.pg_dict.proofs.WordStore.WordTests.{is_word, is_plain_at, decides, has_lengths}
use Rattle.pg_dict.specs.Inside.Lines.RunningWords.{signs_behind, word_signs}
use Rattle.pg_dict.specs.Inside.Store.{columns_of, is_sign_up_to, IsFit}
use Rattle.pg_types.proofs.BoolFacts.{all_weaker}

-- whether an item is one of a dictionary: not the edge, nor a letter with its sign
abbrev pub is_sound_item : Token → Bool
is_sound_item (Letter s) = nat_lt EDGE s
is_sound_item (Digit n) = true
is_sound_item (Weight n) = true
is_sound_item (Marked m) = true
is_sound_item Edge = false

-- no hyphen where there is no care
abbrev pub is_decided : PositionedSign → Bool
is_decided s = not s.hyphen || s.care

mark_decides : (mark : Mark) → not (sets_hyphen mark) || keeps_care mark ≡ true
mark_decides Nothing = refl
mark_decides Error = refl
mark_decides Missed = refl
mark_decides Found = refl
mark_decides DontCare = refl

-- signs up to the last edge, which stands behind a plain position: the others are letters
pub record Ends (weight : ℕ) (positioned : List PositionedSign) : Type 0 where
  pub front : List PositionedSign
  pub whole : positioned ≡ front ++ positioned_sign Nothing weight EDGE ∷ []
  pub letters : list_all (nat_lt EDGE) (map (λ (s : PositionedSign). s.sign) front) ≡ true
  pub decided : list_all is_decided positioned ≡ true

-- so do those of sound items
pub last_spot : (weight : ℕ) (mark : Mark) (number : ℕ) (items : List Token) → list_all is_sound_item items ≡ true → Ends weight (signs_behind weight mark number items)
last_spot weight mark number [] sound = record { front = []; whole = refl; letters = refl; decided = refl }
last_spot weight mark number (Letter s ∷ items) sound =
    let parts = and_parts (nat_lt EDGE s) (list_all is_sound_item items) sound in
    let rest : Ends weight (signs_behind weight Nothing weight items) = last_spot weight Nothing weight items parts.1 in
    record {
      front = positioned_sign mark number s ∷ rest.front;
      whole = ap (λ (positioned : List PositionedSign). positioned_sign mark number s ∷ positioned) rest.whole;
      letters = and_from _ _ parts.0 rest.letters;
      decided = and_from _ _ (mark_decides mark) rest.decided;
    }
last_spot weight mark number (Digit n ∷ items) sound = last_spot weight mark n items sound
last_spot weight mark number (Weight n ∷ items) sound = last_spot weight mark n items sound
last_spot weight mark number (Marked m ∷ items) sound = last_spot weight m number items sound
last_spot weight mark number (Edge ∷ items) sound = absurd (false≢true sound)

-- decided positions
pub decides_spots : (positioned : List PositionedSign) → list_all is_decided positioned ≡ true
    → decides (map (λ (s : PositionedSign). s.hyphen) positioned) (map (λ (s : PositionedSign). s.care) positioned) ≡ true
decides_spots [] decided = refl
decides_spots (s ∷ positioned) decided =
    let p = and_parts (is_decided s) (list_all is_decided positioned) decided in
    and_from _ _ p.0 (decides_spots positioned p.1)

-- what a list shows of its last element
pub at_last : {X : Type 0} (h : PositionedSign → X) (front : List PositionedSign) (x : PositionedSign) (n : ℕ) (d : X) → n ≡ length front → slice_index_or (map h (front ++ x ∷ [])) n d ≡ h x
at_last h front x n d is =
    let e : length (map h front) ≡ n = length-map front h ∙ sym is in
    ap (λ xs. slice_index_or xs n d) (map-append h front (x ∷ [])) ∙ get_or_push (map h front) (h x) d n e

-- the position before the last edge is plain
pub plain_last : (weight : ℕ) (front : List PositionedSign) (n : ℕ) → n ≡ length front → is_plain_at (word_of_signs weight (front ++ positioned_sign Nothing weight EDGE ∷ [])) n ≡ true
plain_last weight front n is =
    let edge : PositionedSign = positioned_sign Nothing weight EDGE in
    and_from _ _ (ap not (at_last (λ (s : PositionedSign). s.hyphen) front edge n true is))
    (and_from _ _ (eq-eqb _ _ (at_last (λ (s : PositionedSign). s.weight) front edge n (weight + 1) is)) (at_last (λ (s : PositionedSign). s.care) front edge n false is))

-- the signs between two edges
pub inner_signs : (front : List ℕ) (edge n : ℕ) → n ≡ length front + 1 → slice_range (edge ∷ (front ++ edge ∷ [])) 1 n ≡ front
inner_signs front edge n is =
    let less : n - 1 ≡ length front = omega arith in
    ap (λ (k : ℕ). take k (front ++ edge ∷ [])) less ∙ take_at front (edge ∷ []) (length front) refl

-- the word of a line is good where its signs and weights are, and its items are sound
pub good_word : (weight sign : ℕ) (items : List Token) → length (word_signs weight sign items) ≤ WORD_LETTERS_MAX + 2
    → list_all (nat_le 1) (map (λ (s : PositionedSign). s.sign) (word_signs weight sign items)) ≡ true → list_all is_weight (map (λ (s : PositionedSign). s.weight) (word_signs weight sign items))
    ≡ true → weight ≤ WEIGHT_MAX → EDGE < sign → list_all is_sound_item items ≡ true → is_word (word_of_signs weight (word_signs weight sign items)) ≡ true
good_word weight sign items short signs weights small letter sound =
    let positioned : List PositionedSign = word_signs weight sign items in
    let w : Word = word_of_signs weight positioned in
    let n : ℕ = length w.signs in
    let edge : PositionedSign = positioned_sign Nothing weight EDGE in
    let ends : Ends weight (signs_behind weight Nothing weight items) = last_spot weight Nothing weight items sound in
    let front : List PositionedSign = edge ∷ positioned_sign Nothing weight sign ∷ ends.front in
    let whole : positioned ≡ front ++ edge ∷ [] = ap (λ (positioned : List PositionedSign). edge ∷ positioned_sign Nothing weight sign ∷ positioned) ends.whole in
    let size : n ≡ length positioned = length-map positioned (λ (s : PositionedSign). s.sign) in
    let long : length positioned ≡ length ends.front + 3 = ap (λ (positioned : List PositionedSign). length positioned) whole ∙ length_push front edge ∙ omega arith in
    let at : n - 1 ≡ length front = omega arith in
    let lengths : has_lengths w ≡ true =
    and_from _ _ (le-leb 3 n (omega arith)) (and_from _ _ (le-leb n (WORD_LETTERS_MAX + 2) (omega arith))
    (and_from _ _ (eq-eqb _ n (length-map positioned (λ (s : PositionedSign). s.hyphen) ∙ sym size))
    (and_from _ _ (eq-eqb _ n (length-map positioned (λ (s : PositionedSign). s.weight) ∙ sym size)) (eq-eqb _ n (length-map positioned (λ (s : PositionedSign). s.care) ∙ sym size))))) in
    let last_sign : slice_index w.signs (n - 1) ≡ EDGE = ap (λ (positioned : List PositionedSign). slice_index (word_of_signs weight positioned).signs (n - 1)) whole
    ∙ at_last (λ (s : PositionedSign). s.sign) front edge (n - 1) 0 at in
    let inner : slice_range w.signs 1 (n - 1) ≡ sign ∷ map (λ (s : PositionedSign). s.sign) ends.front =
    ap (λ (positioned : List PositionedSign). slice_range (word_of_signs weight positioned).signs 1 (n - 1)) whole
    ∙ ap (λ (signs : List ℕ). slice_range (EDGE ∷ sign ∷ signs) 1 (n - 1)) (map-append (λ (s : PositionedSign). s.sign) ends.front (edge ∷ []))
    ∙ inner_signs (sign ∷ map (λ (s : PositionedSign). s.sign) ends.front) EDGE (n - 1) (omega (arith, length-map ends.front (λ (s : PositionedSign). s.sign))) in
    let letters : list_all (nat_lt EDGE) (slice_range w.signs 1 (n - 1)) ≡ true = ap (list_all (nat_lt EDGE)) inner ∙ and_from _ _ (lt-ltb EDGE sign letter) ends.letters in
    let last : is_plain_at w (n - 1) ≡ true = ap (λ (positioned : List PositionedSign). is_plain_at (word_of_signs weight positioned) (n - 1)) whole ∙ plain_last weight front (n - 1) at in
    let plain : not false && (weight == weight && true) ≡ true = and_from _ _ refl (and_from _ _ (eq-eqb weight weight refl) refl) in
    and_from _ _ lengths
    (and_from _ _ (and_from _ _ signs (and_from _ _ refl (and_from _ _ (eq-eqb _ EDGE last_sign) letters)))
    (and_from _ _ (and_from _ _ weights (le-leb weight WEIGHT_MAX small))
    (and_from _ _ (decides_spots positioned ends.decided) (and_from _ _ plain (and_from _ _ plain last)))))

-- a sign is at least 1
pub sign_some : (n sign : ℕ) → is_sign_up_to n sign ≡ true → nat_le 1 sign ≡ true
sign_some n sign is = (and_parts (nat_le 1 sign) (nat_le sign n) is).0

-- the new signs and their weights in fit columns are so too
pub fits_word : (n : ℕ) (s u : Store) (weight sign : ℕ) (items : List Token) → IsFit n u → columns_of u ≡ with_signs (columns_of s) (word_signs weight sign items)
    → length (word_signs weight sign items) ≤ WORD_LETTERS_MAX + 2 → weight ≤ WEIGHT_MAX → EDGE < sign → list_all is_sound_item items ≡ true
    → is_word (word_of_signs weight (word_signs weight sign items)) ≡ true
fits_word n s u weight sign items fit grown short small letter sound =
    let positioned : List PositionedSign = word_signs weight sign items in
    let signs : list_all (is_sign_up_to n) (s.signs.items ++ map (λ (x : PositionedSign). x.sign) positioned) ≡ true = ap (λ (c : Columns). list_all (is_sign_up_to n) c.signs) (sym grown)
    ∙ fit.signs in
    let weights : list_all is_weight (s.weights.items ++ map (λ (x : PositionedSign). x.weight) positioned) ≡ true = ap (λ (c : Columns). list_all is_weight c.weights) (sym grown) ∙ fit.weights in
    let new_signs : list_all (is_sign_up_to n) (map (λ (x : PositionedSign). x.sign) positioned)
    ≡ true = (and_parts _ _ (sym (list_all-append (is_sign_up_to n) s.signs.items (map (λ (x : PositionedSign). x.sign) positioned)) ∙ signs)).1 in
    let new_weights : list_all is_weight (map (λ (x : PositionedSign). x.weight) positioned)
    ≡ true = (and_parts _ _ (sym (list_all-append is_weight s.weights.items (map (λ (x : PositionedSign). x.weight) positioned)) ∙ weights)).1 in
    good_word weight sign items short (all_weaker (is_sign_up_to n) (nat_le 1) (map (λ (x : PositionedSign). x.sign) positioned) (sign_some n) new_signs) new_weights small letter sound

-- a sign more in the columns: they are longer by one
pub pushed_length : (old new : Store) (mark : Mark) (weight sign : ℕ) → columns_of new ≡ with_signs (columns_of old) (positioned_sign mark weight sign ∷ [])
    → length new.signs.items ≡ length old.signs.items + 1
pushed_length old new mark weight sign grown = ap (λ (c : Columns). length c.signs) grown ∙ length-append old.signs.items (sign ∷ [])

-- and they are within their limits where the sign and its weight are
pub pushed_fit : (n : ℕ) (old new : Store) (mark : Mark) (weight sign : ℕ) → IsFit n old → weight ≤ WEIGHT_MAX → 1 ≤ sign → sign ≤ n → columns_of new
    ≡ with_signs (columns_of old) (positioned_sign mark weight sign ∷ []) → IsFit n new
pushed_fit n old new mark weight sign fit small some most grown = record {
  signs = ap (λ (c : Columns). list_all (is_sign_up_to n) c.signs) grown ∙ list_all-append (is_sign_up_to n) old.signs.items (sign ∷ [])
      ∙ and_from _ _ fit.signs (and_from _ _ (and_from _ _ (le-leb 1 sign some) (le-leb sign n most)) refl);
  weights = ap (λ (c : Columns). list_all is_weight c.weights) grown ∙ list_all-append is_weight old.weights.items (weight ∷ [])
      ∙ and_from _ _ fit.weights (and_from _ _ (le-leb weight WEIGHT_MAX small) refl);
}
