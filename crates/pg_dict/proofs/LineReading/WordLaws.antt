-- What is written of a word is read back as that word.
use Rattle.std.proofs.Common.{◌≡◌, ℕ, ◌==◌, nat_lt, Bool, true, false, cond, List, [], ◌∷◌, ◌++◌, map, Some, refl, sym}
use Rattle.std.proofs.Common.{◌∙◌, ap, ◌-◌, ◌≤◌, length, take, get_or, slice_get, slice_index, Option, unwrap_or, suc, arith, ◌+◌, drop, length-drop}
use Rattle.std.proofs.lemmas.Bool.{eqb-true}
use Rattle.std.proofs.lemmas.List.{append_assoc, take_all, take_more, map-append, length-map, length-take}
use Rattle.std.proofs.lemmas.Option.{get_or_from_slice_get, slice_get-get_or}
use Rattle.pg_types.specs.declared.limits.TheConstants.{EDGE}
use Rattle.pg_types.specs.declared.marks.Mark.{Mark}
use Rattle.pg_types.specs.declared.marks.Mark.TheVariants.{Nothing, Error, Missed, Found, DontCare}
use Rattle.pg_translate.specs.Tokens.{Token, Letter, Digit, Weight}
use Rattle.pg_dict.specs.Inside.Lines.PositionedSigns.{PositionedSign, positioned_sign}
use Rattle.pg_dict.specs.Word.{Word}
use Rattle.pg_dict.specs.Inside.SoundWords.{word_of_signs, IsWord}
use Rattle.pg_dict.specs.Inside.MarkedPositions.{sets_hyphen, keeps_care}
use Rattle.pg_dict.specs.Inside.LineWords.{line_word}
use Rattle.pg_dict.specs.Inside.Lines.RunningWords.{signs_behind, running_word}
use Rattle.pg_dict.proofs.LineReading.Running.{same_word, running_is}
use Rattle.pg_dict.specs.Inside.WrittenWords.{MarkedLetter, number_token, mark_tokens, weight_tokens, letters_tokens, written_signs, written_letters, between_letters, AreMarksOf, letters_with, word_tokens}

-- a number sets the weight
number_read : (weight : ℕ) (mark : Mark) (before n : ℕ) (more : List Token) → signs_behind weight mark before (number_token n ∷ more) ≡ signs_behind weight mark n more
number_read weight mark before n more = by_size (nat_lt n 10)
  where
    by_size : (small : Bool) → signs_behind weight mark before (cond small (Digit n) (Weight n) ∷ more) ≡ signs_behind weight mark n more
    by_size true = refl
    by_size false = refl

-- a weight, where it is written, sets the weight
weight_read : (weight : ℕ) (mark : Mark) (n : ℕ) (more : List Token) → signs_behind weight mark weight (weight_tokens weight n ++ more) ≡ signs_behind weight mark n more
weight_read weight mark n more = by_test (n == weight) refl
  where
    by_test : (same : Bool) → (n == weight) ≡ same → signs_behind weight mark weight (cond same [] (number_token n ∷ []) ++ more) ≡ signs_behind weight mark n more
    by_test true is = ap (λ (k : ℕ). signs_behind weight mark k more) (sym (eqb-true n weight is))
    by_test false is = number_read weight mark weight n more

-- a mark sets the mark
mark_read : (weight : ℕ) (mark : Mark) (more : List Token) → signs_behind weight Nothing weight (mark_tokens mark ++ more) ≡ signs_behind weight mark weight more
mark_read weight Nothing more = refl
mark_read weight Error more = refl
mark_read weight Missed more = refl
mark_read weight Found more = refl
mark_read weight DontCare more = refl

-- the letters behind the first
letters_read : (weight : ℕ) (letters : List MarkedLetter) → signs_behind weight Nothing weight (letters_tokens weight letters)
    ≡ map (λ (l : MarkedLetter). positioned_sign l.mark l.weight l.sign) letters ++ positioned_sign Nothing weight EDGE ∷ []
letters_read weight [] = refl
letters_read weight (l ∷ letters) =
    let more : List Token = Letter l.sign ∷ letters_tokens weight letters in
    let cut : letters_tokens weight (l ∷ letters) ≡ mark_tokens l.mark ++ (weight_tokens weight l.weight ++ more) = simp append_assoc in
    ap (signs_behind weight Nothing weight) cut
    ∙ mark_read weight l.mark (weight_tokens weight l.weight ++ more)
    ∙ weight_read weight l.mark l.weight more
    ∙ ap (λ (positioned : List PositionedSign). positioned_sign l.mark l.weight l.sign ∷ positioned) (letters_read weight letters)

-- a word of this weight, first letter and letters behind it
abbrev tokens_of : ℕ → ℕ → ℕ → List MarkedLetter → List Token
tokens_of before weight sign letters = weight_tokens before weight ++ Letter sign ∷ letters_tokens weight letters

pub tokens_read : (before weight sign : ℕ) (letters : List MarkedLetter) → running_word before (tokens_of before weight sign letters)
    ≡ record { word = Some (word_of_signs weight (written_signs weight sign letters)); weight = weight }
tokens_read before weight sign letters = by_test (weight == before) refl
  where
    first : running_word weight (Letter sign ∷ letters_tokens weight letters) ≡ record { word = Some (word_of_signs weight (written_signs weight sign letters)); weight = weight }
    first = ap (λ (positioned : List PositionedSign). record {
      word = Some (word_of_signs weight (positioned_sign Nothing weight EDGE ∷ positioned_sign Nothing weight sign ∷ positioned));
      weight = weight;
    }) (letters_read weight letters)

    by_size : (small : Bool) → running_word before (cond small (Digit weight) (Weight weight) ∷ Letter sign ∷ letters_tokens weight letters)
        ≡ record { word = Some (word_of_signs weight (written_signs weight sign letters)); weight = weight }
    by_size true = first
    by_size false = first

    by_test : (same : Bool) → (weight == before) ≡ same → running_word before (cond same [] (number_token weight ∷ []) ++ Letter sign ∷ letters_tokens weight letters)
        ≡ record { word = Some (word_of_signs weight (written_signs weight sign letters)); weight = weight }
    by_test true is = ap (λ (k : ℕ). running_word k (Letter sign ∷ letters_tokens weight letters)) (sym (eqb-true weight before is)) ∙ first
    by_test false is = by_size (nat_lt weight 10)

-- a list is its first two elements, those between, and its last
pub parted : {X : Type 0} (xs : List X) (a b c : X) → 3 ≤ length xs → slice_get xs 0 ≡ Some a → slice_get xs 1 ≡ Some b → slice_get xs (length xs - 1)
    ≡ Some c → xs ≡ a ∷ b ∷ (between_letters xs ++ c ∷ [])
parted [] a b c long first second last = absurd (omega arith)
parted (x ∷ []) a b c long first second last = absurd (omega arith)
parted {X} (x ∷ y ∷ ys) a b c long first second last =
    let n : ℕ = length ys - 1 in
    let end : length (x ∷ y ∷ ys) - 1 ≡ suc (suc n) = omega arith in
    let size : length (x ∷ y ∷ ys) - 1 - 2 ≡ n = omega arith in
    let at : slice_get ys n ≡ Some c = ap (slice_get (x ∷ y ∷ ys)) (sym end) ∙ last in
    let is_last : get_or ys n c ≡ c = get_or_from_slice_get ys n c c at in
    let more : n + 1 ≡ length ys = omega arith in
    let whole : ys ≡ take n ys ++ c ∷ [] = sym (take_all (n + 1) ys (omega arith)) ∙ take_more ys n c (omega arith) ∙ ap (λ (z : X). take n ys ++ z ∷ []) is_last in
    let x_is : x ≡ a = ap (λ (o : Option X). unwrap_or o x) first in
    let y_is : y ≡ b = ap (λ (o : Option X). unwrap_or o y) second in
    ap (λ (zs : List X). x ∷ y ∷ zs) (whole ∙ ap (λ (k : ℕ). take k ys ++ c ∷ []) (sym size)) ∙ ap (λ (z : X). z ∷ y ∷ (between_letters (x ∷ y ∷ ys) ++ c ∷ [])) x_is
    ∙ ap (λ (z : X). a ∷ z ∷ (between_letters (x ∷ y ∷ ys) ++ c ∷ [])) y_is

-- the parts of written letters
pub letters_signs : (marks : List Mark) (weights signs : List ℕ) → length weights ≡ length marks → length signs ≡ length marks
    → map (λ (l : MarkedLetter). l.sign) (written_letters marks weights signs) ≡ signs
letters_signs [] weights [] w s = refl
letters_signs [] weights (x ∷ xs) w s = absurd (omega arith)
letters_signs (m ∷ ms) [] signs w s = absurd (omega arith)
letters_signs (m ∷ ms) (n ∷ ns) [] w s = absurd (omega arith)
letters_signs (m ∷ ms) (n ∷ ns) (x ∷ xs) w s = ap (λ (ys : List ℕ). x ∷ ys) (letters_signs ms ns xs (omega arith) (omega arith))

pub written_weights : (marks : List Mark) (weights signs : List ℕ) → length weights ≡ length marks → length signs ≡ length marks
    → map (λ (l : MarkedLetter). l.weight) (written_letters marks weights signs) ≡ weights
written_weights [] [] signs w s = refl
written_weights [] (x ∷ xs) signs w s = absurd (omega arith)
written_weights (m ∷ ms) [] signs w s = absurd (omega arith)
written_weights (m ∷ ms) (n ∷ ns) [] w s = absurd (omega arith)
written_weights (m ∷ ms) (n ∷ ns) (x ∷ xs) w s = ap (λ (ys : List ℕ). n ∷ ys) (written_weights ms ns xs (omega arith) (omega arith))

pub written_marks : (h : Mark → Bool) (marks : List Mark) (weights signs : List ℕ) → length weights ≡ length marks → length signs ≡ length marks
    → map (λ (l : MarkedLetter). h l.mark) (written_letters marks weights signs) ≡ map h marks
written_marks h [] weights signs w s = refl
written_marks h (m ∷ ms) [] signs w s = absurd (omega arith)
written_marks h (m ∷ ms) (n ∷ ns) [] w s = absurd (omega arith)
written_marks h (m ∷ ms) (n ∷ ns) (x ∷ xs) w s = ap (λ (ys : List Bool). h m ∷ ys) (written_marks h ms ns xs (omega arith) (omega arith))

-- what written signs show
pub shown : {X : Type 0} (h : PositionedSign → X) (weight sign : ℕ) (letters : List MarkedLetter) → map h (written_signs weight sign letters)
    ≡ h (positioned_sign Nothing weight EDGE) ∷ h (positioned_sign Nothing weight sign) ∷ (map (λ (l : MarkedLetter). h (positioned_sign l.mark l.weight l.sign)) letters
    ++ h (positioned_sign Nothing weight EDGE) ∷ [])
shown {X} h weight sign letters =
    ap (λ (xs : List X). h (positioned_sign Nothing weight EDGE) ∷ h (positioned_sign Nothing weight sign) ∷ xs)
    (map-append h (map (λ (l : MarkedLetter). positioned_sign l.mark l.weight l.sign) letters) (positioned_sign Nothing weight EDGE ∷ [])
    ∙ ap (λ (xs : List X). xs ++ h (positioned_sign Nothing weight EDGE) ∷ []) (map-map h (λ (l : MarkedLetter). positioned_sign l.mark l.weight l.sign) letters))
  where
    map-map : {X : Type 0} (h : PositionedSign → X) (f : MarkedLetter → PositionedSign) (ls : List MarkedLetter) → map h (map f ls) ≡ map (λ (l : MarkedLetter). h (f l)) ls
    map-map h f [] = refl
    map-map {X} h f (l ∷ ls) = ap (λ (xs : List X). h (f l) ∷ xs) (map-map h f ls)

-- how many elements a list has between two letters
pub length-between_letters : {X : Type 0} (xs : List X) → length (between_letters xs) ≡ length xs - 3
length-between_letters xs = omega (arith, length-take (length xs - 1 - 2) (drop 2 xs), length-drop 2 xs)

-- a list of a word at its last position
last_of : {X : Type 0} (xs : List X) (n : ℕ) (x : X) → length xs ≡ n → slice_get xs (n - 1) ≡ Some x → slice_get xs (length xs - 1) ≡ Some x
last_of xs n x size last = ap (λ (k : ℕ). slice_get xs (k - 1)) size ∙ last

-- a word is its first letter, the letters behind it with their marks and weights, and two edges
pub word_written : (w : Word) (marks : List Mark) → IsWord w → AreMarksOf w marks → word_of_signs w.weight (written_signs w.weight (slice_index w.signs 1) (letters_with marks w)) ≡ w
word_written w marks is mean =
    let sign : ℕ = slice_index w.signs 1 in
    let letters : List MarkedLetter = letters_with marks w in
    let count : length marks ≡ length w.signs - 3 = sym (length-map marks sets_hyphen) ∙ ap (λ (xs : List Bool). length xs) mean.hyphens
    ∙ length-between_letters w.hyphens ∙ ap (λ (n : ℕ). n - 3) is.hyphens_len in
    let weights : length (between_letters w.weights) ≡ length marks = length-between_letters w.weights ∙ ap (λ (n : ℕ). n - 3) is.weights_len ∙ sym count in
    let signs : length (between_letters w.signs) ≡ length marks = length-between_letters w.signs ∙ sym count in
    let long = is.long in
    same_word (word_of_signs w.weight (written_signs w.weight sign letters)) w
    (shown (λ (s : PositionedSign). s.sign) w.weight sign letters
    ∙ ap (λ (xs : List ℕ). EDGE ∷ sign ∷ (xs ++ EDGE ∷ [])) (letters_signs marks (between_letters w.weights) (between_letters w.signs) weights signs)
    ∙ sym (parted w.signs EDGE sign EDGE long is.begins (slice_get-get_or w.signs 1 0 (omega arith)) is.ends))
    (shown (λ (s : PositionedSign). s.hyphen) w.weight sign letters
    ∙ ap (λ (xs : List Bool). false ∷ false ∷ (xs ++ false ∷ [])) (written_marks sets_hyphen marks (between_letters w.weights) (between_letters w.signs) weights signs ∙ mean.hyphens)
    ∙ sym (parted w.hyphens false false false (omega (arith, is.hyphens_len)) is.first.hyphen is.second.hyphen (last_of w.hyphens _ false is.hyphens_len is.last.hyphen)))
    (shown (λ (s : PositionedSign). s.weight) w.weight sign letters
    ∙ ap (λ (xs : List ℕ). w.weight ∷ w.weight ∷ (xs ++ w.weight ∷ [])) (written_weights marks (between_letters w.weights) (between_letters w.signs) weights signs)
    ∙ sym (parted w.weights w.weight w.weight w.weight (omega (arith, is.weights_len)) is.first.weight is.second.weight (last_of w.weights _ w.weight is.weights_len is.last.weight)))
    (shown (λ (s : PositionedSign). s.care) w.weight sign letters
    ∙ ap (λ (xs : List Bool). true ∷ true ∷ (xs ++ true ∷ [])) (written_marks keeps_care marks (between_letters w.weights) (between_letters w.signs) weights signs ∙ mean.cares)
    ∙ sym (parted w.cares true true true (omega (arith, is.cares_len)) is.first.care is.second.care (last_of w.cares _ true is.cares_len is.last.care)))
    refl

-- what is written of a word is read back as that word
pub word_is_read : (before : ℕ) (w : Word) (marks : List Mark) → IsWord w → AreMarksOf w marks → line_word before (word_tokens before marks w) ≡ record { word = Some w; weight = w.weight }
word_is_read before w marks is mean =
    sym (running_is before (word_tokens before marks w)) ∙ tokens_read before w.weight (slice_index w.signs 1) (letters_with marks w)
    ∙ ap (λ (v : Word). record { word = Some v; weight = w.weight }) (word_written w marks is mean)
