-- A line read item by item gives what its gaps say.
use Rattle.std.proofs.Common.{◌≡◌, ℕ, ◌+◌, ◌-◌, Bool, List, [], ◌∷◌, ◌++◌, length, map, take, slice_index_or, slice_range, Some, refl, sym, ◌∙◌, ap, arith, suc}
use Rattle.std.specs.List.{filter_map, onto_first}
use Rattle.std.proofs.lemmas.List.{map-append}
use Rattle.pg_types.specs.declared.limits.TheConstants.{EDGE}
use Rattle.pg_types.specs.declared.marks.Mark.{Mark}
use Rattle.pg_types.specs.declared.marks.Mark.TheVariants.{Nothing}
use Rattle.pg_types.specs.ValuesOrRefusals.{unless}
use Rattle.pg_translate.specs.declared.items.Place.TheVariants.{Dictionary}
use Rattle.pg_translate.specs.Alphabets.{Alphabet}
use Rattle.pg_translate.specs.Inside.items.Cuts.{cut, cut_from, tokens_of}
use Rattle.pg_translate.specs.Inside.items.Refusing.{cut_refusal}
use Rattle.pg_translate.specs.Tokens.{Token, Letter, Digit, Weight, Marked, Edge}
use Rattle.pg_translate.specs.Gaps.{signs_of, gaps, last_number, last_mark}
use Rattle.pg_translate.specs.Inside.items.GapItems.{last_else, inner_gaps, number_of, mark_of}
use Rattle.pg_translate.proofs.Gaps.{gaps_some}
use Rattle.pg_dict.specs.Inside.Lines.PositionedSigns.{PositionedSign, positioned_sign}
use Rattle.pg_dict.specs.Word.{Word}
use Rattle.pg_dict.specs.Inside.SoundWords.{word_of_signs}
use Rattle.pg_dict.specs.DictionaryWords.{position_gaps, word_of_items}
use Rattle.pg_dict.specs.Inside.MarkedPositions.{sets_hyphen, keeps_care}
use Rattle.pg_dict.specs.Inside.LineWords.{LineWord, word_if, line_word, line_reading}
use Rattle.pg_dict.specs.Inside.Lines.LineStarts.{rest_reading}
use Rattle.pg_dict.specs.Inside.Lines.RunningWords.{signs_behind, word_signs, running_word}

-- two words with the same parts
pub same_word : (v w : Word) → v.signs ≡ w.signs → v.hyphens ≡ w.hyphens → v.weights ≡ w.weights → v.cares ≡ w.cares → v.weight ≡ w.weight → v ≡ w
same_word v w signs hyphens weights cares weight =
    ap (λ (xs : List ℕ). record v { signs = xs }) signs
    ∙ ap (λ (xs : List Bool). record v { signs = w.signs; hyphens = xs }) hyphens
    ∙ ap (λ (xs : List ℕ). record v { signs = w.signs; hyphens = w.hyphens; weights = xs }) weights
    ∙ ap (λ (xs : List Bool). record w { cares = xs; weight = v.weight }) cares
    ∙ ap (λ (n : ℕ). record w { weight = n }) weight

-- what is shown of the position in front of each sign behind a sign, and of the last edge, where a mark and a number were the
-- last so far
abbrev shown : {X : Type 0} → (Mark → ℕ → X) → ℕ → Mark → ℕ → List (List Token) → List X
shown f weight mark number [] = f Nothing weight ∷ []
shown f weight mark number (position ∷ []) = f Nothing weight ∷ []
shown f weight mark number (position ∷ next ∷ more) = f (last_else mark (filter_map mark_of position)) (last_else number (filter_map number_of position)) ∷ shown f weight Nothing weight (next ∷ more)

-- an item in front of the first position
shown_digit : {X : Type 0} (f : Mark → ℕ → X) (weight : ℕ) (mark : Mark) (number n : ℕ) (gs : List (List Token)) → shown f weight mark number (onto_first (Digit n) gs) ≡ shown f weight mark n gs
shown_digit f weight mark number n [] = refl
shown_digit f weight mark number n (position ∷ []) = refl
shown_digit f weight mark number n (position ∷ next ∷ more) = refl

shown_weight : {X : Type 0} (f : Mark → ℕ → X) (weight : ℕ) (mark : Mark) (number n : ℕ) (gs : List (List Token)) → shown f weight mark number (onto_first (Weight n) gs) ≡ shown f weight mark n gs
shown_weight f weight mark number n [] = refl
shown_weight f weight mark number n (position ∷ []) = refl
shown_weight f weight mark number n (position ∷ next ∷ more) = refl

shown_mark : {X : Type 0} (f : Mark → ℕ → X) (weight : ℕ) (mark : Mark) (number : ℕ) (m : Mark) (gs : List (List Token)) → shown f weight mark number (onto_first (Marked m) gs)
    ≡ shown f weight m number gs
shown_mark f weight mark number m [] = refl
shown_mark f weight mark number m (position ∷ []) = refl
shown_mark f weight mark number m (position ∷ next ∷ more) = refl

-- a sign ends a position
shown_sign : {X : Type 0} (f : Mark → ℕ → X) (weight : ℕ) (mark : Mark) (number : ℕ) (items : List Token) → shown f weight mark number ([] ∷ gaps items)
    ≡ f mark number ∷ shown f weight Nothing weight (gaps items)
shown_sign {X} f weight mark number items =
    let p = gaps_some items in
    ap (λ (gs : List (List Token)). shown f weight mark number ([] ∷ gs)) p.2 ∙ ap (λ (gs : List (List Token)). f mark number ∷ shown f weight Nothing weight gs) (sym p.2)

-- what the signs with their positions show is what their gaps show
spots_shown : {X : Type 0} (h : PositionedSign → X) (f : Mark → ℕ → X) → ((mark : Mark) (number sign : ℕ) → h (positioned_sign mark number sign) ≡ f mark number)
    → (weight : ℕ) (mark : Mark) (number : ℕ) (items : List Token) → map h (signs_behind weight mark number items) ≡ shown f weight mark number (gaps items)
spots_shown {X} h f same weight mark number [] = ap (λ (x : X). x ∷ []) (same Nothing weight EDGE)
spots_shown {X} h f same weight mark number (Letter s ∷ items) =
    ap (λ (x : X). x ∷ map h (signs_behind weight Nothing weight items)) (same mark number s) ∙ ap (λ (xs : List X). f mark number ∷ xs) (spots_shown h f same weight Nothing weight items)
    ∙ sym (shown_sign f weight mark number items)
spots_shown {X} h f same weight mark number (Edge ∷ items) =
    ap (λ (x : X). x ∷ map h (signs_behind weight Nothing weight items)) (same mark number EDGE) ∙ ap (λ (xs : List X). f mark number ∷ xs) (spots_shown h f same weight Nothing weight items)
    ∙ sym (shown_sign f weight mark number items)
spots_shown h f same weight mark number (Digit n ∷ items) = spots_shown h f same weight mark n items ∙ sym (shown_digit f weight mark number n (gaps items))
spots_shown h f same weight mark number (Weight n ∷ items) = spots_shown h f same weight mark n items ∙ sym (shown_weight f weight mark number n (gaps items))
spots_shown h f same weight mark number (Marked m ∷ items) = spots_shown h f same weight m number items ∙ sym (shown_mark f weight mark number m (gaps items))

-- all gaps but the last, and the last edge
shown_front : {X : Type 0} (f : Mark → ℕ → X) (weight : ℕ) (gs : List (List Token)) → shown f weight Nothing weight gs
    ≡ map (λ (position : List Token). f (last_mark position) (last_number weight position)) (take (length gs - 1) gs) ++ f Nothing weight ∷ []
shown_front f weight [] = refl
shown_front f weight (position ∷ []) = refl
shown_front {X} f weight (position ∷ next ∷ more) =
    let size : length (position ∷ next ∷ more) - 1 ≡ suc (length (next ∷ more) - 1) = omega arith in
    let here : X = f (last_mark position) (last_number weight position) in
    ap (λ (xs : List X). here ∷ xs) (shown_front f weight (next ∷ more))
    ∙ ap (λ (n : ℕ). map (λ (position : List Token). f (last_mark position) (last_number weight position)) (take n (position ∷ next ∷ more)) ++ f Nothing weight ∷ []) (sym size)

-- behind the first sign the gaps between signs are all but the last
inner_front : (s : ℕ) (items : List Token) → take (length (gaps items) - 1) (gaps items) ≡ inner_gaps (Letter s ∷ items)
inner_front s items =
    let size : length (gaps items) - 1 ≡ length (gaps (Letter s ∷ items)) - 1 - 1 = omega arith in
    ap (λ (n : ℕ). take n (gaps items)) size

-- a list of a word, by its gaps
positions_shown : {X : Type 0} (h : PositionedSign → X) (f : Mark → ℕ → X) → ((mark : Mark) (number sign : ℕ) → h (positioned_sign mark number sign) ≡ f mark number)
    → (weight s : ℕ) (items : List Token) → map h (word_signs weight s items)
    ≡ map (λ (position : List Token). f (last_mark position) (last_number weight position)) (position_gaps (Letter s ∷ items))
positions_shown {X} h f same weight s items =
    let plain : X = f Nothing weight in
    let behind : map h (signs_behind weight Nothing weight items) ≡ map (λ (position : List Token). f (last_mark position) (last_number weight position)) (inner_gaps (Letter s ∷ items))
    ++ plain ∷ [] =
    spots_shown h f same weight Nothing weight items ∙ shown_front f weight (gaps items)
    ∙ ap (λ (gs : List (List Token)). map (λ (position : List Token). f (last_mark position) (last_number weight position)) gs ++ plain ∷ []) (inner_front s items) in
    ap (λ (x : X). x ∷ h (positioned_sign Nothing weight s) ∷ map h (signs_behind weight Nothing weight items)) (same Nothing weight EDGE)
    ∙ ap (λ (x : X). plain ∷ x ∷ map h (signs_behind weight Nothing weight items)) (same Nothing weight s)
    ∙ ap (λ (xs : List X). plain ∷ plain ∷ xs)
    (behind ∙ sym (map-append (λ (position : List Token). f (last_mark position) (last_number weight position)) (inner_gaps (Letter s ∷ items)) ([] ∷ [])))

-- the signs alone
spots_signs : (weight : ℕ) (mark : Mark) (number : ℕ) (items : List Token) → map (λ (s : PositionedSign). s.sign) (signs_behind weight mark number items) ≡ signs_of items ++ EDGE ∷ []
spots_signs weight mark number [] = refl
spots_signs weight mark number (Letter s ∷ items) = ap (λ (xs : List ℕ). s ∷ xs) (spots_signs weight Nothing weight items)
spots_signs weight mark number (Edge ∷ items) = ap (λ (xs : List ℕ). EDGE ∷ xs) (spots_signs weight Nothing weight items)
spots_signs weight mark number (Digit n ∷ items) = spots_signs weight mark n items
spots_signs weight mark number (Weight n ∷ items) = spots_signs weight mark n items
spots_signs weight mark number (Marked m ∷ items) = spots_signs weight m number items

-- the word of a line that begins with a letter
word_shown : (weight s : ℕ) (items : List Token) → word_of_signs weight (word_signs weight s items) ≡ word_of_items weight (Letter s ∷ items)
word_shown weight s items =
    same_word (word_of_signs weight (word_signs weight s items)) (word_of_items weight (Letter s ∷ items))
    (ap (λ (xs : List ℕ). EDGE ∷ s ∷ xs) (spots_signs weight Nothing weight items))
    (positions_shown (λ (x : PositionedSign). x.hyphen) (λ mark number. sets_hyphen mark) (λ mark number sign. refl) weight s items)
    (positions_shown (λ (x : PositionedSign). x.weight) (λ mark number. number) (λ mark number sign. refl) weight s items)
    (positions_shown (λ (x : PositionedSign). x.care) (λ mark number. keeps_care mark) (λ mark number sign. refl) weight s items)
    refl

-- what a line gives, by its signs and its gaps
abbrev given : ℕ → List ℕ → List (List Token) → LineWord
given before signs gs =
    let weight = last_number before (slice_index_or gs 0 []) in
    let all = [] ∷ [] ∷ (slice_range gs 1 (length gs - 1) ++ [] ∷ []) in
    record {
      word = word_if signs (record {
        signs = EDGE ∷ (signs ++ EDGE ∷ []);
        hyphens = map (λ position. sets_hyphen (last_mark position)) all;
        weights = map (last_number weight) all;
        cares = map (λ position. keeps_care (last_mark position)) all;
        weight = weight;
      });
      weight = weight;
    }

-- an item in front of the first letter
given_digit : (before n : ℕ) (signs : List ℕ) (gs : List (List Token)) → given n signs gs ≡ given before signs (onto_first (Digit n) gs)
given_digit before n signs [] = refl
given_digit before n signs (position ∷ more) = refl

given_weight : (before n : ℕ) (signs : List ℕ) (gs : List (List Token)) → given n signs gs ≡ given before signs (onto_first (Weight n) gs)
given_weight before n signs [] = refl
given_weight before n signs (position ∷ more) = refl

given_mark : (before : ℕ) (m : Mark) (signs : List ℕ) (gs : List (List Token)) → given before signs gs ≡ given before signs (onto_first (Marked m) gs)
given_mark before m signs [] = refl
given_mark before m signs (position ∷ more) = refl

-- a line read item by item gives what its gaps say
pub running_is : (before : ℕ) (items : List Token) → running_word before items ≡ line_word before items
running_is before [] = refl
running_is before (Letter s ∷ items) = ap (λ (w : Word). record { word = Some w; weight = before }) (word_shown before s items)
running_is before (Edge ∷ items) = ap (λ (w : Word). record { word = Some w; weight = before }) (word_shown before EDGE items)
running_is before (Digit n ∷ items) = running_is n items ∙ given_digit before n (signs_of items) (gaps items)
running_is before (Weight n ∷ items) = running_is n items ∙ given_weight before n (signs_of items) (gaps items)
running_is before (Marked m ∷ items) = running_is before items ∙ given_mark before m (signs_of items) (gaps items)

-- so what a whole line gives is what its items give, read one by one
pub line_runs : (t : Alphabet) (line size weight : ℕ) (text : List ℕ) → length text ≡ size → rest_reading t line size weight text ≡ line_reading t line weight text
line_runs t line size weight text is =
    let first : size - length text + 1 ≡ 1 = omega arith in
    ap (λ (column : ℕ). let c = cut_from t Dictionary (length text) column text in unless (cut_refusal Dictionary line c) (running_word weight (tokens_of c))) first
    ∙ ap (unless (cut_refusal Dictionary line (cut t Dictionary text))) (running_is weight (tokens_of (cut t Dictionary text)))
