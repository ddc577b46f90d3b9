-- The line of a word is items, whose tokens are those of the written word.
use Rattle.std.proofs.Common.{◌≡◌, ℕ, ◌+◌, ◌-◌, ◌<◌, ◌≤◌, List, [], ◌∷◌, ◌++◌, length, map, drop, get_or, codes, append_assoc, refl, sym, ap, ◌∙◌, arith, inl, inr, nat_lt}
use Rattle.std.specs.Prelude.{slice_index, slice_range, All, ◌==◌}
use Rattle.std.specs.List.{flat_map, range_with_len, AllByRecursion}
use Rattle.std.proofs.lemmas.Bool.{cases_Bool}
use Rattle.std.proofs.lemmas.List.{append-nil, map-append, get_or-take, get_or-drop, length-take, length-drop}
use Rattle.std.proofs.lemmas.List.Folds.{concat-append, flat_map-map}
use Rattle.std.proofs.lemmas.List.FromFn.{length-map-range_with_len}
use Rattle.pg_types.specs.declared.limits.TheConstants.{EDGE, WEIGHT_MAX, WORD_LETTERS_MAX}
use Rattle.pg_types.specs.declared.marks.Mark.{Mark}
use Rattle.pg_types.specs.declared.marks.Mark.TheVariants.{Nothing, Error, Missed, Found, DontCare}
use Rattle.pg_translate.specs.Alphabets.{Alphabet, letters_of, spelling_of}
use Rattle.pg_translate.specs.Inside.items.MarkBytes.{mark_byte_of}
use Rattle.pg_translate.specs.Tokens.{Token, Letter, Digit, Weight, Marked, Edge}
use Rattle.pg_translate.specs.Inside.items.Items.{IsItem, text_of_items}
use Rattle.pg_translate.specs.declared.items.Place.TheVariants.{Dictionary}
use Rattle.pg_dict.specs.Word.{Word}
use Rattle.pg_dict.specs.Inside.SoundWords.{IsWord}
use Rattle.pg_dict.specs.Inside.WrittenWords.{MarkedLetter, mark_tokens, weight_tokens, number_token, letters_tokens, written_letters, between_letters, letters_with, word_tokens, letters_among}
use Rattle.pg_select.specs.Statuses.{position_weight}
use Rattle.pg_texts.specs.PattmpTexts.{mark_text, weight_text, position_text, word_text}
use Rattle.pg_texts.proofs.Ranges.{same_over_range, part_of, each_append, each_over_range, map_pieces}
use Rattle.pg_texts.proofs.WeightItems.{weight_items, weight_items_tokens, weight_items_each}

-- an item of a dictionary line, with its text
abbrev pub IsDictionaryItem : Alphabet → Token × List ℕ → Type 0
IsDictionaryItem t item = IsItem t Dictionary item.0 item.1

-- the positions between two letters of a word
abbrev pub inner_positions : Word → List ℕ
inner_positions w = range_with_len 2 (length w.signs - 3)

-- the item of a mark, and that of a letter
abbrev pub mark_items : Alphabet → Mark → List (Token × List ℕ)
mark_items t Nothing = []
mark_items t Error = (Marked Error, mark_byte_of t Error ∷ []) ∷ []
mark_items t Missed = (Marked Missed, mark_byte_of t Missed ∷ []) ∷ []
mark_items t Found = (Marked Found, mark_byte_of t Found ∷ []) ∷ []
mark_items t DontCare = (Marked DontCare, mark_byte_of t DontCare ∷ []) ∷ []

abbrev pub letter_item : Alphabet → ℕ → Token × List ℕ
letter_item t sign = (Letter sign, spelling_of t sign)

-- the items of a position, up to the letter behind it
abbrev pub position_items : Alphabet → (ℕ → Mark) → Word → ℕ → List (Token × List ℕ)
position_items t marks w p = mark_items t (marks p) ++ (weight_items w.weight (position_weight w p) ++ letter_item t (slice_index w.signs p) ∷ [])

-- the items of a line
abbrev pub word_items : Alphabet → ℕ → (ℕ → Mark) → Word → List (Token × List ℕ)
word_items t before marks w = weight_items before w.weight ++ letter_item t (slice_index w.signs 1) ∷ flat_map (position_items t marks w) (inner_positions w)

-- their tokens
mark_items_tokens : (t : Alphabet) (mark : Mark) → map (λ item. item.0) (mark_items t mark) ≡ mark_tokens mark
mark_items_tokens t Nothing = refl
mark_items_tokens t Error = refl
mark_items_tokens t Missed = refl
mark_items_tokens t Found = refl
mark_items_tokens t DontCare = refl

-- a letter with the mark and the weight of the position before it
abbrev written_at : (ℕ → Mark) → Word → ℕ → MarkedLetter
written_at marks w p = record { mark = marks p; weight = position_weight w p; sign = slice_index w.signs p }

abbrev written_tokens : ℕ → MarkedLetter → List Token
written_tokens weight l = mark_tokens l.mark ++ (weight_tokens weight l.weight ++ Letter l.sign ∷ [])

position_items_tokens : (t : Alphabet) (marks : ℕ → Mark) (w : Word) (p : ℕ) → map (λ item. item.0) (position_items t marks w p) ≡ written_tokens w.weight (written_at marks w p)
position_items_tokens t marks w p =
    map-append (λ item. item.0) (mark_items t (marks p)) (weight_items w.weight (position_weight w p) ++ letter_item t (slice_index w.signs p) ∷ [])
    ∙ rw (
      mark_items_tokens t (marks p),
      map-append (λ item. item.0) (weight_items w.weight (position_weight w p)) (letter_item t (slice_index w.signs p) ∷ []),
      weight_items_tokens w.weight (position_weight w p),
    ) refl

written_over : (marks : ℕ → Mark) (f g : ℕ → ℕ) (ps : List ℕ) → written_letters (map marks ps) (map f ps) (map g ps) ≡ map (λ p. record { mark = marks p; weight = f p; sign = g p }) ps
written_over marks f g [] = refl
written_over marks f g (p ∷ ps) = ap (λ r. record { mark = marks p; weight = f p; sign = g p } ∷ r) (written_over marks f g ps)

-- what a word has between two letters
pub between : {A : Type 0} (d : A) (xs : List A) (size : ℕ) → length xs ≡ size → 3 ≤ size → between_letters xs ≡ map (λ p. get_or xs p d) (range_with_len 2 (size - 3))
between d xs size same long =
    let few : length xs - 1 - 2 ≡ size - 3 = omega arith in
    rw few (part_of d xs 2 (size - 3) (omega arith))

letters_written : (marks : ℕ → Mark) (w : Word) → IsWord w → letters_with (map marks (inner_positions w)) w ≡ map (written_at marks w) (inner_positions w)
letters_written marks w word =
    rw (between 0 w.weights (length w.signs) word.weights_len word.long, between 0 w.signs (length w.signs) refl word.long)
    (written_over marks (λ p. get_or w.weights p 0) (λ p. get_or w.signs p 0) (inner_positions w))

pub word_items_tokens : (t : Alphabet) (before : ℕ) (marks : ℕ → Mark) (w : Word) → IsWord w → map (λ item. item.0) (word_items t before marks w) ≡ word_tokens before (map marks (inner_positions w)) w
word_items_tokens t before marks w word =
    let letters : map (λ item. item.0) (flat_map (position_items t marks w) (inner_positions w)) ≡ letters_tokens w.weight (letters_with (map marks (inner_positions w)) w) =
    map_pieces (λ item. item.0) (position_items t marks w) (inner_positions w)
    ∙ same_over_range (λ p. map (λ item. item.0) (position_items t marks w p)) (λ p. written_tokens w.weight (written_at marks w p)) 2 (length w.signs - 3)
    (λ p low high. position_items_tokens t marks w p)
    ∙ sym (flat_map-map (written_tokens w.weight) (written_at marks w) (inner_positions w))
    ∙ ap (flat_map (written_tokens w.weight)) (sym (letters_written marks w word)) in
    map-append (λ item. item.0) (weight_items before w.weight) (letter_item t (slice_index w.signs 1) ∷ flat_map (position_items t marks w) (inner_positions w))
    ∙ rw (weight_items_tokens before w.weight, letters) refl

-- their texts, joined
joined_append : (xs ys : List (Token × List ℕ)) → text_of_items (xs ++ ys) ≡ text_of_items xs ++ text_of_items ys
joined_append xs ys = rw (map-append (λ item. item.1) xs ys) (concat-append (map (λ item. item.1) xs) (map (λ item. item.1) ys))

joined_one : (item : Token × List ℕ) → text_of_items (item ∷ []) ≡ item.1
joined_one item = append-nil item.1

joined_pieces : (f : ℕ → List (Token × List ℕ)) (ps : List ℕ) → text_of_items (flat_map f ps) ≡ flat_map (λ p. text_of_items (f p)) ps
joined_pieces f [] = refl
joined_pieces f (p ∷ ps) = joined_append (f p) (flat_map f ps) ∙ ap (λ r. text_of_items (f p) ++ r) (joined_pieces f ps)

weight_items_joined : (other weight : ℕ) → text_of_items (weight_items other weight) ≡ weight_text other weight
weight_items_joined other weight = elim (cases_Bool (weight == other)) [ inl same ↦ rw same refl | inr differs ↦ rw differs (append-nil _) ]

mark_items_joined : (t : Alphabet) (mark : Mark) → text_of_items (mark_items t mark) ≡ mark_text t mark
mark_items_joined t Nothing = refl
mark_items_joined t Error = refl
mark_items_joined t Missed = refl
mark_items_joined t Found = refl
mark_items_joined t DontCare = refl

position_items_joined : (t : Alphabet) (marks : ℕ → Mark) (w : Word) (p : ℕ) → text_of_items (position_items t marks w p) ≡ position_text t marks w p
position_items_joined t marks w p =
    joined_append (mark_items t (marks p)) (weight_items w.weight (position_weight w p) ++ letter_item t (slice_index w.signs p) ∷ [])
    ∙ rw (
      mark_items_joined t (marks p),
      joined_append (weight_items w.weight (position_weight w p)) (letter_item t (slice_index w.signs p) ∷ []),
      weight_items_joined w.weight (position_weight w p),
      joined_one (letter_item t (slice_index w.signs p)),
    )
    (sym (append_assoc (mark_text t (marks p)) (weight_text w.weight (position_weight w p)) (spelling_of t (slice_index w.signs p))))

pub word_items_joined : (t : Alphabet) (before : ℕ) (marks : ℕ → Mark) (w : Word) → 3 ≤ length w.signs → text_of_items (word_items t before marks w)
    ++ codes "\n" ≡ weight_text before w.weight ++ word_text t marks w
word_items_joined t before marks w long =
    let letters : text_of_items (flat_map (position_items t marks w) (inner_positions w)) ≡ flat_map (position_text t marks w) (inner_positions w) =
    joined_pieces (position_items t marks w) (inner_positions w)
    ∙ same_over_range (λ p. text_of_items (position_items t marks w p)) (position_text t marks w) 2
    (length w.signs - 3) (λ p low high. position_items_joined t marks w p) in
    let whole : text_of_items (word_items t before marks w) ≡ weight_text before w.weight ++ (spelling_of t (slice_index w.signs 1) ++ flat_map (position_text t marks w) (inner_positions w)) =
    joined_append (weight_items before w.weight) (letter_item t (slice_index w.signs 1) ∷ flat_map (position_items t marks w) (inner_positions w))
    ∙ rw (weight_items_joined before w.weight, letters) refl in
    rw whole (append_assoc (weight_text before w.weight) (spelling_of t (slice_index w.signs 1) ++ flat_map (position_text t marks w) (inner_positions w)) (codes "\n"))

-- each is an item
mark_items_each : (t : Alphabet) (mark : Mark) → AllByRecursion (IsDictionaryItem t) (mark_items t mark)
mark_items_each t Nothing = tt
mark_items_each t Error = (refl, tt)
mark_items_each t Missed = (refl, tt)
mark_items_each t Found = (refl, tt)
mark_items_each t DontCare = (refl, tt)

-- a sign between the edges is that of a letter
letter_sign : (w : Word) (p : ℕ) → IsWord w → 1 ≤ p → p + 1 < length w.signs → 2 ≤ slice_index w.signs p
letter_sign w p word low high =
    let inside : p - 1 < length (slice_range w.signs 1 (length w.signs - 1)) = rw (length-take, length-drop) (omega arith) in
    let above : EDGE < get_or (slice_range w.signs 1 (length w.signs - 1)) (p - 1) 0 = word.letters (p - 1) 0 inside in
    let place : get_or (slice_range w.signs 1 (length w.signs - 1)) (p - 1) 0 ≡ get_or w.signs p 0 =
    get_or-take (length w.signs - 1 - 1) (drop 1 w.signs) (p - 1) 0 (omega arith) ∙ get_or-drop 1 w.signs (p - 1) 0 ∙ ap (λ q. get_or w.signs q 0) (omega arith) in
    omega (arith, place)

-- what the table says of the spellings of letters
abbrev pub SpellsLetters : Alphabet → Type 0
SpellsLetters t = (s : ℕ) → 2 ≤ s → s ≤ letters_of t + 1 → IsItem t Dictionary (Letter s) (spelling_of t s)

letter_item_there : (t : Alphabet) (w : Word) (p : ℕ) → SpellsLetters t → IsWord w → All (λ s. s ≤ letters_of t + 1) w.signs → 1 ≤ p → p + 1 < length w.signs
    → IsDictionaryItem t (letter_item t (slice_index w.signs p))
letter_item_there t w p spelled word known low high = spelled (slice_index w.signs p) (letter_sign w p word low high) (known p 0 (omega arith))

position_items_each : (t : Alphabet) (marks : ℕ → Mark) (w : Word) (p : ℕ) → SpellsLetters t → IsWord w → All (λ s. s ≤ letters_of t + 1) w.signs → 1 ≤ p
    → p + 1 < length w.signs → AllByRecursion (IsDictionaryItem t) (position_items t marks w p)
position_items_each t marks w p spelled word known low high =
    let weight : position_weight w p ≤ WEIGHT_MAX = word.weights p 0 (omega (arith, word.weights_len)) in
    each_append (IsDictionaryItem t) (mark_items t (marks p)) _ (mark_items_each t (marks p))
    (each_append (IsDictionaryItem t) (weight_items w.weight (position_weight w p)) _ (weight_items_each t w.weight (position_weight w p) weight)
    (letter_item_there t w p spelled word known low high, tt))

pub word_items_each : (t : Alphabet) (before : ℕ) (marks : ℕ → Mark) (w : Word) → SpellsLetters t → IsWord w → All (λ s. s ≤ letters_of t + 1) w.signs
    → AllByRecursion (IsDictionaryItem t) (word_items t before marks w)
word_items_each t before marks w spelled word known =
    let long : 3 ≤ length w.signs = word.long in
    each_append (IsDictionaryItem t) (weight_items before w.weight) _ (weight_items_each t before w.weight word.weight) (
      letter_item_there t w 1 spelled word known (omega arith) (omega arith),
      each_over_range (IsDictionaryItem t) (position_items t marks w) 2 (length w.signs - 3) (λ p low high. position_items_each t marks w p spelled word known (omega arith) (omega arith)),
    )

-- as many are letters as the word has
letters_append : (xs ys : List Token) → letters_among (xs ++ ys) ≡ letters_among xs + letters_among ys
letters_append [] ys = omega arith
letters_append (Letter s ∷ xs) ys = let rest = letters_append xs ys in omega arith
letters_append (Digit n ∷ xs) ys = letters_append xs ys
letters_append (Weight n ∷ xs) ys = letters_append xs ys
letters_append (Marked m ∷ xs) ys = letters_append xs ys
letters_append (Edge ∷ xs) ys = letters_append xs ys

no_letter_number : (n : ℕ) → letters_among (number_token n ∷ []) ≡ 0
no_letter_number n = elim (cases_Bool (nat_lt n 10)) [ inl low ↦ rw low refl | inr high ↦ rw high refl ]

no_letter_weight : (other weight : ℕ) → letters_among (weight_tokens other weight) ≡ 0
no_letter_weight other weight = elim (cases_Bool (weight == other)) [ inl same ↦ rw same refl | inr differs ↦ rw differs (no_letter_number weight) ]

no_letter_mark : (mark : Mark) → letters_among (mark_tokens mark) ≡ 0
no_letter_mark Nothing = refl
no_letter_mark Error = refl
no_letter_mark Missed = refl
no_letter_mark Found = refl
no_letter_mark DontCare = refl

one_letter : (weight : ℕ) (l : MarkedLetter) → letters_among (written_tokens weight l) ≡ 1
one_letter weight l =
    letters_append (mark_tokens l.mark) (weight_tokens weight l.weight ++ Letter l.sign ∷ [])
    ∙ rw (no_letter_mark l.mark, letters_append (weight_tokens weight l.weight) (Letter l.sign ∷ []), no_letter_weight weight l.weight) (omega arith)

letters_counted : (weight : ℕ) (ls : List MarkedLetter) → letters_among (letters_tokens weight ls) ≡ length ls
letters_counted weight [] = refl
letters_counted weight (l ∷ ls) =
    let rest = letters_counted weight ls in
    letters_append (written_tokens weight l) (letters_tokens weight ls) ∙ rw (one_letter weight l) (omega arith)

pub word_items_few : (before : ℕ) (marks : ℕ → Mark) (w : Word) → IsWord w → letters_among (word_tokens before (map marks (inner_positions w)) w) ≤ WORD_LETTERS_MAX
word_items_few before marks w word =
    let written : length (letters_with (map marks (inner_positions w)) w) ≡ length w.signs - 3 = ap length (letters_written marks w word)
    ∙ length-map-range_with_len (written_at marks w) 2 (length w.signs - 3) in
    let count : letters_among (word_tokens before (map marks (inner_positions w)) w)
    ≡ 0 + letters_among (Letter (slice_index w.signs 1) ∷ letters_tokens w.weight (letters_with (map marks (inner_positions w)) w)) =
    letters_append (weight_tokens before w.weight) (Letter (slice_index w.signs 1) ∷ letters_tokens w.weight (letters_with (map marks (inner_positions w)) w))
    ∙ ap (λ n. n + letters_among (Letter (slice_index w.signs 1) ∷ letters_tokens w.weight (letters_with (map marks (inner_positions w)) w))) (no_letter_weight before w.weight) in
    let rest = letters_counted w.weight (letters_with (map marks (inner_positions w)) w) in
    omega (arith, word.long, word.short)
