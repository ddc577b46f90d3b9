-- The words of a part.
use Rattle.std.proofs.Common.{◌≡◌, ℕ, ◌+◌, Bool, true, false, List, [], ◌∷◌, ◌++◌, length, drop, refl, ap, sym, subst, ◌∙◌, arith}
use Rattle.std.specs.Prelude.{slice_get, Some, if◌then◌else◌, filter, map}
use Rattle.pg_dict.specs.Parts.{part_of}
use Rattle.std.specs.List.{sum_by, enumerate_from}
use Rattle.std.proofs.lemmas.List.{drop_more, append_assoc}
use Rattle.std.proofs.lemmas.List.Sums.{sum_by-cons}
use Rattle.std.proofs.lemmas.Option.{slice_get_within, get_or_from_slice_get}
use Rattle.pg_dict.specs.declared.store.Store.{Store}
use Rattle.pg_dict.specs.Inside.Lines.PositionedSigns.{PositionedSign, Columns, with_signs}
use Rattle.pg_dict.specs.Word.{Word}
use Rattle.pg_dict.specs.Inside.SoundWords.{IsWord, word_of_signs, letter_count}
use Rattle.pg_dict.specs.Inside.Store.{columns_of, stored_words, IsSound}
use Rattle.pg_dict.specs.Inside.Parts.{is_in_part, part_from}
use Rattle.pg_dict.proofs.WordStore.Adds.{adds_words, adds_sound}

-- the positions of columns, one by one
pub signs_with_positions : List ℕ → List Bool → List ℕ → List Bool → List PositionedSign
signs_with_positions [] hyphens weights cares = []
signs_with_positions (sign ∷ signs) [] weights cares = []
signs_with_positions (sign ∷ signs) (hyphen ∷ hyphens) [] cares = []
signs_with_positions (sign ∷ signs) (hyphen ∷ hyphens) (weight ∷ weights) [] = []
signs_with_positions (sign ∷ signs) (hyphen ∷ hyphens) (weight ∷ weights) (care ∷ cares) =
    record { sign = sign; hyphen = hyphen; weight = weight; care = care } ∷ signs_with_positions signs hyphens weights cares

-- columns of one length come back from their positions
pub columns_back : (weight : ℕ) (signs : List ℕ) (hyphens : List Bool) (weights : List ℕ) (cares : List Bool) → length hyphens ≡ length signs → length weights
    ≡ length signs → length cares ≡ length signs → word_of_signs weight (signs_with_positions signs hyphens weights cares)
    ≡ record { signs = signs; hyphens = hyphens; weights = weights; cares = cares; weight = weight }
unfolding signs_with_positions
columns_back weight [] [] [] [] h w c = refl
columns_back weight [] (x ∷ hyphens) weights cares h w c = absurd (omega (arith, h))
columns_back weight [] [] (x ∷ weights) cares h w c = absurd (omega (arith, w))
columns_back weight [] [] [] (x ∷ cares) h w c = absurd (omega (arith, c))
columns_back weight (sign ∷ signs) [] weights cares h w c = absurd (omega (arith, h))
columns_back weight (sign ∷ signs) (hyphen ∷ hyphens) [] cares h w c = absurd (omega (arith, w))
columns_back weight (sign ∷ signs) (hyphen ∷ hyphens) (wt ∷ weights) [] h w c = absurd (omega (arith, c))
columns_back weight (sign ∷ signs) (hyphen ∷ hyphens) (wt ∷ weights) (care ∷ cares) h w c =
    ap (λ (u : Word). record { signs = sign ∷ u.signs; hyphens = hyphen ∷ u.hyphens; weights = wt ∷ u.weights; cares = care ∷ u.cares; weight = weight })
    (columns_back weight signs hyphens weights cares (omega (arith, h)) (omega (arith, w)) (omega (arith, c)))

-- the columns of a store with a word more
pub columns_grown : (s u : Store) (w : Word) → IsWord w → u.signs.items ≡ s.signs.items ++ w.signs → u.hyphens.items ≡ s.hyphens.items ++ w.hyphens
    → u.weights.items ≡ s.weights.items ++ w.weights → u.cares.items ≡ s.cares.items ++ w.cares → columns_of u ≡ with_signs (columns_of s) (signs_with_positions w.signs w.hyphens w.weights w.cares)
columns_grown s u w good signs hyphens weights cares =
    let back : word_of_signs w.weight (signs_with_positions w.signs w.hyphens w.weights w.cares)
    ≡ w = columns_back w.weight w.signs w.hyphens w.weights w.cares good.hyphens_len good.weights_len good.cares_len in
    let c : Columns = columns_of s in
    rw (signs, hyphens, weights, cares) (ap (λ (x : Word). record { signs = c.signs ++ x.signs; hyphens = c.hyphens ++ x.hyphens; weights = c.weights ++ x.weights; cares = c.cares ++ x.cares })
    (sym back))

-- a word more: the words, and that the store stays sound
pub word_pushed : (s u : Store) (w : Word) (start end : ℕ) → IsSound s → IsWord w → u.signs.items ≡ s.signs.items ++ w.signs → u.hyphens.items
    ≡ s.hyphens.items ++ w.hyphens → u.weights.items ≡ s.weights.items ++ w.weights → u.cares.items ≡ s.cares.items ++ w.cares → u.words.items
    ≡ s.words.items ++ record { start = start; end = end; weight = w.weight } ∷ [] → start ≡ length s.signs.items → end ≡ length u.signs.items → (stored_words u ≡ stored_words s ++ w ∷ []) × IsSound u
word_pushed s u w start end sound good signs hyphens weights cares words from to =
    let positioned : List PositionedSign = signs_with_positions w.signs w.hyphens w.weights w.cares in
    let back : word_of_signs w.weight positioned ≡ w = columns_back w.weight w.signs w.hyphens w.weights w.cares good.hyphens_len good.weights_len good.cares_len in
    let grown : columns_of u ≡ with_signs (columns_of s) positioned = columns_grown s u w good signs hyphens weights cares in (
      adds_words s u positioned start end w.weight sound grown words from to ∙ ap (λ (x : Word). stored_words s ++ x ∷ []) back,
      adds_sound s u positioned start end w.weight sound grown words from to (subst IsWord (sym back) good),
    )

-- the words from a number on
pub drop_word : (ws : List Word) (i : ℕ) (w : Word) → slice_get ws i ≡ Some w → drop i ws ≡ w ∷ drop (i + 1) ws
drop_word ws i w at = drop_more ws i w (slice_get_within ws i w at) ∙ ap (λ y. y ∷ drop (i + 1) ws) (get_or_from_slice_get ws i w w at)

-- a word that is in the part
pub part_taken : (folds fold : ℕ) (inside : Bool) (i : ℕ) (done ws all : List Word) (w : Word) → slice_get ws i ≡ Some w → is_in_part folds fold inside i
    ≡ true → done ++ part_from folds fold inside i (drop i ws) ≡ all → (done ++ w ∷ []) ++ part_from folds fold inside (i + 1) (drop (i + 1) ws) ≡ all
part_taken folds fold inside i done ws all w at is whole =
    let rest : List Word = part_from folds fold inside (i + 1) (drop (i + 1) ws) in
    let here : part_from folds fold inside i (drop i ws) ≡ w ∷ rest = ap (part_from folds fold inside i) (drop_word ws i w at) ∙ ap (λ b. if b then w ∷ rest else rest) is in
    append_assoc done (w ∷ []) rest ∙ ap (λ xs. done ++ xs) (sym here) ∙ whole

-- a word that is not
pub part_passed : (folds fold : ℕ) (inside : Bool) (i : ℕ) (done ws all : List Word) (w : Word) → slice_get ws i ≡ Some w → is_in_part folds fold inside i
    ≡ false → done ++ part_from folds fold inside i (drop i ws) ≡ all → done ++ part_from folds fold inside (i + 1) (drop (i + 1) ws) ≡ all
part_passed folds fold inside i done ws all w at is whole =
    let rest : List Word = part_from folds fold inside (i + 1) (drop (i + 1) ws) in
    let here : part_from folds fold inside i (drop i ws) ≡ rest = ap (part_from folds fold inside i) (drop_word ws i w at) ∙ ap (λ b. if b then w ∷ rest else rest) is in
    ap (λ xs. done ++ xs) (sym here) ∙ whole

-- the letters that are left
pub letters_from : (ws : List Word) (i : ℕ) (w : Word) → slice_get ws i ≡ Some w → sum_by letter_count (drop i ws) ≡ letter_count w + sum_by letter_count (drop (i + 1) ws)
letters_from ws i w at = ap (λ us. sum_by letter_count us) (drop_word ws i w at) ∙ sum_by-cons letter_count w (drop (i + 1) ws)

-- a word that may be kept, with its number and without
kept_as : (b : Bool) (i : ℕ) (w : Word) (ws : List Word) (rest : List (ℕ × Word)) → ws ≡ map (λ x. x.1) rest → (if b then w ∷ ws else ws) ≡ map (λ x. x.1) (if b then (i, w) ∷ rest else rest)
kept_as true i w ws rest same = ap (λ us. w ∷ us) same
kept_as false i w ws rest same = same

part_as : (folds fold : ℕ) (inside : Bool) (i : ℕ) (ws : List Word) → part_from folds fold inside i ws ≡ map (λ x. x.1) (filter (λ x. is_in_part folds fold inside x.0) (enumerate_from i ws))
part_as folds fold inside i [] = refl
part_as folds fold inside i (w ∷ ws) =
    kept_as (is_in_part folds fold inside i) i w (part_from folds fold inside (i + 1) ws) (filter (λ x. is_in_part folds fold inside x.0) (enumerate_from (i + 1) ws))
    (part_as folds fold inside (i + 1) ws)

-- the part of all words, word by word
pub whole_part : (folds fold : ℕ) (inside : Bool) (ws : List Word) → part_from folds fold inside 0 ws ≡ part_of folds fold inside ws
whole_part folds fold inside ws = part_as folds fold inside 0 ws
