-- What a dictionary tells of its words.
use Rattle.std.proofs.Common.{◌≡◌, ℕ, ◌+◌, ◌-◌, ◌*◌, ◌<◌, ◌≤◌, Bool, true, false, nat_le, List, [], ◌∷◌, length, slice_index_or, slice_get}
use Rattle.std.proofs.Common.{slice_range, Some, refl, sym, ◌∙◌, ap, subst, arith, length-append, ◌||◌, not, nat_lt, slice_index, zero, suc, unwrap_or, ◌==◌}
use Rattle.std.proofs.lemmas.List.Elements.{All-head, All-tail}
use Rattle.std.specs.List.{list_all, sum_by, All}
use Rattle.std.specs.Option.{option_map}
use Rattle.std.proofs.lemmas.List.{length-map}
use Rattle.std.proofs.lemmas.List.Folds.{list_all-append}
use Rattle.std.proofs.lemmas.List.Sums.{AllPass-from_list_all, sum_by-cons}
use Rattle.std.proofs.lemmas.Bool.{and_parts, and_from, not-true, true≢false, ltb-true, leb-true, eqb-true}
use Rattle.std.proofs.lemmas.Option.{slice_get-get_or, get_or_from_slice_get, slice_get_within, slice_get_read, slice_get-map}
use Rattle.pg_types.specs.declared.limits.TheConstants.{EDGE, FILE_MAX, WEIGHT_MAX, WORD_LETTERS_MAX}
use Rattle.pg_dict.specs.declared.store.Store.{Store}
use Rattle.pg_dict.specs.declared.store.StoredWord.{StoredWord}
use Rattle.pg_dict.specs.declared.sites.Site.{Site}
use Rattle.pg_dict.specs.Word.{Word}
use Rattle.pg_dict.specs.Inside.SoundWords.{letter_count, IsPlainAt, IsWord, SignsAtMost}
use Rattle.pg_dict.proofs.WordStore.WordTests.{is_plain_at, decides, has_lengths, has_signs, has_weights, has_plain, is_word}
use Rattle.pg_dict.specs.Inside.Store.{columns_of, word_at, stored_words, all_signs, lies_within, is_sign_up_to, IsSound, IsDictionary}

-- a number that passes the tests of all elements
pub all_at_most : (n : ℕ) (xs : List ℕ) → list_all (λ x. nat_le x n) xs ≡ true → All (λ x. x ≤ n) xs
all_at_most n xs pass k d within = leb-true _ n (AllPass-from_list_all (λ x. nat_le x n) xs pass k d within)

pub all_at_least : (n : ℕ) (xs : List ℕ) → list_all (nat_le n) xs ≡ true → All (λ x. n ≤ x) xs
all_at_least n xs pass k d within = leb-true n _ (AllPass-from_list_all (nat_le n) xs pass k d within)

pub all_above : (n : ℕ) (xs : List ℕ) → list_all (nat_lt n) xs ≡ true → All (λ x. n < x) xs
all_above n xs pass k d within = ltb-true n _ (AllPass-from_list_all (nat_lt n) xs pass k d within)

-- a plain position, from its test
pub plain_from : (w : Word) (p : ℕ) → p < length w.signs → length w.hyphens ≡ length w.signs → length w.weights ≡ length w.signs → length w.cares
    ≡ length w.signs → is_plain_at w p ≡ true → IsPlainAt w p
plain_from w p within hyphens weights cares pass =
    let a = and_parts _ _ pass in
    let b = and_parts _ _ a.1 in
    record {
      hyphen = slice_get-get_or w.hyphens p true (omega arith) ∙ ap (λ x. Some x) (not-true _ a.0);
      weight = slice_get-get_or w.weights p (w.weight + 1) (omega arith) ∙ ap (λ (x : ℕ). Some x) (eqb-true _ _ b.0);
      care = slice_get-get_or w.cares p false (omega arith) ∙ ap (λ x. Some x) b.1;
    }

-- where there is no care there is no hyphen
pub disputed_from : (hyphens cares : List Bool) (p : ℕ) → length hyphens ≡ length cares → decides hyphens cares ≡ true → slice_get cares p ≡ Some false → slice_get hyphens p ≡ Some false
disputed_from hyphens [] p same pass at = cc
disputed_from [] (care ∷ cares) p same pass at = absurd (omega arith)
disputed_from (hyphen ∷ hyphens) (care ∷ cares) zero same pass at =
    let none : care ≡ false = ap (λ o. unwrap_or o true) at in
    let parts = and_parts (not hyphen || care) (decides hyphens cares) pass in
    ap (λ x. Some x) (no_hyphen hyphen care parts.0 none)
  where
    no_hyphen : (hyphen care : Bool) → (not hyphen || care) ≡ true → care ≡ false → hyphen ≡ false
    no_hyphen false care test none = refl
    no_hyphen true care test none = absurd (true≢false (sym test ∙ none))
disputed_from (hyphen ∷ hyphens) (care ∷ cares) (suc p) same pass at =
    disputed_from hyphens cares p (omega arith) (and_parts (not hyphen || care) (decides hyphens cares) pass).1 at

-- a sign, from its test
pub sign_from : (signs : List ℕ) (p : ℕ) → p < length signs → (slice_index signs p == EDGE) ≡ true → slice_get signs p ≡ Some EDGE
sign_from signs p within pass = slice_get-get_or signs p 0 within ∙ ap (λ (x : ℕ). Some x) (eqb-true _ EDGE pass)

-- a word, from its test
pub word_from : (w : Word) → is_word w ≡ true → IsWord w
word_from w pass =
    let a = and_parts (has_lengths w) _ pass in
    let b = and_parts (has_signs w) _ a.1 in
    let c = and_parts (has_weights w) _ b.1 in
    let d = and_parts (decides w.hyphens w.cares) (has_plain w) c.1 in
    let lengths = and_parts _ _ a.0 in
    let lengths2 = and_parts _ _ lengths.1 in
    let lengths3 = and_parts _ _ lengths2.1 in
    let lengths4 = and_parts _ _ lengths3.1 in
    let signs = and_parts _ _ b.0 in
    let signs2 = and_parts _ _ signs.1 in
    let signs3 = and_parts _ _ signs2.1 in
    let weights = and_parts _ _ c.0 in
    let plain = and_parts _ _ d.1 in
    let plain2 = and_parts _ _ plain.1 in
    let long : 3 ≤ length w.signs = leb-true 3 _ lengths.0 in
    let hyphens_len : length w.hyphens ≡ length w.signs = eqb-true _ _ lengths3.0 in
    let weights_len : length w.weights ≡ length w.signs = eqb-true _ _ lengths4.0 in
    let cares_len : length w.cares ≡ length w.signs = eqb-true _ _ lengths4.1 in
    record {
      long = long;
      short = leb-true _ (WORD_LETTERS_MAX + 2) lengths2.0;
      hyphens_len = hyphens_len;
      weights_len = weights_len;
      cares_len = cares_len;
      signs = all_at_least 1 w.signs signs.0;
      begins = sign_from w.signs 0 (omega arith) signs2.0;
      ends = sign_from w.signs (length w.signs - 1) (omega arith) signs3.0;
      letters = all_above EDGE (slice_range w.signs 1 (length w.signs - 1)) signs3.1;
      weights = all_at_most WEIGHT_MAX w.weights weights.0;
      weight = leb-true w.weight WEIGHT_MAX weights.1;
      disputed = λ p. disputed_from w.hyphens w.cares p (omega arith) d.0;
      first = plain_from w 0 (omega arith) hyphens_len weights_len cares_len plain.0;
      second = plain_from w 1 (omega arith) hyphens_len weights_len cares_len plain2.0;
      last = plain_from w (length w.signs - 1) (omega arith) hyphens_len weights_len cares_len plain2.1;
    }

-- the letters of all words are their signs without two edges each
pub letters_sum : (ws : List Word) → All IsWord ws → sum_by letter_count ws + 2 * length ws ≡ length (all_signs ws)
letters_sum [] each = refl
letters_sum (w ∷ ws) each =
    let long : 3 ≤ length w.signs = (All-head IsWord w ws each).long in
    let rest : sum_by letter_count ws + 2 * length ws ≡ length (all_signs ws) = letters_sum ws (All-tail IsWord w ws each) in
    let sum : sum_by letter_count (w ∷ ws) ≡ length w.signs - 2 + sum_by letter_count ws = sum_by-cons letter_count w ws in
    omega (arith, length-append w.signs (all_signs ws))

-- the signs of all words, joined, pass a test where those of each word do
pub signs_pass : (n : ℕ) (ws : List Word) → list_all (is_sign_up_to n) (all_signs ws) ≡ true → list_all (λ (w : Word). list_all (is_sign_up_to n) w.signs) ws ≡ true
signs_pass n [] pass = refl
signs_pass n (w ∷ ws) pass =
    let p = and_parts _ _ (sym (list_all-append (is_sign_up_to n) w.signs (all_signs ws)) ∙ pass) in
    and_from _ _ p.0 (signs_pass n ws p.1)

-- so the signs of the words are at most n
pub signs_at_most : (n : ℕ) (ws : List Word) → list_all (is_sign_up_to n) (all_signs ws) ≡ true → SignsAtMost n ws
signs_at_most n ws pass k d within i e inside =
    let w : Word = slice_index_or ws k d in
    let here : list_all (is_sign_up_to n) w.signs ≡ true = AllPass-from_list_all (λ (w : Word). list_all (is_sign_up_to n) w.signs) ws (signs_pass n ws pass) k d within in
    leb-true _ n (and_parts _ _ (AllPass-from_list_all (is_sign_up_to n) w.signs here i e inside)).1

-- each word has three signs at least
three_each : (ws : List Word) → All IsWord ws → 3 * length ws ≤ length (all_signs ws)
three_each [] each = omega arith
three_each (w ∷ ws) each = omega (arith, (All-head IsWord w ws each).long, three_each ws (All-tail IsWord w ws each), length-append w.signs (all_signs ws))

-- so a store has a third as many words as signs, or fewer
pub few_words : (s : Store) → IsSound s → 3 * length s.words.items ≤ length s.signs.items
few_words s sound =
    let signs : length s.signs.items ≡ length (all_signs (stored_words s)) = ap (λ (xs : List ℕ). length xs) sound.signs_joined in
    let words : length (stored_words s) ≡ length s.words.items = length-map s.words.items (word_at (columns_of s)) in
    omega (arith, three_each (stored_words s) sound.words)

-- so there are at most as many letters as bytes of the longest file
pub few_letters : (s : Store) (row : List Site) → IsDictionary s row → sum_by letter_count (stored_words s) ≤ FILE_MAX
few_letters s row is =
    let sum : sum_by letter_count (stored_words s) + 2 * length (stored_words s) ≡ length (all_signs (stored_words s)) = letters_sum (stored_words s) is.sound.words in
    let signs : length s.signs.items ≡ length (all_signs (stored_words s)) = ap (λ (xs : List ℕ). length xs) is.sound.signs_joined in
    let words : length (stored_words s) ≡ length s.words.items = length-map s.words.items (word_at (columns_of s)) in
    omega (arith, is.few)

-- a word of a list
pub word_in : (ws : List Word) (i : ℕ) (w : Word) → All IsWord ws → slice_get ws i ≡ Some w → IsWord w
word_in ws i w each at =
    let here : slice_index_or ws i w ≡ w = get_or_from_slice_get ws i w w at in
    subst IsWord here (each i w (slice_get_within ws i w at))

-- the word with a number, as it lies in the store
pub word_stored : (s : Store) (now : List Word) (i : ℕ) (w : StoredWord) → stored_words s ≡ now → i < length now → w ≡ slice_index_or s.words.items i w
    → slice_get now i ≡ Some (word_at (columns_of s) w)
word_stored s now i w view inside at =
    let size : length now ≡ length s.words.items = ap (λ (ws : List Word). length ws) (sym view) ∙ length-map s.words.items (word_at (columns_of s)) in
    let stored : slice_get s.words.items i ≡ Some w = slice_get_read s.words.items (length s.words.items) i w refl (omega arith) at in
    subst (λ (ws : List Word). slice_get ws i ≡ Some (word_at (columns_of s) w)) view (slice_get-map (word_at (columns_of s)) s.words.items i ∙ ap (option_map (word_at (columns_of s))) stored)

-- it lies within the columns
pub word_within : (s : Store) (now : List Word) (i : ℕ) (w : StoredWord) → IsSound s → stored_words s ≡ now → i < length now → w ≡ slice_index_or s.words.items i w
    → (w.start ≤ w.end) × (w.end ≤ length s.signs.items)
word_within s now i w sound view inside at =
    let size : length now ≡ length s.words.items = ap (λ (ws : List Word). length ws) (sym view) ∙ length-map s.words.items (word_at (columns_of s)) in
    let pass : lies_within (length s.signs.items) w ≡ true = subst (λ (x : StoredWord). lies_within (length s.signs.items) x ≡ true) (sym at)
    (AllPass-from_list_all (lies_within (length s.signs.items)) s.words.items sound.within i w (omega arith)) in
    let parts = and_parts (nat_le w.start w.end) (nat_le w.end (length s.signs.items)) pass in
    (leb-true w.start w.end parts.0, leb-true w.end (length s.signs.items) parts.1)
