-- The dictionary of `sample` is accepted under the default table.
use Rattle.std.proofs.Common.{◌≡◌, ℕ, zero, suc, ◌+◌, ◌-◌, ◌*◌, ◌<◌, ◌≤◌, ◌==◌, nat_le, Bool, true, false, ◌&&◌, ◌||◌, List, [], ◌∷◌, ◌++◌, length, map, Some, Ok, refl, sym, ap, ◌∙◌, subst, arith, inl, inr, length-append}
use Rattle.std.specs.Prelude.{if◌then◌else◌, flat_map, slice_index}
use Rattle.std.specs.List.{list_all, AllByRecursion, range_with_len}
use Rattle.std.proofs.lemmas.Bool.{cases_Bool}
use Rattle.std.proofs.lemmas.Bool.Decides.{nat_tests}
use Rattle.std.proofs.lemmas.Grind.{common_steps}
use Rattle.std.proofs.lemmas.List.Folds.{list_all-append}
use Rattle.pg_types.specs.declared.limits.TheConstants.{FILE_MAX, WORD_LETTERS_MAX}
use Rattle.pg_types.specs.declared.marks.Mark.TheVariants.{Missed}
use Rattle.pg_translate.specs.Inside.tables.Rules.{KeepsRules}
use Rattle.pg_translate.specs.Inside.spellings.Members.{IsAmong}
use Rattle.pg_translate.specs.Tables.{default_alphabet}
use Rattle.pg_translate.specs.Inside.tables.Checks.{default_letter}
use Rattle.pg_translate.specs.Tokens.{Token, Letter, Marked}
use Rattle.pg_translate.specs.Inside.items.Items.{IsItem, text_of_items}
use Rattle.pg_translate.specs.declared.items.Place.TheVariants.{Dictionary}
use Rattle.pg_dict.specs.Word.{Word}
use Rattle.pg_dict.specs.DictionaryWords.{word_of_items, words}
use Rattle.pg_dict.specs.Inside.LineWords.{word_weight, line_reading, line_word}
use Rattle.pg_dict.specs.Inside.WrittenWords.{letters_among, IsLine, text_of_lines, LinesGive}
use Rattle.pg_dict.proofs.LineReading.LineLaws.{line_is_read, file_is_read, items_line}
use Rattle.pg_words.specs.declared.limits.TheConstants.{COUNT_MAX}
use Rattle.pg_top.specs.Sampling.{sample_text}
use Rattle.pg_top.specs.Inside.MadeWords.{next_state, draw, MadeText, ending, syllable, further_syllables, word, words_made}
use Rattle.pg_top.proofs.sample.MadeLines.{sample_lines_are}
use Rattle.pg_top.specs.Inside.Sampled.{closings, consonants, vowels}
use Rattle.pg_types.proofs.BoolFacts.{and_first, and_second}

-- letters, and hyphens beside them
abbrev is_letter : ℕ → Bool
is_letter b = nat_le 97 b && nat_le b 122

abbrev is_plain : ℕ → Bool
is_plain b = is_letter b || b == 45

-- each letter has its spelling in the default table
among_from : (a n i : ℕ) → a ≤ i → i < a + n → IsAmong (i + 2, (97 + i) ∷ []) (flat_map default_letter (range_with_len a n))
among_from a zero i low high = absurd (omega arith)
among_from a (suc n) i low high =
    elim (cases_Bool (a == i)) [
      | inl same ↦ let is : i ≡ a = grind (arith, nat_tests) in inl (ap (λ (k : ℕ). (k + 2, (97 + k) ∷ [])) is)
      | inr other ↦ inr (inr (among_from (a + 1) n i (grind (arith, nat_tests)) (omega arith)))
    ]

letter_among : (b : ℕ) → is_letter b ≡ true → IsAmong (b - 95, b ∷ []) default_alphabet.spellings
letter_among b letter =
    let low : 97 ≤ b = grind (arith, nat_tests) in
    let high : b ≤ 122 = grind (arith, nat_tests) in
    let sign : b - 97 + 2 ≡ b - 95 = omega arith in
    let byte : 97 + (b - 97) ≡ b = omega arith in
    subst (λ (s : ℕ). IsAmong (s, b ∷ []) default_alphabet.spellings) sign
    (subst (λ (c : ℕ). IsAmong (b - 97 + 2, c ∷ []) default_alphabet.spellings) byte (among_from 0 26 (b - 97) (omega arith) (omega arith)))

-- the item of a byte
abbrev token_of : Bool → ℕ → Token
token_of hyphen b = if hyphen then Marked Missed else Letter (b - 95)

abbrev item_of : ℕ → Token × List ℕ
item_of b = (token_of (b == 45) b, b ∷ [])

item_good : (b : ℕ) (hyphen : Bool) → (b == 45) ≡ hyphen → is_plain b ≡ true → IsItem default_alphabet Dictionary (token_of hyphen b) (b ∷ [])
item_good b true is plain = let same : b ≡ 45 = grind (arith, nat_tests) in ap (λ x. x ∷ []) same
item_good b false is plain = letter_among b (grind (arith, common_steps))

items_each : (text : List ℕ) → list_all is_plain text ≡ true → AllByRecursion (λ (item : Token × List ℕ). IsItem default_alphabet Dictionary item.0 item.1) (map item_of text)
items_each [] plain = tt
items_each (b ∷ bs) plain = (item_good b (b == 45) refl (and_first (is_plain b) (list_all is_plain bs) plain), items_each bs (and_second (is_plain b) (list_all is_plain bs) plain))

items_joined : (text : List ℕ) → text_of_items (map item_of text) ≡ text
items_joined [] = refl
items_joined (b ∷ bs) = ap (λ rest. b ∷ rest) (items_joined bs)

abbrev tokens : List ℕ → List Token
tokens text = map (λ (item : Token × List ℕ). item.0) (map item_of text)

few_more : (hyphen : Bool) (b : ℕ) (rest : List Token) (n : ℕ) → letters_among rest ≤ n → letters_among (token_of hyphen b ∷ rest) ≤ n + 1
few_more true b rest n few = omega arith
few_more false b rest n few = omega arith

letters_few : (text : List ℕ) → letters_among (tokens text) ≤ length text
letters_few [] = omega arith
letters_few (b ∷ bs) = let more = few_more (b == 45) b (tokens bs) (length bs) (letters_few bs) in omega arith

-- a line that begins with a letter and has letters and hyphens alone
record IsSampleLine (text : List ℕ) : Type 0 where
  some : 0 < length text
  begins : is_letter (slice_index text 0) ≡ true
  plain : list_all is_plain text ≡ true
  short : length text ≤ 15

word_there : (weight : ℕ) (first : Token) (rest : List Token) (s : ℕ) → first ≡ Letter s → (w : Word) × (line_word weight (first ∷ rest) ≡ record { word = Some w; weight = w.weight })
word_there weight first rest s is = subst (λ (t : Token). (w : Word) × (line_word weight (t ∷ rest) ≡ record { word = Some w; weight = w.weight }))
    (sym is) (word_of_items (word_weight weight (Letter s ∷ rest)) (Letter s ∷ rest), refl)

letter_first : (b : ℕ) (hyphen : Bool) → (b == 45) ≡ hyphen → is_letter b ≡ true → token_of hyphen b ≡ Letter (b - 95)
letter_first b true is letter = absurd (grind (arith, nat_tests))
letter_first b false is letter = refl

line_given : (weight : ℕ) (text : List ℕ) → KeepsRules default_alphabet → IsSampleLine text → (w : Word)
    × ((line : ℕ) → line_reading default_alphabet line weight text ≡ Ok (record { word = Some w; weight = w.weight }))
line_given weight [] rules good = absurd (omega (arith, good.some))
line_given weight (b ∷ bs) rules good =
    let there = word_there weight (token_of (b == 45) b) (tokens bs) (b - 95) (letter_first b (b == 45) refl good.begins) in
    let few : letters_among (tokens (b ∷ bs)) ≤ WORD_LETTERS_MAX = omega (arith, letters_few (b ∷ bs), good.short) in (
      there.0,
      λ line. subst (λ (text : List ℕ). line_reading default_alphabet line weight text ≡ Ok (record { word = Some there.0; weight = there.0.weight })) (items_joined (b ∷ bs))
          (line_is_read default_alphabet rules line weight (map item_of (b ∷ bs)) (items_each (b ∷ bs) good.plain) few ∙ ap Ok there.1),
    )

lines_given : (weight : ℕ) (texts : List (List ℕ)) → KeepsRules default_alphabet → AllByRecursion IsSampleLine texts → (ws : List Word) × LinesGive default_alphabet weight texts ws
lines_given weight [] rules good = ([], tt)
lines_given weight (text ∷ texts) rules good =
    let here = line_given weight text rules good.0 in
    let rest = lines_given here.0.weight texts rules good.1 in
    (here.0 ∷ rest.0, (here.1, rest.1))

lines_are : (texts : List (List ℕ)) → KeepsRules default_alphabet → AllByRecursion IsSampleLine texts → AllByRecursion IsLine texts
lines_are [] rules good = tt
lines_are (text ∷ texts) rules good = (subst IsLine (items_joined text) (items_line default_alphabet rules (map item_of text) (items_each text good.0.plain)), lines_are texts rules good.1)

file_short : (texts : List (List ℕ)) (n : ℕ) → length texts ≤ n → AllByRecursion IsSampleLine texts → length (text_of_lines texts) ≤ 16 * n
file_short [] n few good = omega arith
file_short (text ∷ texts) zero few good = absurd (omega arith)
file_short (text ∷ texts) (suc n) few good = omega (arith, length-append (text ++ 10 ∷ []) (text_of_lines texts), length-append text (10 ∷ []), good.0.short, file_short texts n (omega arith) good.1)

-- what is drawn from letters is a letter
letter_at : (bs : List ℕ) (k : ℕ) → list_all is_letter bs ≡ true → k < length bs → is_letter (slice_index bs k) ≡ true
letter_at [] k letters within = absurd (omega arith)
letter_at (b ∷ bs) zero letters within = and_first (is_letter b) (list_all is_letter bs) letters
letter_at (b ∷ bs) (suc k) letters within = letter_at bs k (and_second (is_letter b) (list_all is_letter bs) letters) (omega arith)

plain_letter : (b : ℕ) → is_letter b ≡ true → is_plain b ≡ true
plain_letter b letter = grind (arith, common_steps)

-- a text of letters and hyphens of some length
record IsPlainText (text : List ℕ) (most : ℕ) : Type 0 where
  plain : list_all is_plain text ≡ true
  short : length text ≤ most

ending_plain : (x : ℕ) → IsPlainText (ending x).text 1
unfolding ending
ending_plain x = by_draw (draw 4 x == 0)
  where
    by_draw : (closed : Bool) → let made : MadeText = if closed
        then (record { text = slice_index closings (draw 3 (next_state x)) ∷ []; state = next_state x }) else (record { text = []; state = x }) in
        IsPlainText made.text 1
    by_draw true = record { plain = rw (plain_letter (slice_index closings (draw 3 (next_state x))) (letter_at closings (draw 3 (next_state x)) refl (omega arith))) refl; short = omega arith }
    by_draw false = record { plain = refl; short = omega arith }

syllable_plain : (x : ℕ) → IsPlainText (syllable x).text 3
unfolding syllable
syllable_plain x =
    let c : ℕ = next_state x in
    let v : ℕ = next_state c in
    let end = ending_plain (next_state v) in
    record {
      plain = rw (
        plain_letter (slice_index consonants (draw 12 c)) (letter_at consonants (draw 12 c) refl (omega arith)),
        plain_letter (slice_index vowels (draw 5 v)) (letter_at vowels (draw 5 v) refl (omega arith)),
        end.plain,
      ) refl;
      short = omega (arith, end.short);
    }

syllable_begins : (x : ℕ) (more : List ℕ) → is_letter (slice_index ((syllable x).text ++ more) 0) ≡ true
unfolding syllable
syllable_begins x more = letter_at consonants (draw 12 (next_state x)) refl (omega arith)

syllable_some : (x : ℕ) (more : List ℕ) → 0 < length ((syllable x).text ++ more)
unfolding syllable
syllable_some x more = omega arith

further_plain : (n x : ℕ) → IsPlainText (further_syllables n x).text (4 * n)
further_plain zero x = record { plain = refl; short = omega arith }
further_plain (suc n) x =
    let one = syllable_plain x in
    let more = further_plain n (syllable x).state in
    record {
      plain = rw (list_all-append is_plain (syllable x).text (further_syllables n (syllable x).state).text, one.plain, more.plain) refl;
      short = omega (arith, length-append (syllable x).text (further_syllables n (syllable x).state).text, one.short, more.short);
    }

word_line : (x : ℕ) → IsSampleLine (word x).text
unfolding word
word_line x =
    let size : ℕ = next_state x in
    let one = syllable_plain size in
    let more = further_plain (draw 3 size + 1) (syllable size).state in
    record {
      some = syllable_some size (further_syllables (draw 3 size + 1) (syllable size).state).text;
      begins = syllable_begins size (further_syllables (draw 3 size + 1) (syllable size).state).text;
      plain = rw (list_all-append is_plain (syllable size).text (further_syllables (draw 3 size + 1) (syllable size).state).text, one.plain, more.plain) refl;
      short = omega (arith, length-append (syllable size).text (further_syllables (draw 3 size + 1) (syllable size).state).text, one.short, more.short);
    }

words_lines : (n x : ℕ) → AllByRecursion IsSampleLine (words_made n x)
words_lines zero x = tt
words_lines (suc n) x = (word_line x, words_lines n (word x).state)

words_count : (n x : ℕ) → length (words_made n x) ≤ n
words_count zero x = omega arith
words_count (suc n) x = let rest = words_count n (word x).state in omega arith

-- so it is accepted
pub sample_accepted : (seed count : ℕ) → KeepsRules default_alphabet → count ≤ COUNT_MAX → (ws : List Word) × (words default_alphabet (sample_text seed count) ≡ Ok ws)
sample_accepted seed count rules few =
    let good : AllByRecursion IsSampleLine (words_made count seed) = words_lines count seed in
    let given = lines_given 1 (words_made count seed) rules good in
    let short : length (text_of_lines (words_made count seed)) ≤ FILE_MAX = omega (arith, file_short (words_made count seed) count (words_count count seed) good) in (
      given.0,
      ap (words default_alphabet) (sample_lines_are seed count)
          ∙ file_is_read default_alphabet rules (words_made count seed) given.0 (lines_are (words_made count seed) rules good) given.1 short,
    )
