-- The lines of words, one after the other, and the marks of their positions.
use Rattle.std.proofs.Common.{◌≡◌, ℕ, ◌+◌, ◌-◌, ◌<◌, ◌≤◌, Bool, true, false, cond, nat_eq, nat_le, nat_lt, List, [], ◌∷◌, ◌++◌, length, drop, None, Some, append_assoc, add-one, ap, ◌∙◌, refl, subst, arith, suc, zero}
use Rattle.std.specs.Prelude.{slice_index, slice_index_or, ◌&&◌, if◌then◌else◌, All, codes}
use Rattle.std.specs.List.{flat_map, range_with_len, list_any, slice_get}
use Rattle.std.proofs.lemmas.Bool.Decides.{nat_tests}
use Rattle.std.proofs.lemmas.Option.{get_or_from_slice_get, slice_get_within}
use Rattle.pg_types.specs.declared.marks.Mark.{Mark}
use Rattle.pg_types.specs.Inside.Signs.{SignsWithin}
use Rattle.pg_translate.specs.Alphabets.{Alphabet, spelling_of}
use Rattle.pg_translate.specs.Reach.{reach, positions}
use Rattle.pg_dict.specs.Word.{Word}
use Rattle.pg_dict.specs.Inside.SoundWords.{IsWord, SignsAtMost}
use Rattle.pg_patterns.specs.Values.{Patterns, value_at}
use Rattle.pg_select.specs.Statuses.{status}
use Rattle.pg_texts.proofs.Ranges.{same_over_range}
use Rattle.pg_texts.specs.Inside.FoundStatuses.{status_found}
use Rattle.pg_texts.specs.PattmpTexts.{is_taking_part, weight_text, position_text, word_text, statuses, lines_behind}
use Rattle.pg_texts.specs.Inside.ReadBack.{words_taking_part}

-- one position more of a range
pub range_step : (f : ℕ → List ℕ) (p last : ℕ) (text new all : List ℕ) → p < last → new ≡ text ++ f p → text ++ flat_map f (range_with_len p (last - p))
    ≡ all → new ++ flat_map f (range_with_len (p + 1) (last - (p + 1))) ≡ all
range_step f p last text new all inside here rest =
    let parts : last - p ≡ suc (last - (p + 1)) = omega arith in
    let whole : text ++ (f p ++ flat_map f (range_with_len (p + 1) (last - (p + 1)))) ≡ all = rw parts at rest in
    rw (here, append_assoc) whole

-- a position is in a range
any_in_range : (p a n : ℕ) → list_any (nat_eq p) (range_with_len a n) ≡ (nat_le a p && nat_lt p (a + n))
any_in_range p a zero = grind (arith, nat_tests)
any_in_range p a (suc n) =
    let rest : list_any (nat_eq p) (range_with_len (a + 1) n) ≡ (nat_le (a + 1) p && nat_lt p (a + 1 + n)) = any_in_range p (a + 1) n in
    rw rest (grind (arith, nat_tests))

-- the words that stand at a place
pub word_there : (words : List Word) (i : ℕ) (w : Word) → slice_get words i ≡ Some w → drop i words ≡ w ∷ drop (suc i) words
word_there [] i w is = cc
word_there (x ∷ xs) zero w is = let same : x ≡ w = cc in ap (λ v. v ∷ xs) same
word_there (x ∷ xs) (suc i) w is = word_there xs i w is

-- what holds of the signs of all words holds of one
pub signs_known : (n : ℕ) (words : List Word) (i : ℕ) (w : Word) → SignsAtMost n words → slice_get words i ≡ Some w → All (λ s. s ≤ n) w.signs
signs_known n words i w known is = subst (λ (v : Word). All (λ s. s ≤ n) v.signs) (get_or_from_slice_get words i w w is) (known i w (slice_get_within words i w is))

pub signs_within : (n : ℕ) (w : Word) → IsWord w → All (λ s. s ≤ n) w.signs → SignsWithin n w.signs
signs_within n w word known = λ k d inside. (word.signs k d inside, known k d inside)

range_test : (p a b : ℕ) → (nat_le a p && nat_lt p (a + (b + 1 - a))) ≡ (nat_le a p && nat_le p b)
range_test p a b = grind (arith, nat_tests)

-- a position is in reach exactly where it lies between the ends
reach_test : (left right size : ℕ) (r : ℕ × ℕ) (p : ℕ) → reach left right size ≡ Some r → list_any (nat_eq p) (positions left right size) ≡ (nat_le r.0 p && nat_le p r.1)
reach_test left right size r p is = rw is (any_in_range p r.0 (r.1 + 1 - r.0) ∙ range_test p r.0 r.1)

by_test : (b : Bool) (hyphen care : Bool) (value : ℕ) → status hyphen care (cond b value 0) ≡ cond b (status hyphen care value) (status hyphen care 0)
by_test true hyphen care value = refl
by_test false hyphen care value = refl

-- the statuses that are found are those of the positions
pub found_status : (t : Alphabet) (P : Patterns) (w : Word) (values : List ℕ) (r : ℕ × ℕ) (p : ℕ) → reach t.left t.right (length w.signs) ≡ Some r
    → slice_index values p ≡ value_at P w.signs p → status_found values r w p ≡ statuses t P w p
found_status t P w values r p is value = rw (reach_test t.left t.right (length w.signs) r p is, value)
    (by_test (nat_le r.0 p && nat_le p r.1) (slice_index_or w.hyphens p false) (slice_index_or w.cares p true) (value_at P w.signs p))

-- the text of a word by marks that agree at each position
pub same_marks : (t : Alphabet) (marks others : ℕ → Mark) (w : Word) → ((p : ℕ) → p < length w.signs → marks p ≡ others p) → 3 ≤ length w.signs → word_text t marks w ≡ word_text t others w
same_marks t marks others w same long =
    let positions : flat_map (position_text t marks w) (range_with_len 2 (length w.signs - 3)) ≡ flat_map (position_text t others w) (range_with_len 2 (length w.signs - 3)) =
    same_over_range (position_text t marks w) (position_text t others w) 2 (length w.signs - 3)
    (λ p low high. ap (λ mark. position_text t (λ _. mark) w p) (same p (omega arith))) in
    ap (λ x. spelling_of t (slice_index w.signs 1) ++ x ++ codes "\n") positions

joined_line : (text front line rest all behind new later : List ℕ) → later ≡ rest → behind ≡ text ++ front → new ≡ behind ++ line → text ++ (front ++ line ++ rest) ≡ all → new ++ later ≡ all
joined_line text front line rest all behind new later same front_is line_is whole = rw (same, line_is, front_is) (simp append_assoc (simp append_assoc at whole))

-- a word that takes part has its line
pub line_step : (t : Alphabet) (P : Patterns) (words : List Word) (i weight : ℕ) (w : Word) (r : ℕ × ℕ) (values : List ℕ) (text behind new all : List ℕ)
    → slice_get words i ≡ Some w → reach t.left t.right (length w.signs) ≡ Some r → 3 ≤ length w.signs → ((p : ℕ) → p < length w.signs → slice_index values p ≡ value_at P w.signs p)
    → behind ≡ text ++ weight_text weight w.weight → new ≡ behind ++ word_text t (status_found values r w) w → text ++ lines_behind t P weight (words_taking_part t (drop i words))
    ≡ all → new ++ lines_behind t P w.weight (words_taking_part t (drop (i + 1) words)) ≡ all
line_step t P words i weight w r values text behind new all is reached long found front line whole =
    let there : drop i words ≡ w ∷ drop (suc i) words = word_there words i w is in
    let part : is_taking_part t w ≡ true = rw reached refl in
    let marks : word_text t (status_found values r w) w ≡ word_text t (statuses t P w) w =
    same_marks t (status_found values r w) (statuses t P w) w (λ p inside. found_status t P w values r p reached (found p inside)) long in
    let lines : text ++ lines_behind t P weight (if is_taking_part t w then w ∷ words_taking_part t (drop (suc i) words) else words_taking_part t (drop (suc i) words)) ≡ all = rw there at whole in
    let more : text ++ (weight_text weight w.weight ++ word_text t (statuses t P w) w ++ lines_behind t P w.weight (words_taking_part t (drop (suc i) words))) ≡ all = rw part at lines in
    joined_line text (weight_text weight w.weight) (word_text t (statuses t P w) w) (lines_behind t P w.weight (words_taking_part t (drop (suc i) words))) all behind new _
    (rw add-one refl) front (line ∙ ap (λ x. behind ++ x) marks) more

-- a word that takes no part has none
pub no_line_step : (t : Alphabet) (P : Patterns) (words : List Word) (i weight : ℕ) (w : Word) (text all : List ℕ) → slice_get words i ≡ Some w
    → reach t.left t.right (length w.signs) ≡ None → text ++ lines_behind t P weight (words_taking_part t (drop i words)) ≡ all → text
    ++ lines_behind t P weight (words_taking_part t (drop (i + 1) words)) ≡ all
no_line_step t P words i weight w text all is none whole =
    let there : drop i words ≡ w ∷ drop (suc i) words = word_there words i w is in
    let part : is_taking_part t w ≡ false = rw none refl in
    let lines : text ++ lines_behind t P weight (if is_taking_part t w then w ∷ words_taking_part t (drop (suc i) words) else words_taking_part t (drop (suc i) words)) ≡ all = rw there at whole in
    let more : text ++ lines_behind t P weight (words_taking_part t (drop (suc i) words)) ≡ all = rw part at lines in
    rw add-one more
