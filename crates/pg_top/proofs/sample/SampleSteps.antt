-- The loops that make the dictionary of `sample`: what is made so far, with the rest behind it, is the whole.
use Rattle.std.proofs.Common.{◌≡◌, ℕ, suc, ◌+◌, ◌-◌, ◌<◌, ◌≤◌, List, [], ◌∷◌, ◌++◌, sym, ap, ◌∙◌, append_assoc, arith}
use Rattle.std.proofs.lemmas.List.{append-nil}
use Rattle.pg_top.specs.Inside.MadeWords.{MadeText, syllable, further_syllables, word, lines_made}

-- a syllable more
further_next : (count i x : ℕ) → i < count → further_syllables (count - i) x ≡ further_syllables (suc (count - (i + 1))) x
further_next count i x more = let same : count - i ≡ suc (count - (i + 1)) = omega arith in ap (λ n. further_syllables n x) same

pub syllable_more : (count i x : ℕ) (so_far whole : List ℕ) → i < count → so_far ++ (further_syllables (count - i) x).text ≡ whole
    → ((so_far ++ 45 ∷ []) ++ (syllable x).text) ++ (further_syllables (count - (i + 1)) (syllable x).state).text ≡ whole
syllable_more count i x so_far whole more is =
    append_assoc (so_far ++ 45 ∷ []) (syllable x).text (further_syllables (count - (i + 1)) (syllable x).state).text
    ∙ append_assoc so_far (45 ∷ []) ((syllable x).text ++ (further_syllables (count - (i + 1)) (syllable x).state).text)
    ∙ ap (λ (m : MadeText). so_far ++ m.text) (sym (further_next count i x more))
    ∙ is

pub state_more : (count i x whole : ℕ) → i < count → (further_syllables (count - i) x).state ≡ whole → (further_syllables (count - (i + 1)) (syllable x).state).state ≡ whole
state_more count i x whole more is = ap (λ (m : MadeText). m.state) (sym (further_next count i x more)) ∙ is

-- all syllables, and none
pub syllables_begun : (count x : ℕ) → further_syllables (count - 0) x ≡ further_syllables count x
syllables_begun count x = let same : count - 0 ≡ count = omega arith in ap (λ n. further_syllables n x) same

syllables_done : (count i x : ℕ) → count ≤ i → further_syllables (count - i) x ≡ record { text = []; state = x }
syllables_done count i x past = let none : count - i ≡ 0 = omega arith in ap (λ n. further_syllables n x) none

pub syllables_text : (count i x : ℕ) (so_far whole : List ℕ) → count ≤ i → so_far ++ (further_syllables (count - i) x).text ≡ whole → so_far ≡ whole
syllables_text count i x so_far whole past is = sym (append-nil so_far) ∙ ap (λ (m : MadeText). so_far ++ m.text) (sym (syllables_done count i x past)) ∙ is

pub syllables_state : (count i x whole : ℕ) → count ≤ i → (further_syllables (count - i) x).state ≡ whole → x ≡ whole
syllables_state count i x whole past is = ap (λ (m : MadeText). m.state) (sym (syllables_done count i x past)) ∙ is

-- a word more
sample_next : (count i x : ℕ) → i < count → lines_made x (count - i) ≡ lines_made x (suc (count - (i + 1)))
sample_next count i x more = let same : count - i ≡ suc (count - (i + 1)) = omega arith in ap (λ n. lines_made x n) same

pub word_more : (count i x : ℕ) (so_far whole : List ℕ) → i < count → so_far ++ lines_made x (count - i) ≡ whole → ((so_far ++ (word x).text) ++ 10 ∷ [])
    ++ lines_made (word x).state (count - (i + 1)) ≡ whole
word_more count i x so_far whole more is =
    ap (λ front. front ++ lines_made (word x).state (count - (i + 1))) (append_assoc so_far (word x).text (10 ∷ []))
    ∙ append_assoc so_far ((word x).text ++ 10 ∷ []) (lines_made (word x).state (count - (i + 1)))
    ∙ ap (λ rest. so_far ++ rest) (sym (sample_next count i x more))
    ∙ is
