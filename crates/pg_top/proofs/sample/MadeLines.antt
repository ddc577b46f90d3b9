-- The dictionary of `sample` is the lines of the words that are made.
use Rattle.std.proofs.Common.{◌≡◌, ℕ, zero, suc, ◌+◌, ◌==◌, Bool, true, false, List, [], ◌∷◌, ◌++◌, sym, ap, ◌∙◌, append_assoc, append-nil}
use Rattle.std.specs.Prelude.{if◌then◌else◌, fold, slice_index, codes}
use Rattle.std.specs.List.{range_with_len}
use Rattle.pg_top.specs.Sampling.{with_syllable, with_word, sample_text}
use Rattle.pg_top.specs.Inside.MadeWords.{next_state, draw, MadeText, ending, syllable, further_syllables, word, lines_made}

-- a text and a state that were made behind a text
abbrev behind : List ℕ → MadeText → List ℕ × ℕ
behind text made = (text ++ made.text, made.state)

-- two letters, and a third where the syllable is closed
letters_behind : (closed : Bool) (text : List ℕ) (first second last over on : ℕ)
    → (if closed then (((text ++ first ∷ []) ++ second ∷ []) ++ last ∷ [], on) else ((text ++ first ∷ []) ++ second ∷ [], over))
    ≡ (let end : MadeText = if closed then (record { text = last ∷ []; state = on }) else (record { text = []; state = over }) in
    behind text (record { text = first ∷ second ∷ end.text; state = end.state }))
letters_behind true text first second last over on =
    ap (λ (t : List ℕ). (t, on)) (append_assoc (text ++ first ∷ []) (second ∷ []) (last ∷ []) ∙ append_assoc text (first ∷ []) (second ∷ last ∷ []))
letters_behind false text first second last over on = ap (λ (t : List ℕ). (t, over)) (append_assoc text (first ∷ []) (second ∷ []))

syllable_behind : (text : List ℕ) (x : ℕ) → with_syllable (text, x) ≡ behind text (syllable x)
unfolding with_syllable syllable ending
syllable_behind text x =
    let c : ℕ = next_state x in
    let v : ℕ = next_state c in
    let over : ℕ = next_state v in
    let on : ℕ = next_state over in
    letters_behind (draw 4 over == 0) text (slice_index (codes "bdfgklmnprst") (draw 12 c)) (slice_index (codes "aeiou") (draw 5 v)) (slice_index (codes "nrs") (draw 3 on)) over on

-- a hyphen, and a syllable
abbrev further : List ℕ × ℕ → ℕ → List ℕ × ℕ
further front i = with_syllable (front.0 ++ codes "-", front.1)

further_behind : (n a : ℕ) (text : List ℕ) (x : ℕ) → fold further (text, x) (range_with_len a n) ≡ behind text (further_syllables n x)
further_behind zero a text x = ap (λ (t : List ℕ). (t, x)) (sym (append-nil text))
further_behind (suc n) a text x =
    let one : MadeText = syllable x in
    let more : MadeText = further_syllables n one.state in
    let front : List ℕ = text ++ 45 ∷ [] in
    ap (λ (made : List ℕ × ℕ). fold further made (range_with_len (a + 1) n)) (syllable_behind front x)
    ∙ further_behind n (a + 1) (front ++ one.text) one.state
    ∙ ap (λ (t : List ℕ). (t, more.state)) (append_assoc front one.text more.text ∙ append_assoc text (45 ∷ []) (one.text ++ more.text))

-- the line's end behind a word
abbrev ended : List ℕ × ℕ → List ℕ × ℕ
ended made = (made.0 ++ codes "\n", made.1)

word_behind : (text : List ℕ) (x : ℕ) → with_word (text, x) ≡ ((text ++ (word x).text) ++ 10 ∷ [], (word x).state)
unfolding with_word word
word_behind text x =
    let size : ℕ = next_state x in
    let count : ℕ = draw 3 size + 1 in
    let first : MadeText = syllable size in
    let more : MadeText = further_syllables count first.state in
    ap (λ (made : List ℕ × ℕ). ended (fold further made (range_with_len 0 count))) (syllable_behind text size)
    ∙ ap ended (further_behind count 0 (text ++ first.text) first.state)
    ∙ ap (λ (t : List ℕ). (t ++ 10 ∷ [], more.state)) (append_assoc text first.text more.text)

words_behind : (n a : ℕ) (text : List ℕ) (x : ℕ) → (fold (λ made i. with_word made) (text, x) (range_with_len a n)).0 ≡ text ++ lines_made x n
words_behind zero a text x = sym (append-nil text)
words_behind (suc n) a text x =
    let line : List ℕ = (word x).text in
    let rest : List ℕ = lines_made (word x).state n in
    ap (λ (made : List ℕ × ℕ). (fold (λ m i. with_word m) made (range_with_len (a + 1) n)).0) (word_behind text x)
    ∙ words_behind n (a + 1) ((text ++ line) ++ 10 ∷ []) (word x).state
    ∙ ap (λ front. front ++ rest) (append_assoc text line (10 ∷ []))
    ∙ append_assoc text (line ++ 10 ∷ []) rest

pub sample_lines_are : (seed count : ℕ) → sample_text seed count ≡ lines_made seed count
sample_lines_are seed count = words_behind count 0 [] seed
