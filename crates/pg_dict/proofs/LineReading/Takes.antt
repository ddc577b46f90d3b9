-- One item more of a line: before its first letter, and behind it.
use Rattle.std.proofs.Common.{◌≡◌, ℕ, ◌-◌, ◌<◌, ◌≤◌, suc, zero, List, [], ◌∷◌, length, Result, refl, ◌∙◌, ap, arith, append_assoc}
use Rattle.std.proofs.lemmas.List.{length-drop}
use Rattle.pg_types.specs.declared.limits.TheConstants.{WORD_LETTERS_MAX}
use Rattle.pg_types.specs.declared.marks.Mark.{Mark}
use Rattle.pg_types.specs.declared.marks.Mark.TheVariants.{Nothing}
use Rattle.pg_types.specs.ValuesOrRefusals.{unless}
use Rattle.pg_translate.specs.Alphabets.{Alphabet}
use Rattle.pg_translate.specs.Tokens.{Token, Letter}
use Rattle.pg_translate.specs.Inside.items.Cuts.{Cut, with_item, tokens_of}
use Rattle.pg_translate.specs.Inside.items.Answers.{HasItem}
use Rattle.pg_translate.specs.declared.items.Place.TheVariants.{Dictionary}
use Rattle.pg_types.specs.declared.refusals.Refusal.{Refusal}
use Rattle.pg_dict.specs.Inside.Lines.PositionedSigns.{PositionedSign, positioned_sign, Columns, with_signs}
use Rattle.pg_translate.specs.Inside.items.Refusing.{cut_refusal, refusal_with_room}
use Rattle.pg_translate.proofs.LineSteps.{along}
use Rattle.pg_dict.specs.Inside.LineWords.{LineWord}
use Rattle.pg_dict.specs.Inside.Lines.RunningWords.{running_word, signs_behind}
use Rattle.pg_dict.specs.Inside.Lines.ReadColumns.{columns_after}
use Rattle.pg_dict.specs.Inside.Lines.LineStarts.{rest_reading, word_reading}

-- signs behind signs
pub add_spots-add : (c : Columns) (s : PositionedSign) (ss : List PositionedSign) → with_signs (with_signs c (s ∷ [])) ss ≡ with_signs c (s ∷ ss)
add_spots-add c s ss = simp append_assoc

-- an item behind the first letter: what is then to be filled in gives the whole
pub takes_item : (t : Alphabet) (weight line size : ℕ) (m n : Mark) (i j room left : ℕ) (done now : Columns) (item : Token) (rest after : List ℕ)
    → HasItem t Dictionary rest item after → length rest ≤ size
    → ((column : ℕ) (c : Cut) → unless (refusal_with_room Dictionary line left c) (with_signs now (signs_behind weight n j (tokens_of c)))
    ≡ unless (refusal_with_room Dictionary line room (with_item column item c)) (with_signs done (signs_behind weight m i (tokens_of (with_item column item c)))))
    → (columns_after t weight line size n j left now after ≡ columns_after t weight line size m i room done rest) × (length after < length rest)
takes_item t weight line size m n i j room left done now item rest after =
    along (λ (c : Cut). unless (refusal_with_room Dictionary line room c) (with_signs done (signs_behind weight m i (tokens_of c))))
    (λ (c : Cut). unless (refusal_with_room Dictionary line left c) (with_signs now (signs_behind weight n j (tokens_of c)))) t Dictionary size item rest after

-- a letter behind the first, in a line in which letters may still come
pub takes_letter : (t : Alphabet) (weight line size : ℕ) (mark : Mark) (number room : ℕ) (done now : Columns) (sign : ℕ) (rest after : List ℕ)
    → HasItem t Dictionary rest (Letter sign) after → length rest ≤ size → ¬ (room ≡ 0) → now ≡ with_signs done (positioned_sign mark number sign ∷ [])
    → (columns_after t weight line size Nothing weight (room - 1) now after ≡ columns_after t weight line size mark number room done rest) × (length after < length rest)
takes_letter t weight line size mark number zero done now sign rest after takes within some is = absurd (some refl)
takes_letter t weight line size mark number (suc room) done now sign rest after takes within some is =
    let less : suc room - 1 ≡ room = omega arith in
    rw (is, less) (takes_item t weight line size mark Nothing number weight (suc room) room done (with_signs done (positioned_sign mark number sign ∷ []))
    (Letter sign) rest after takes within (λ column c. ap (unless (refusal_with_room Dictionary line room c))
    (add_spots-add done (positioned_sign mark number sign) (signs_behind weight Nothing weight (tokens_of c)))))

-- what follows an item is shorter
pub shorter_behind : (t : Alphabet) (rest : List ℕ) (item : Token) (after : List ℕ) → HasItem t Dictionary rest item after → length after < length rest
shorter_behind t rest item after takes = omega (arith, ap (λ (xs : List ℕ). length xs) takes.behind, length-drop takes.size rest, takes.some, takes.within)

-- an item before the first letter: the line still gives the whole
pub seeks_item : (t : Alphabet) (line size weight next : ℕ) (item : Token) (rest after : List ℕ) (whole : Result LineWord Refusal) → rest_reading t line size weight rest
    ≡ whole → length rest ≤ size → HasItem t Dictionary rest item after
    → ((column : ℕ) (c : Cut) → unless (cut_refusal Dictionary line c) (running_word next (tokens_of c))
    ≡ unless (cut_refusal Dictionary line (with_item column item c)) (running_word weight (tokens_of (with_item column item c))))
    → (rest_reading t line size next after ≡ whole) × (length after ≤ size)
seeks_item t line size weight next item rest after whole is within takes same =
    let p = along (λ (c : Cut). unless (cut_refusal Dictionary line c) (running_word weight (tokens_of c)))
    (λ (c : Cut). unless (cut_refusal Dictionary line c) (running_word next (tokens_of c))) t Dictionary size item rest after takes within same in
    (p.0 ∙ is, omega arith)

-- the first letter
pub seeks_letter : (t : Alphabet) (line size weight sign : ℕ) (rest after : List ℕ) (whole : Result LineWord Refusal) → rest_reading t line size weight rest
    ≡ whole → length rest ≤ size → HasItem t Dictionary rest (Letter sign) after → (word_reading t line size weight sign after ≡ whole) × (length after < size)
seeks_letter t line size weight sign rest after whole is within takes =
    let p = along (λ (c : Cut). unless (cut_refusal Dictionary line c) (running_word weight (tokens_of c)))
    (λ (c : Cut). unless (refusal_with_room Dictionary line (WORD_LETTERS_MAX - 1) c) (running_word weight (Letter sign ∷ tokens_of c))) t Dictionary size
    (Letter sign) rest after takes within (λ _ _. refl) in
    (p.0 ∙ is, omega arith)
