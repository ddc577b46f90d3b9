-- Arguments by the first of them and those behind it.
use Rattle.std.proofs.Common.{◌≡◌, ℕ, ◌<◌, ◌≤◌, List, [], ◌∷◌, ◌∙◌, length, drop, get_or, String, sym, ap, arith}
use Rattle.std.specs.Prelude.{string_bytes}
use Rattle.std.specs.declared.alloc.Global.{Global}
use Rattle.pg_words.specs.Inside.Names.{arguments_of}

-- a text is that of the argument at a place
abbrev pub IsArgumentAt : List (String Global) → ℕ → List ℕ → Type 0
IsArgumentAt words place text = (argument : String Global) × (argument ≡ get_or words place argument) × (text ≡ string_bytes argument)

-- the argument at that place has this text
text_at : (words : List (String Global)) (place : ℕ) (text : List ℕ) (at : IsArgumentAt words place text) → string_bytes (get_or words place at.0) ≡ text
text_at words place text at = sym (at.2 ∙ ap string_bytes at.1)

-- arguments that have a first one, by their texts
pub one_argument : (words : List (String Global)) (a : List ℕ) (behind : List (String Global)) → 1 ≤ length words → IsArgumentAt words 0 a → behind ≡ drop 1 words
    → arguments_of words ≡ a ∷ arguments_of behind
one_argument [] a behind some is0 rest = absurd (omega arith)
one_argument (w ∷ words) a behind some is0 rest = λ i. text_at (w ∷ words) 0 a is0 i ∷ arguments_of (sym rest i)

-- two arguments, by their texts
pub two_arguments : (words : List (String Global)) (a b : List ℕ) → 2 ≤ length words → length words < 3 → IsArgumentAt words 0 a → IsArgumentAt words 1 b → arguments_of words ≡ a ∷ b ∷ []
two_arguments [] a b some few is0 is1 = absurd (omega arith)
two_arguments (_ ∷ []) a b some few is0 is1 = absurd (omega arith)
two_arguments (x ∷ y ∷ []) a b some few is0 is1 =
    let words : List (String Global) = x ∷ y ∷ [] in
    λ i. text_at words 0 a is0 i ∷ text_at words 1 b is1 i ∷ []
two_arguments (_ ∷ _ ∷ _ ∷ words) a b some few is0 is1 = absurd (omega arith)

-- three arguments, by their texts
pub three_arguments : (words : List (String Global)) (a b c : List ℕ) → 3 ≤ length words → length words < 4 → IsArgumentAt words 0 a → IsArgumentAt words 1 b → IsArgumentAt words 2 c
    → arguments_of words ≡ a ∷ b ∷ c ∷ []
three_arguments [] a b c some few is0 is1 is2 = absurd (omega arith)
three_arguments (_ ∷ []) a b c some few is0 is1 is2 = absurd (omega arith)
three_arguments (_ ∷ _ ∷ []) a b c some few is0 is1 is2 = absurd (omega arith)
three_arguments (x ∷ y ∷ z ∷ []) a b c some few is0 is1 is2 =
    let words : List (String Global) = x ∷ y ∷ z ∷ [] in
    λ i. text_at words 0 a is0 i ∷ text_at words 1 b is1 i ∷ text_at words 2 c is2 i ∷ []
three_arguments (_ ∷ _ ∷ _ ∷ _ ∷ words) a b c some few is0 is1 is2 = absurd (omega arith)

-- five arguments, by their texts
pub five_arguments : (words : List (String Global)) (a b c d e : List ℕ) → 5 ≤ length words → length words < 6 → IsArgumentAt words 0 a → IsArgumentAt words 1 b
    → IsArgumentAt words 2 c → IsArgumentAt words 3 d → IsArgumentAt words 4 e → arguments_of words ≡ a ∷ b ∷ c ∷ d ∷ e ∷ []
five_arguments [] a b c d e some few is0 is1 is2 is3 is4 = absurd (omega arith)
five_arguments (_ ∷ []) a b c d e some few is0 is1 is2 is3 is4 = absurd (omega arith)
five_arguments (_ ∷ _ ∷ []) a b c d e some few is0 is1 is2 is3 is4 = absurd (omega arith)
five_arguments (_ ∷ _ ∷ _ ∷ []) a b c d e some few is0 is1 is2 is3 is4 = absurd (omega arith)
five_arguments (_ ∷ _ ∷ _ ∷ _ ∷ []) a b c d e some few is0 is1 is2 is3 is4 = absurd (omega arith)
five_arguments (v ∷ w ∷ x ∷ y ∷ z ∷ []) a b c d e some few is0 is1 is2 is3 is4 =
    let words : List (String Global) = v ∷ w ∷ x ∷ y ∷ z ∷ [] in
    λ i. text_at words 0 a is0 i ∷ text_at words 1 b is1 i ∷ text_at words 2 c is2 i ∷ text_at words 3 d is3 i ∷ text_at words 4 e is4 i ∷ []
five_arguments (_ ∷ _ ∷ _ ∷ _ ∷ _ ∷ _ ∷ words) a b c d e some few is0 is1 is2 is3 is4 = absurd (omega arith)

-- arguments that are seven at least, by their texts
pub seven_arguments : (words : List (String Global)) (a b c d e f g : List ℕ) (behind : List (String Global)) → 7 ≤ length words
    → IsArgumentAt words 0 a → IsArgumentAt words 1 b → IsArgumentAt words 2 c → IsArgumentAt words 3 d → IsArgumentAt words 4 e → IsArgumentAt words 5 f → IsArgumentAt words 6 g
    → behind ≡ drop 7 words → arguments_of words ≡ a ∷ b ∷ c ∷ d ∷ e ∷ f ∷ g ∷ arguments_of behind
seven_arguments [] a b c d e f g behind some is0 is1 is2 is3 is4 is5 is6 rest = absurd (omega arith)
seven_arguments (_ ∷ []) a b c d e f g behind some is0 is1 is2 is3 is4 is5 is6 rest = absurd (omega arith)
seven_arguments (_ ∷ _ ∷ []) a b c d e f g behind some is0 is1 is2 is3 is4 is5 is6 rest = absurd (omega arith)
seven_arguments (_ ∷ _ ∷ _ ∷ []) a b c d e f g behind some is0 is1 is2 is3 is4 is5 is6 rest = absurd (omega arith)
seven_arguments (_ ∷ _ ∷ _ ∷ _ ∷ []) a b c d e f g behind some is0 is1 is2 is3 is4 is5 is6 rest = absurd (omega arith)
seven_arguments (_ ∷ _ ∷ _ ∷ _ ∷ _ ∷ []) a b c d e f g behind some is0 is1 is2 is3 is4 is5 is6 rest = absurd (omega arith)
seven_arguments (_ ∷ _ ∷ _ ∷ _ ∷ _ ∷ _ ∷ []) a b c d e f g behind some is0 is1 is2 is3 is4 is5 is6 rest = absurd (omega arith)
seven_arguments (t ∷ u ∷ v ∷ w ∷ x ∷ y ∷ z ∷ ws) a b c d e f g behind some is0 is1 is2 is3 is4 is5 is6 rest =
    let words : List (String Global) = t ∷ u ∷ v ∷ w ∷ x ∷ y ∷ z ∷ ws in
    λ i. text_at words 0 a is0 i ∷ text_at words 1 b is1 i ∷ text_at words 2 c is2 i ∷ text_at words 3 d is3 i ∷ text_at words 4 e is4 i ∷ text_at words 5 f is5 i
    ∷ text_at words 6 g is6 i ∷ arguments_of (sym rest i)
