-- How a text is cut at its first byte that passes a test.
use Rattle.std.proofs.Common.{◌≡◌, ℕ, ◌+◌, ◌-◌, ◌<◌, ◌≤◌, ◌==◌, map, Bool, true, false, List, [], ◌∷◌, length, take, drop, get_or, refl, ap, add-one, arith, suc, zero}
use Rattle.std.specs.List.{position_or_len}
use Rattle.std.proofs.lemmas.List.{take_rest, drop_all}
use Rattle.std.proofs.lemmas.List.Sums.{position_or_len_is}
use Rattle.std.proofs.lemmas.Bool.{false_from_ne_true}
use Rattle.pg_types.specs.Lines.{pieces_at, is_line_feed, lines}
use Rattle.pg_types.specs.Inside.reading.LineEnds.{without_cr}

-- no byte below k passes the test
abbrev pub NoneBelow : (ℕ → Bool) → List ℕ → ℕ → Type 0
NoneBelow test bytes k = (j : ℕ) → j < k → test (get_or bytes j 0) ≡ false

-- at the first byte that passes, the first piece ends
pub pieces_at_first : (test : ℕ → Bool) (bytes : List ℕ) (k : ℕ) → NoneBelow test bytes k → k < length bytes → test (get_or bytes k 0) ≡ true
    → pieces_at test bytes ≡ take k bytes ∷ pieces_at test (drop (suc k) bytes)
pieces_at_first test [] k before inside here = absurd (omega arith)
pieces_at_first test (b ∷ bs) zero before inside here = rw here refl
pieces_at_first test (b ∷ bs) (suc k) before inside here =
    let rest : pieces_at test bs ≡ take k bs ∷ pieces_at test (drop (suc k) bs) = pieces_at_first test bs k (λ j below. before (suc j) (omega arith)) (omega arith) here in
    rw (before 0 (omega arith), rest) refl

-- where no byte passes, all is one piece
pub pieces_at_last : (test : ℕ → Bool) (b : ℕ) (bs : List ℕ) → NoneBelow test (b ∷ bs) (length (b ∷ bs)) → pieces_at test (b ∷ bs) ≡ (b ∷ bs) ∷ []
pieces_at_last test b [] before = rw (before 0 (omega arith)) refl
pieces_at_last test b (x ∷ xs) before =
    let rest : pieces_at test (x ∷ xs) ≡ (x ∷ xs) ∷ [] = pieces_at_last test x xs (λ j below. before (suc j) (omega arith)) in
    rw (before 0 (omega arith), rest) refl

-- the line that ends at the first LF, and the lines behind it
pub lines_first : (bytes line : List ℕ) (k : ℕ) → line ≡ without_cr (take k bytes) → (before : (j : ℕ) → 0 ≤ j → j < k → ¬ (is_line_feed (get_or bytes j 0) ≡ true))
    → k < length bytes → is_line_feed (get_or bytes k 0) ≡ true → lines bytes ≡ line ∷ lines (take (length bytes - (k + 1)) (drop (k + 1) bytes))
lines_first bytes line k is before inside here =
    let pieces : pieces_at is_line_feed bytes ≡ take k bytes ∷ pieces_at is_line_feed (drop (suc k) bytes) =
    pieces_at_first is_line_feed bytes k (λ j below. false_from_ne_true _ (before j (omega arith) below)) inside here in
    rw (take_rest bytes (k + 1), is, add-one) (ap (map without_cr) pieces)

-- a text without LF is one line
pub lines_last : (bytes line : List ℕ) → (length bytes == 0) ≡ false → line ≡ without_cr bytes → (before : (j : ℕ) → 0 ≤ j → j < length bytes → ¬ (is_line_feed (get_or bytes j 0) ≡ true))
    → lines bytes ≡ line ∷ lines (take (length bytes - length bytes) (drop (length bytes) bytes))
lines_last [] line some is before = cc
lines_last (b ∷ bs) line some is before =
    let pieces : pieces_at is_line_feed (b ∷ bs) ≡ (b ∷ bs) ∷ [] = pieces_at_last is_line_feed b bs (λ j below. false_from_ne_true _ (before j (omega arith) below)) in
    rw (take_rest (b ∷ bs) (length (b ∷ bs)), drop_all (length (b ∷ bs)) (b ∷ bs) (omega arith), is) (ap (map without_cr) pieces)

-- where the first LF stands
pub line_feed_at : (bytes : List ℕ) (k : ℕ) → ((j : ℕ) → 0 ≤ j → j < k → ¬ (is_line_feed (get_or bytes j 0) ≡ true)) → k < length bytes
    → is_line_feed (get_or bytes k 0) ≡ true → position_or_len is_line_feed bytes ≡ k
line_feed_at bytes k before inside here =
    position_or_len_is is_line_feed bytes k 0 (omega arith) (λ j below. false_from_ne_true _ (before j (omega arith) below)) (λ _. here)

-- no LF
pub line_feed_nowhere : (bytes : List ℕ) → ((j : ℕ) → 0 ≤ j → j < length bytes → ¬ (is_line_feed (get_or bytes j 0) ≡ true)) → position_or_len is_line_feed bytes ≡ length bytes
line_feed_nowhere bytes before =
    position_or_len_is is_line_feed bytes (length bytes) 0 (omega arith) (λ j below. false_from_ne_true _ (before j (omega arith) below)) (λ inside. absurd (omega arith))
