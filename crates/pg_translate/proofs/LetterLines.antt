-- The pieces and blanks of letter lines.
use Rattle.std.proofs.Common.{◌≡◌, ℕ, ◌+◌, ◌-◌, ◌<◌, ◌≤◌, ◌==◌, true, false, ⊎_elim, List, [], ◌∷◌, ◌++◌, length}
use Rattle.std.proofs.Common.{take, drop, get_or, nat_lt, position, Some, None, refl, ap, ◌∙◌, subst, arith, suc, zero}
use Rattle.std.specs.List.{position_or_len}
use Rattle.std.proofs.lemmas.Bool.{cases_Bool, eqb-true, ltb-false}
use Rattle.std.proofs.lemmas.List.{take_rest, take_more, drop_all, length-drop, length-take-le}
use Rattle.std.proofs.lemmas.List.Sums.{fails_before_first}
use Rattle.std.proofs.lemmas.List.Quantifiers.{position-Some}
use Rattle.pg_types.specs.Lines.{pieces_at}
use Rattle.pg_types.proofs.Pieces.{pieces_at_first, pieces_at_last}
use Rattle.pg_translate.specs.Inside.tables.Checks.{before_empty, pieces_of, spellings_behind, spellings_of_line, unless_blank_end, without_blanks}

-- where the first byte is the delimiter there is no piece
pub pieces_empty : (delimiter : ℕ) (rest : List ℕ) → position (λ b. b == delimiter) rest ≡ Some 0 → pieces_of delimiter rest ≡ []
pieces_empty delimiter [] found = refl
pieces_empty delimiter (b ∷ bs) found =
    let first : (0 < length (b ∷ bs)) × ((b == delimiter) ≡ true) × ((k : ℕ) → k < 0 → (get_or (b ∷ bs) k 0 == delimiter) ≡ false) = position-Some (λ b. b == delimiter) (b ∷ bs) 0 0 found in
    rw first.1 refl

-- at the first delimiter a piece ends
pub pieces_found : (delimiter : ℕ) (rest : List ℕ) (end : ℕ) → position (λ b. b == delimiter) rest ≡ Some end → 0 < end → pieces_of delimiter rest
    ≡ take end rest ∷ pieces_of delimiter (take (length rest - (end + 1)) (drop (end + 1) rest))
pieces_found delimiter [] end found some = absurd (cc)
pieces_found delimiter (b ∷ bs) zero found some = absurd (omega arith)
pieces_found delimiter (b ∷ bs) (suc end) found some =
    let first : (suc end < length (b ∷ bs)) × ((get_or (b ∷ bs) (suc end) 0 == delimiter) ≡ true) × ((k : ℕ) → k < suc end → (get_or (b ∷ bs) k 0 == delimiter) ≡ false) =
    position-Some (λ b. b == delimiter) (b ∷ bs) (suc end) 0 found in
    let pieces : pieces_at (λ b. b == delimiter) (b ∷ bs) ≡ take (suc end) (b ∷ bs) ∷ pieces_at (λ b. b == delimiter) (drop (suc (suc end)) (b ∷ bs)) =
    pieces_at_first (λ b. b == delimiter) (b ∷ bs) (suc end) first.2 first.0 first.1 in
    let next : suc end + 1 ≡ suc (suc end) = omega arith in
    rw (take_rest (b ∷ bs) (suc end + 1), next) (ap before_empty pieces)

-- a text without delimiter is one piece
pub pieces_last : (delimiter : ℕ) (rest : List ℕ) → position (λ b. b == delimiter) rest ≡ None → (length rest == 0) ≡ false → pieces_of delimiter rest
    ≡ rest ∷ pieces_of delimiter (take (length rest - length rest) (drop (length rest) rest))
pieces_last delimiter [] found some = absurd (cc)
pieces_last delimiter (b ∷ bs) found some =
    let pieces : pieces_at (λ b. b == delimiter) (b ∷ bs) ≡ (b ∷ bs) ∷ [] = pieces_at_last (λ b. b == delimiter) b bs none in
    rw (take_rest (b ∷ bs) (length (b ∷ bs)), drop_all (length (b ∷ bs)) (b ∷ bs) (omega arith)) (ap before_empty pieces)
  where
    past : length (b ∷ bs) ≤ position_or_len (λ b. b == delimiter) (b ∷ bs)
    past = ⊎_elim (λ (yes : nat_lt (position_or_len (λ b. b == delimiter) (b ∷ bs)) (length (b ∷ bs)) ≡ true). absurd (let there = rw yes at found in cc))
        (λ (no : nat_lt (position_or_len (λ b. b == delimiter) (b ∷ bs)) (length (b ∷ bs)) ≡ false). ltb-false _ _ no)
        (cases_Bool (nat_lt (position_or_len (λ b. b == delimiter) (b ∷ bs)) (length (b ∷ bs))))

    none : (j : ℕ) → j < length (b ∷ bs) → (get_or (b ∷ bs) j 0 == delimiter) ≡ false
    none j below = fails_before_first (λ b. b == delimiter) (b ∷ bs) j 0 (omega (arith, past))

-- an empty text has no piece
pub no_piece : (delimiter : ℕ) (rest : List ℕ) → (length rest == 0) ≡ true → pieces_of delimiter rest ≡ []
no_piece delimiter [] none = refl
no_piece delimiter (b ∷ bs) none = absurd (let no : length (b ∷ bs) ≡ 0 = eqb-true _ _ none in omega arith)

-- a piece is not empty, and no longer with what follows it than what it is cut from
pub record IsPiece (rest piece after : List ℕ) : Type 0 where
  pub some : 0 < length piece
  pub shorter : length piece + length after ≤ length rest

-- the piece before a delimiter
pub piece_found : (delimiter : ℕ) (rest : List ℕ) (end : ℕ) → position (λ b. b == delimiter) rest ≡ Some end → 0 < end
    → IsPiece rest (take end rest) (take (length rest - (end + 1)) (drop (end + 1) rest))
piece_found delimiter rest end found some =
    let within : end < length rest = (position-Some (λ b. b == delimiter) rest end 0 found).0 in
    record {
      some = omega (arith, length-take-le end rest (omega arith));
      shorter = omega (
        arith,
        length-take-le end rest (omega arith),
        ap (λ (xs : List ℕ). length xs) (take_rest rest (end + 1)),
        length-drop (end + 1) rest,
      );
    }

-- the last piece
pub piece_last : (rest : List ℕ) → (length rest == 0) ≡ false → IsPiece rest rest (take (length rest - length rest) (drop (length rest) rest))
piece_last [] some = absurd (let wrong : true ≡ false = some in cc)
piece_last (b ∷ bs) some = record {
  some = omega arith;
  shorter = rw (take_rest (b ∷ bs) (length (b ∷ bs)), drop_all (length (b ∷ bs)) (b ∷ bs) (omega arith)) (omega arith);
}

-- a blank at the end is dropped
trim_blank : (line : List ℕ) → without_blanks (line ++ 32 ∷ []) ≡ without_blanks line
trim_blank [] = refl
trim_blank (b ∷ bs) = ap (unless_blank_end b) (trim_blank bs)

-- another byte at the end ends the line
trim_other : (line : List ℕ) (b : ℕ) → (b == 32) ≡ false → without_blanks (line ++ b ∷ []) ≡ line ++ b ∷ []
trim_other [] b other = rw other refl
trim_other (x ∷ xs) b other = ap (unless_blank_end x) (trim_other xs b other) ∙ whole xs
  where
    whole : (xs : List ℕ) → unless_blank_end x (xs ++ b ∷ []) ≡ x ∷ (xs ++ b ∷ [])
    whole [] = refl
    whole (y ∷ ys) = refl

-- a step of the trim from the end
pub trim_more : (line : List ℕ) (end : ℕ) → 0 < end → end ≤ length line → get_or line (end - 1) 0 ≡ 32 → without_blanks (take end line) ≡ without_blanks (take (end - 1) line)
trim_more line end some within blank =
    let front : take (end - 1 + 1) line ≡ take (end - 1) line ++ get_or line (end - 1) 0 ∷ [] = take_more line (end - 1) 0 (omega arith) in
    let same : end - 1 + 1 ≡ end = omega arith in
    ap without_blanks (subst (λ (n : ℕ). take n line ≡ take (end - 1) line ++ get_or line (end - 1) 0 ∷ []) same front)
    ∙ ap (λ (b : ℕ). without_blanks (take (end - 1) line ++ b ∷ [])) blank ∙ trim_blank (take (end - 1) line)

-- the end of the trim
pub trim_end : (line : List ℕ) (end : ℕ) → 0 < end → end ≤ length line → (get_or line (end - 1) 0 == 32) ≡ false → without_blanks (take end line) ≡ take end line
trim_end line end some within other =
    let front : take (end - 1 + 1) line ≡ take (end - 1) line ++ get_or line (end - 1) 0 ∷ [] = take_more line (end - 1) 0 (omega arith) in
    let same : end - 1 + 1 ≡ end = omega arith in
    let whole : take end line ≡ take (end - 1) line ++ get_or line (end - 1) 0 ∷ [] = subst (λ (n : ℕ). take n line ≡ take (end - 1) line ++ get_or line (end - 1) 0 ∷ []) same front in
    rw whole (trim_other (take (end - 1) line) (get_or line (end - 1) 0) other)

-- nothing is left of a line of blanks
pub trim_none : (line : List ℕ) (end : ℕ) → end ≡ 0 → without_blanks (take end line) ≡ take end line
trim_none line end none = rw none refl

-- a line of blanks has no spelling
pub no_spelling : (line letter : ℕ) (text trimmed : List ℕ) → trimmed ≡ without_blanks text → (length trimmed == 0) ≡ true → spellings_of_line line letter text ≡ []
no_spelling line letter text [] is none = rw (← is) refl
no_spelling line letter text (b ∷ bs) is none = absurd (let no : length (b ∷ bs) ≡ 0 = eqb-true _ _ none in omega arith)

-- the spellings of a line, behind the delimiter that it begins with
pub spellings_of_rest : (line letter n : ℕ) (text trimmed : List ℕ) → trimmed ≡ without_blanks text → (length trimmed == 0) ≡ false → letter ≡ n
    → spellings_behind line (letter + 1) (get_or trimmed 0 0) (take (length trimmed - 1) (drop 1 trimmed)) ≡ spellings_of_line line (n + 1) text
spellings_of_rest line letter n text [] is some same = absurd (let wrong : true ≡ false = some in cc)
spellings_of_rest line letter n text (b ∷ bs) is some same = rw (← is, take_rest (b ∷ bs) 1, same) refl
