-- A text without a line feed, and with one behind it, is a line of its file.
use Rattle.std.proofs.Common.{◌≡◌, ℕ, ◌-◌, ◌==◌, Bool, true, false, cond, not, ◌||◌, List, [], ◌∷◌, ◌++◌, length, map, take, slice_index, zero, suc, refl, ap, ◌∙◌}
use Rattle.std.specs.List.{list_all, list_any, onto_first}
use Rattle.std.proofs.lemmas.Bool.{and_parts, and_from, or_parts, not-true}
use Rattle.pg_types.specs.Lines.{pieces_at, is_line_feed, lines}
use Rattle.pg_types.specs.Inside.reading.LineEnds.{without_cr}
use Rattle.pg_translate.specs.Spellings.{is_space}

-- the pieces of a text without a line feed, and what stands behind its line feed
pub pieces_of_line : (text more : List ℕ) → list_all (λ b. not (is_line_feed b)) text ≡ true → pieces_at is_line_feed (text ++ 10 ∷ more) ≡ text ∷ pieces_at is_line_feed more
pieces_of_line [] more whole = refl
pieces_of_line (b ∷ bs) more whole =
    let p = and_parts (not (is_line_feed b)) (list_all (λ b. not (is_line_feed b)) bs) whole in
    ap (λ (test : Bool). cond test ([] ∷ pieces_at is_line_feed (bs ++ 10 ∷ more)) (onto_first b (pieces_at is_line_feed (bs ++ 10 ∷ more)))) (not-true (is_line_feed b) p.0)
    ∙ ap (onto_first b) (pieces_of_line bs more p.1)

-- a text without a blank, a TAB, an LF and a CR holds no line feed, and no CR at its end
pub unbroken_feed : (text : List ℕ) → list_any is_space text ≡ false → list_all (λ b. not (is_line_feed b)) text ≡ true
unbroken_feed [] unbroken = refl
unbroken_feed (b ∷ bs) unbroken =
    let parts = or_parts (is_space b) (list_any is_space bs) unbroken in
    let feed : (b == 10) ≡ false = (or_parts (b == 32 || b == 9) (b == 10) (or_parts ((b == 32 || b == 9) || b == 10) (b == 13) parts.0).0).1 in
    and_from _ _ (ap not feed) (unbroken_feed bs parts.1)

pub unbroken_return : (text : List ℕ) (i : ℕ) → list_any is_space text ≡ false → (slice_index text i == 13) ≡ false
unbroken_return [] i unbroken = refl
unbroken_return (b ∷ bs) zero unbroken = (or_parts ((b == 32 || b == 9) || b == 10) (b == 13) (or_parts (is_space b) (list_any is_space bs) unbroken).0).1
unbroken_return (b ∷ bs) (suc i) unbroken = unbroken_return bs i (or_parts (is_space b) (list_any is_space bs) unbroken).1

-- so it is a line
pub lines_of_text : (text more : List ℕ) → list_any is_space text ≡ false → lines (text ++ 10 ∷ more) ≡ text ∷ lines more
lines_of_text text more unbroken =
    ap (map without_cr) (pieces_of_line text more (unbroken_feed text unbroken))
    ∙ ap (λ (test : Bool). cond test (take (length text - 1) text) text ∷ lines more) (unbroken_return text (length text - 1) unbroken)
