-- The lines of a file together have at most its bytes.
use Rattle.std.proofs.Common.{◌≡◌, ℕ, ◌+◌, ◌-◌, ◌≤◌, ◌==◌, Bool, true, false, if◌then◌else◌, List, [], ◌∷◌, length, take, map, slice_index, refl, arith}
use Rattle.std.specs.List.{onto_first, sum_by}
use Rattle.std.proofs.lemmas.List.Sums.{sum_by-cons}
use Rattle.std.proofs.lemmas.List.{length-take}
use Rattle.pg_types.specs.Lines.{pieces_at, is_line_feed, lines}
use Rattle.pg_types.specs.Inside.reading.LineEnds.{without_cr}

-- how many bytes some texts have together
abbrev pub size_of : List (List ℕ) → ℕ
size_of texts = sum_by length texts

pub size_of-cons : (text : List ℕ) (texts : List (List ℕ)) → size_of (text ∷ texts) ≡ length text + size_of texts
size_of-cons text texts = sum_by-cons length text texts

-- a byte more
pub size_of-onto_first : (b : ℕ) (texts : List (List ℕ)) → size_of (onto_first b texts) ≡ size_of texts + 1
size_of-onto_first b [] = refl
size_of-onto_first b (text ∷ texts) = omega (arith, size_of-cons (b ∷ text) texts, size_of-cons text texts)

-- pieces
pub size_of-pieces : (test : ℕ → Bool) (bytes : List ℕ) → size_of (pieces_at test bytes) ≤ length bytes
size_of-pieces test [] = omega arith
size_of-pieces test (b ∷ bs) =
    let rest : size_of (pieces_at test bs) ≤ length bs = size_of-pieces test bs in
    elim (test b) as (λ (v : Bool). size_of (if v then [] ∷ pieces_at test bs else onto_first b (pieces_at test bs)) ≤ length (b ∷ bs)) [
      | true ↦ omega (arith, size_of-cons [] (pieces_at test bs))
      | false ↦ omega (arith, size_of-onto_first b (pieces_at test bs))
    ]

-- a line without its CR is no longer
pub length-without_cr : (line : List ℕ) → length (without_cr line) ≤ length line
length-without_cr line =
    elim (slice_index line (length line - 1) == 13) as (λ (v : Bool). length (if v then take (length line - 1) line else line) ≤ length line) [
      | true ↦ omega (arith, length-take (length line - 1) line)
      | false ↦ omega arith
    ]

-- lines
pub size_of-without_cr : (texts : List (List ℕ)) → size_of (map without_cr texts) ≤ size_of texts
size_of-without_cr [] = omega arith
size_of-without_cr (text ∷ texts) = omega (arith, size_of-without_cr texts, length-without_cr text, size_of-cons text texts, size_of-cons (without_cr text) (map without_cr texts))

pub size_of-lines : (bytes : List ℕ) → size_of (lines bytes) ≤ length bytes
size_of-lines bytes = omega (arith, size_of-without_cr (pieces_at is_line_feed bytes), size_of-pieces is_line_feed bytes)
