-- Printed lines, which are appended piece by piece.
use Rattle.std.proofs.Common.{◌≡◌, ℕ, List, [], ◌++◌, append_assoc}

-- the line `done:`, with a number, the totals and an end, in an empty text
pub done_pieces : (d n p t e line one two three all : List ℕ) → line ≡ [] → one ≡ line ++ d ++ n → two ≡ one ++ p → three ≡ two ++ t → all ≡ three ++ e
    → all ≡ d ++ n ++ p ++ t ++ e
done_pieces d n p t e line one two three all is first second third last = rw (last, third, second, first, is) (simp append_assoc)

-- the line `work:`, with a number and a layout
pub work_pieces : (old w n p l one two all : List ℕ) → one ≡ old ++ w ++ n → two ≡ one ++ p → all ≡ two ++ l → all ≡ old ++ (w ++ n ++ p ++ l)
work_pieces old w n p l one two all first second last = rw (last, second, first) (simp append_assoc)
