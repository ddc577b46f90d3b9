-- Printable lines, joined.
use Rattle.std.proofs.Common.{◌≡◌, ◌<◌, ◌+◌, ℕ, true, List, [], ◌∷◌, ◌++◌, refl, arith, append_assoc}
use Rattle.std.specs.List.{list_all}
use Rattle.std.proofs.lemmas.List.Folds.{list_all-append}
use Rattle.std.proofs.lemmas.List.Sums.{sum_by-append}
use Rattle.std.proofs.Math.Seq.{get_or-append_seam}
use Rattle.std.proofs.lemmas.Grind.{common_steps}
use Rattle.pg_visible.specs.declared.text.TheConstants.{LINES_MAX}
use Rattle.pg_visible.specs.Inside.Bytes.{is_printable, is_text_byte, line_count}
use Rattle.pg_visible.specs.Inside.Texts.{IsVisibleText}

-- printable bytes are bytes of a text
pub text_bytes : (l : List ℕ) → list_all is_printable l ≡ true → list_all is_text_byte l ≡ true
text_bytes [] h = refl
text_bytes (b ∷ bs) h = grind (arith, common_steps, text_bytes bs)

-- they end no line
pub no_line : (l : List ℕ) → list_all is_printable l ≡ true → line_count l ≡ 0
no_line [] h = refl
no_line (b ∷ bs) h = grind (arith, common_steps, no_line bs)

-- lines are counted part by part
pub count-append : (xs ys : List ℕ) → line_count (xs ++ ys) ≡ line_count xs + line_count ys
count-append xs ys = sum_by-append _ xs ys

-- a text with a line behind it
pub with_line : (t l : List ℕ) (n : ℕ) → IsVisibleText t → line_count t ≡ n → n < LINES_MAX → list_all is_printable l ≡ true → IsVisibleText (t ++ (l ++ 10 ∷ []))
    × (line_count (t ++ (l ++ 10 ∷ [])) ≡ n + 1)
with_line t l n e counted few h =
    let count : line_count (t ++ (l ++ 10 ∷ [])) ≡ n + 1 = grind (arith, count-append t (l ++ 10 ∷ []), count-append l (10 ∷ []), no_line l h) in (
      record {
        printable = rw (list_all-append is_text_byte t (l ++ 10 ∷ []), list_all-append is_text_byte l (10 ∷ []), e.printable, text_bytes l h) refl;
        whole = grind (arith, common_steps, append_assoc t l (10 ∷ []), get_or-append_seam (10 ∷ t ++ l) 10 [] 0);
        few = omega (arith, count);
      },
      count,
    )
