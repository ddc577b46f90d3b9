-- Lines and parameters of small files, computed on their definitions.
use Rattle.std.proofs.Common.{◌≡◌, ℕ, List, [], ◌∷◌, ◌++◌, Ok, Err, codes, refl}
use Rattle.pg_types.specs.declared.refusals.Kind.{Kind}
use Rattle.pg_types.specs.declared.refusals.Kind.TheVariants.{BadNumber, OutOfRange, Missing, Extra}
use Rattle.pg_types.specs.Lines.{lines}
use Rattle.pg_types.specs.Parameters.{parameters}
use Rattle.pg_types.specs.ValuesOrRefusals.{refusal_at}

-- an LF ends a line, one CR before it goes, and a last piece is a line too
lf_and_cr : lines (codes "a" ++ 10 ∷ 13 ∷ 10 ∷ codes "b" ++ 13 ∷ 13 ∷ 10 ∷ codes "c") ≡ codes "a" ∷ [] ∷ (codes "b" ++ 13 ∷ []) ∷ codes "c" ∷ []
lf_and_cr = refl

cr_at_the_end : lines (codes "a" ++ 13 ∷ []) ≡ codes "a" ∷ []
cr_at_the_end = refl

lone_cr : lines (13 ∷ []) ≡ [] ∷ []
lone_cr = refl

no_line : lines [] ≡ []
no_line = refl

-- one level
one_level : parameters (codes "1 1 2 2 1 1 2") ≡ Ok (record { start = 1; finish = 1; levels = record { pat_start = 2; pat_finish = 2; good_wt = 1; bad_wt = 1; thresh = 2 } ∷ [] })
one_level = refl

-- no level where the last is less than the first
no_level : parameters (codes "2 1") ≡ Ok (record { start = 2; finish = 1; levels = [] })
no_level = refl

-- an answer of patgen's last question may follow
with_answer : parameters (codes "2 1 y" ++ 10 ∷ []) ≡ Ok (record { start = 2; finish = 1; levels = [] })
with_answer = refl

-- leading zeros, TAB, CR and LF
separators : parameters (codes "002" ++ 9 ∷ 13 ∷ 10 ∷ 10 ∷ codes "1") ≡ Ok (record { start = 2; finish = 1; levels = [] })
separators = refl

abbrev fails_with : List ℕ → Kind → ℕ → Type 0
fails_with bytes kind i = parameters bytes ≡ Err (refusal_at i kind 0)

weight_of_0 : fails_with (codes "1 1 2 2 1 0 5") OutOfRange 6
weight_of_0 = refl

no_threshold : fails_with (codes "1 1 2 2 1 1") Missing 7
no_threshold = refl

no_item : fails_with [] Missing 1
no_item = refl

no_answer : fails_with (codes "2 1 x") Extra 3
no_answer = refl

two_answers : fails_with (codes "2 1 y y") Extra 4
two_answers = refl

sign_before_number : fails_with (codes "+1 1") BadNumber 1
sign_before_number = refl

letter_behind_number : fails_with (codes "1 1x") BadNumber 2
letter_behind_number = refl

answer_for_number : fails_with (codes "1 1 2 y") BadNumber 4
answer_for_number = refl

finish_before_start : fails_with (codes "1 1 3 2 1 1 1") OutOfRange 4
finish_before_start = refl

level_past_nine : fails_with (codes "1 10") OutOfRange 2
level_past_nine = refl

thirty_digits : fails_with (codes "999999999999999999999999999999 1") OutOfRange 1
thirty_digits = refl

length_past_fifteen : fails_with (codes "1 1 1 16 1 1 1") OutOfRange 4
length_past_fifteen = refl

second_level : fails_with (codes "1 2 1 1 1 1 1 1 1 1 1") Missing 12
second_level = refl
