-- Worked rows of the first false line.
use Rattle.std.proofs.Common.{◌≡◌, ◌∷◌, [], refl, None, Some}
use Rattle.std.specs.Prelude.{codes}
use Rattle.pg_audit.specs.Differences.{first_false, whole_lines}

-- lines keep LF and CR, and a last piece is a line
cut_row : whole_lines (codes "ab\r\n\nc") ≡ codes "ab\r\n" ∷ codes "\n" ∷ codes "c" ∷ []
cut_row = refl

equal_row : first_false (codes "a\nb\n") (codes "a\nb\n") ≡ None
equal_row = refl

-- a line too few, one too many, the last LF missing, a CR, a blank
missing_row : first_false (codes "a\n") (codes "a\nb\n") ≡ Some (2, [])
missing_row = refl

more_row : first_false (codes "a\nb\nc\n") (codes "a\nb\n") ≡ Some (3, codes "c\n")
more_row = refl

unended_row : first_false (codes "a\nb") (codes "a\nb\n") ≡ Some (2, codes "b")
unended_row = refl

return_row : first_false (codes "a\r\nb\n") (codes "a\nb\n") ≡ Some (1, codes "a\r\n")
return_row = refl

blank_row : first_false (codes "a\nb \n") (codes "a\nb\n") ≡ Some (2, codes "b \n")
blank_row = refl

empty_row : first_false [] (codes "a\n") ≡ Some (1, [])
empty_row = refl
