-- What is printed of a found line hangs on its first bytes alone.
use Rattle.std.proofs.Common.{◌≡◌, ℕ, ◌+◌, ◌-◌, ◌<◌, ◌≤◌, Bool, true, nat_lt, cond, List, [], ◌∷◌, ◌++◌, length, take, codes, refl, sym, ap, ◌∙◌, arith, inl, inr, Option, None, Some, option_map}
use Rattle.std.specs.Prelude.{slice_index}
use Rattle.std.proofs.lemmas.Bool.{cases_Bool}
use Rattle.std.proofs.lemmas.Bool.Decides.{nat_tests}
use Rattle.std.proofs.lemmas.List.{take_all, length-take}
use Rattle.pg_types.specs.Lines.{is_line_feed}
use Rattle.pg_audit.specs.Differences.{first_false}
use Rattle.pg_audit.specs.FoundLines.{found_text}
use Rattle.pg_audit.specs.declared.lines.TheConstants.{SHOWN_MAX}
use Rattle.pg_audit.specs.Inside.FirstFalse.{shown_difference, printed_of}
use Rattle.pg_audit.proofs.FirstPart.{take_within, first_part}

-- whether a line has its line feed, and the line without it
abbrev has_feed : List ℕ → Bool
has_feed line = is_line_feed (slice_index line (length line - 1))

abbrev without_feed : List ℕ → List ℕ
without_feed line = cond (has_feed line) (take (length line - 1) line) line

-- a line has at most one byte more than without its line feed
feed_is_one : (line : List ℕ) → length line ≤ length (without_feed line) + 1
feed_is_one line = elim (cases_Bool (has_feed line)) [ inl feed ↦ rw (feed, length-take) (omega arith) | inr none ↦ rw none (omega arith) ]

-- of a line with more bytes than are shown, and one for its line feed, the first ones are printed
long_line : (line : List ℕ) → SHOWN_MAX + 1 < length line → found_text line ≡ codes " begins " ++ take SHOWN_MAX line
long_line [] long = absurd (omega arith)
long_line (b ∷ bs) long =
    let one = feed_is_one (b ∷ bs) in
    let test : nat_lt SHOWN_MAX (length (without_feed (b ∷ bs))) ≡ true = grind (arith, nat_tests) in
    rw test refl

-- the first bytes of a line print as the line, where they are so many
part_prints : (n : ℕ) (line : List ℕ) → SHOWN_MAX + 2 ≤ n → found_text (take n line) ≡ found_text line
part_prints n line enough = elim (cases_Bool (nat_lt n (length line))) [
  | inl longer ↦
      let more : n < length line = grind (arith, nat_tests) in
      let size = length-take n line in
      long_line (take n line) (omega arith) ∙ ap (λ front. codes " begins " ++ front) (take_within SHOWN_MAX n line (omega arith)) ∙ sym (long_line line (omega arith))
  | inr within ↦ let few : length line ≤ n = grind (arith, nat_tests) in ap found_text (take_all n line few)
]

-- lines with the same first bytes print the same
same_printed : (n : ℕ) (f g : List ℕ) → SHOWN_MAX + 2 ≤ n → take n f ≡ take n g → found_text f ≡ found_text g
same_printed n f g enough same = sym (part_prints n f enough) ∙ ap found_text same ∙ part_prints n g enough

same_differences : (n : ℕ) (a b : Option (ℕ × List ℕ)) → SHOWN_MAX + 2 ≤ n → option_map (shown_difference n) a ≡ option_map (shown_difference n) b → option_map printed_of a ≡ option_map printed_of b
same_differences n None None enough same = refl
same_differences n None (Some b) enough same = cc
same_differences n (Some a) None enough same = cc
same_differences n (Some a) (Some b) enough same =
    let parts : shown_difference n a ≡ shown_difference n b = cc in
    let line : a.0 ≡ b.0 = ap (λ (d : ℕ × List ℕ). d.0) parts in
    let bytes : take n a.1 ≡ take n b.1 = ap (λ (d : ℕ × List ℕ). d.1) parts in
    let found : found_text a.1 ≡ found_text b.1 = same_printed n a.1 b.1 enough bytes in
    cc

-- of a longer file the first part prints the same false line as the whole
pub part_printed : (given wanted : List ℕ) (more : ℕ) → SHOWN_MAX < more → length wanted + more < length given
    → option_map printed_of (first_false (take (length wanted + (more + 1)) given) wanted) ≡ option_map printed_of (first_false given wanted)
part_printed given wanted more enough longer = same_differences (more + 1) (first_false (take (length wanted + (more + 1)) given) wanted)
    (first_false given wanted) (omega arith) (first_part given wanted more longer)
