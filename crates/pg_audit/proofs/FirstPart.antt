-- The first part of a longer file has the first false line of the whole.
use Rattle.std.proofs.Common.{◌≡◌, ℕ, ◌+◌, ◌-◌, ◌<◌, ◌≤◌, true, false, List, [], ◌∷◌, length, take, refl, sym, ap, ◌∙◌, arith, suc, zero, inl, inr, Some, option_map}
use Rattle.std.specs.Str.{bytes_eq}
use Rattle.std.proofs.lemmas.Bool.{cases_Bool}
use Rattle.std.proofs.lemmas.Slice.Eq.{bytes_eq-Decides}
use Rattle.pg_types.specs.Lines.{is_line_feed}
use Rattle.pg_audit.specs.Inside.Cut.{first_whole, rest_whole}
use Rattle.pg_audit.specs.Differences.{difference_from, whole_lines, first_false}
use Rattle.pg_audit.specs.Inside.FirstFalse.{shown_difference}
use Rattle.std.proofs.Math.Seq.{take-nil}
use Rattle.std.proofs.lemmas.List.{take_all, length-take}
use Rattle.pg_audit.proofs.Cuts.{whole_length, first_filled, step_other, step_same}

-- the first line of the first part of a file
part_first : (m : ℕ) (bs : List ℕ) → first_whole (take m bs) ≡ take m (first_whole bs)
part_first zero bs = refl
part_first (suc m) [] = refl
part_first (suc m) (b ∷ bs) = elim (cases_Bool (is_line_feed b)) [
  | inl here ↦ rw here (ap (λ r. b ∷ r) (sym (take-nil m)))
  | inr here ↦ rw here (ap (λ r. b ∷ r) (part_first m bs))
]

-- the rest of the first part, where the first line lies in it
pub part_rest : (m : ℕ) (bs : List ℕ) → length (first_whole bs) ≤ m → rest_whole (take m bs) ≡ take (m - length (first_whole bs)) (rest_whole bs)
part_rest zero [] inside = rw take-nil refl
part_rest zero (b ∷ bs) inside = let filled = first_filled b bs in absurd (omega arith)
part_rest (suc m) [] inside = rw take-nil refl
part_rest (suc m) (b ∷ bs) inside = elim (cases_Bool (is_line_feed b)) [
  | inl here ↦ rw here (ap (λ k. take k bs) (omega arith))
  | inr here ↦
      let less : length (first_whole bs) ≤ m = (let all : length (b ∷ first_whole bs) ≤ suc m = rw here at inside in omega arith) in
      rw here (part_rest m bs less ∙ ap (λ k. take k (rest_whole bs)) (omega arith))
]

-- the first bytes of the first bytes
pub take_within : (k m : ℕ) (xs : List ℕ) → k ≤ m → take k (take m xs) ≡ take k xs
take_within zero m xs within = refl
take_within (suc k) zero xs within = absurd (omega arith)
take_within (suc k) (suc m) [] within = refl
take_within (suc k) (suc m) (x ∷ xs) within = ap (λ r. x ∷ r) (take_within k m xs (omega arith))

-- where the first lines are equal, the part's is the same
same_part : (m b : ℕ) (bs wanted : List ℕ) → length wanted ≤ m → bytes_eq (first_whole (b ∷ bs)) (first_whole wanted) ≡ true → first_whole (b ∷ take m bs) ≡ first_whole (b ∷ bs)
same_part m b bs wanted room same =
    let lines : first_whole (b ∷ bs) ≡ first_whole wanted = (bytes_eq-Decides (first_whole (b ∷ bs)) (first_whole wanted)).0 same in
    let cut = whole_length wanted in
    part_first (suc m) (b ∷ bs) ∙ take_all (suc m) (first_whole (b ∷ bs)) (omega (arith, ap length lines))

-- where they differ, the part's differs too
other_part : (m b : ℕ) (bs wanted : List ℕ) → length wanted ≤ m → bytes_eq (first_whole (b ∷ bs)) (first_whole wanted) ≡ false → bytes_eq (first_whole (b ∷ take m bs)) (first_whole wanted) ≡ false
other_part m b bs wanted room other = elim (cases_Bool (bytes_eq (first_whole (b ∷ take m bs)) (first_whole wanted))) [
  | inr here ↦ here
  | inl same ↦
      let lines : first_whole (b ∷ take m bs) ≡ first_whole wanted = (bytes_eq-Decides (first_whole (b ∷ take m bs)) (first_whole wanted)).0 same in
      let part : take (suc m) (first_whole (b ∷ bs)) ≡ first_whole wanted = sym (part_first (suc m) (b ∷ bs)) ∙ lines in
      let cut = whole_length wanted in
      let few : length (first_whole (b ∷ bs)) ≤ suc m = omega (arith, ap length part, length-take (suc m) (first_whole (b ∷ bs))) in
      let all : first_whole (b ∷ bs) ≡ first_whole wanted = sym (take_all (suc m) (first_whole (b ∷ bs)) few) ∙ part in
      let yes : bytes_eq (first_whole (b ∷ bs)) (first_whole wanted) ≡ true = (bytes_eq-Decides (first_whole (b ∷ bs)) (first_whole wanted)).1 all in
      cc
]

-- the law behind some lines, which have the numbers below n
part_from : (fuel n : ℕ) (given wanted : List ℕ) (more : ℕ) → length given ≤ fuel → length wanted + more < length given
    → option_map (shown_difference (more + 1)) (difference_from n (whole_lines (take (length wanted + (more + 1)) given)) (whole_lines wanted))
    ≡ option_map (shown_difference (more + 1)) (difference_from n (whole_lines given) (whole_lines wanted))
part_from fuel n [] wanted more few longer = absurd (omega arith)
part_from zero n (b ∷ bs) wanted more few longer = absurd (omega arith)
part_from (suc fuel) n (b ∷ bs) wanted more few longer =
    let parts : length wanted + (more + 1) ≡ suc (length wanted + more) = omega arith in
    rw parts (
    elim (cases_Bool (bytes_eq (first_whole (b ∷ bs)) (first_whole wanted))) [
      | inl same ↦
          let lines : first_whole (b ∷ bs) ≡ first_whole wanted = (bytes_eq-Decides (first_whole (b ∷ bs)) (first_whole wanted)).0 same in
          let there : bytes_eq (first_whole (b ∷ take (length wanted + more) bs)) (first_whole wanted) ≡ true = rw (same_part (length wanted + more) b bs wanted (omega arith) same) same in
          let filled = first_filled b bs in
          let cut = whole_length wanted in
          let cut_given = whole_length (b ∷ bs) in
          let less : length (first_whole (b ∷ bs)) ≤ suc (length wanted + more) = omega (arith, ap length lines) in
          let rest_is : rest_whole (b ∷ take (length wanted + more) bs) ≡ take (length (rest_whole wanted) + (more + 1)) (rest_whole (b ∷ bs)) =
          part_rest (suc (length wanted + more)) (b ∷ bs) less ∙ ap (λ k. take k (rest_whole (b ∷ bs))) (omega (arith, ap length lines)) in
          let rest = part_from fuel (n + 1) (rest_whole (b ∷ bs)) (rest_whole wanted) more (omega arith) (omega (arith, ap length lines)) in
          ap (option_map (shown_difference (more + 1))) (step_same n b (take (length wanted + more) bs) wanted there
          ∙ ap (λ r. difference_from (n + 1) (whole_lines r) (whole_lines (rest_whole wanted))) rest_is)
          ∙ rest
          ∙ sym (ap (option_map (shown_difference (more + 1))) (step_same n b bs wanted same))
      | inr other ↦
          let found : take (more + 1) (first_whole (b ∷ take (length wanted + more) bs)) ≡ take (more + 1) (first_whole (b ∷ bs)) =
          ap (take (more + 1)) (part_first (suc (length wanted + more)) (b ∷ bs)) ∙ take_within (more + 1) (suc (length wanted + more)) (first_whole (b ∷ bs)) (omega arith) in
          ap (option_map (shown_difference (more + 1))) (step_other n b (take (length wanted + more) bs) wanted (other_part (length wanted + more) b bs wanted (omega arith) other))
          ∙ ap (λ r. Some (n, r)) found
          ∙ sym (ap (option_map (shown_difference (more + 1))) (step_other n b bs wanted other))
    ])

-- of a longer file the first part has the same false line as the whole
pub first_part : (given wanted : List ℕ) (more : ℕ) → length wanted + more < length given → option_map (shown_difference (more + 1)) (first_false (take (length wanted + (more + 1)) given) wanted)
    ≡ option_map (shown_difference (more + 1)) (first_false given wanted)
first_part given wanted more longer = part_from (length given) 1 given wanted more (omega arith) longer
