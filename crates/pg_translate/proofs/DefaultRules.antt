-- The default table keeps the rules.
use Rattle.std.proofs.Common.{◌≡◌, ℕ, zero, suc, ◌+◌, ◌<◌, ◌≤◌, ◌==◌, Bool, true, false, not, List, [], ◌∷◌, find, Option, Some, option_map, refl, sym, ap, ◌∙◌, arith}
use Rattle.std.specs.Prelude.{nat_lt, nat_le, cond}
use Rattle.std.specs.List.{list_all, flat_map, range_with_len}
use Rattle.std.proofs.lemmas.Bool.{eqb-false, ltb-true, leb-true}
use Rattle.pg_translate.specs.Inside.spellings.FirstSpellings.{first_of}
use Rattle.pg_translate.specs.Inside.tables.Rules.{KeepsRules}
use Rattle.pg_translate.specs.Spellings.{is_spelling, clash}
use Rattle.pg_translate.specs.Tables.{default_alphabet}
use Rattle.pg_translate.specs.Inside.tables.Checks.{default_letter}
use Rattle.pg_translate.specs.declared.head.TheConstants.{A_TO_Z}
use Rattle.pg_translate.proofs.RuleLaws.{list_all_at, first_is_among}

-- each letter of a range has a first spelling
abbrev HasFirst : ℕ → ℕ → ℕ → Type 0
HasFirst a n sign = (text : List ℕ) × (first_of (flat_map default_letter (range_with_len a n)) sign ≡ Some text)

first_in : (n a sign : ℕ) → a + 2 ≤ sign → sign < a + n + 2 → HasFirst a n sign
first_in zero a sign low high = absurd (omega arith)
first_in (suc n) a sign low high = by_test (a + 2 == sign) refl (λ (other : (a + 2 ≡ sign) → ⊥). first_in n (a + 1) sign (omega (arith, other)) (omega arith))
  where
    by_test : (b : Bool) → b ≡ (a + 2 == sign) → (((a + 2 ≡ sign) → ⊥) → HasFirst (a + 1) n sign) → HasFirst a (suc n) sign
    by_test true is later = ((97 + a) ∷ [], rw (sym is) refl)
    by_test false is later =
        let more = later (eqb-false (a + 2) sign (sym is)) in
        let behind : Option (ℕ × List ℕ) = find (λ s. s.0 == sign) (flat_map default_letter (range_with_len (a + 1) n)) in
        let passed : Bool → Option (List ℕ) = λ test. option_map (λ s. s.1) (cond test (Some (a + 2, (97 + a) ∷ [])) (cond test (Some (a + 2, (65 + a) ∷ [])) behind)) in
        (more.0, ap passed (sym is) ∙ more.1)

pub default_keeps : KeepsRules default_alphabet
default_keeps = record {
  left_some = omega arith;
  left_few = omega arith;
  right_some = omega arith;
  right_few = omega arith;
  four = refl;
  marks_pass = refl;
  letters_few = omega arith;
  signs_low = λ s among. ltb-true 1 s.0 (list_all_at (λ s. nat_lt 1 s.0) default_alphabet.spellings s refl among);
  signs_high = λ s among. leb-true s.0 27 (list_all_at (λ s. nat_le s.0 27) default_alphabet.spellings s refl among);
  spelled = λ s among. list_all_at (λ s. is_spelling default_alphabet.marks s.1) default_alphabet.spellings s refl among;
  apart = λ s r here there. not_true (clash s r) (list_all_at (λ r. not (clash s r)) default_alphabet.spellings r
      (list_all_at (λ s. list_all (λ r. not (clash s r)) default_alphabet.spellings) default_alphabet.spellings s refl here) there);
  each = λ sign low high. let first = first_in A_TO_Z 0 sign (omega arith) (omega arith) in first_is_among default_alphabet.spellings sign first.0 first.1;
}
  where
    not_true : (b : Bool) → not b ≡ true → b ≡ false
    not_true true is = cc
    not_true false is = refl
