-- The checks of one spelling: which one fails, or that all pass.
use Rattle.std.proofs.Common.{◌≡◌, ℕ, ◌<◌, ◌≤◌, nat_lt, true, false, List, [], ◌∷◌, length, Ok, Err, refl, arith}
use Rattle.std.proofs.lemmas.Bool.{and_parts, leb-true}
use Rattle.std.specs.List.{list_any}
use Rattle.pg_types.specs.declared.limits.TheConstants.{SIGNS_MAX}
use Rattle.pg_types.specs.declared.refusals.Kind.TheVariants.{TooManyLetters, BadSpelling, SpellingClash}
use Rattle.pg_types.specs.ValuesOrRefusals.{refusal_at}
use Rattle.pg_translate.specs.declared.spellings.TheConstants.{SPELLING_MAX}
use Rattle.pg_translate.specs.Spellings.{is_spelling, clash}
use Rattle.pg_translate.specs.Tables.{ListedSpelling, spelling_check}
use Rattle.pg_translate.specs.Inside.tables.Checks.{first_failure}

module _ (marks : List ℕ) (earlier : List (ℕ × List ℕ)) (s : ListedSpelling) where
  -- there are too many letters
  pub many_letters : nat_lt SIGNS_MAX s.spelling.0 ≡ true → first_failure (spelling_check marks earlier s) ≡ Err (refusal_at s.line TooManyLetters 1)
  many_letters many = rw many refl

  -- the text may be no spelling
  pub bad_spelling : nat_lt SIGNS_MAX s.spelling.0 ≡ false → is_spelling marks s.spelling.1 ≡ false → first_failure (spelling_check marks earlier s) ≡ Err (refusal_at s.line BadSpelling s.column)
  bad_spelling few bad = rw (few, bad) refl

  -- the spelling clashes with an earlier one
  pub clashing : nat_lt SIGNS_MAX s.spelling.0 ≡ false → is_spelling marks s.spelling.1 ≡ true → list_any (clash (s.spelling)) earlier ≡ true
      → first_failure (spelling_check marks earlier s) ≡ Err (refusal_at s.line SpellingClash s.column)
  clashing few good clashes = rw (few, good, clashes) refl

  -- all checks pass
  pub passing : nat_lt SIGNS_MAX s.spelling.0 ≡ false → is_spelling marks s.spelling.1 ≡ true → list_any (clash (s.spelling)) earlier ≡ false
      → first_failure (spelling_check marks earlier s) ≡ Ok tt
  passing few good apart = rw (few, good, apart) refl

-- a spelling has a byte
pub spelling_some : (marks text : List ℕ) → is_spelling marks text ≡ true → 0 < length text
spelling_some marks [] is = absurd (let wrong : false ≡ true = is in cc)
spelling_some marks (b ∷ bs) is = omega arith

-- a spelling is short
pub spelling_few : (marks text : List ℕ) → is_spelling marks text ≡ true → length text ≤ SPELLING_MAX
spelling_few marks text is = leb-true (length text) SPELLING_MAX (and_parts _ _ (and_parts _ _ is).0).0
