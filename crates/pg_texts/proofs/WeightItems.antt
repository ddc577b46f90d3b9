-- A weight that is written is an item of a dictionary line.
use Rattle.std.proofs.Common.{◌≡◌, ℕ, ◌+◌, ◌/◌, ◌%◌, ◌<◌, ◌≤◌, ◌^◌, ◌==◌, true, nat_lt, List, [], ◌∷◌, ◌++◌, map, codes, decimal, refl, arith, inl, inr}
use Rattle.std.specs.Prelude.{if◌then◌else◌}
use Rattle.std.specs.Char.{is_ascii_digit}
use Rattle.std.specs.List.{list_all, AllByRecursion}
use Rattle.std.proofs.lemmas.Bool.{cases_Bool}
use Rattle.std.proofs.lemmas.Bool.Decides.{nat_tests}
use Rattle.std.proofs.lemmas.Fmt.{decimal_digit, decimal_by_steps, length-decimal-le}
use Rattle.std.proofs.lemmas.List.Sums.{fold-append}
use Rattle.std.proofs.lemmas.List.Folds.{list_all-append}
use Rattle.pg_types.specs.declared.limits.TheConstants.{WEIGHT_MAX}
use Rattle.pg_translate.specs.Alphabets.{Alphabet}
use Rattle.pg_translate.specs.Tokens.{Token, Digit, Weight}
use Rattle.pg_types.specs.Numbers.{with_digit}
use Rattle.pg_translate.specs.Inside.items.Items.{IsItem, decimal_value}
use Rattle.pg_translate.specs.declared.items.Place.TheVariants.{Dictionary}
use Rattle.pg_dict.specs.Inside.WrittenWords.{number_token, weight_tokens}

-- digits that write a number
record Writes (n : ℕ) (text : List ℕ) : Type 0 where
  digits : list_all is_ascii_digit text ≡ true
  value : n ≡ decimal_value text

one_digit : (n : ℕ) → n < 10 → is_ascii_digit (48 + n) ≡ true
one_digit n low = grind (arith, nat_tests)

writes_one : (n : ℕ) → n < 10 → Writes n ((48 + n) ∷ [])
writes_one n low = record { digits = rw (one_digit n low) refl; value = omega arith }

writes_more : (n : ℕ) (ds : List ℕ) → 10 ≤ n → Writes (n / 10) ds → Writes n (ds ++ ((48 + n % 10) ∷ []))
writes_more n ds high front = record {
  digits = rw (list_all-append is_ascii_digit ds ((48 + n % 10) ∷ []), front.digits, one_digit (n % 10) (omega arith)) refl;
  value = rw (fold-append with_digit 0 ds ((48 + n % 10) ∷ []), ← front.value) (omega arith);
}

decimal_writes : (n : ℕ) → n < 2 ^ 64 → Writes n (decimal n)
decimal_writes n small = decimal_by_steps Writes writes_one writes_more n small

-- a weight: a digit, or a greater number in braces
abbrev pub number_text : ℕ → List ℕ
number_text n = if nat_lt n 10 then decimal n else codes "{" ++ decimal n ++ codes "}"

-- the item of a weight that differs from another
abbrev pub weight_items : ℕ → ℕ → List (Token × List ℕ)
weight_items other weight = if weight == other then [] else (number_token weight, number_text weight) ∷ []

pub weight_items_tokens : (other weight : ℕ) → map (λ item. item.0) (weight_items other weight) ≡ weight_tokens other weight
weight_items_tokens other weight = elim (cases_Bool (weight == other)) [ inl same ↦ rw same refl | inr differs ↦ rw differs refl ]

few_item : (t : Alphabet) (weight : ℕ) → weight < 10 → IsItem t Dictionary (Digit weight) (decimal weight)
few_item t weight low = (omega arith, decimal_digit weight low)

braces_item : (t : Alphabet) (weight : ℕ) → weight ≤ WEIGHT_MAX → 10 ≤ weight → IsItem t Dictionary (Weight weight) (codes "{" ++ decimal weight ++ codes "}")
braces_item t weight small high =
    let written : Writes weight (decimal weight) = decimal_writes weight (omega arith) in
    record { digits = decimal weight; text_is = refl; few = length-decimal-le 4 weight (omega arith) (omega arith) (omega arith); decimal = written.digits; value = written.value; some = omega arith }

number_item : (t : Alphabet) (weight : ℕ) → weight ≤ WEIGHT_MAX → IsItem t Dictionary (number_token weight) (number_text weight)
number_item t weight small = elim (cases_Bool (nat_lt weight 10)) [
  | inl low ↦ rw low (few_item t weight (grind (arith, nat_tests)))
  | inr high ↦ rw high
      (braces_item t weight small (grind (arith, nat_tests)))
]

pub weight_items_each : (t : Alphabet) (other weight : ℕ) → weight ≤ WEIGHT_MAX → AllByRecursion (λ item. IsItem t Dictionary item.0 item.1) (weight_items other weight)
weight_items_each t other weight small = elim (cases_Bool (weight == other)) [ inl same ↦ rw same tt | inr differs ↦ rw differs (number_item t weight small, tt) ]
