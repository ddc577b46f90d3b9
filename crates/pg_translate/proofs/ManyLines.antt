-- Lines that are read one after the other give what all of them give.
use Rattle.std.proofs.Common.{map, [], ◌∷◌, ◌+◌, ap₂, ◌≡◌, ℕ, List, ◌++◌, Option, Some, None, Ok, refl}
use Rattle.std.specs.Prelude.{slice_get}
use Rattle.std.specs.List.{filter_map, enumerate_from, cons_option}
use Rattle.pg_types.specs.declared.refusals.Refusal.{Refusal}
use Rattle.pg_types.specs.ValuesOrRefusals.{unless}
use Rattle.pg_types.specs.Inside.reading.Parts.{both_parts}
use Rattle.pg_translate.specs.declared.items.Place.{Place}
use Rattle.pg_translate.specs.Alphabets.{Alphabet}
use Rattle.pg_translate.specs.Cuts.{items_of}
use Rattle.pg_translate.specs.LineRefusals.{line_refusal, of_lines}
use Rattle.pg_translate.specs.Inside.tables.Rules.{KeepsRules}
use Rattle.pg_translate.proofs.LineForms.{refusal_as, tokens_as}
use Rattle.pg_translate.specs.Tokens.{Token}
use Rattle.pg_translate.specs.Inside.items.Cuts.{cut, tokens_of}
use Rattle.pg_translate.specs.Inside.items.Refusing.{cut_refusal}

-- the refusals of lines, the first of which has this number
abbrev pub refusals_from : Alphabet → Place → ℕ → List (List ℕ) → List Refusal
refusals_from t place line texts = filter_map (λ l. cut_refusal place l.0 (cut t place l.1)) (enumerate_from line texts)

-- what the items of a line mean
abbrev pub line_tokens : Alphabet → Place → List ℕ → List Token
line_tokens t place text = tokens_of (cut t place text)

parts_behind : {X : Type 0} (refusal : Option Refusal) (xs ys : List X) → both_parts (Ok xs) (unless refusal ys) ≡ unless refusal (xs ++ ys)
parts_behind None xs ys = refl
parts_behind (Some r) xs ys = refl

-- one line before others
pub line_before : {X : Type 0} (refusal : Option Refusal) (more : List Refusal) (xs ys : List X) → both_parts (unless refusal xs) (unless (slice_get more 0) ys)
    ≡ unless (slice_get (cons_option refusal more) 0) (xs ++ ys)
line_before None more xs ys = parts_behind (slice_get more 0) xs ys
line_before (Some r) more xs ys = refl

-- the refusals and the items of lines
refusals_as : (t : Alphabet) → KeepsRules t → (place : Place) (line : ℕ) (texts : List (List ℕ))
    → filter_map (λ l. line_refusal place l.0 l.1 (items_of t place l.1)) (enumerate_from line texts) ≡ refusals_from t place line texts
refusals_as t rules place line [] = refl
refusals_as t rules place line (text ∷ texts) =
    ap₂ (λ (o : Option Refusal) (more : List Refusal). cons_option o more) (refusal_as t rules place line text) (refusals_as t rules place (line + 1) texts)

all_tokens : (t : Alphabet) → KeepsRules t → (place : Place) (texts : List (List ℕ)) → map (λ text. map (λ i. i.1.0) (items_of t place text)) texts ≡ map (line_tokens t place) texts
all_tokens t rules place [] = refl
all_tokens t rules place (text ∷ texts) =
    ap₂ (λ (tokens : List Token) (more : List (List Token)). tokens ∷ more) (tokens_as t rules place text) (all_tokens t rules place texts)

-- what lines give
pub of_lines_as : {X : Type 0} (give : List (List Token) → X) (t : Alphabet) → KeepsRules t → (place : Place) (texts : List (List ℕ))
    → of_lines give t place texts ≡ unless (slice_get (refusals_from t place 1 texts) 0) (give (map (line_tokens t place) texts))
of_lines_as give t rules place texts =
    ap₂ (λ (refusals : List Refusal) (lines : List (List Token)). unless (slice_get refusals 0) (give lines)) (refusals_as t rules place 1 texts) (all_tokens t rules place texts)
