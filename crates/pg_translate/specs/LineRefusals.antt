-- When a line of a dictionary or of patterns is refused, and what accepted lines give.
use Rattle.std.specs.Prelude.{ℕ, ◌+◌, ◌==◌, if◌then◌else◌, List, length, drop, map, slice_get, slice_index, Option, None, Some, option_map, Result}
use Rattle.std.specs.List.{filter_map, enumerate_from, sum_by}
use Rattle.std.specs.Option.{option_or}
use Rattle.pg_types.specs.declared.limits.TheConstants.{PATTERN_SIGNS_MAX, WORD_LETTERS_MAX}
use Rattle.pg_types.specs.declared.refusals.Kind.{Kind}
use Rattle.pg_types.specs.declared.refusals.Kind.TheVariants.{DictionaryCharacter, BadWeight, WordTooLong, PatternCharacter, PatternTooLong}
use Rattle.pg_types.specs.declared.refusals.Refusal.{Refusal}
use Rattle.pg_types.specs.ValuesOrRefusals.{refusal_at, unless}
use Rattle.pg_translate.specs.declared.items.Place.{Place}
use Rattle.pg_translate.specs.declared.items.Place.TheVariants.{Dictionary, Patterns}
use Rattle.pg_translate.specs.Alphabets.{Alphabet}
use Rattle.pg_translate.specs.Tokens.{Token, is_ended}
use Rattle.pg_translate.specs.Cuts.{items_of}
use Rattle.pg_translate.specs.Gaps.{sign_of}

-- the most signs that a line may have, which are the letters of a word or the signs of a pattern;
-- and why a line with one more is refused
abbrev pub limit : Place → ℕ × Kind
limit Dictionary = (WORD_LETTERS_MAX, WordTooLong)
limit Patterns = (PATTERN_SIGNS_MAX, PatternTooLong)

-- why a text that begins with no item is refused: in a dictionary a brace begins a bad weight
abbrev pub bad_kind : Place → List ℕ → Kind
bad_kind Dictionary text = if slice_index text 0 == 123 then BadWeight else DictionaryCharacter
bad_kind Patterns text = PatternCharacter

-- the refusal of a line of these items: the sign too many, else where the items stop before the
-- line's end
abbrev pub line_refusal : Place → ℕ → List ℕ → List (ℕ × (Token × List ℕ)) → Option Refusal
line_refusal place line text items = let size = sum_by (λ i. length i.1.1) items in option_or
    (option_map (refusal_at line (limit place).1) (slice_get (filter_map
    (λ i. option_map (λ _. i.0) (sign_of i.1.0)) items) (limit place).0))
    (if is_ended (drop size text) then None
    else Some (refusal_at line (bad_kind place (drop size text)) (size + 1)))

-- what the items of lines give, or the refusal of the first line that has one
abbrev pub of_lines : {X : Type 0} → (List (List Token) → X)
    → Alphabet → Place → List (List ℕ) → Result X Refusal
of_lines give t place texts = unless (slice_get (filter_map
    (λ l. line_refusal place l.0 l.1 (items_of t place l.1)) (enumerate_from 1 texts)) 0)
    (give (map (λ text. map (λ i. i.1.0) (items_of t place text)) texts))
