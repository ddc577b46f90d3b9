-- The lines of a pattern file that are read one after the other give what all of them give.
use Rattle.std.proofs.Common.{◌≡◌, ℕ, ◌+◌, ◌≤◌, ◌==◌, nat_lt, Bool, true, false, ◌&&◌, List, [], ◌∷◌, ◌++◌, length, map, filter, flat_map, Option, Some, None, Ok, refl, sym, ap, ap₂, ◌∙◌, arith}
use Rattle.std.specs.Prelude.{if◌then◌else◌, slice_get}
use Rattle.std.specs.List.{enumerate_from, filter_map, list_all, onto_first}
use Rattle.std.proofs.lemmas.Simd.{map-map}
use Rattle.pg_types.proofs.BoolFacts.{and_second}
use Rattle.pg_types.specs.declared.marks.Mark.{Mark}
use Rattle.std.proofs.lemmas.Bool.{true≢false, eqb-true, eqb-false, lt-ltb, le-ltb}
use Rattle.pg_types.specs.declared.limits.TheConstants.{FILE_MAX}
use Rattle.pg_types.specs.declared.refusals.Refusal.{Refusal}
use Rattle.pg_types.specs.declared.refusals.ReadingError.{ReadingError}
use Rattle.pg_types.specs.declared.refusals.ReadingError.TheVariants.{Refused, Memory}
use Rattle.pg_types.specs.Lines.{lines}
use Rattle.pg_types.specs.Inside.reading.Answers.{Fails}
use Rattle.pg_types.specs.ValuesOrRefusals.{unless}
use Rattle.pg_types.specs.Inside.reading.Parts.{both_parts}
use Rattle.pg_translate.specs.declared.items.Place.TheVariants.{Patterns}
use Rattle.pg_translate.specs.Alphabets.{Alphabet}
use Rattle.pg_translate.specs.Tokens.{Token, Letter, Digit, Weight, Marked, Edge}
use Rattle.pg_translate.specs.Inside.items.Cuts.{cut}
use Rattle.pg_translate.specs.Gaps.{signs_of, gaps, last_number}
use Rattle.pg_translate.specs.Inside.items.GapItems.{last_else, number_of}
use Rattle.pg_translate.specs.Inside.items.Digits.{digit_of, last_digit}
use Rattle.pg_translate.specs.LineRefusals.{of_lines}
use Rattle.pg_translate.specs.Inside.items.Refusing.{cut_refusal}
use Rattle.pg_translate.specs.Inside.tables.Rules.{KeepsRules}
use Rattle.pg_translate.proofs.ItemKinds.{is_plain, no_weight}
use Rattle.pg_translate.proofs.ManyLines.{refusals_from, line_tokens, line_before, of_lines_as}
use Rattle.pg_patterns.specs.Values.{map_of_entries}
use Rattle.pg_patterns.specs.Starts.{line_entries, start}
use Rattle.pg_patterns.specs.Inside.EntryLines.{digit_at_dot, digits_at, entry_at, entries_at, entries_of_items, entries_from, joined_entries}

-- no digit is taken
none_kept : (ds : List (ℕ × ℕ)) → filter (λ d. nat_lt 0 d.1 && false) ds ≡ []
none_kept [] = refl
none_kept (d ∷ ds) =
    let rest : List (ℕ × ℕ) = filter (λ d. nat_lt 0 d.1 && false) ds in
    elim (nat_lt 0 d.1) as (λ b. (if b && false then d ∷ rest else rest) ≡ []) [ true ↦ none_kept ds | false ↦ none_kept ds ]

-- a digit is taken where it is not 0
digit_kept : (dot digit : ℕ) (rest same : List (ℕ × ℕ)) → rest ≡ same → (if nat_lt 0 digit && true then (dot, digit) ∷ rest else rest) ≡ digit_at_dot dot digit ++ same
digit_kept dot digit rest same is =
    elim (digit == 0) as (λ b. (digit == 0) ≡ b → (if nat_lt 0 digit && true then (dot, digit) ∷ rest else rest) ≡ (if b then [] else (dot, digit) ∷ []) ++ same) [
      | true ↦ λ none. rw (eqb-true digit 0 none) is
      | false ↦ λ some.
          let above : nat_lt 0 digit ≡ true = lt-ltb 0 digit (omega (arith, eqb-false digit 0 some)) in
          rw above (ap (λ (xs : List (ℕ × ℕ)). (dot, digit) ∷ xs) is)
    ] refl

digits_kept : (dot : ℕ) (gs : List (List Token)) → filter (λ d. nat_lt 0 d.1 && true) (enumerate_from dot (map last_digit gs)) ≡ digits_at dot gs
digits_kept dot [] = refl
digits_kept dot (gap ∷ more) =
    digit_kept dot (last_digit gap) (filter (λ d. nat_lt 0 d.1 && true) (enumerate_from (dot + 1) (map last_digit more))) (digits_at (dot + 1) more) (digits_kept (dot + 1) more)

entries_by : (signs : List ℕ) (gs : List (List Token)) → map (λ d. ((signs, d.0), d.1)) (filter (λ d. nat_lt 0 d.1 && nat_lt 0 (length signs)) (enumerate_from 0 (map last_digit gs)))
    ≡ entries_at signs (digits_at 0 gs)
entries_by [] gs = ap (map (entry_at [])) (none_kept (enumerate_from 0 (map last_digit gs)))
entries_by (s ∷ ss) gs =
    ap (λ (some : Bool). map (entry_at (s ∷ ss)) (filter (λ d. nat_lt 0 d.1 && some) (enumerate_from 0 (map last_digit gs)))) (lt-ltb 0 (length (s ∷ ss)) (omega arith))
    ∙ ap (map (entry_at (s ∷ ss))) (digits_kept 0 gs)

-- the digits and the numbers of gaps without a weight are the same
abbrev digits_in : List (List Token) → List (List ℕ)
digits_in gs = map (filter_map digit_of) gs

abbrev numbers_in : List (List Token) → List (List ℕ)
numbers_in gs = map (filter_map number_of) gs

abbrev onto : ℕ → List (List ℕ) → List (List ℕ)
onto n [] = []
onto n (x ∷ xs) = (n ∷ x) ∷ xs

front_digit : (n : ℕ) (gs : List (List Token)) → digits_in gs ≡ numbers_in gs → digits_in (onto_first (Digit n) gs) ≡ numbers_in (onto_first (Digit n) gs)
front_digit n [] same = refl
front_digit n (g ∷ gs) same = ap (onto n) same

front_mark : (m : Mark) (gs : List (List Token)) → digits_in gs ≡ numbers_in gs → digits_in (onto_first (Marked m) gs) ≡ numbers_in (onto_first (Marked m) gs)
front_mark m [] same = refl
front_mark m (g ∷ gs) same = same

gaps_alike : (items : List Token) → list_all is_plain items ≡ true → digits_in (gaps items) ≡ numbers_in (gaps items)
gaps_alike [] plain = refl
gaps_alike (Letter sign ∷ items) plain = ap (λ (xs : List (List ℕ)). [] ∷ xs) (gaps_alike items (and_second true _ plain))
gaps_alike (Edge ∷ items) plain = ap (λ (xs : List (List ℕ)). [] ∷ xs) (gaps_alike items (and_second true _ plain))
gaps_alike (Digit n ∷ items) plain = front_digit n (gaps items) (gaps_alike items (and_second true _ plain))
gaps_alike (Weight n ∷ items) plain = absurd (true≢false (sym plain))
gaps_alike (Marked m ∷ items) plain = front_mark m (gaps items) (gaps_alike items (and_second true _ plain))

last_alike : (items : List Token) → list_all is_plain items ≡ true → map last_digit (gaps items) ≡ map (last_number 0) (gaps items)
last_alike items plain =
    sym (map-map (last_else 0) (filter_map digit_of) (gaps items)) ∙ ap (map (last_else 0)) (gaps_alike items plain) ∙ map-map (last_else 0) (filter_map number_of) (gaps items)

-- the entries of a line
entries_as : (items : List Token) → list_all is_plain items ≡ true → entries_of_items items ≡ line_entries items
entries_as items plain =
    sym (entries_by (signs_of items) (gaps items))
    ∙ ap (λ (ns : List ℕ). map (entry_at (signs_of items)) (filter (λ d. nat_lt 0 d.1 && nat_lt 0 (length (signs_of items))) (enumerate_from 0 ns))) (last_alike items plain)

-- the entries of lines, the first of which has this number
lines_as : (t : Alphabet) (line : ℕ) (texts : List (List ℕ)) → entries_from t line texts
    ≡ unless (slice_get (refusals_from t Patterns line texts) 0) (flat_map line_entries (map (line_tokens t Patterns) texts))
lines_as t line [] = refl
lines_as t line (text ∷ texts) =
    let refusal : Option Refusal = cut_refusal Patterns line (cut t Patterns text) in
    ap₂ both_parts (ap (unless refusal) (entries_as (line_tokens t Patterns text) (no_weight t (length text) 1 text))) (lines_as t (line + 1) texts)
    ∙ line_before refusal (refusals_from t Patterns (line + 1) texts) (line_entries (line_tokens t Patterns text)) (flat_map line_entries (map (line_tokens t Patterns) texts))

map_unless : (refusal : Option Refusal) (es : List ((List ℕ × ℕ) × ℕ)) → joined_entries (unless refusal es) ≡ unless refusal (map_of_entries es)
map_unless None es = refl
map_unless (Some r) es = refl

-- the map of the lines
pub joined_as : (t : Alphabet) → KeepsRules t → (texts : List (List ℕ)) → joined_entries (entries_from t 1 texts) ≡ of_lines (λ ls. map_of_entries (flat_map line_entries ls)) t Patterns texts
joined_as t rules texts =
    ap joined_entries (lines_as t 1 texts) ∙ map_unless (slice_get (refusals_from t Patterns 1 texts) 0) (flat_map line_entries (map (line_tokens t Patterns) texts))
    ∙ sym (of_lines_as (λ ls. map_of_entries (flat_map line_entries ls)) t rules Patterns texts)

-- the map of a file that is not too long
start_short : (t : Alphabet) → KeepsRules t → (bytes : List ℕ) → length bytes ≤ FILE_MAX → start t bytes ≡ joined_entries (entries_from t 1 (lines bytes))
start_short t rules bytes few = rw (le-ltb FILE_MAX (length bytes) few) (sym (joined_as t rules (lines bytes)))

-- a file whose lines are read one after the other is refused as one of them is, or gives their entries
pub start_fails : (e : ReadingError) (t : Alphabet) → KeepsRules t → (bytes : List ℕ) → length bytes ≤ FILE_MAX → Fails e (entries_from t 1 (lines bytes)) → Fails e (start t bytes)
start_fails (Refused r) t rules bytes few is = start_short t rules bytes few ∙ ap joined_entries is
start_fails Memory t rules bytes few is = tt

pub start_gives : (t : Alphabet) → KeepsRules t → (bytes : List ℕ) (es P : List ((List ℕ × ℕ) × ℕ)) → length bytes ≤ FILE_MAX → entries_from t 1 (lines bytes) ≡ Ok es → P ≡ map_of_entries es → start t bytes ≡ Ok P
start_gives t rules bytes es P few is map = start_short t rules bytes few ∙ ap joined_entries is ∙ ap Ok (sym map)
