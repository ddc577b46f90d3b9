-- A whole translate file, from its head and its letter lines.
use Rattle.std.proofs.Common.{◌≡◌, ℕ, ◌-◌, ◌≤◌, max, fold, nat_lt, Bool, true, false, not, List, [], ◌∷◌, ◌++◌, map, length, Ok, Err, refl, sym, ap, ap₂, ◌∙◌, subst, arith}
use Rattle.std.specs.List.{list_all, list_any}
use Rattle.std.proofs.lemmas.Bool.{and_from, le-ltb, ltb-false, not-false}
use Rattle.pg_types.specs.declared.limits.TheConstants.{FILE_MAX, SIGNS_MAX}
use Rattle.pg_types.specs.declared.refusals.Kind.{Kind}
use Rattle.pg_types.specs.declared.refusals.Kind.TheVariants.{BadSpelling, SpellingClash, TooManyLetters}
use Rattle.pg_types.specs.declared.refusals.Refusal.{Refusal}
use Rattle.pg_types.specs.declared.refusals.ReadingError.{ReadingError}
use Rattle.pg_types.specs.declared.refusals.ReadingError.TheVariants.{Refused, Memory}
use Rattle.pg_types.specs.Lines.{lines}
use Rattle.std.specs.Prelude.{slice_get}
use Rattle.pg_types.specs.ValuesOrRefusals.{unless}
use Rattle.pg_types.specs.Inside.reading.Parts.{first_refusal}
use Rattle.pg_types.specs.Inside.reading.Answers.{Fails}
use Rattle.pg_translate.specs.declared.head.Head.{Head}
use Rattle.pg_translate.specs.declared.index.Index.{Index}
use Rattle.pg_translate.specs.Spellings.{is_spelling, clash}
use Rattle.pg_translate.specs.Tables.{ListedSpelling, check, spelling_check, spellings_of, head_checks, table, table_of}
use Rattle.pg_translate.specs.Inside.tables.Checks.{marks_of, spelling_with_sign, first_failure, spelling_checks_from, spellings_from, head_checks_by_pairs, alphabet_by_lines}
use Rattle.pg_translate.proofs.TableForms.{read_as, spelling_checks, table_by}
use Rattle.pg_translate.specs.Inside.tables.Heads.{IsHead, IsSoundHead, head_marks}
use Rattle.pg_translate.specs.Inside.tables.SoundTables.{IsTable}
use Rattle.pg_translate.specs.Inside.spellings.Fronts.{IsIndex, pairs}

-- a check that fails nowhere is a test that is false
check_none : (fails : Bool) (kind : Kind) (line column : ℕ) → check fails kind line column ≡ [] → fails ≡ false
check_none true kind line column h = absurd (cc)
check_none false kind line column h = refl

-- of checks that fail nowhere each part fails nowhere
none_parts : (before after : List Refusal) → before ++ after ≡ [] → (before ≡ []) × (after ≡ [])
none_parts [] after h = (refl, h)
none_parts (r ∷ rs) after h = absurd (cc)

-- what checks give that fail nowhere
first_none : {Y : Type 0} (refusals : List Refusal) (y z : Y) → first_refusal refusals y ≡ Ok z → (refusals ≡ []) × (y ≡ z)
first_none [] y z h = (refl, cc)
first_none (r ∷ rs) y z h = absurd (cc)

-- spellings whose checks pass have their form
pub spelled_all : (marks : List ℕ) (earlier : List (ℕ × List ℕ)) (spellings : List ListedSpelling) → spelling_checks_from marks earlier spellings ≡ []
    → list_all (λ s. is_spelling marks s.1) (map spelling_with_sign spellings) ≡ true
spelled_all marks earlier [] none = refl
spelled_all marks earlier (s ∷ later) none =
    let parts : (spelling_check marks earlier s ≡ []) × (spelling_checks_from marks (earlier ++ spelling_with_sign s ∷ []) later ≡ []) =
    none_parts (spelling_check marks earlier s) (spelling_checks_from marks (earlier ++ spelling_with_sign s ∷ []) later) none in
    let own : (check (nat_lt SIGNS_MAX s.spelling.0) TooManyLetters s.line 1 ≡ [])
    × (check (not (is_spelling marks s.spelling.1)) BadSpelling s.line s.column ++ check (list_any (clash s.spelling) earlier) SpellingClash s.line s.column ≡ []) =
    none_parts (check (nat_lt SIGNS_MAX s.spelling.0) TooManyLetters s.line 1) (check (not (is_spelling marks s.spelling.1)) BadSpelling s.line s.column
    ++ check (list_any (clash s.spelling) earlier) SpellingClash s.line s.column) parts.0 in
    let form : (check (not (is_spelling marks s.spelling.1)) BadSpelling s.line s.column ≡ []) × (check (list_any (clash s.spelling) earlier) SpellingClash s.line s.column ≡ []) =
    none_parts (check (not (is_spelling marks s.spelling.1)) BadSpelling s.line s.column) (check (list_any (clash s.spelling) earlier) SpellingClash s.line s.column) own.1 in
    and_from _ _ (not-false _ (check_none (not (is_spelling marks s.spelling.1)) BadSpelling s.line s.column form.0)) (spelled_all marks (earlier ++ spelling_with_sign s ∷ []) later parts.1)

-- spellings whose checks pass have few letters
few_letters : (n : ℕ) (marks : List ℕ) (earlier : List (ℕ × List ℕ)) (spellings : List ListedSpelling) → n ≤ SIGNS_MAX - 1 → spelling_checks_from marks earlier spellings
    ≡ [] → fold (λ n spelling. max n (spelling.0 - 1)) n (map spelling_with_sign spellings) ≤ SIGNS_MAX - 1
few_letters n marks earlier [] few none = few
few_letters n marks earlier (s ∷ later) few none =
    let parts : (spelling_check marks earlier s ≡ []) × (spelling_checks_from marks (earlier ++ spelling_with_sign s ∷ []) later ≡ []) =
    none_parts (spelling_check marks earlier s) (spelling_checks_from marks (earlier ++ spelling_with_sign s ∷ []) later) none in
    let own : (check (nat_lt SIGNS_MAX s.spelling.0) TooManyLetters s.line 1 ≡ [])
    × (check (not (is_spelling marks s.spelling.1)) BadSpelling s.line s.column ++ check (list_any (clash s.spelling) earlier) SpellingClash s.line s.column ≡ []) =
    none_parts (check (nat_lt SIGNS_MAX s.spelling.0) TooManyLetters s.line 1) (check (not (is_spelling marks s.spelling.1)) BadSpelling s.line s.column
    ++ check (list_any (clash s.spelling) earlier) SpellingClash s.line s.column) parts.0 in
    let low : s.spelling.0 ≤ SIGNS_MAX = ltb-false SIGNS_MAX s.spelling.0 (check_none (nat_lt SIGNS_MAX s.spelling.0) TooManyLetters s.line 1 own.0) in
    few_letters (max n (s.spelling.0 - 1)) marks (earlier ++ spelling_with_sign s ∷ []) later (omega arith) parts.1

-- the first of the refusals, in two forms
first_of : {Y : Type 0} (refusals : List Refusal) (y : Y) → unless (slice_get refusals 0) y ≡ first_refusal refusals y
first_of [] y = refl
first_of (r ∷ rs) y = refl

-- the table of a file that is not too long
not_long : (bytes first : List ℕ) (later : List (List ℕ)) → lines bytes ≡ first ∷ later → length bytes ≤ FILE_MAX → table bytes
    ≡ first_refusal (head_checks_by_pairs first ++ spelling_checks_from (marks_of first) [] (spellings_from 2 1 later)) (alphabet_by_lines first later)
not_long bytes first later cut few =
    let whole : table bytes ≡ table_of (length bytes) (first ∷ later) = ap (table_of (length bytes)) cut in
    whole ∙ rw (le-ltb FILE_MAX (length bytes) few) (first_of (head_checks (table_by first later) ++ spelling_checks (marks_of first) (spellings_of later)) (table_by first later) ∙ sym (read_as first later))

-- the first checks decide where one fails
first_fails : {Y : Type 0} (before after : List Refusal) (r : Refusal) (y : Y) → first_failure before ≡ Err r → first_refusal (before ++ after) y ≡ Err r
first_fails [] after r y h = absurd (cc)
first_fails (x ∷ xs) after r y h = let same : x ≡ r = cc in ap (λ (z : Refusal). Err z) same

-- a file whose head is refused
pub read_bad_head : (bytes first : List ℕ) (later : List (List ℕ)) (r : Refusal) → lines bytes ≡ first ∷ later → length bytes ≤ FILE_MAX
    → first_failure (head_checks_by_pairs first) ≡ Err r → table bytes ≡ Err r
read_bad_head bytes first later r cut few fails = not_long bytes first later cut few
    ∙ first_fails (head_checks_by_pairs first) (spelling_checks_from (marks_of first) [] (spellings_from 2 1 later)) r (alphabet_by_lines first later) fails

-- the table of a file whose head passes
head_passed : (bytes first : List ℕ) (later : List (List ℕ)) (head : Head) → lines bytes ≡ first ∷ later → length bytes ≤ FILE_MAX → IsHead first head
    → table bytes ≡ first_refusal (spelling_checks_from (head_marks head) [] (spellings_from 2 1 later)) (alphabet_by_lines first later)
head_passed bytes first later head cut few is =
    let passed : head_checks_by_pairs first ≡ [] = ap₂ (λ (a b : List Refusal). a ++ b) is.minima_pass is.marks_pass in
    not_long bytes first later cut few ∙ ap (λ (rs : List Refusal). first_refusal (rs ++ spelling_checks_from (marks_of first) [] (spellings_from 2 1 later)) (alphabet_by_lines first later)) passed
    ∙ ap (λ (marks : List ℕ). first_refusal (spelling_checks_from marks [] (spellings_from 2 1 later)) (alphabet_by_lines first later)) (sym is.marks_are)

-- a refusal of checks, whatever they guard
fails_other : {Y Z : Type 0} (e : ReadingError) (refusals : List Refusal) (y : Y) (z : Z) → Fails e (first_refusal refusals y) → Fails e (first_refusal refusals z)
fails_other (Refused r) [] y z h = absurd (cc)
fails_other (Refused r) (x ∷ xs) y z h = let same : x ≡ r = cc in ap (λ (w : Refusal). Err w) same
fails_other Memory refusals y z h = tt

-- a file whose letter lines are refused
pub read_bad_letters : (bytes first : List ℕ) (later : List (List ℕ)) (head : Head) (e : ReadingError) → lines bytes ≡ first ∷ later → length bytes ≤ FILE_MAX
    → IsHead first head → Fails e (first_refusal (spelling_checks_from (head_marks head) [] (spellings_from 2 1 later)) (map spelling_with_sign (spellings_from 2 1 later))) → Fails e (table bytes)
read_bad_letters bytes first later head e cut few is fails =
    subst (Fails e) (sym (head_passed bytes first later head cut few is))
    (fails_other e (spelling_checks_from (head_marks head) [] (spellings_from 2 1 later)) (map spelling_with_sign (spellings_from 2 1 later)) (alphabet_by_lines first later) fails)

-- a file that is accepted
pub read_whole : (bytes first : List ℕ) (later : List (List ℕ)) (head : Head) (index : Index) → lines bytes ≡ first ∷ later → length bytes ≤ FILE_MAX
    → IsHead first head → first_refusal (spelling_checks_from (head_marks head) [] (spellings_from 2 1 later)) (map spelling_with_sign (spellings_from 2 1 later))
    ≡ Ok (pairs index) → table bytes ≡ Ok (record { left = head.left; right = head.right; marks = head_marks head; spellings = pairs index })
read_whole bytes first later head index cut few is answer =
    let none : (spelling_checks_from (head_marks head) [] (spellings_from 2 1 later) ≡ []) × (map spelling_with_sign (spellings_from 2 1 later) ≡ pairs index) =
    first_none (spelling_checks_from (head_marks head) [] (spellings_from 2 1 later)) (map spelling_with_sign (spellings_from 2 1 later)) (pairs index) answer in
    head_passed bytes first later head cut few is ∙ ap (λ (rs : List Refusal). first_refusal rs (alphabet_by_lines first later)) none.0 ∙ rw (is.left_is, is.right_is, is.marks_are, none.1) refl

-- the table that is read keeps the rules
pub read_sound : (later : List (List ℕ)) (head : Head) (index : Index) → IsSoundHead head → IsIndex index
    → first_refusal (spelling_checks_from (head_marks head) [] (spellings_from 2 1 later)) (map spelling_with_sign (spellings_from 2 1 later)) ≡ Ok (pairs index) → IsTable head index
read_sound later head index sound_head sound_index answer = record {
  head_sound = sound_head;
  index_sound = sound_index;
  few = rw (sound_index.letters, ← none.1) (few_letters 0 (head_marks head) [] (spellings_from 2 1 later) (omega arith) none.0);
  spelled = subst (λ (ss : List (ℕ × List ℕ)). list_all (λ s. is_spelling (head_marks head) s.1) ss ≡ true) none.1 (spelled_all (head_marks head) [] (spellings_from 2 1 later) none.0);
}
  where
    none : (spelling_checks_from (head_marks head) [] (spellings_from 2 1 later) ≡ []) × (map spelling_with_sign (spellings_from 2 1 later) ≡ pairs index)
    none = first_none (spelling_checks_from (head_marks head) [] (spellings_from 2 1 later)) (map spelling_with_sign (spellings_from 2 1 later)) (pairs index) answer
