-- The checks of letter lines, spelling by spelling and line by line.
use Rattle.std.proofs.Common.{◌≡◌, ℕ, ◌+◌, ◌-◌, ◌*◌, ◌<◌, ◌≤◌, max, fold, List, [], ◌∷◌, ◌++◌, map, length, Ok, Err, refl, sym, ap, ◌∙◌, subst, arith}
use Rattle.std.proofs.lemmas.List.{append_assoc, append-nil, map-append}
use Rattle.std.proofs.lemmas.List.Sums.{fold-append}
use Rattle.pg_types.specs.declared.limits.TheConstants.{SIGNS_MAX}
use Rattle.pg_types.specs.declared.refusals.Refusal.{Refusal}
use Rattle.pg_types.specs.declared.refusals.ReadingError.{ReadingError}
use Rattle.pg_types.specs.declared.refusals.ReadingError.TheVariants.{Refused, Memory}
use Rattle.pg_types.specs.Lines.{lines}
use Rattle.pg_types.specs.Inside.reading.Parts.{first_refusal}
use Rattle.pg_types.specs.Inside.reading.Answers.{Fails}
use Rattle.pg_translate.specs.declared.index.Index.{Index}
use Rattle.pg_translate.specs.Inside.spellings.FirstSpellings.{letters_in}
use Rattle.pg_translate.specs.Tables.{ListedSpelling, spelling_check}
use Rattle.pg_translate.specs.Inside.tables.Checks.{spelling_with_sign, spellings_at, first_failure, spelling_checks_from, spellings_from, with_line_spellings, trimmed_pieces, pieces_of}
use Rattle.pg_translate.specs.Inside.spellings.Fronts.{IsIndex, pairs}

-- checks that pass leave those behind them
pub outcome_passed : (before after : List Refusal) → first_failure before ≡ Ok tt → first_failure (before ++ after) ≡ first_failure after
outcome_passed [] after h = refl
outcome_passed (r ∷ rs) after h = absurd (cc)

-- the first that fails decides
pub outcome_failed : (before after : List Refusal) (r : Refusal) → first_failure before ≡ Err r → first_failure (before ++ after) ≡ Err r
outcome_failed [] after r h = absurd (cc)
outcome_failed (x ∷ xs) after r h = h

-- a failure of the first checks is one of all
pub fails_first : (e : ReadingError) (before after : List Refusal) → Fails e (first_failure before) → Fails e (first_failure (before ++ after))
fails_first (Refused r) before after h = outcome_failed before after r h
fails_first Memory before after h = tt

-- a failure of checks is one of what they guard
pub fails_guarded : {Y : Type 0} (e : ReadingError) (checks : List Refusal) (y : Y) → Fails e (first_failure checks) → Fails e (first_refusal checks y)
fails_guarded (Refused r) checks y h = refused checks h
  where
    refused : (checks : List Refusal) → first_failure checks ≡ Err r → first_refusal checks y ≡ Err r
    refused [] h = absurd (cc)
    refused (x ∷ xs) h = let same : x ≡ r = cc in ap (λ (z : Refusal). Err z) same
fails_guarded Memory checks y h = tt

-- what the reading of pieces keeps
pub record HasPieces (old new : Index) (marks : List ℕ) (line letter column delimiter : ℕ) (text rest : List ℕ) : Type 0 where
  pub answer : first_failure (spelling_checks_from marks (pairs new) (spellings_at line column letter (pieces_of delimiter rest)))
      ≡ first_failure (spelling_checks_from marks (pairs old) (spellings_at line 2 letter (pieces_of delimiter text)))
  pub spellings : pairs new ++ map spelling_with_sign (spellings_at line column letter (pieces_of delimiter rest)) ≡ pairs old
      ++ map spelling_with_sign (spellings_at line 2 letter (pieces_of delimiter text))
  pub sound : IsIndex new
  pub low : letters_in (pairs new) ≤ letter
  pub high : letter ≤ letters_in (pairs new) + 1
  pub few : letters_in (pairs new) ≤ SIGNS_MAX - 1
  pub room : column + 2 * length rest ≤ 2 + 2 * length text

-- one piece more
pub pieces_more : (old mid new : Index) (marks : List ℕ) (line letter column delimiter : ℕ) (text rest piece after : List ℕ)
    → HasPieces old mid marks line letter column delimiter text rest → pieces_of delimiter rest ≡ piece ∷ pieces_of delimiter after → 0 < length piece
    → length piece + length after ≤ length rest → first_failure (spelling_check marks (pairs mid) (record { line = line; column = column; spelling = (letter + 1, piece) }))
    ≡ Ok tt → pairs new ≡ pairs mid ++ (letter + 1, piece) ∷ [] → (letters_in (pairs new) ≡ letter) × (letter ≤ SIGNS_MAX - 1) → IsIndex new
    → HasPieces old new marks line letter (column + (length piece + 1)) delimiter text after
pieces_more old mid new marks line letter column delimiter text rest piece after before cut some shorter passed added letters sound = record {
  answer = ap (λ (ss : List (ℕ × List ℕ)). first_failure (spelling_checks_from marks ss later)) added
      ∙ sym (outcome_passed (spelling_check marks (pairs mid) here) (spelling_checks_from marks (pairs mid ++ spelling_with_sign here ∷ []) later) passed)
      ∙ ap (λ (ps : List (List ℕ)). first_failure (spelling_checks_from marks (pairs mid) (spellings_at line column letter ps))) (sym cut) ∙ before.answer;
  spellings = ap (λ (ss : List (ℕ × List ℕ)). ss ++ map spelling_with_sign later) added ∙ append_assoc (pairs mid) (spelling_with_sign here ∷ []) (map spelling_with_sign later)
      ∙ ap (λ (ps : List (List ℕ)). pairs mid ++ map spelling_with_sign (spellings_at line column letter ps)) (sym cut) ∙ before.spellings;
  sound = sound;
  low = omega (arith, letters.0);
  high = omega (arith, letters.0);
  few = subst (λ (n : ℕ). n ≤ SIGNS_MAX - 1) (sym letters.0) letters.1;
  room = omega (arith, before.room);
}
  where
    here : ListedSpelling
    here = record { line = line; column = column; spelling = (letter + 1, piece) }

    later : List ListedSpelling
    later = spellings_at line (column + (length piece + 1)) letter (pieces_of delimiter after)

-- all pieces are read
pub pieces_done : (old new : Index) (marks : List ℕ) (line letter column delimiter : ℕ) (text rest : List ℕ) → HasPieces old new marks line letter column delimiter text rest
    → pieces_of delimiter rest ≡ []
    → (first_failure (spelling_checks_from marks (pairs old) (spellings_at line 2 letter (pieces_of delimiter text))) ≡ Ok tt)
    × (pairs new ≡ pairs old ++ map spelling_with_sign (spellings_at line 2 letter (pieces_of delimiter text)))
pieces_done old new marks line letter column delimiter text rest all none = (
  sym all.answer ∙ ap (λ (ps : List (List ℕ)). first_failure (spelling_checks_from marks (pairs new) (spellings_at line column letter ps))) none,
  sym (append-nil (pairs new))
      ∙ ap (λ (ps : List (List ℕ)). pairs new ++ map spelling_with_sign (spellings_at line column letter ps)) (sym none)
      ∙ all.spellings,
)

-- a piece that fails fails the line
pub pieces_fail : (old mid : Index) (marks : List ℕ) (line letter column delimiter : ℕ) (text rest piece after : List ℕ) (e : ReadingError)
    → HasPieces old mid marks line letter column delimiter text rest → pieces_of delimiter rest ≡ piece ∷ pieces_of delimiter after
    → Fails e (first_failure (spelling_check marks (pairs mid) (record { line = line; column = column; spelling = (letter + 1, piece) })))
    → Fails e (first_failure (spelling_checks_from marks (pairs old) (spellings_at line 2 letter (pieces_of delimiter text))))
pieces_fail old mid marks line letter column delimiter text rest piece after e before cut fails =
    let here : ListedSpelling = record { line = line; column = column; spelling = (letter + 1, piece) } in
    let whole : Fails e (first_failure (spelling_checks_from marks (pairs mid) (spellings_at line column letter (piece ∷ pieces_of delimiter after)))) =
    fails_first e (spelling_check marks (pairs mid) here) (spelling_checks_from marks (pairs mid ++ spelling_with_sign here ∷ [])
    (spellings_at line (column + (length piece + 1)) letter (pieces_of delimiter after))) fails in
    subst (Fails e) (ap (λ (ps : List (List ℕ)). first_failure (spelling_checks_from marks (pairs mid) (spellings_at line column letter ps))) (sym cut) ∙ before.answer) whole

-- checks of two lists, one behind the other
pub spelling_checks_from-append : (marks : List ℕ) (earlier : List (ℕ × List ℕ)) (first later : List ListedSpelling) → spelling_checks_from marks earlier (first ++ later)
    ≡ spelling_checks_from marks earlier first ++ spelling_checks_from marks (earlier ++ map spelling_with_sign first) later
spelling_checks_from-append marks earlier [] later = ap (λ (ss : List (ℕ × List ℕ)). spelling_checks_from marks ss later) (sym (append-nil earlier))
spelling_checks_from-append marks earlier (s ∷ first) later =
    ap (λ (rs : List Refusal). spelling_check marks earlier s ++ rs) (spelling_checks_from-append marks (earlier ++ spelling_with_sign s ∷ []) first later
    ∙ ap (λ (ss : List (ℕ × List ℕ)). spelling_checks_from marks (earlier ++ spelling_with_sign s ∷ []) first ++ spelling_checks_from marks ss later)
    (append_assoc earlier (spelling_with_sign s ∷ []) (map spelling_with_sign first)))
    ∙ sym (append_assoc (spelling_check marks earlier s) (spelling_checks_from marks (earlier ++ spelling_with_sign s ∷ []) first)
    (spelling_checks_from marks (earlier ++ map spelling_with_sign (s ∷ first)) later))

-- the spellings of one letter leave its number as that of the letters
same_letter : (n line column letter : ℕ) (pieces : List (List ℕ)) → n ≡ letter → fold (λ n spelling. max n (spelling.0 - 1)) n (map spelling_with_sign (spellings_at line column letter pieces))
    ≡ letter
same_letter n line column letter [] same = same
same_letter n line column letter (piece ∷ pieces) same = same_letter (max n (letter + 1 - 1)) line (column + (length piece + 1)) letter pieces (omega arith)

letters_after : (earlier : List (ℕ × List ℕ)) (line column letter : ℕ) (piece : List ℕ) (pieces : List (List ℕ)) → letters_in earlier ≤ letter
    → letters_in (earlier ++ map spelling_with_sign (spellings_at line column letter (piece ∷ pieces))) ≡ letter
letters_after earlier line column letter piece pieces low =
    fold-append (λ n spelling. max n (spelling.0 - 1)) 0 earlier (map spelling_with_sign (spellings_at line column letter (piece ∷ pieces)))
    ∙ same_letter (max (letters_in earlier) (letter + 1 - 1)) line (column + (length piece + 1)) letter pieces (omega arith)

-- a letter line whose checks pass, and the lines after it
pub line_more : (marks : List ℕ) (mid new : List (ℕ × List ℕ)) (line : ℕ) (pieces : List (List ℕ)) (later : ℕ → List ListedSpelling)
    → first_failure (spelling_checks_from marks mid (spellings_at line 2 (letters_in mid + 1) pieces)) ≡ Ok tt → new ≡ mid
    ++ map spelling_with_sign (spellings_at line 2 (letters_in mid + 1) pieces)
    → (first_failure (spelling_checks_from marks new (later (letters_in new + 1))) ≡ first_failure (spelling_checks_from marks mid (with_line_spellings line (letters_in mid + 1) pieces later)))
    × (new ++ map spelling_with_sign (later (letters_in new + 1)) ≡ mid ++ map spelling_with_sign (with_line_spellings line (letters_in mid + 1) pieces later))
line_more marks mid new line [] later passed added =
    let same : new ≡ mid = added ∙ append-nil mid in (
      ap (λ (ss : List (ℕ × List ℕ)). first_failure (spelling_checks_from marks ss (later (letters_in ss + 1)))) same,
      ap (λ (ss : List (ℕ × List ℕ)). ss ++ map spelling_with_sign (later (letters_in ss + 1))) same,
    )
line_more marks mid new line (piece ∷ pieces) later passed added = (
  ap (λ (n : ℕ). first_failure (spelling_checks_from marks new (later (n + 1)))) next
      ∙ ap (λ (ss : List (ℕ × List ℕ)). first_failure (spelling_checks_from marks ss (later (letters_in mid + 1 + 1)))) added
      ∙ sym (outcome_passed (spelling_checks_from marks mid here) (spelling_checks_from marks (mid ++ map spelling_with_sign here) (later (letters_in mid + 1 + 1))) passed)
      ∙ ap first_failure (sym (spelling_checks_from-append marks mid here (later (letters_in mid + 1 + 1)))),
  ap (λ (n : ℕ). new ++ map spelling_with_sign (later (n + 1))) next
      ∙ ap (λ (ss : List (ℕ × List ℕ)). ss ++ map spelling_with_sign (later (letters_in mid + 1 + 1))) added
      ∙ append_assoc mid (map spelling_with_sign here) (map spelling_with_sign (later (letters_in mid + 1 + 1)))
      ∙ ap (λ (ss : List (ℕ × List ℕ)). mid ++ ss) (sym (map-append spelling_with_sign here (later (letters_in mid + 1 + 1)))),
)
  where
    here : List ListedSpelling
    here = spellings_at line 2 (letters_in mid + 1) (piece ∷ pieces)

    next : letters_in new ≡ letters_in mid + 1
    next = ap letters_in added ∙ letters_after mid line 2 (letters_in mid + 1) piece pieces (omega arith)

-- a letter line that fails, and the lines after it
pub line_fails : (marks : List ℕ) (mid : List (ℕ × List ℕ)) (line : ℕ) (pieces : List (List ℕ)) (later : ℕ → List ListedSpelling) (e : ReadingError)
    → Fails e (first_failure (spelling_checks_from marks mid (spellings_at line 2 (letters_in mid + 1) pieces)))
    → Fails e (first_failure (spelling_checks_from marks mid (with_line_spellings line (letters_in mid + 1) pieces later)))
line_fails marks mid line [] later Memory fails = tt
line_fails marks mid line [] later (Refused r) fails = absurd (cc)
line_fails marks mid line (piece ∷ pieces) later e fails =
    let here : List ListedSpelling = spellings_at line 2 (letters_in mid + 1) (piece ∷ pieces) in
    subst (Fails e) (ap first_failure (sym (spelling_checks_from-append marks mid here (later (letters_in mid + 1 + 1)))))
    (fails_first e (spelling_checks_from marks mid here) (spelling_checks_from marks (mid ++ map spelling_with_sign here) (later (letters_in mid + 1 + 1))) fails)

-- what the reading of letter lines keeps
pub record HasLines (index : Index) (marks text : List ℕ) (line : ℕ) (rest : List ℕ) : Type 0 where
  pub answer : first_failure (spelling_checks_from marks (pairs index) (spellings_from line (letters_in (pairs index) + 1) (lines rest)))
      ≡ first_failure (spelling_checks_from marks [] (spellings_from 2 1 (lines text)))
  pub spellings : pairs index ++ map spelling_with_sign (spellings_from line (letters_in (pairs index) + 1) (lines rest)) ≡ map spelling_with_sign (spellings_from 2 1 (lines text))
  pub sound : IsIndex index
  pub few : letters_in (pairs index) ≤ SIGNS_MAX - 1
  pub begun : 2 ≤ line
  pub room : line + length rest ≤ 2 + length text

-- no line is read
pub lines_begin : (index : Index) (marks text : List ℕ) → pairs index ≡ [] → IsIndex index → HasLines index marks text 2 text
lines_begin index marks text none sound = record {
  answer = ap (λ (ss : List (ℕ × List ℕ)). first_failure (spelling_checks_from marks ss (spellings_from 2 (letters_in ss + 1) (lines text)))) none;
  spellings = ap (λ (ss : List (ℕ × List ℕ)). ss ++ map spelling_with_sign (spellings_from 2 (letters_in ss + 1) (lines text))) none;
  sound = sound;
  few = rw none (omega arith);
  begun = omega arith;
  room = omega arith;
}

-- one line more
pub lines_more : (mid new : Index) (marks text : List ℕ) (line : ℕ) (rest first after : List ℕ) → HasLines mid marks text line rest → lines rest
    ≡ first ∷ lines after → length after < length rest → first_failure (spelling_checks_from marks (pairs mid) (spellings_at line 2 (letters_in (pairs mid) + 1) (trimmed_pieces first)))
    ≡ Ok tt → pairs new ≡ pairs mid ++ map spelling_with_sign (spellings_at line 2 (letters_in (pairs mid) + 1) (trimmed_pieces first))
    → letters_in (pairs new) ≤ SIGNS_MAX - 1 → IsIndex new → HasLines new marks text (line + 1) after
lines_more mid new marks text line rest first after before cut shorter passed added few sound = record {
  answer = step.0 ∙ ap (λ (ls : List (List ℕ)). first_failure (spelling_checks_from marks (pairs mid) (spellings_from line (letters_in (pairs mid) + 1) ls))) (sym cut) ∙ before.answer;
  spellings = step.1 ∙ ap (λ (ls : List (List ℕ)). pairs mid ++ map spelling_with_sign (spellings_from line (letters_in (pairs mid) + 1) ls)) (sym cut) ∙ before.spellings;
  sound = sound;
  few = few;
  begun = omega (arith, before.begun);
  room = omega (arith, before.room);
}
  where
    step : (first_failure (spelling_checks_from marks (pairs new) (spellings_from (line + 1) (letters_in (pairs new) + 1) (lines after)))
        ≡ first_failure (spelling_checks_from marks (pairs mid) (with_line_spellings line (letters_in (pairs mid) + 1) (trimmed_pieces first) (λ next. spellings_from (line + 1) next (lines after)))))
        × (pairs new ++ map spelling_with_sign (spellings_from (line + 1) (letters_in (pairs new) + 1) (lines after)) ≡ pairs mid
        ++ map spelling_with_sign (with_line_spellings line (letters_in (pairs mid) + 1) (trimmed_pieces first) (λ next. spellings_from (line + 1) next (lines after))))
    step = line_more marks (pairs mid) (pairs new) line (trimmed_pieces first) (λ next. spellings_from (line + 1) next (lines after)) passed added

-- a line that fails fails the file
pub lines_fail : (mid : Index) (marks text : List ℕ) (line : ℕ) (rest first after : List ℕ) (e : ReadingError) → HasLines mid marks text line rest
    → lines rest ≡ first ∷ lines after → Fails e (first_failure (spelling_checks_from marks (pairs mid) (spellings_at line 2 (letters_in (pairs mid) + 1) (trimmed_pieces first))))
    → Fails e (first_refusal (spelling_checks_from marks [] (spellings_from 2 1 (lines text))) (map spelling_with_sign (spellings_from 2 1 (lines text))))
lines_fail mid marks text line rest first after e before cut fails =
    let here : Fails e (first_failure (spelling_checks_from marks (pairs mid)
    (with_line_spellings line (letters_in (pairs mid) + 1) (trimmed_pieces first) (λ next. spellings_from (line + 1) next (lines after))))) =
    line_fails marks (pairs mid) line (trimmed_pieces first) (λ next. spellings_from (line + 1) next (lines after)) e fails in
    fails_guarded e (spelling_checks_from marks [] (spellings_from 2 1 (lines text))) (map spelling_with_sign (spellings_from 2 1 (lines text)))
    (subst (Fails e) (ap (λ (ls : List (List ℕ)). first_failure (spelling_checks_from marks (pairs mid) (spellings_from line (letters_in (pairs mid) + 1) ls))) (sym cut) ∙ before.answer) here)
