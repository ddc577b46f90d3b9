-- The entries of a line, by its draft and by its items.
use Rattle.std.proofs.Common.{◌≡◌, ℕ, ◌+◌, ◌≤◌, true, List, [], ◌∷◌, ◌++◌, length, map, fold, Option, Some, None, Result, Ok, Err, sym, refl, ap, subst, ◌∙◌, append_assoc, arith}
use Rattle.std.proofs.lemmas.Bool.{le-leb, and_from}
use Rattle.std.proofs.lemmas.List.{length_push, append-nil}
use Rattle.std.proofs.lemmas.List.Elements.{All-nil, All-head, All-tail, All-append, All-map}
use Rattle.std.specs.List.{All, list_all}
use Rattle.pg_types.specs.declared.limits.TheConstants.{EDGE, PATTERN_SIGNS_MAX}
use Rattle.pg_types.specs.declared.refusals.Refusal.{Refusal}
use Rattle.pg_types.specs.Lines.{lines}
use Rattle.pg_types.specs.ValuesOrRefusals.{unless}
use Rattle.pg_types.specs.Inside.reading.Parts.{both_parts}
use Rattle.pg_types.specs.Inside.Signs.{is_sign}
use Rattle.pg_translate.specs.declared.items.Place.TheVariants.{Patterns}
use Rattle.pg_translate.specs.Alphabets.{Alphabet}
use Rattle.pg_translate.specs.Tokens.{Token, Letter, Digit, Weight, Marked, Edge}
use Rattle.pg_translate.specs.Inside.items.Cuts.{cut, tokens_of}
use Rattle.pg_patterns.specs.Inside.PatternMaps.{SignsUpTo, is_entry}
use Rattle.pg_translate.specs.Gaps.{signs_of}
use Rattle.pg_translate.specs.Inside.items.Refusing.{cut_refusal}
use Rattle.pg_patterns.specs.Inside.EntryLines.{digit_at_dot, entry_at, entries_at, entries_of_items, entries_or_refusal, entries_from}
use Rattle.pg_patterns.proofs.Running.{digits_from, digits_are}
use Rattle.pg_patterns.specs.Inside.Drafts.{Draft, IsDraft, IsDotDigit, no_draft, all_digits, draft_with_sign, with_token, draft_entries, line_draft}
use Rattle.pg_types.proofs.BoolFacts.{and_first, and_second}
use Rattle.pg_patterns.proofs.Sound.{EntryBounds, entry_told}
use Rattle.pg_patterns.proofs.Steps.{keeps_digits}

-- the signs of the items follow those of the draft
fold_signs : (d : Draft) (tokens : List Token) → (fold with_token d tokens).signs ≡ d.signs ++ signs_of tokens
fold_signs d [] = sym (append-nil d.signs)
fold_signs d (Letter sign ∷ tokens) = fold_signs (draft_with_sign d sign) tokens ∙ append_assoc d.signs (sign ∷ []) (signs_of tokens)
fold_signs d (Digit digit ∷ tokens) = fold_signs (with_token d (Digit digit)) tokens
fold_signs d (Weight weight ∷ tokens) = fold_signs d tokens
fold_signs d (Marked mark ∷ tokens) = fold_signs d tokens
fold_signs d (Edge ∷ tokens) = fold_signs (draft_with_sign d EDGE) tokens ∙ append_assoc d.signs (EDGE ∷ []) (signs_of tokens)

-- a digit more, and the digits from the next dot on
digits_on : (d : Draft) (sign : ℕ) (tokens : List Token) → all_digits d ++ digits_from (length (d.signs ++ sign ∷ [])) 0 tokens ≡ d.digits
    ++ (digit_at_dot (length d.signs) d.digit ++ digits_from (length d.signs + 1) 0 tokens)
digits_on d sign tokens =
    ap (λ n. all_digits d ++ digits_from n 0 tokens) (length_push d.signs sign) ∙ append_assoc d.digits (digit_at_dot (length d.signs) d.digit) (digits_from (length d.signs + 1) 0 tokens)

fold_digits : (d : Draft) (tokens : List Token) → all_digits (fold with_token d tokens) ≡ d.digits ++ digits_from (length d.signs) d.digit tokens
fold_digits d [] = refl
fold_digits d (Letter sign ∷ tokens) = fold_digits (draft_with_sign d sign) tokens ∙ digits_on d sign tokens
fold_digits d (Digit digit ∷ tokens) = fold_digits (with_token d (Digit digit)) tokens
fold_digits d (Weight weight ∷ tokens) = fold_digits d tokens
fold_digits d (Marked mark ∷ tokens) = fold_digits d tokens
fold_digits d (Edge ∷ tokens) = fold_digits (draft_with_sign d EDGE) tokens ∙ digits_on d EDGE tokens

entries_of_draft : (tokens : List Token) → entries_of_items tokens ≡ draft_entries (fold with_token no_draft tokens)
entries_of_draft tokens =
    ap (entries_at (signs_of tokens)) (sym (digits_are tokens)) ∙ ap (λ q. entries_at q (digits_from 0 0 tokens)) (sym (fold_signs no_draft tokens))
    ∙ ap (entries_at (fold with_token no_draft tokens).signs) (sym (fold_digits no_draft tokens))

unless_fails : {X Y : Type 0} (o : Option Refusal) (x : X) (y : Y) (r : Refusal) → Err r ≡ unless o x → unless o y ≡ Err r
unless_fails None x y r is = cc
unless_fails (Some s) x y r is = cc

unless_gives : {X Y : Type 0} (f : X → Y) (o : Option Refusal) (x d : X) (y : Y) → Ok d ≡ unless o x → y ≡ f x → unless o y ≡ Ok (f d)
unless_gives f None x d y is same = let one : d ≡ x = cc in ap Ok same ∙ ap (λ z. Ok (f z)) (sym one)
unless_gives f (Some s) x d y is same = cc

-- where its draft is refused, a line is
pub line_fails : (t : Alphabet) (line : ℕ) (text : List ℕ) (r : Refusal) → Err r ≡ line_draft t line text → entries_or_refusal t line text ≡ Err r
line_fails t line text r is =
    unless_fails (cut_refusal Patterns line (cut t Patterns text)) (fold with_token no_draft (tokens_of (cut t Patterns text))) (entries_of_items (tokens_of (cut t Patterns text))) r is

-- a line gives the entries of its draft
pub line_gives : (t : Alphabet) (line : ℕ) (text : List ℕ) (d : Draft) → Ok d ≡ line_draft t line text → entries_or_refusal t line text ≡ Ok (draft_entries d)
line_gives t line text d is =
    unless_gives draft_entries (cut_refusal Patterns line (cut t Patterns text)) (fold with_token no_draft (tokens_of (cut t Patterns text))) d
    (entries_of_items (tokens_of (cut t Patterns text))) is (entries_of_draft (tokens_of (cut t Patterns text)))

-- what was read, and a refused line
pub left_fails : (t : Alphabet) (line : ℕ) (es : List ((List ℕ × ℕ) × ℕ)) (text rest after : List ℕ) (whole : Result (List ((List ℕ × ℕ) × ℕ)) Refusal) (r : Refusal)
    → both_parts (Ok es) (entries_from t line (lines rest)) ≡ whole → lines rest ≡ text ∷ lines after → Err r ≡ line_draft t line text → whole ≡ Err r
left_fails t line es text rest after whole r left cut is =
    sym left
    ∙ ap (λ x. both_parts (Ok es) (entries_from t line x)) cut
    ∙ ap (λ x. both_parts (Ok es) (both_parts x (entries_from t (line + 1) (lines after)))) (line_fails t line text r is)

parts_joined : (es ds : List ((List ℕ × ℕ) × ℕ)) (rest : Result (List ((List ℕ × ℕ) × ℕ)) Refusal) → both_parts (Ok (es ++ ds)) rest ≡ both_parts (Ok es) (both_parts (Ok ds) rest)
parts_joined es ds (Ok fs) = ap Ok (append_assoc es ds fs)
parts_joined es ds (Err r) = refl

-- what was read, and a line more
pub left_more : (t : Alphabet) (line : ℕ) (es new : List ((List ℕ × ℕ) × ℕ)) (text rest after : List ℕ) (whole : Result (List ((List ℕ × ℕ) × ℕ)) Refusal) (d : Draft)
    → both_parts (Ok es) (entries_from t line (lines rest)) ≡ whole → lines rest ≡ text ∷ lines after → Ok d ≡ line_draft t line text → new ≡ es
    ++ draft_entries d → both_parts (Ok new) (entries_from t (line + 1) (lines after)) ≡ whole
left_more t line es new text rest after whole d left cut is more =
    ap (λ x. both_parts (Ok x) (entries_from t (line + 1) (lines after))) more
    ∙ parts_joined es (draft_entries d) (entries_from t (line + 1) (lines after))
    ∙ ap (λ x. both_parts (Ok es) (both_parts x (entries_from t (line + 1) (lines after)))) (sym (line_gives t line text d is))
    ∙ ap (λ x. both_parts (Ok es) (entries_from t line x)) (sym cut)
    ∙ left

signs_sound : (n : ℕ) (q : List ℕ) → All (λ s. (1 ≤ s) × (s ≤ n)) q → list_all is_sign q ≡ true
signs_sound n [] all = refl
signs_sound n (s ∷ q) all = and_from _ _ (le-leb 1 s (All-head (λ s. (1 ≤ s) × (s ≤ n)) s q all).0) (signs_sound n q (All-tail (λ s. (1 ≤ s) × (s ≤ n)) s q all))

entries_sound : (q : List ℕ) (digits : List (ℕ × ℕ)) → 1 ≤ length q → length q ≤ PATTERN_SIGNS_MAX → list_all is_sign q ≡ true → All (IsDotDigit (length q + 1)) digits
    → list_all is_entry (map (entry_at q) digits) ≡ true
entries_sound q [] some few signs all = refl
entries_sound q (x ∷ digits) some few signs all =
    let here = All-head (IsDotDigit (length q + 1)) x digits all in
    let bounds : EntryBounds ((q, x.0), x.1) = record { some = some; few = few; signs = signs; dot = omega (arith, here.0); low = here.1; high = here.2 } in
    and_from _ _ (entry_told ((q, x.0), x.1) bounds) (entries_sound q digits some few signs (All-tail (IsDotDigit (length q + 1)) x digits all))

draft_parts_sound : (n : ℕ) (q : List ℕ) (digits : List (ℕ × ℕ)) → length q ≤ PATTERN_SIGNS_MAX → All (λ s. (1 ≤ s) × (s ≤ n)) q → All (IsDotDigit (length q + 1)) digits
    → list_all is_entry (entries_at q digits) ≡ true
draft_parts_sound n [] digits few signs all = refl
draft_parts_sound n (s ∷ q) digits few signs all = entries_sound (s ∷ q) digits (omega arith) few (signs_sound n (s ∷ q) signs) all

-- the entries of a draft are those of patterns
draft_sound : (n : ℕ) (d : Draft) → IsDraft n d → list_all is_entry (draft_entries d) ≡ true
draft_sound n d kept = draft_parts_sound n d.signs (all_digits d) kept.few kept.signs (keeps_digits n d kept)

draft_parts_known : (n : ℕ) (q : List ℕ) (digits : List (ℕ × ℕ)) → All (λ s. (1 ≤ s) × (s ≤ n)) q → SignsUpTo n (entries_at q digits)
draft_parts_known n [] digits signs = All-nil (λ (e : (List ℕ × ℕ) × ℕ). All (λ s. s ≤ n) e.0.0)
draft_parts_known n (s ∷ q) digits signs =
    All-map (λ (e : (List ℕ × ℕ) × ℕ). All (λ s. s ≤ n) e.0.0) (entry_at (s ∷ q)) digits (λ k x inside j z within. (signs j z within).1)

draft_known : (n : ℕ) (d : Draft) → IsDraft n d → SignsUpTo n (draft_entries d)
draft_known n d kept = draft_parts_known n d.signs (all_digits d) kept.signs

-- two lists of entries together
sound_append : (es fs : List ((List ℕ × ℕ) × ℕ)) → list_all is_entry es ≡ true → list_all is_entry fs ≡ true → list_all is_entry (es ++ fs) ≡ true
sound_append [] fs left right = right
sound_append (e ∷ es) fs left right = and_from _ _ (and_first _ _ left) (sound_append es fs (and_second _ _ left) right)

-- what is kept of the entries read, it is kept with those of a line more
pub sound_more : (n : ℕ) (es new : List ((List ℕ × ℕ) × ℕ)) (d : Draft) → IsDraft n d → new ≡ es ++ draft_entries d → list_all is_entry es ≡ true → list_all is_entry new ≡ true
sound_more n es new d kept more sound = ap (list_all is_entry) more ∙ sound_append es (draft_entries d) sound (draft_sound n d kept)

pub known_more : (n : ℕ) (es new : List ((List ℕ × ℕ) × ℕ)) (d : Draft) → IsDraft n d → new ≡ es ++ draft_entries d → SignsUpTo n es → SignsUpTo n new
known_more n es new d kept more known =
    subst (SignsUpTo n) (sym more) (All-append (λ (e : (List ℕ × ℕ) × ℕ). All (λ s. s ≤ n) e.0.0) es (draft_entries d) known (draft_known n d kept))
