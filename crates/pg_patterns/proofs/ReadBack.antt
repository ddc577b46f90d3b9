-- The text of a map is read back as the map.
use Rattle.std.proofs.Common.{◌≡◌, ℕ, ◌+◌, ◌≤◌, true, false, cond, if◌then◌else◌, ◌==◌, List, [], ◌∷◌, ◌++◌, length, flat_map, Some, None, Ok, codes, sym, refl, ap, subst, ◌∙◌, append_assoc, arith}
use Rattle.std.proofs.lemmas.Bool.{eqb-true, eqb-false}
use Rattle.std.proofs.lemmas.List.{append-nil}
use Rattle.std.proofs.lemmas.List.Elements.{All-head, All-tail}
use Rattle.std.specs.FinMap.Entries.{find}
use Rattle.std.specs.List.{All, AllByRecursion, cons_option, list_all}
use Rattle.std.specs.Option.{option_map_or}
use Rattle.std.specs.Ordering.{eq_by_cmp}
use Rattle.pg_types.specs.declared.limits.TheConstants.{EDGE, PATTERN_SIGNS_MAX}
use Rattle.pg_types.specs.Lines.{lines}
use Rattle.pg_translate.specs.Alphabets.{Alphabet, letters_of, spelling_of}
use Rattle.pg_translate.specs.Inside.spellings.FirstSpellings.{first_spelling}
use Rattle.pg_translate.specs.Tokens.{Token, Letter, Digit, Edge}
use Rattle.pg_patterns.specs.DottedSigns.{dotted_cmp}
use Rattle.pg_patterns.specs.Inside.DottedOrder.{dotted_exact}
use Rattle.pg_patterns.specs.Inside.PatternMaps.{is_entry}
use Rattle.pg_translate.specs.Gaps.{sign_of, signs_of}
use Rattle.pg_patterns.specs.Inside.EntryLines.{digit_at_dot, entries_at, entries_of_items, entries_from}
use Rattle.pg_patterns.proofs.Running.{digits_from, digits_are}
use Rattle.pg_types.specs.Inside.reading.Parts.{both_parts}
use Rattle.pg_patterns.specs.Texts.{pattern_line}
use Rattle.pg_patterns.specs.Inside.PatternLines.{value_digit, line_from}
use Rattle.pg_patterns.proofs.LineForms.{line_as}
use Rattle.pg_types.proofs.BoolFacts.{and_first, and_second, equal_is}
use Rattle.pg_patterns.proofs.Sound.{entry_bounds}
use Rattle.pg_translate.specs.declared.items.Place.TheVariants.{Patterns}
use Rattle.pg_translate.specs.Inside.items.Items.{IsItem, text_of_items, tokens_in}
use Rattle.pg_translate.specs.Inside.tables.Rules.{KeepsRules}
use Rattle.pg_translate.proofs.JoinedItems.{line_is_read}
use Rattle.pg_translate.proofs.LineTexts.{lines_of_text}
use Rattle.pg_translate.proofs.RuleLaws.{spelling_item}
use Rattle.pg_translate.proofs.Unbroken.{joined_unbroken}

-- the text of an item of patterns
abbrev IsPatternItem : Alphabet → Token × List ℕ → Type 0
IsPatternItem t item = IsItem t Patterns item.0 item.1

-- the item of a digit, where a dotted string has a value
abbrev digit_items : List ((List ℕ × ℕ) × ℕ) → List ℕ × ℕ → List (Token × List ℕ)
digit_items P k = option_map_or (λ v. (Digit v, (48 + v) ∷ []) ∷ []) (find dotted_cmp k P) []

-- the item of a sign
abbrev sign_item : Alphabet → ℕ → Token × List ℕ
sign_item t s = ((if s == EDGE then Edge else Letter s), spelling_of t s)

-- the items of a line from a dot on
abbrev items_from : Alphabet → List ((List ℕ × ℕ) × ℕ) → List ℕ → ℕ → List ℕ → List (Token × List ℕ)
items_from t P q dot [] = digit_items P (q, dot)
items_from t P q dot (s ∷ ss) = digit_items P (q, dot) ++ sign_item t s ∷ items_from t P q (dot + 1) ss

-- the values of a string from a dot on
abbrev pub values_from : List ((List ℕ × ℕ) × ℕ) → List ℕ → ℕ → List ℕ → List (ℕ × ℕ)
values_from P q dot [] = option_map_or (λ v. (dot, v) ∷ []) (find dotted_cmp (q, dot) P) []
values_from P q dot (s ∷ ss) = option_map_or (λ v. (dot, v) ∷ []) (find dotted_cmp (q, dot) P) [] ++ values_from P q (dot + 1) ss

-- the entries of a string
abbrev pub entries_of : List ((List ℕ × ℕ) × ℕ) → List ℕ → List ((List ℕ × ℕ) × ℕ)
entries_of P q = entries_at q (values_from P q 0 q)

text_append : (xs ys : List (Token × List ℕ)) → text_of_items (xs ++ ys) ≡ text_of_items xs ++ text_of_items ys
text_append [] ys = refl
text_append (x ∷ xs) ys = ap (λ z. x.1 ++ z) (text_append xs ys) ∙ sym (append_assoc x.1 (text_of_items xs) (text_of_items ys))

digit_text : (P : List ((List ℕ × ℕ) × ℕ)) (k : List ℕ × ℕ) → value_digit P k ≡ text_of_items (digit_items P k)
digit_text P k = elim (find dotted_cmp k P) as (λ o. option_map_or (λ v. (48 + v) ∷ []) o [] ≡ text_of_items (option_map_or (λ v. (Digit v, (48 + v) ∷ []) ∷ []) o [])) [ None ↦ refl | Some v ↦ refl ]

-- a line is the texts of its items, and LF
line_text : (t : Alphabet) (P : List ((List ℕ × ℕ) × ℕ)) (q : List ℕ) (dot : ℕ) (ss : List ℕ) → line_from t P q dot ss ≡ text_of_items (items_from t P q dot ss) ++ 10 ∷ []
line_text t P q dot [] = ap (λ x. x ++ 10 ∷ []) (digit_text P (q, dot))
line_text t P q dot (s ∷ ss) =
    let rest = text_of_items (items_from t P q (dot + 1) ss) in
    ap (λ x. x ++ spelling_of t s ++ line_from t P q (dot + 1) ss) (digit_text P (q, dot))
    ∙ ap (λ x. text_of_items (digit_items P (q, dot)) ++ spelling_of t s ++ x) (line_text t P q (dot + 1) ss)
    ∙ sym (append_assoc (text_of_items (digit_items P (q, dot)) ++ spelling_of t s) rest (10 ∷ []))
    ∙ ap (λ x. x ++ 10 ∷ []) (append_assoc (text_of_items (digit_items P (q, dot))) (spelling_of t s) rest ∙ sym (text_append (digit_items P (q, dot)) (sign_item t s ∷ items_from t P q (dot + 1) ss)))

-- the value that is found is that of an entry
pub found_entry : (P : List ((List ℕ × ℕ) × ℕ)) (k : List ℕ × ℕ) (v : ℕ) → list_all is_entry P ≡ true → find dotted_cmp k P ≡ Some v → is_entry (k, v) ≡ true
found_entry [] k v sound is = cc
found_entry (e ∷ es) k v sound is =
    elim (eq_by_cmp dotted_cmp k e.0) as (λ b. eq_by_cmp dotted_cmp k e.0 ≡ b → cond b (Some e.1) (find dotted_cmp k es) ≡ Some v → is_entry (k, v) ≡ true) [
      | true ↦ λ tied there.
          let one : e.0 ≡ k = sym (dotted_exact k e.0 (equal_is _ tied)) in
          let same : e.1 ≡ v = cc in
          subst (λ (x : (List ℕ × ℕ) × ℕ). is_entry x ≡ true) (λ i. (one i, same i)) (and_first _ _ sound)
      | false ↦ λ apart further. found_entry es k v (and_second _ _ sound) further
    ] refl is

read_append : (t : Alphabet) (xs ys : List (Token × List ℕ)) → AllByRecursion (IsPatternItem t) xs → AllByRecursion (IsPatternItem t) ys → AllByRecursion (IsPatternItem t) (xs ++ ys)
read_append t [] ys left right = right
read_append t (x ∷ xs) ys left right = (left.0, read_append t xs ys left.1 right)

digit_read : (t : Alphabet) (P : List ((List ℕ × ℕ) × ℕ)) (k : List ℕ × ℕ) → list_all is_entry P ≡ true → AllByRecursion (IsPatternItem t) (digit_items P k)
digit_read t P k sound =
    elim (find dotted_cmp k P) as (λ o. find dotted_cmp k P ≡ o → AllByRecursion (IsPatternItem t) (option_map_or (λ v. (Digit v, (48 + v) ∷ []) ∷ []) o [])) [
      | None ↦ λ is. tt
      | Some v ↦ λ is. (((entry_bounds (k, v) (found_entry P k v sound is)).high, refl), tt)
    ] refl

sign_read : (t : Alphabet) (s : ℕ) → KeepsRules t → 1 ≤ s → s ≤ letters_of t + 1 → IsPatternItem t (sign_item t s)
sign_read t s rules low high =
    elim (s == EDGE) as (λ b. (s == EDGE) ≡ b → IsPatternItem t ((if b then Edge else Letter s), spelling_of t s)) [
      | true ↦ λ is. ap (λ b. if b then codes "." else first_spelling t.spellings s) is
      | false ↦ λ is. spelling_item t rules Patterns s (let other : ¬ (s ≡ 1) = eqb-false s 1 is in omega arith) high
    ] refl

items_read : (t : Alphabet) (P : List ((List ℕ × ℕ) × ℕ)) (q : List ℕ) (dot : ℕ) (ss : List ℕ) → KeepsRules t → list_all is_entry P ≡ true
    → All (λ s. (1 ≤ s) × (s ≤ letters_of t + 1)) ss → AllByRecursion (IsPatternItem t) (items_from t P q dot ss)
items_read t P q dot [] rules sound signs = digit_read t P (q, dot) sound
items_read t P q dot (s ∷ ss) rules sound signs =
    let here = All-head (λ s. (1 ≤ s) × (s ≤ letters_of t + 1)) s ss signs in
    read_append t (digit_items P (q, dot)) (sign_item t s ∷ items_from t P q (dot + 1) ss) (digit_read t P (q, dot) sound)
    (sign_read t s rules here.0 here.1, items_read t P q (dot + 1) ss rules sound (All-tail (λ s. (1 ≤ s) × (s ≤ letters_of t + 1)) s ss signs))

-- the signs of the items are those of the string
digit_signs : (P : List ((List ℕ × ℕ) × ℕ)) (k : List ℕ × ℕ) (more : List (Token × List ℕ)) → signs_of (tokens_in (digit_items P k ++ more)) ≡ signs_of (tokens_in more)
digit_signs P k more =
    elim (find dotted_cmp k P) as (λ o. signs_of (tokens_in (option_map_or (λ v. (Digit v, (48 + v) ∷ []) ∷ []) o [] ++ more)) ≡ signs_of (tokens_in more)) [ None ↦ refl | Some v ↦ refl ]

sign_is : (t : Alphabet) (s : ℕ) → sign_of (sign_item t s).0 ≡ Some s
sign_is t s =
    elim (s == EDGE) as (λ b. (s == EDGE) ≡ b → sign_of (if b then Edge else Letter s) ≡ Some s) [
      | true ↦ λ is. ap (λ (n : ℕ). Some n) (sym (eqb-true s EDGE is))
      | false ↦ λ is. refl
    ] refl

signs_from : (t : Alphabet) (P : List ((List ℕ × ℕ) × ℕ)) (q : List ℕ) (dot : ℕ) (ss : List ℕ) → signs_of (tokens_in (items_from t P q dot ss)) ≡ ss
signs_from t P q dot [] = ap (λ x. signs_of (tokens_in x)) (sym (append-nil (digit_items P (q, dot)))) ∙ digit_signs P (q, dot) []
signs_from t P q dot (s ∷ ss) =
    digit_signs P (q, dot) (sign_item t s ∷ items_from t P q (dot + 1) ss)
    ∙ ap (λ o. cons_option o (signs_of (tokens_in (items_from t P q (dot + 1) ss)))) (sign_is t s)
    ∙ ap (λ x. s ∷ x) (signs_from t P q (dot + 1) ss)

-- the digits of the items are the values of the string
digit_there : (dot v : ℕ) → 1 ≤ v → digit_at_dot dot v ≡ (dot, v) ∷ []
digit_there dot v low =
    let one : List (ℕ × ℕ) = (dot, v) ∷ [] in
    elim (v == 0) as (λ b. (v == 0) ≡ b → cond b [] one ≡ one) [
      | true ↦ λ is. let none : v ≡ 0 = eqb-true v 0 is in absurd (omega arith)
      | false ↦ λ is. refl
    ] refl

sign_digits : (t : Alphabet) (s dot digit : ℕ) (tokens : List Token) → digits_from dot digit ((sign_item t s).0 ∷ tokens) ≡ digit_at_dot dot digit ++ digits_from (dot + 1) 0 tokens
sign_digits t s dot digit tokens =
    elim (s == EDGE) as (λ b. digits_from dot digit ((if b then Edge else Letter s) ∷ tokens) ≡ digit_at_dot dot digit ++ digits_from (dot + 1) 0 tokens) [ true ↦ refl | false ↦ refl ]

digits_end : (P : List ((List ℕ × ℕ) × ℕ)) (k : List ℕ × ℕ) (dot : ℕ) → list_all is_entry P ≡ true → digits_from dot 0 (tokens_in (digit_items P k))
    ≡ option_map_or (λ v. (dot, v) ∷ []) (find dotted_cmp k P) []
digits_end P k dot sound =
    elim (find dotted_cmp k P) as (λ o. find dotted_cmp k P ≡ o → digits_from dot 0 (tokens_in (option_map_or (λ v. (Digit v, (48 + v) ∷ []) ∷ []) o [])) ≡ option_map_or (λ v. (dot, v) ∷ []) o []) [
      | None ↦ λ is. refl
      | Some v ↦ λ is. digit_there dot v (entry_bounds (k, v) (found_entry P k v sound is)).low
    ] refl

digits_more : (t : Alphabet) (P : List ((List ℕ × ℕ) × ℕ)) (k : List ℕ × ℕ) (dot s : ℕ) (items : List (Token × List ℕ)) → list_all is_entry P ≡ true
    → digits_from dot 0 (tokens_in (digit_items P k ++ sign_item t s ∷ items)) ≡ option_map_or (λ v. (dot, v) ∷ []) (find dotted_cmp k P) [] ++ digits_from (dot + 1) 0 (tokens_in items)
digits_more t P k dot s items sound =
    elim (find dotted_cmp k P) as (λ o. find dotted_cmp k P ≡ o → digits_from dot 0 (tokens_in (option_map_or (λ v. (Digit v, (48 + v) ∷ []) ∷ []) o [] ++ sign_item t s ∷ items))
    ≡ option_map_or (λ v. (dot, v) ∷ []) o [] ++ digits_from (dot + 1) 0 (tokens_in items)) [
      | None ↦ λ is. sign_digits t s dot 0 (tokens_in items)
      | Some v ↦ λ is. sign_digits t s dot v (tokens_in items) ∙ ap (λ x. x ++ digits_from (dot + 1) 0 (tokens_in items)) (digit_there dot v (entry_bounds (k, v) (found_entry P k v sound is)).low)
    ] refl

digits_of_items : (t : Alphabet) (P : List ((List ℕ × ℕ) × ℕ)) (q : List ℕ) (dot : ℕ) (ss : List ℕ) → list_all is_entry P ≡ true
    → digits_from dot 0 (tokens_in (items_from t P q dot ss)) ≡ values_from P q dot ss
digits_of_items t P q dot [] sound = digits_end P (q, dot) dot sound
digits_of_items t P q dot (s ∷ ss) sound =
    digits_more t P (q, dot) dot s (items_from t P q (dot + 1) ss) sound ∙ ap (λ x. option_map_or (λ v. (dot, v) ∷ []) (find dotted_cmp (q, dot) P) [] ++ x) (digits_of_items t P q (dot + 1) ss sound)

entries_of_string : (t : Alphabet) (P : List ((List ℕ × ℕ) × ℕ)) (q : List ℕ) → list_all is_entry P ≡ true → entries_of_items (tokens_in (items_from t P q 0 q)) ≡ entries_of P q
entries_of_string t P q sound =
    ap (entries_at (signs_of (tokens_in (items_from t P q 0 q)))) (sym (digits_are (tokens_in (items_from t P q 0 q))))
    ∙ ap (λ x. entries_at x (digits_from 0 0 (tokens_in (items_from t P q 0 q)))) (signs_from t P q 0 q) ∙ ap (entries_at q) (digits_of_items t P q 0 q sound)

-- what is said of a string of the map
pub record IsString (n : ℕ) (q : List ℕ) : Type 0 where
  pub few : length q ≤ PATTERN_SIGNS_MAX
  pub signs : All (λ s. (1 ≤ s) × (s ≤ n)) q

-- the lines of strings give their entries
pub strings_read : (t : Alphabet) (P : List ((List ℕ × ℕ) × ℕ)) (line : ℕ) (qs : List (List ℕ)) → KeepsRules t → list_all is_entry P ≡ true
    → AllByRecursion (IsString (letters_of t + 1)) qs → entries_from t line (lines (flat_map (pattern_line t P) qs)) ≡ Ok (flat_map (entries_of P) qs)
strings_read t P line [] rules sound strings = refl
strings_read t P line (q ∷ qs) rules sound strings =
    let items = items_from t P q 0 q in
    let more = flat_map (pattern_line t P) qs in
    let read : AllByRecursion (IsPatternItem t) items = items_read t P q 0 q rules sound strings.0.signs in
    let few : length (signs_of (tokens_in items)) ≤ PATTERN_SIGNS_MAX = subst (λ x. length x ≤ PATTERN_SIGNS_MAX) (sym (signs_from t P q 0 q)) strings.0.few in
    let text : pattern_line t P q ++ more ≡ text_of_items items ++ 10 ∷ more = ap (λ x. x ++ more) (line_as t P q 0 q ∙ line_text t P q 0 q) ∙ append_assoc (text_of_items items) (10 ∷ []) more in
    let cut : lines (pattern_line t P q ++ more) ≡ text_of_items items ∷ lines more = ap lines text ∙ lines_of_text (text_of_items items) more (joined_unbroken t rules Patterns items read) in
    ap (entries_from t line) cut
    ∙ ap (λ x. both_parts x (entries_from t (line + 1) (lines more))) (line_is_read entries_of_items t rules Patterns line items read few ∙ ap Ok (entries_of_string t P q sound))
    ∙ ap (both_parts (Ok (entries_of P q))) (strings_read t P (line + 1) qs rules sound strings.1)
