-- An item is found where it stands, whatever follows it.
use Rattle.std.proofs.Common.{◌≡◌, ℕ, ◌+◌, ◌-◌, ◌<◌, ◌≤◌, ◌==◌, Bool, true, false, ◌||◌, List, [], ◌∷◌, ◌++◌, length, find, slice_index, Some, None, refl, sym, ap, ◌∙◌, subst, arith, suc, nat_eq}
use Rattle.std.specs.List.{list_any, starts_with}
use Rattle.std.proofs.lemmas.Bool.{and_parts, or_parts, or_right, not_from_true, true≢false, false_from_ne_true, eqb-true, eq-eqb, le-leb}
use Rattle.std.proofs.lemmas.List.{append_assoc, length-append}
use Rattle.pg_types.specs.declared.marks.Mark.{Mark}
use Rattle.pg_types.specs.declared.marks.Mark.TheVariants.{Nothing, Error, Missed, Found, DontCare}
use Rattle.pg_types.specs.declared.refusals.Kind.{Kind}
use Rattle.pg_types.specs.declared.refusals.Kind.TheVariants.{BadMark}
use Rattle.pg_types.specs.declared.refusals.Refusal.{Refusal}
use Rattle.pg_translate.specs.declared.items.Place.{Place}
use Rattle.pg_translate.specs.declared.items.Place.TheVariants.{Dictionary, Patterns}
use Rattle.pg_translate.specs.Alphabets.{Alphabet}
use Rattle.pg_translate.specs.Spellings.{is_space}
use Rattle.pg_translate.specs.Inside.spellings.Beginnings.{may_begin, begins_well}
use Rattle.pg_translate.specs.Inside.spellings.Members.{IsAmong}
use Rattle.std.specs.Char.{is_ascii_digit}
use Rattle.pg_translate.specs.Tables.{check}
use Rattle.pg_translate.specs.Inside.tables.Checks.{mark_checks_from, mark_checks, mark_fails}
use Rattle.pg_translate.specs.Tokens.{Token, Letter, Digit, Weight, Marked, Edge}
use Rattle.pg_translate.specs.Inside.items.Kinds.{letter_at, weight_at, mark_at, item_by_kind}
use Rattle.pg_translate.specs.Inside.items.Items.{IsItem, IsWeight, IsMark, decimal_value}
use Rattle.pg_translate.specs.Inside.tables.Rules.{KeepsRules}
use Rattle.pg_translate.proofs.Beginnings.{begins_as}
use Rattle.pg_translate.proofs.Prefixes.{begins-append}
use Rattle.pg_translate.proofs.Fronts.{find_begins, find_none}
use Rattle.pg_translate.proofs.WeightDigits.{eqb_swap, no_weight_at, weight_reads}

-- a spelling begins with a byte that may begin one
pub begins_spelled : (t : Alphabet) → KeepsRules t → (s : ℕ × List ℕ) → IsAmong s t.spellings → begins_well t.marks s.1 ≡ true
begins_spelled t rules s among = begins_as t.marks s.1 ∙ (and_parts _ _ (and_parts _ _ (rules.spelled s among)).0).1

-- no spelling begins a text whose first byte may begin none
pub no_letter : (t : Alphabet) → KeepsRules t → (b : ℕ) (bs : List ℕ) → may_begin t.marks b ≡ false → letter_at t.spellings (b ∷ bs) ≡ None
no_letter t rules b bs bad =
    let missed : find (λ spelling. starts_with nat_eq (b ∷ bs) spelling.1) t.spellings
    ≡ None = find_none (λ spelling. starts_with nat_eq (b ∷ bs) spelling.1) t.spellings (λ s among. false_from_ne_true _ (λ front. apart s.1 (begins_spelled t rules s among) front)) in
    rw missed refl
  where
    apart : (text : List ℕ) → begins_well t.marks text ≡ true → starts_with nat_eq (b ∷ bs) text ≡ true → ⊥
    apart [] well front = true≢false (sym well)
    apart (x ∷ xs) well front =
        let same : b ≡ x = sym (eqb-true x b (and_parts _ _ front).0) in
        true≢false (sym well ∙ subst (λ (n : ℕ). may_begin t.marks n ≡ false) same bad)

-- a digit begins no spelling
pub digit_may_not : (marks : List ℕ) (b : ℕ) → is_ascii_digit b ≡ true → may_begin marks b ≡ false
digit_may_not marks b digit = rw digit refl

-- what a mark that does not fail is
pub record IsGood (earlier : List ℕ) (mark : ℕ) : Type 0 where
  pub digit : is_ascii_digit mark ≡ false
  pub space : is_space mark ≡ false
  pub brace : (mark == 123) ≡ false
  pub apart : list_any (λ other. other == mark) earlier ≡ false

good_mark : (earlier : List ℕ) (mark : ℕ) → mark_fails earlier mark ≡ false → IsGood earlier mark
good_mark earlier mark all =
    let last : (((is_ascii_digit mark || is_space mark) || mark == 123) ≡ false) × (list_any (λ other. other == mark) earlier ≡ false) = or_parts _ _ all in
    let brace : ((is_ascii_digit mark || is_space mark) ≡ false) × ((mark == 123) ≡ false) = or_parts _ _ last.0 in
    let space : (is_ascii_digit mark ≡ false) × (is_space mark ≡ false) = or_parts _ _ brace.0 in
    record { digit = space.0; space = space.1; brace = brace.1; apart = last.1 }

-- a check that passes, before others that do
check_passes : (fails : Bool) (kind : Kind) (line column : ℕ) (more : List Refusal) → check fails kind line column ++ more ≡ [] → (fails ≡ false) × (more ≡ [])
check_passes true kind line column more none = absurd (cc)
check_passes false kind line column more none = (refl, none)

-- four good marks, by their places
pub record AreGood (a b c d : ℕ) : Type 0 where
  pub first : IsGood [] a
  pub second : IsGood (a ∷ []) b
  pub third : IsGood (b ∷ a ∷ []) c
  pub fourth : IsGood (c ∷ b ∷ a ∷ []) d

pub good_marks : (a b c d : ℕ) → mark_checks (a ∷ b ∷ c ∷ d ∷ []) ≡ [] → AreGood a b c d
good_marks a b c d pass =
    let one = check_passes (mark_fails [] a) BadMark 1 5 (mark_checks_from 6 (a ∷ []) (b ∷ c ∷ d ∷ [])) pass in
    let two = check_passes (mark_fails (a ∷ []) b) BadMark 1 6 (mark_checks_from 7 (b ∷ a ∷ []) (c ∷ d ∷ [])) one.1 in
    let three = check_passes (mark_fails (b ∷ a ∷ []) c) BadMark 1 7 (mark_checks_from 8 (c ∷ b ∷ a ∷ []) (d ∷ [])) two.1 in
    let four = check_passes (mark_fails (c ∷ b ∷ a ∷ []) d) BadMark 1 8 [] three.1 in
    record { first = good_mark [] a one.0; second = good_mark (a ∷ []) b two.0; third = good_mark (b ∷ a ∷ []) c three.0; fourth = good_mark (c ∷ b ∷ a ∷ []) d four.0 }

-- what is said of the byte of a mark
pub record ReadsMark (marks : List ℕ) (mark : Mark) (byte : ℕ) : Type 0 where
  pub digit : is_ascii_digit byte ≡ false
  pub space : is_space byte ≡ false
  pub brace : (byte == 123) ≡ false
  pub there : list_any (λ other. other == byte) marks ≡ true
  pub found : (more : List ℕ) → mark_at marks (byte ∷ more) ≡ Some (Marked mark, 1)

reads_first : (a b c d : ℕ) → AreGood a b c d → ReadsMark (a ∷ b ∷ c ∷ d ∷ []) Error a
reads_first a b c d good = record { digit = good.first.digit; space = good.first.space; brace = good.first.brace; there = rw (eq-eqb a a refl) refl; found = λ more. rw (eq-eqb a a refl) refl }

reads_second : (a b c d : ℕ) → AreGood a b c d → ReadsMark (a ∷ b ∷ c ∷ d ∷ []) Missed b
reads_second a b c d good =
    let ab : (a == b) ≡ false = (or_parts (a == b) false good.second.apart).0 in
    let ba : (b == a) ≡ false = eqb_swap a b ab in
    record { digit = good.second.digit; space = good.second.space; brace = good.second.brace; there = rw (ab, eq-eqb b b refl) refl; found = λ more. rw (ba, eq-eqb b b refl) refl }

reads_third : (a b c d : ℕ) → AreGood a b c d → ReadsMark (a ∷ b ∷ c ∷ d ∷ []) Found c
reads_third a b c d good =
    let parts : ((b == c) ≡ false) × ((a == c || false) ≡ false) = or_parts (b == c) (a == c || false) good.third.apart in
    let ac : (a == c) ≡ false = (or_parts (a == c) false parts.1).0 in
    let ca : (c == a) ≡ false = eqb_swap a c ac in
    let cb : (c == b) ≡ false = eqb_swap b c parts.0 in
    record { digit = good.third.digit; space = good.third.space; brace = good.third.brace; there = rw (ac, parts.0, eq-eqb c c refl) refl; found = λ more. rw (ca, cb, eq-eqb c c refl) refl }

reads_fourth : (a b c d : ℕ) → AreGood a b c d → ReadsMark (a ∷ b ∷ c ∷ d ∷ []) DontCare d
reads_fourth a b c d good =
    let parts : ((c == d) ≡ false) × ((b == d || (a == d || false)) ≡ false) = or_parts (c == d) (b == d || (a == d || false)) good.fourth.apart in
    let rest : ((b == d) ≡ false) × ((a == d || false) ≡ false) = or_parts (b == d) (a == d || false) parts.1 in
    let ad : (a == d) ≡ false = (or_parts (a == d) false rest.1).0 in
    let da : (d == a) ≡ false = eqb_swap a d ad in
    let db : (d == b) ≡ false = eqb_swap b d rest.0 in
    let dc : (d == c) ≡ false = eqb_swap c d parts.0 in
    record {
      digit = good.fourth.digit;
      space = good.fourth.space;
      brace = good.fourth.brace;
      there = rw (ad, rest.0, parts.0, eq-eqb d d refl) refl;
      found = λ more. rw (da, db, dc, eq-eqb d d refl) refl;
    }

-- what is said of the bytes of the four marks
pub four_marks : (t : Alphabet) → KeepsRules t → ReadsMark t.marks Error (slice_index t.marks 0) × ReadsMark t.marks Missed (slice_index t.marks 1)
    × ReadsMark t.marks Found (slice_index t.marks 2) × ReadsMark t.marks DontCare (slice_index t.marks 3)
four_marks t rules = by_list t.marks rules.four rules.marks_pass
  where
    by_list : (marks : List ℕ) → length marks ≡ 4 → mark_checks marks ≡ [] → ReadsMark marks Error (slice_index marks 0) × ReadsMark marks Missed (slice_index marks 1)
        × ReadsMark marks Found (slice_index marks 2) × ReadsMark marks DontCare (slice_index marks 3)
    by_list [] four good = absurd (omega arith)
    by_list (a ∷ []) four good = absurd (omega arith)
    by_list (a ∷ b ∷ []) four good = absurd (omega arith)
    by_list (a ∷ b ∷ c ∷ []) four good = absurd (omega arith)
    by_list (a ∷ b ∷ c ∷ d ∷ []) four good =
        let all : AreGood a b c d = good_marks a b c d good in
        (reads_first a b c d all, reads_second a b c d all, reads_third a b c d all, reads_fourth a b c d all)
    by_list (a ∷ b ∷ c ∷ d ∷ e ∷ more) four good = absurd (omega arith)

-- a mark is read where no spelling, digit or weight stands
found_byte : (t : Alphabet) → KeepsRules t → (mark : Mark) (byte : ℕ) (more : List ℕ) → ReadsMark t.marks mark byte → item_by_kind t Dictionary (byte ∷ more) ≡ Some (Marked mark, 1)
found_byte t rules mark byte more reads =
    let none : letter_at t.spellings (byte ∷ more) ≡ None = no_letter t rules byte more (not_from_true _ (or_right ((is_ascii_digit byte || byte == 46) || byte == 123) _ reads.there)) in
    rw (none, reads.digit, no_weight_at byte more reads.brace) (reads.found more)

-- a weight in braces, where no spelling stands
found_weight : (t : Alphabet) → KeepsRules t → (weight : ℕ) (text more : List ℕ) → IsWeight weight text → item_by_kind t Dictionary (text ++ more) ≡ Some (Weight weight, length text)
found_weight t rules weight text more is =
    let whole : text ++ more ≡ 123 ∷ (is.digits ++ 125 ∷ more) = ap (λ (s : List ℕ). s ++ more) is.text_is ∙ ap (λ (s : List ℕ). 123 ∷ s) (append_assoc is.digits (125 ∷ []) more) in
    let size : length text ≡ length is.digits + 2 = ap length is.text_is ∙ ap suc (length-append is.digits (125 ∷ []))
    ∙ (let same : suc (length is.digits + 1) ≡ length is.digits + 2 = omega arith in same) in
    let positive : 0 < decimal_value is.digits = subst (λ (n : ℕ). 0 < n) is.value is.some in
    let none : letter_at t.spellings (123 ∷ (is.digits ++ 125 ∷ more)) ≡ None = no_letter t rules 123 (is.digits ++ 125 ∷ more) refl in
    let read : weight_at (123 ∷ (is.digits ++ 125 ∷ more)) ≡ Some (Weight weight, length is.digits + 2) = weight_reads is.digits more is.few is.decimal positive
    ∙ ap (λ (n : ℕ). Some (Weight n, length is.digits + 2)) (sym is.value) in
    rw (whole, size, none, read) refl

-- the byte of a digit
digit_test : (digit : ℕ) → digit ≤ 9 → is_ascii_digit (48 + digit) ≡ true
digit_test digit few = rw (le-leb 48 (48 + digit) (let low : 48 ≤ 48 + digit = omega arith in low), le-leb (48 + digit) 57 (let high : 48 + digit ≤ 57 = omega arith in high)) refl

-- the byte of a mark is read, whatever follows it
mark_reads : (t : Alphabet) → KeepsRules t → (mark : Mark) (text more : List ℕ) → IsMark t mark text → item_by_kind t Dictionary (text ++ more) ≡ Some (Marked mark, length text)
mark_reads t rules Nothing text more is = absurd is
mark_reads t rules Error text more is = rw is (found_byte t rules Error _ more (four_marks t rules).0)
mark_reads t rules Missed text more is = rw is (found_byte t rules Missed _ more (four_marks t rules).1)
mark_reads t rules Found text more is = rw is (found_byte t rules Found _ more (four_marks t rules).2)
mark_reads t rules DontCare text more is = rw is (found_byte t rules DontCare _ more (four_marks t rules).3)

-- an item is read, whatever follows it
pub item_reads : (t : Alphabet) → KeepsRules t → (place : Place) (token : Token) (text more : List ℕ) → IsItem t place token text → item_by_kind t place (text ++ more) ≡ Some (token, length text)
item_reads t rules Dictionary (Letter sign) text more is =
    let hit : find (λ spelling. starts_with nat_eq (text ++ more) spelling.1) t.spellings ≡ Some (sign, text) =
    find_begins (text ++ more) t.spellings (sign, text) rules.apart is (begins-append text more) in rw hit refl
item_reads t rules Patterns (Letter sign) text more is =
    let hit : find (λ spelling. starts_with nat_eq (text ++ more) spelling.1) t.spellings ≡ Some (sign, text) =
    find_begins (text ++ more) t.spellings (sign, text) rules.apart is (begins-append text more) in rw hit refl
item_reads t rules Dictionary (Digit digit) text more is =
    let test : is_ascii_digit (48 + digit) ≡ true = digit_test digit is.0 in
    let none : letter_at t.spellings ((48 + digit) ∷ more) ≡ None = no_letter t rules (48 + digit) more (digit_may_not t.marks (48 + digit) test) in
    let value : 48 + digit - 48 ≡ digit = omega arith in
    rw (is.1, none, test, value) refl
item_reads t rules Patterns (Digit digit) text more is =
    let test : is_ascii_digit (48 + digit) ≡ true = digit_test digit is.0 in
    let none : letter_at t.spellings ((48 + digit) ∷ more) ≡ None = no_letter t rules (48 + digit) more (digit_may_not t.marks (48 + digit) test) in
    let value : 48 + digit - 48 ≡ digit = omega arith in
    rw (is.1, none, test, value) refl
item_reads t rules Dictionary (Weight weight) text more is = found_weight t rules weight text more is
item_reads t rules Patterns (Weight weight) text more is = absurd is
item_reads t rules Dictionary (Marked mark) text more is = mark_reads t rules mark text more is
item_reads t rules Patterns (Marked mark) text more is = absurd is
item_reads t rules Dictionary Edge text more is = absurd is
item_reads t rules Patterns Edge text more is =
    let none : letter_at t.spellings (46 ∷ more) ≡ None = no_letter t rules 46 more refl in
    rw (is, none) refl
