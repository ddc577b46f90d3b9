-- No item holds a blank, a TAB, an LF or a CR, so none stands where a line ends.
use Rattle.std.proofs.Common.{◌≡◌, ℕ, ◌+◌, ◌<◌, ◌≤◌, ◌==◌, true, false, ◌||◌, List, [], ◌∷◌, length, take}
use Rattle.std.proofs.Common.{get_or, slice_index, Option, Some, None, MatchOption, IfSome, refl, sym, ap, ◌∙◌, arith, suc, zero}
use Rattle.std.specs.List.{list_any, list_all, AllByRecursion}
use Rattle.std.specs.Option.{option_or}
use Rattle.std.proofs.lemmas.Bool.{and_parts, or_parts, not-true, true≢false, false_from_ne_true, eq-eqb, ne_eqb, leb-true}
use Rattle.std.proofs.lemmas.List.Folds.{list_any-append}
use Rattle.pg_types.specs.declared.marks.Mark.{Mark}
use Rattle.pg_types.specs.declared.marks.Mark.TheVariants.{Nothing, Error, Missed, Found, DontCare}
use Rattle.pg_translate.specs.declared.items.Place.{Place}
use Rattle.pg_translate.specs.declared.items.Place.TheVariants.{Dictionary, Patterns}
use Rattle.pg_translate.specs.Alphabets.{Alphabet}
use Rattle.pg_translate.specs.Spellings.{is_space}
use Rattle.std.specs.Char.{is_ascii_digit}
use Rattle.pg_translate.specs.Tokens.{Token, Letter, Digit, Weight, Marked, Edge, is_ended}
use Rattle.pg_translate.specs.Inside.items.Kinds.{letter_at, digit_at, weight_at, mark_at, item_by_kind}
use Rattle.pg_translate.specs.Inside.items.Items.{IsItem, IsWeight, IsMark, text_of_items}
use Rattle.pg_translate.specs.Inside.tables.Rules.{KeepsRules}
use Rattle.pg_translate.proofs.ItemLaws.{four_marks}
use Rattle.pg_translate.proofs.CutLaws.{Reads, item_found}

-- a byte that is greater than a blank
above_blank : (b : ℕ) → 32 < b → is_space b ≡ false
above_blank b above = rw (ne_eqb b 32 (λ is. absurd (omega arith)), ne_eqb b 9 (λ is. absurd (omega arith)), ne_eqb b 10 (λ is. absurd (omega arith)), ne_eqb b 13 (λ is. absurd (omega arith))) refl

-- digits
digits_unbroken : (digits : List ℕ) → list_all is_ascii_digit digits ≡ true → list_any is_space digits ≡ false
digits_unbroken [] all = refl
digits_unbroken (d ∷ ds) all =
    let parts : (is_ascii_digit d ≡ true) × (list_all is_ascii_digit ds ≡ true) = and_parts _ _ all in
    let low : 48 ≤ d = leb-true 48 d (and_parts _ _ parts.0).0 in
    rw (above_blank d (omega arith)) (digits_unbroken ds parts.1)

-- a weight in braces
weight_unbroken : (weight : ℕ) (text : List ℕ) → IsWeight weight text → list_any is_space text ≡ false
weight_unbroken weight text is =
    let digits : list_any is_space is.digits ≡ false = digits_unbroken is.digits is.decimal in
    ap (list_any is_space) is.text_is ∙ list_any-append is_space is.digits (125 ∷ []) ∙ ap (λ test. test || false) digits

-- the byte of a mark
mark_unbroken : (t : Alphabet) → KeepsRules t → (mark : Mark) (text : List ℕ) → IsMark t mark text → list_any is_space text ≡ false
mark_unbroken t rules Nothing text is = absurd is
mark_unbroken t rules Error text is = rw (is, (four_marks t rules).0.space) refl
mark_unbroken t rules Missed text is = rw (is, (four_marks t rules).1.space) refl
mark_unbroken t rules Found text is = rw (is, (four_marks t rules).2.space) refl
mark_unbroken t rules DontCare text is = rw (is, (four_marks t rules).3.space) refl

-- an item holds none of these bytes
pub item_unbroken : (t : Alphabet) → KeepsRules t → (place : Place) (token : Token) (text : List ℕ) → IsItem t place token text → list_any is_space text ≡ false
item_unbroken t rules place (Letter sign) text is = not-true _ (and_parts _ _ (rules.spelled (sign, text) is)).1
item_unbroken t rules place (Digit digit) text is = rw (is.1, above_blank (48 + digit) (omega arith)) refl
item_unbroken t rules Dictionary (Weight weight) text is = weight_unbroken weight text is
item_unbroken t rules Patterns (Weight weight) text is = absurd is
item_unbroken t rules Dictionary (Marked mark) text is = mark_unbroken t rules mark text is
item_unbroken t rules Patterns (Marked mark) text is = absurd is
item_unbroken t rules Dictionary Edge text is = absurd is
item_unbroken t rules Patterns Edge text is = rw is refl

-- a blank or TAB at the front is one of these bytes
ended_space : (b : ℕ) → (b == 32 || b == 9) ≡ true → is_space b ≡ true
ended_space b ended = rw ended refl

-- where a line ends no item stands
pub ended_none : (t : Alphabet) → KeepsRules t → (place : Place) (text : List ℕ) → is_ended text ≡ true → item_by_kind t place text ≡ None
ended_none t rules place text ended = by_item text ended (item_by_kind t place text) refl
  where
    by_item : (text : List ℕ) → is_ended text ≡ true → (found : Option (Token × ℕ)) → found ≡ item_by_kind t place text → item_by_kind t place text ≡ None
    by_item text ended None is = sym is
    by_item [] ended (Some x) is =
        let reads : Reads t place [] x.0 x.1 = item_found t rules place [] x.0 x.1 (sym is) in
        let some : 0 < x.1 = reads.some in
        let within : x.1 ≤ 0 = reads.within in
        absurd (omega arith)
    by_item (b ∷ bs) ended (Some x) is =
        let reads : Reads t place (b ∷ bs) x.0 x.1 = item_found t rules place (b ∷ bs) x.0 x.1 (sym is) in
        absurd (apart x.1 reads.some (item_unbroken t rules place x.0 (take x.1 (b ∷ bs)) reads.item))
      where
        apart : (size : ℕ) → 0 < size → list_any is_space (take size (b ∷ bs)) ≡ false → ⊥
        apart zero some unbroken = absurd (omega arith)
        apart (suc size) some unbroken = true≢false (sym (ended_space b ended) ∙ (or_parts (is_space b) (list_any is_space (take size bs)) unbroken).0)

-- where nothing is chosen, neither value is there
none_parts : (o p : Option (Token × ℕ)) → option_or o p ≡ None → (o ≡ None) × (p ≡ None)
none_parts None p none = (refl, none)
none_parts (Some x) p none = absurd (cc)

-- where a spelling or a mark stands, the line goes on
pub letter_begun : (t : Alphabet) → KeepsRules t → (text : List ℕ) (x : Token × ℕ) → letter_at t.spellings text ≡ Some x → is_ended text ≡ false
letter_begun t rules text x found = false_from_ne_true _ (λ ended. apart (none_parts (letter_at t.spellings text) _ (ended_none t rules Dictionary text ended)).0)
  where
    apart : letter_at t.spellings text ≡ None → ⊥
    apart none = let both : None ≡ Some x = sym none ∙ found in absurd (cc)

pub mark_begun : (t : Alphabet) → KeepsRules t → (text : List ℕ) (x : Token × ℕ) → mark_at t.marks text ≡ Some x → is_ended text ≡ false
mark_begun t rules text x found = false_from_ne_true _ (λ ended. apart (ended_none t rules Dictionary text ended))
  where
    apart : item_by_kind t Dictionary text ≡ None → ⊥
    apart none =
        let behind_letter = none_parts (letter_at t.spellings text) (option_or (digit_at text) (option_or (weight_at text) (mark_at t.marks text))) none in
        let behind_digit = none_parts (digit_at text) (option_or (weight_at text) (mark_at t.marks text)) behind_letter.1 in
        let behind_weight = none_parts (weight_at text) (mark_at t.marks text) behind_digit.1 in
        let both : None ≡ Some x = sym behind_weight.1 ∙ found in
        absurd (cc)

-- the same of the answer of a look-up
pub some_letter_begun : (t : Alphabet) → KeepsRules t → (text : List ℕ) (found : Option (ℕ × ℕ))
    → MatchOption found (letter_at t.spellings text ≡ None) (λ l. letter_at t.spellings text ≡ Some (Letter l.0, l.1)) → IfSome found (λ _. is_ended text ≡ false)
some_letter_begun t rules text None is = tt
some_letter_begun t rules text (Some l) is = letter_begun t rules text (Letter l.0, l.1) is

-- a mark is found where its byte stands
pub first_mark : (marks text : List ℕ) → 0 < length text → get_or text 0 0 ≡ slice_index marks 0 → mark_at marks text ≡ Some (Marked Error, 1)
first_mark marks [] some first = absurd (omega arith)
first_mark marks (b ∷ bs) some first = rw (eq-eqb _ _ first) refl

pub second_mark : (marks text : List ℕ) → 0 < length text → ¬ (get_or text 0 0 ≡ slice_index marks 0) → get_or text 0 0 ≡ slice_index marks 1 → mark_at marks text ≡ Some (Marked Missed, 1)
second_mark marks [] some first second = absurd (omega arith)
second_mark marks (b ∷ bs) some first second = rw (ne_eqb _ _ first, eq-eqb _ _ second) refl

pub third_mark : (marks text : List ℕ) → 0 < length text → ¬ (get_or text 0 0 ≡ slice_index marks 0) → ¬ (get_or text 0 0 ≡ slice_index marks 1)
    → get_or text 0 0 ≡ slice_index marks 2 → mark_at marks text ≡ Some (Marked Found, 1)
third_mark marks [] some first second third = absurd (omega arith)
third_mark marks (b ∷ bs) some first second third = rw (ne_eqb _ _ first, ne_eqb _ _ second, eq-eqb _ _ third) refl

pub fourth_mark : (marks text : List ℕ) → 0 < length text → ¬ (get_or text 0 0 ≡ slice_index marks 0) → ¬ (get_or text 0 0 ≡ slice_index marks 1)
    → ¬ (get_or text 0 0 ≡ slice_index marks 2) → get_or text 0 0 ≡ slice_index marks 3 → mark_at marks text ≡ Some (Marked DontCare, 1)
fourth_mark marks [] some first second third fourth = absurd (omega arith)
fourth_mark marks (b ∷ bs) some first second third fourth = rw (ne_eqb _ _ first, ne_eqb _ _ second, ne_eqb _ _ third, eq-eqb _ _ fourth) refl

-- nor do items that are joined
pub joined_unbroken : (t : Alphabet) → KeepsRules t → (place : Place) (items : List (Token × List ℕ)) → AllByRecursion (λ (item : Token × List ℕ). IsItem t place item.0 item.1) items
    → list_any is_space (text_of_items items) ≡ false
joined_unbroken t rules place [] each = refl
joined_unbroken t rules place (item ∷ items) each =
    list_any-append is_space item.1 (text_of_items items)
    ∙ ap (λ test. test || list_any is_space (text_of_items items)) (item_unbroken t rules place item.0 item.1 each.0)
    ∙ joined_unbroken t rules place items each.1
