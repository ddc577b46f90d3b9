-- The cut of a line is its longest list of items.
use Rattle.std.proofs.Common.{◌≡◌, ℕ, ◌+◌, ◌-◌, ◌<◌, ◌≤◌, ◌==◌, nat_le, true, false, ◌⊎◌, inl, inr, ⊎_elim, List, [], ◌∷◌, ◌++◌, length}
use Rattle.std.proofs.Common.{map, take, drop, find, slice_index, Option, Some, None, option_map, refl, sym, ap, ap₂, ◌∙◌, subst, le_refl, arith, suc, zero, nat_eq}
use Rattle.std.specs.List.{starts_with}
use Rattle.std.specs.Option.{option_or, option_map_or}
use Rattle.std.proofs.lemmas.Bool.{and_parts, and_from, cases_Bool, true≢false, eqb-true, eq-eqb, leb-true}
use Rattle.std.proofs.lemmas.List.{length-drop, length-take-le, take_at}
use Rattle.pg_types.specs.declared.marks.Mark.{Mark}
use Rattle.pg_types.specs.declared.marks.Mark.TheVariants.{Error, Missed, Found, DontCare}
use Rattle.pg_translate.specs.declared.items.Place.{Place}
use Rattle.pg_translate.specs.declared.items.Place.TheVariants.{Dictionary, Patterns}
use Rattle.pg_translate.specs.Alphabets.{Alphabet}
use Rattle.pg_translate.specs.Inside.spellings.Beginnings.{begins_well}
use Rattle.pg_translate.specs.Inside.spellings.Members.{IsAmong}
use Rattle.std.specs.Char.{is_ascii_digit}
use Rattle.pg_translate.specs.Tokens.{Token, Letter, Digit, Weight, Marked, Edge, item_at}
use Rattle.pg_translate.specs.Inside.items.Kinds.{letter_at, digit_at, weight_at, mark_at, edge_at, item_by_kind}
use Rattle.pg_translate.specs.Cuts.{items_from, items_of}
use Rattle.pg_translate.specs.Inside.items.Cuts.{cut_from, with_item}
use Rattle.pg_translate.specs.Inside.items.Items.{IsItem, IsWeight, IsMark, IsCut, IsPrefix, IsLongest, with_columns, text_of_items, decimal_value}
use Rattle.pg_translate.specs.Inside.tables.Rules.{KeepsRules}
use Rattle.pg_translate.proofs.Prefixes.{begins_front, begins_within}
use Rattle.pg_translate.proofs.Firsts.{find_among, found_passes}
use Rattle.pg_translate.proofs.Cuts.{cut_item, cut_none}
use Rattle.pg_translate.proofs.ItemForms.{own, item_as}
use Rattle.pg_translate.proofs.ItemLaws.{begins_spelled, item_reads}
use Rattle.pg_translate.proofs.WeightDigits.{FindsWeight, weight_found}

-- an item, with its size, begins a text
pub record Reads (t : Alphabet) (place : Place) (text : List ℕ) (token : Token) (size : ℕ) : Type 0 where
  pub item : IsItem t place token (take size text)
  pub some : 0 < size
  pub within : size ≤ length text

-- two findings that are equal
same_found : (a c : Token) (b d : ℕ) → (let x : Option (Token × ℕ) = Some (a, b) in x ≡ Some (c, d)) → (c ≡ a) × (d ≡ b)
same_found a c b d h =
    let x : Token × ℕ = (a, b) in
    let y : Token × ℕ = (c, d) in
    let both : y ≡ x = cc in
    (ap (λ (p : Token × ℕ). p.0) both, ap (λ (p : Token × ℕ). p.1) both)

-- a choice is one of its two values
or_some : (o p : Option (Token × ℕ)) (x : Token × ℕ) → option_or o p ≡ Some x → (o ≡ Some x) ⊎ (p ≡ Some x)
or_some None p x h = inr h
or_some (Some y) p x h = inl h

-- what is found at a letter
letter_found : (t : Alphabet) → KeepsRules t → (text : List ℕ) (token : Token) (size : ℕ) → letter_at t.spellings text ≡ Some (token, size) → (sign : ℕ)
    × (token ≡ Letter sign) × IsAmong (sign, take size text) t.spellings × (0 < size) × (size ≤ length text)
letter_found t rules text token size h = by_find (find (λ s. starts_with nat_eq text s.1) t.spellings) refl h
  where
    spelled_some : (text : List ℕ) → begins_well t.marks text ≡ true → 0 < length text
    spelled_some [] h = absurd (true≢false (sym h))
    spelled_some (b ∷ bs) h = omega arith

    by_find : (o : Option (ℕ × List ℕ)) → o ≡ find (λ s. starts_with nat_eq text s.1) t.spellings → option_map {U = Token × ℕ} (λ (s : ℕ × List ℕ). (Letter s.0, length s.1)) o
        ≡ Some (token, size) → (sign : ℕ) × (token ≡ Letter sign) × IsAmong (sign, take size text) t.spellings × (0 < size) × (size ≤ length text)
    by_find None is h = absurd (cc)
    by_find (Some s) is h =
        let among : IsAmong s t.spellings = find_among (λ s. starts_with nat_eq text s.1) t.spellings s (sym is) in
        let front : starts_with nat_eq text s.1 ≡ true = found_passes (λ s. starts_with nat_eq text s.1) t.spellings s (sym is) in
        let found : (token ≡ Letter s.0) × (size ≡ length s.1) = same_found (Letter s.0) token (length s.1) size h in
        let same : length s.1 ≡ size = sym found.1 in
        let what : token ≡ Letter s.0 = found.0 in
        let short : length s.1 ≤ length text = begins_within text s.1 front in
        let text_is : s.1 ≡ take size text = subst (λ (n : ℕ). s.1 ≡ take n text) same (begins_front text s.1 front) in
        let well : begins_well t.marks s.1 ≡ true = begins_spelled t rules s among in
        let long : 0 < length s.1 = spelled_some s.1 well in
        (s.0, what, subst (λ (b : List ℕ). IsAmong (s.0, b) t.spellings) text_is among, omega arith, omega arith)

-- what is found at a digit
digit_found : (text : List ℕ) (token : Token) (size : ℕ) → digit_at text ≡ Some (token, size) → (digit : ℕ) × (token ≡ Digit digit) × (digit ≤ 9)
    × (take size text ≡ (48 + digit) ∷ []) × (0 < size) × (size ≤ length text)
digit_found [] token size h = absurd (cc)
digit_found (b ∷ bs) token size h =
    ⊎_elim (λ (yes : is_ascii_digit b ≡ true). let found = rw yes at h in let both : (token ≡ Digit (b - 48)) × (size ≡ 1) = same_found (Digit (b - 48)) token 1 size found in let one : size
    ≡ 1 = both.1 in let tests : (nat_le 48 b ≡ true) × (nat_le b 57 ≡ true) = and_parts _ _ yes in let low : 48 ≤ b = leb-true 48 b tests.0 in
    let high : b ≤ 57 = leb-true b 57 tests.1 in let value : b ≡ 48 + (b - 48) = omega arith in (b - 48, both.0, omega arith, rw one (ap (λ (n : ℕ). n ∷ []) value), omega arith, omega arith))
    (λ (no : is_ascii_digit b ≡ false). let none = rw no at h in absurd (cc)) (cases_Bool (is_ascii_digit b))

-- what is found at a dot
edge_found : (text : List ℕ) (token : Token) (size : ℕ) → edge_at text ≡ Some (token, size) → (token ≡ Edge) × (take size text ≡ 46 ∷ []) × (0 < size) × (size ≤ length text)
edge_found [] token size h = absurd (cc)
edge_found (b ∷ bs) token size h =
    ⊎_elim (λ (yes : (b == 46) ≡ true). let found = rw yes at h in let both : (token ≡ Edge) × (size ≡ 1) = same_found Edge token 1 size found in let one : size
    ≡ 1 = both.1 in (both.0, rw one (ap (λ (n : ℕ). n ∷ []) (eqb-true b 46 yes)), omega arith, omega arith)) (λ (no : (b == 46) ≡ false). let none = rw no at h in absurd (cc))
    (cases_Bool (b == 46))

-- what is found at a mark
pub record FindsMark (marks : List ℕ) (b : ℕ) (token : Token) (size : ℕ) : Type 0 where
  pub mark : Mark
  pub token_is : token ≡ Marked mark
  pub one : size ≡ 1
  pub byte : (t : Alphabet) → t.marks ≡ marks → IsMark t mark (b ∷ [])

mark_found : (marks : List ℕ) (b : ℕ) (bs : List ℕ) (token : Token) (size : ℕ) → mark_at marks (b ∷ bs) ≡ Some (token, size) → FindsMark marks b token size
mark_found marks b bs token size h =
    ⊎_elim (λ (yes : (b == slice_index marks 0) ≡ true). let found = rw yes at h in let both : (token ≡ Marked Error)
    × (size ≡ 1) = same_found (Marked Error) token 1 size found in record { mark = Error; token_is = both.0; one = both.1; byte = λ t is. rw is (ap (λ (n : ℕ). n ∷ []) (eqb-true _ _ yes)) })
    (λ (no0 : (b == slice_index marks 0) ≡ false). let h1 = rw no0 at h in
    ⊎_elim (λ (yes : (b == slice_index marks 1) ≡ true). let found = rw yes at h1 in let both : (token ≡ Marked Missed)
    × (size ≡ 1) = same_found (Marked Missed) token 1 size found in record { mark = Missed; token_is = both.0; one = both.1; byte = λ t is. rw is (ap (λ (n : ℕ). n ∷ []) (eqb-true _ _ yes)) })
    (λ (no1 : (b == slice_index marks 1) ≡ false). let h2 = rw no1 at h1 in
    ⊎_elim (λ (yes : (b == slice_index marks 2) ≡ true). let found = rw yes at h2 in let both : (token ≡ Marked Found)
    × (size ≡ 1) = same_found (Marked Found) token 1 size found in record { mark = Found; token_is = both.0; one = both.1; byte = λ t is. rw is (ap (λ (n : ℕ). n ∷ []) (eqb-true _ _ yes)) })
    (λ (no2 : (b == slice_index marks 2) ≡ false). let h3 = rw no2 at h2 in
    ⊎_elim (λ (yes : (b == slice_index marks 3) ≡ true). let found = rw yes at h3 in let both : (token ≡ Marked DontCare)
    × (size ≡ 1) = same_found (Marked DontCare) token 1 size found in
    record { mark = DontCare; token_is = both.0; one = both.1; byte = λ t is. rw is (ap (λ (n : ℕ). n ∷ []) (eqb-true _ _ yes)) })
    (λ (no3 : (b == slice_index marks 3) ≡ false). let none = rw no3 at h3 in absurd (cc)) (cases_Bool (b == slice_index marks 3))) (cases_Bool (b == slice_index marks 2)))
    (cases_Bool (b == slice_index marks 1))) (cases_Bool (b == slice_index marks 0))

-- a weight in braces is one
weight_is : (text : List ℕ) (token : Token) (size : ℕ) → weight_at text ≡ Some (token, size) → (weight : ℕ) × (token ≡ Weight weight)
    × IsWeight weight (take size text) × (0 < size) × (size ≤ length text)
weight_is text token size h =
    let found : FindsWeight text token size = weight_found text token size h in
    let size_is : size ≡ length found.digits + 2 = found.size_is in (
      decimal_value found.digits,
      found.token_is,
      record { digits = found.digits; text_is = found.text_is; few = found.few; decimal = found.decimal; value = refl; some = found.some },
      omega arith,
      found.within,
    )

-- a mark that begins a text
mark_is : (t : Alphabet) (b : ℕ) (bs : List ℕ) (token : Token) (size : ℕ) → FindsMark t.marks b token size → Reads t Dictionary (b ∷ bs) token size
mark_is t b bs token size found =
    let one : size ≡ 1 = found.one in
    let byte : IsItem t Dictionary (Marked found.mark) (take size (b ∷ bs)) = subst (λ (n : ℕ). IsMark t found.mark (take n (b ∷ bs))) (sym one) (found.byte t refl) in
    record { item = subst (λ (k : Token). IsItem t Dictionary k (take size (b ∷ bs))) (sym found.token_is) byte; some = omega arith; within = omega arith }

-- what begins a text as an item is one
pub item_found : (t : Alphabet) → KeepsRules t → (place : Place) (text : List ℕ) (token : Token) (size : ℕ) → item_by_kind t place text ≡ Some (token, size) → Reads t place text token size
item_found t rules place text token size h = by_place place h
  where
    letter : (place : Place) → letter_at t.spellings text ≡ Some (token, size) → Reads t place text token size
    letter place h =
        let found : (sign : ℕ) × (token ≡ Letter sign) × IsAmong (sign, take size text) t.spellings × (0 < size) × (size ≤ length text) = letter_found t rules text token size h in
        record { item = rw found.1 found.2; some = found.3; within = found.4 }

    digit : (place : Place) → digit_at text ≡ Some (token, size) → Reads t place text token size
    digit place h =
        let found : (digit : ℕ) × (token ≡ Digit digit) × (digit ≤ 9) × (take size text ≡ (48 + digit) ∷ []) × (0 < size) × (size ≤ length text) = digit_found text token size h in
        record { item = rw found.1 (found.2, found.3); some = found.4; within = found.5 }

    weight : weight_at text ≡ Some (token, size) → Reads t Dictionary text token size
    weight h =
        let found : (weight : ℕ) × (token ≡ Weight weight) × IsWeight weight (take size text) × (0 < size) × (size ≤ length text) = weight_is text token size h in
        record { item = rw found.1 found.2; some = found.3; within = found.4 }

    mark : (text : List ℕ) → mark_at t.marks text ≡ Some (token, size) → Reads t Dictionary text token size
    mark [] h = absurd (cc)
    mark (b ∷ bs) h = mark_is t b bs token size (mark_found t.marks b bs token size h)

    edge : edge_at text ≡ Some (token, size) → Reads t Patterns text token size
    edge h =
        let found : (token ≡ Edge) × (take size text ≡ 46 ∷ []) × (0 < size) × (size ≤ length text) = edge_found text token size h in
        record { item = rw found.0 found.1; some = found.2; within = found.3 }

    by_place : (place : Place) → item_by_kind t place text ≡ Some (token, size) → Reads t place text token size
    by_place Dictionary h = ⊎_elim (λ l. letter Dictionary l) (λ rest. ⊎_elim (λ d. digit Dictionary d)
        (λ rest. ⊎_elim (λ w. weight w) (λ m. mark text m) (or_some (weight_at text) (mark_at t.marks text) (token, size) rest))
        (or_some (digit_at text) (option_or (weight_at text) (mark_at t.marks text)) (token, size) rest))
        (or_some (letter_at t.spellings text) (option_or (digit_at text) (option_or (weight_at text) (mark_at t.marks text))) (token, size) h)
    by_place Patterns h = ⊎_elim (λ l. letter Patterns l) (λ rest. ⊎_elim (λ d. digit Patterns d) (λ e. edge e) (or_some (digit_at text) (edge_at text) (token, size) rest))
        (or_some (letter_at t.spellings text) (option_or (digit_at text) (edge_at text)) (token, size) h)

-- no item begins a text without bytes
pub no_item : (t : Alphabet) → KeepsRules t → (place : Place) (text : List ℕ) → length text ≤ 0 → item_by_kind t place text ≡ None
no_item t rules place text few = by_item (item_by_kind t place text) refl
  where
    by_item : (found : Option (Token × ℕ)) → item_by_kind t place text ≡ found → item_by_kind t place text ≡ None
    by_item None is = is
    by_item (Some item) is =
        let reads : Reads t place text item.0 item.1 = item_found t rules place text item.0 item.1 is in
        let some : 0 < item.1 = reads.some in
        let within : item.1 ≤ length text = reads.within in
        absurd (omega arith)

-- what begins with a text and more begins with the text, and what follows it begins with the more
begins_split : (line text more : List ℕ) → starts_with nat_eq line (text ++ more) ≡ true → (line ≡ text ++ drop (length text) line) × (starts_with nat_eq (drop (length text) line) more ≡ true)
begins_split line [] more h = (refl, h)
begins_split [] (x ∷ xs) more h = absurd (cc)
begins_split (b ∷ bs) (x ∷ xs) more h =
    let parts : (nat_eq x b ≡ true) × (starts_with nat_eq bs (xs ++ more) ≡ true) = and_parts _ _ h in
    let rest : (bs ≡ xs ++ drop (length xs) bs) × (starts_with nat_eq (drop (length xs) bs) more ≡ true) = begins_split bs xs more parts.1 in
    (ap₂ (λ (y : ℕ) (ys : List ℕ). y ∷ ys) (sym (eqb-true x b parts.0)) rest.0, rest.1)

-- a front of a line, and what its rest begins with
begins_join : (n : ℕ) (line more : List ℕ) → starts_with nat_eq (drop n line) more ≡ true → starts_with nat_eq line (take n line ++ more) ≡ true
begins_join zero line more h = h
begins_join (suc n) [] more h = h
begins_join (suc n) (b ∷ bs) more h = and_from _ _ (eq-eqb b b refl) (begins_join n bs more h)

-- a cut that begins with an item: the item begins the line, and the rest is a cut of what follows
cut_first : (t : Alphabet) → KeepsRules t → (place : Place) (line : List ℕ) (x : Token × List ℕ) (xs : List (Token × List ℕ)) → IsCut t place line (x ∷ xs)
    → (item_by_kind t place line ≡ Some (x.0, length x.1)) × (line ≡ x.1 ++ drop (length x.1) line) × IsCut t place (drop (length x.1) line) xs
cut_first t rules place line x xs cut =
    let parts : (line ≡ x.1 ++ drop (length x.1) line) × (starts_with nat_eq (drop (length x.1) line) (text_of_items xs) ≡ true) = begins_split line x.1 (text_of_items xs) cut.prefix in
    let found : item_by_kind t place (x.1 ++ drop (length x.1) line) ≡ Some (x.0, length x.1) = item_reads t rules place x.0 x.1 (drop (length x.1) line) cut.each.0 in
    (subst (λ (l : List ℕ). item_by_kind t place l ≡ Some (x.0, length x.1)) (sym parts.0) found, parts.0, record { each = cut.each.1; prefix = parts.1 })

-- where no item begins a text there are no items
pub items_none : (t : Alphabet) → KeepsRules t → (place : Place) (most column : ℕ) (text : List ℕ) → item_by_kind t place text ≡ None → items_from t place most column text ≡ []
items_none t rules place zero column text none = refl
items_none t rules place (suc more) column text none =
    ap (λ (o : Option (Token × List ℕ)). option_map_or (λ item. (column, item) ∷ items_from t place more (column + length item.1) (drop (length item.1) text)) o [])
    (item_as t rules place text ∙ ap (option_map (own text)) none)

-- where one does, the items have it before those of the rest
pub items_more : (t : Alphabet) → KeepsRules t → (place : Place) (more column : ℕ) (text : List ℕ) (token : Token) (size : ℕ) → item_by_kind t place text
    ≡ Some (token, size) → size ≤ length text → items_from t place (suc more) column text
    ≡ (column, (token, take size text)) ∷ items_from t place more (column + size) (drop size text)
items_more t rules place more column text token size found within =
    ap (λ (o : Option (Token × List ℕ)). option_map_or (λ item. (column, item) ∷ items_from t place more (column + length item.1) (drop (length item.1) text)) o [])
    (item_as t rules place text ∙ ap (option_map (own text)) found)
    ∙ ap (λ (n : ℕ). (column, (token, take size text)) ∷ items_from t place more (column + n) (drop n text)) (length-take-le size text within)

-- items without their columns
abbrev uncounted : List (ℕ × (Token × List ℕ)) → List (Token × List ℕ)
uncounted items = map (λ i. i.1) items

-- where no item begins the line, its longest cut is empty
longest_none : (t : Alphabet) → KeepsRules t → (place : Place) (line : List ℕ) → item_by_kind t place line ≡ None → IsLongest t place line []
longest_none t rules place line none = record { cut = record { each = tt; prefix = refl }; all = every }
  where
    every : (other : List (Token × List ℕ)) → IsCut t place line other → IsPrefix other []
    every [] cut = ([], refl)
    every (x ∷ xs) cut = let first : (item_by_kind t place line ≡ Some (x.0, length x.1)) × (line ≡ x.1 ++ drop (length x.1) line)
        × IsCut t place (drop (length x.1) line) xs = cut_first t rules place line x xs cut in let found : Some _ ≡ None = sym first.0 ∙ none in absurd (cc)

-- where an item begins the line, its longest cut has it before that of the rest
longest_item : (t : Alphabet) → KeepsRules t → (place : Place) (line : List ℕ) (token : Token) (size : ℕ) (items : List (Token × List ℕ)) → item_by_kind t place line
    ≡ Some (token, size) → IsLongest t place (drop size line) items → IsLongest t place line ((token, take size line) ∷ items)
longest_item t rules place line token size items found rest = record {
  cut = record { each = (reads.item, rest.cut.each); prefix = begins_join size line (text_of_items items) rest.cut.prefix };
  all = every;
}
  where
    reads : Reads t place line token size
    reads = item_found t rules place line token size found

    front_is : (text more line : List ℕ) → line ≡ text ++ more → text ≡ take (length text) line
    front_is text more line is = rw is (sym (take_at text more (length text) refl))

    every : (other : List (Token × List ℕ)) → IsCut t place line other → IsPrefix other ((token, take size line) ∷ items)
    every [] cut = ((token, take size line) ∷ items, refl)
    every (x ∷ xs) cut =
        let first : (item_by_kind t place line ≡ Some (x.0, length x.1)) × (line ≡ x.1 ++ drop (length x.1) line) × IsCut t place (drop (length x.1) line) xs = cut_first t rules place line x xs cut in
        let both : (x.0 ≡ token) × (length x.1 ≡ size) = same_found token x.0 size (length x.1) (sym found ∙ first.0) in
        let text : x.1 ≡ take size line = subst (λ (n : ℕ). x.1 ≡ take n line) both.1 (front_is x.1 (drop (length x.1) line) line first.1) in
        let later : IsCut t place (drop size line) xs = subst (λ (n : ℕ). IsCut t place (drop n line) xs) both.1 first.2 in
        let more : IsPrefix xs items = rest.all xs later in
        let head : (let y : Token × List ℕ = (token, take size line) in y ≡ x) = ap₂ (λ (a : Token) (b : List ℕ). let p : Token × List ℕ = (a, b) in p) (sym both.0) (sym text) in
        (more.0, ap₂ (λ (y : Token × List ℕ) (ys : List (Token × List ℕ)). y ∷ ys) head more.1)

-- each line has a longest cut
pub longest : (t : Alphabet) → KeepsRules t → (place : Place) (most column : ℕ) (line : List ℕ) → length line ≤ most → IsLongest t place line (uncounted (items_from t place most column line))
longest t rules place zero column line few = longest_none t rules place line (no_item t rules place line few)
longest t rules place (suc more) column line few = by_item (longest t rules place more) (item_by_kind t place line) refl
  where
    by_item : ((column : ℕ) (line : List ℕ) → length line ≤ more → IsLongest t place line (uncounted (items_from t place more column line))) → (found : Option (Token × ℕ))
        → item_by_kind t place line ≡ found → IsLongest t place line (uncounted (items_from t place (suc more) column line))
    by_item less None is = subst (λ (items : List (ℕ × (Token × List ℕ))). IsLongest t place line (uncounted items)) (sym (items_none t rules place (suc more) column line is))
        (longest_none t rules place line is)
    by_item less (Some item) is =
        let reads : Reads t place line item.0 item.1 = item_found t rules place line item.0 item.1 is in
        let some : 0 < item.1 = reads.some in
        let size : length (drop item.1 line) ≡ length line - item.1 = length-drop item.1 line in
        let rest : List (ℕ × (Token × List ℕ)) = items_from t place more (column + item.1) (drop item.1 line) in
        subst (λ (items : List (ℕ × (Token × List ℕ))). IsLongest t place line (uncounted items)) (sym (items_more t rules place more column line item.0 item.1 is reads.within))
        (longest_item t rules place line item.0 item.1 (uncounted rest) is (less (column + item.1) (drop item.1 line) (omega arith)))

-- its items stand one behind the other
pub counted : (t : Alphabet) (place : Place) (most column : ℕ) (line : List ℕ) → items_from t place most column line ≡ with_columns column (uncounted (items_from t place most column line))
counted t place zero column line = refl
counted t place (suc more) column line = elim (item_at t place line) as
    (λ o. let items = option_map_or (λ item. (column, item) ∷ items_from t place more (column + length item.1) (drop (length item.1) line)) o [] in items ≡ with_columns column (uncounted items)) [
      | None ↦ refl
      | Some item ↦ ap (λ (items : List (ℕ × (Token × List ℕ))). (column, item) ∷ items) (counted t place more (column + length item.1) (drop (length item.1) line))
    ]

-- as many items as the text has bytes are enough
pub cut_enough : (t : Alphabet) → KeepsRules t → (place : Place) (n m column : ℕ) (text : List ℕ) → length text ≤ n → length text ≤ m
    → cut_from t place n column text ≡ cut_from t place m column text
cut_enough t rules place zero zero column text few short = refl
cut_enough t rules place zero (suc m) column text few short = sym (cut_none t place (suc m) column text (no_item t rules place text (omega arith)))
cut_enough t rules place (suc n) zero column text few short = cut_none t place (suc n) column text (no_item t rules place text (omega arith))
cut_enough t rules place (suc n) (suc m) column text few short = by_item (cut_enough t rules place n m) (item_by_kind t place text) refl
  where
    by_item : ((column : ℕ) (text : List ℕ) → length text ≤ n → length text ≤ m → cut_from t place n column text ≡ cut_from t place m column text) → (found : Option (Token × ℕ))
        → found ≡ item_by_kind t place text → cut_from t place (suc n) column text ≡ cut_from t place (suc m) column text
    by_item less None is = cut_none t place (suc n) column text (sym is) ∙ sym (cut_none t place (suc m) column text (sym is))
    by_item less (Some item) is =
        let reads : Reads t place text item.0 item.1 = item_found t rules place text item.0 item.1 (sym is) in
        let some : 0 < item.1 = reads.some in
        let size : length (drop item.1 text) ≡ length text - item.1 = length-drop item.1 text in
        cut_item t place n column text item.0 item.1 (sym is)
        ∙ ap (with_item column item.0) (less (column + item.1) (drop item.1 text) (omega arith) (omega arith))
        ∙ sym (cut_item t place m column text item.0 item.1 (sym is))

-- of two fronts of a list, one is a front of the other
prefixes : (a b all : List (Token × List ℕ)) → IsPrefix a all → IsPrefix b all → IsPrefix a b ⊎ IsPrefix b a
prefixes [] b all pa pb = inl (b, refl)
prefixes (x ∷ xs) [] all pa pb = inr (x ∷ xs, refl)
prefixes (x ∷ xs) (y ∷ ys) [] pa pb = absurd (let h = pa.1 in cc)
prefixes (x ∷ xs) (y ∷ ys) (z ∷ zs) pa pb =
    let hx : z ∷ zs ≡ x ∷ (xs ++ pa.0) = pa.1 in
    let hy : z ∷ zs ≡ y ∷ (ys ++ pb.0) = pb.1 in
    let same : x ≡ y = cc in
    let one : zs ≡ xs ++ pa.0 = cc in
    let two : zs ≡ ys ++ pb.0 = cc in
    ⊎_elim (λ (left : IsPrefix xs ys). inl (left.0, ap₂ (λ (w : Token × List ℕ) (ws : List (Token × List ℕ)). w ∷ ws) (sym same) left.1))
    (λ (right : IsPrefix ys xs). inr (right.0, ap₂ (λ (w : Token × List ℕ) (ws : List (Token × List ℕ)). w ∷ ws) same right.1)) (prefixes xs ys zs (pa.0, one) (pb.0, two))

-- of two cuts of one line, one is a prefix of the other
pub cuts_agree : (t : Alphabet) → KeepsRules t → (place : Place) (line : List ℕ) (a b : List (Token × List ℕ)) → IsCut t place line a → IsCut t place line b → IsPrefix a b ⊎ IsPrefix b a
cuts_agree t rules place line a b cut_a cut_b =
    let whole = longest t rules place (length line) 1 line (le_refl (length line)) in
    prefixes a b (uncounted (items_of t place line)) (whole.all a cut_a) (whole.all b cut_b)
