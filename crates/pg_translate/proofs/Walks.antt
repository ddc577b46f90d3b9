-- A walk along the fronts of a text: what each front says of the spelling that begins the text, and of clashes.
use Rattle.std.proofs.Common.{◌≡◌, ℕ, ◌+◌, ◌-◌, ◌<◌, ◌≤◌, ◌==◌, min, max, fold, Bool, true, false, not, ◌&&◌, ⊎_elim, List, [], ◌∷◌}
use Rattle.std.proofs.Common.{length, take, find, Some, None, get_or, Fits, w8, ◌*◌, ◌^◌, suc, zero, refl, sym, ap, ◌∙◌, subst, arith, nat_eq}
use Rattle.std.specs.List.{list_any, starts_with}
use Rattle.std.proofs.lemmas.Bool.{and_from, and_left, or_from, or_left, or_right, not_from_false, eqb-true, eqb-false, ne_eqb, lt-ltb, true≢false, false_from_ne_true, cases_lt, cases_Bool}
use Rattle.std.proofs.lemmas.List.{length-take-le, take_all}
use Rattle.pg_translate.specs.declared.index.Front.TheVariants.{Inside, Whole}
use Rattle.pg_translate.specs.Inside.spellings.FirstSpellings.{letters_in}
use Rattle.pg_translate.specs.Spellings.{clash}
use Rattle.pg_translate.specs.Inside.spellings.Members.{IsAmong}
use Rattle.pg_translate.specs.Tokens.{Letter}
use Rattle.pg_translate.specs.Inside.items.Kinds.{letter_at}
use Rattle.pg_translate.specs.declared.index.Index.{Index}
use Rattle.pg_translate.specs.Inside.spellings.Fronts.{AreBytes, IsIndex, pairs, front_code, front_at, front_in}
use Rattle.pg_translate.proofs.Codes.{code_more, code_small, code_least}
use Rattle.pg_translate.proofs.Prefixes.{begins_front, begins_within, begins-take, begins_take, begins_less}
use Rattle.pg_translate.proofs.Fronts.{IsInside, whole_in, inside_in, nothing_in, find_none, find_begins, list_any_none, list_any_some, apart_equal}

-- the spellings do not clash
abbrev pub AreApart : List (ℕ × List ℕ) → Type 0
AreApart spellings = (s t : ℕ × List ℕ) → IsAmong s spellings → IsAmong t spellings → clash s t ≡ false

-- no spelling of at most some bytes begins a text
abbrev pub NoneWithin : List (ℕ × List ℕ) → List ℕ → ℕ → Type 0
NoneWithin spellings text size = (s : ℕ × List ℕ) → IsAmong s spellings → length s.1 ≤ size → starts_with nat_eq text s.1 ≡ false

-- a spelling that begins a text is its front of that length
front_at_length : (text s : List ℕ) (n : ℕ) → starts_with nat_eq text s ≡ true → length s ≡ n → s ≡ take n text
front_at_length text s n h same = subst (λ (k : ℕ). s ≡ take k text) same (begins_front text s h)

-- inside spellings the walk goes on
pub walk_inside : (spellings : List (ℕ × List ℕ)) (text : List ℕ) (i : ℕ) → AreApart spellings → front_in spellings (take (i + 1) text) ≡ Some Inside
    → NoneWithin spellings text i → NoneWithin spellings text (i + 1)
walk_inside spellings text i apart inside none s among few = false_from_ne_true _
    (λ h. ⊎_elim (λ (more : i < length s.1). longer s among h (omega arith)) (λ less. true≢false (sym h ∙ none s among less)) (cases_lt i (length s.1)))
  where
    found : (x : ℕ × List ℕ) × IsAmong x spellings × IsInside x (take (i + 1) text)
    found = inside_in spellings (take (i + 1) text) inside

    longer : (s : ℕ × List ℕ) → IsAmong s spellings → starts_with nat_eq text s.1 ≡ true → length s.1 ≡ i + 1 → ⊥
    longer s among h same =
        let is : s.1 ≡ take (i + 1) text = front_at_length text s.1 (i + 1) h same in
        let front : starts_with nat_eq found.0.1 s.1 ≡ true = subst (λ (t : List ℕ). starts_with nat_eq found.0.1 t ≡ true) (sym is) found.2.front in
        let equal : found.0 ≡ s = apart_equal found.0 s (apart found.0 s found.1 among) (or_left _ _ front) in
        let lengths : length (take (i + 1) text) ≡ length found.0.1 = ap length (sym is) ∙ ap (λ (p : ℕ × List ℕ). length p.1) (sym equal) in
        eqb-false _ _ found.2.proper lengths

-- at a whole spelling the letter is found
pub walk_hit : (spellings : List (ℕ × List ℕ)) (text : List ℕ) (i sign : ℕ) → AreApart spellings → i < length text → front_in spellings (take (i + 1) text)
    ≡ Some (Whole sign) → letter_at spellings text ≡ Some (Letter sign, i + 1)
walk_hit spellings text i sign apart inside whole =
    let among : IsAmong (sign, take (i + 1) text) spellings = whole_in spellings (take (i + 1) text) sign whole in
    let hit : find (λ spelling. starts_with nat_eq text spelling.1) spellings ≡ Some (sign, take (i + 1) text) =
    find_begins text spellings (sign, take (i + 1) text) apart among (begins-take (i + 1) text) in
    let size : length (take (i + 1) text) ≡ i + 1 = length-take-le (i + 1) text (omega arith) in
    rw (hit, size) refl

-- past the fronts of spellings there is no letter
pub walk_miss : (spellings : List (ℕ × List ℕ)) (text : List ℕ) (i : ℕ) → front_in spellings (take (i + 1) text) ≡ None → NoneWithin spellings text i → letter_at spellings text ≡ None
walk_miss spellings text i past none =
    let missed : find (λ spelling. starts_with nat_eq text spelling.1) spellings
    ≡ None = find_none (λ spelling. starts_with nat_eq text spelling.1) spellings
    (λ s among. false_from_ne_true _
    (λ h. ⊎_elim (λ (more : i < length s.1). true≢false (sym (begins_take (i + 1) text s.1 h (omega arith)) ∙ nothing_in spellings (take (i + 1) text) past s among))
    (λ less. true≢false (sym h ∙ none s among less)) (cases_lt i (length s.1)))) in
    rw missed refl

-- at the end of the text, or past the longest spelling, there is no letter
pub walk_end : (spellings : List (ℕ × List ℕ)) (text : List ℕ) (most : ℕ) → ((s : ℕ × List ℕ) → IsAmong s spellings → length s.1 ≤ most)
    → NoneWithin spellings text (min (length text) most) → letter_at spellings text ≡ None
walk_end spellings text most few none =
    let missed : find (λ spelling. starts_with nat_eq text spelling.1) spellings
    ≡ None = find_none (λ spelling. starts_with nat_eq text spelling.1) spellings
    (λ s among. false_from_ne_true _ (λ h. let short : length s.1 ≤ length text = begins_within text s.1 h in let small : length s.1 ≤ most =
    few s among in true≢false (sym h ∙ none s among (omega arith)))) in
    rw missed refl

-- past the fronts of spellings nothing clashes
pub clash_miss : (spellings : List (ℕ × List ℕ)) (sign : ℕ) (text : List ℕ) (i : ℕ) → front_in spellings (take (i + 1) text) ≡ None → NoneWithin spellings text i
    → list_any (clash (sign, text)) spellings ≡ false
clash_miss spellings sign text i past none = list_any_none (clash (sign, text)) spellings (λ s among. and_left _ _ (or_from _ _ (front s among) (behind s among)))
  where
    front : (s : ℕ × List ℕ) → IsAmong s spellings → starts_with nat_eq text s.1 ≡ false
    front s among = false_from_ne_true _
        (λ h. ⊎_elim (λ (more : i < length s.1). true≢false (sym (begins_take (i + 1) text s.1 h (omega arith)) ∙ nothing_in spellings (take (i + 1) text) past s among))
        (λ less. true≢false (sym h ∙ none s among less)) (cases_lt i (length s.1)))

    behind : (s : ℕ × List ℕ) → IsAmong s spellings → starts_with nat_eq s.1 text ≡ false
    behind s among = false_from_ne_true _ (λ h. true≢false (sym (begins_less (i + 1) s.1 text h) ∙ nothing_in spellings (take (i + 1) text) past s among))

-- a whole spelling that is a proper front of the text clashes
pub clash_front : (spellings : List (ℕ × List ℕ)) (sign other : ℕ) (text : List ℕ) (i : ℕ) → i + 1 < length text → front_in spellings (take (i + 1) text)
    ≡ Some (Whole other) → list_any (clash (sign, text)) spellings ≡ true
clash_front spellings sign other text i more whole =
    let among : IsAmong (other, take (i + 1) text) spellings = whole_in spellings (take (i + 1) text) other whole in
    let size : length (take (i + 1) text) ≡ i + 1 = length-take-le (i + 1) text (omega arith) in
    let apart : (length text == length (take (i + 1) text)) ≡ false = ne_eqb _ _ (λ same. omega arith) in
    list_any_some (clash (sign, text)) spellings (other, take (i + 1) text) among (and_from _ _ (or_left _ _ (begins-take (i + 1) text)) (not_from_false _ (and_right_false (sign == other) _ apart)))
  where
    and_right_false : (x y : Bool) → y ≡ false → (x && y) ≡ false
    and_right_false true y h = h
    and_right_false false y h = refl

-- a whole spelling that is the text clashes where it is of another letter
pub clash_whole : (spellings : List (ℕ × List ℕ)) (sign other : ℕ) (text : List ℕ) (i : ℕ) → AreApart spellings → i + 1 ≡ length text
    → front_in spellings (take (i + 1) text) ≡ Some (Whole other) → list_any (clash (sign, text)) spellings ≡ not (other == sign)
clash_whole spellings sign other text i apart all whole =
    let is : take (i + 1) text ≡ text = take_all (i + 1) text (omega arith) in
    let among : IsAmong (other, text) spellings = subst (λ (t : List ℕ). IsAmong (other, t) spellings) is (whole_in spellings (take (i + 1) text) other whole) in
    ⊎_elim (λ (yes : (other == sign) ≡ true). let same : other ≡ sign = eqb-true _ _ yes in
    rw yes (list_any_none (clash (sign, text)) spellings (λ s inside. subst (λ (n : ℕ). clash (n, text) s ≡ false) same (apart (other, text) s among inside))))
    (λ (no : (other == sign) ≡ false). let differ : (sign == other) ≡ false = ne_eqb _ _ (λ same. eqb-false _ _ no (sym same)) in
    rw no (list_any_some (clash (sign, text)) spellings (other, text) among
    (and_from _ _ (or_left _ _ (subst (λ (t : List ℕ). starts_with nat_eq text t ≡ true) is (begins-take (i + 1) text))) (not_from_false _ (and_left _ _ differ))))) (cases_Bool (other == sign))

-- a text that is inside spellings clashes
pub clash_inside : (spellings : List (ℕ × List ℕ)) (sign : ℕ) (text : List ℕ) → front_in spellings text ≡ Some Inside → list_any (clash (sign, text)) spellings ≡ true
clash_inside spellings sign text inside =
    let found : (x : ℕ × List ℕ) × IsAmong x spellings × IsInside x text = inside_in spellings text inside in
    list_any_some (clash (sign, text)) spellings found.0 found.1 (and_from _ _ (or_right _ _ found.2.front) (not_from_false _ (and_right_false (sign == found.0.0) _ found.2.proper)))
  where
    and_right_false : (x y : Bool) → y ≡ false → (x && y) ≡ false
    and_right_false true y h = h
    and_right_false false y h = refl

-- a running greatest number is at least where it began
fold_max : (most : ℕ) (xs : List (ℕ × List ℕ)) → most ≤ fold (λ n spelling. max n (spelling.0 - 1)) most xs
fold_max most [] = omega arith
fold_max most (x ∷ xs) = let rest : max most (x.0 - 1) ≤ fold (λ n spelling. max n (spelling.0 - 1)) (max most (x.0 - 1)) xs = fold_max (max most (x.0 - 1)) xs in omega arith

fold_among : (most : ℕ) (s : ℕ × List ℕ) (xs : List (ℕ × List ℕ)) → IsAmong s xs → s.0 ≤ fold (λ n spelling. max n (spelling.0 - 1)) most xs + 1
fold_among most s [] among = absurd among
fold_among most s (x ∷ xs) among =
    ⊎_elim (λ (here : s ≡ x). let same : s.0 ≡ x.0 = ap (λ (p : ℕ × List ℕ). p.0) here in let rest : max most (x.0 - 1) ≤ fold (λ n spelling. max n (spelling.0 - 1)) (max most (x.0 - 1)) xs =
    fold_max (max most (x.0 - 1)) xs in omega arith) (λ later. fold_among (max most (x.0 - 1)) s xs later) among

-- the sign of a spelling is at most the number of letters and 1
pub sign_within : (spellings : List (ℕ × List ℕ)) (s : ℕ × List ℕ) → IsAmong s spellings → s.0 ≤ letters_in spellings + 1
sign_within spellings s among = fold_among 0 s spellings among

-- what a walk over the first bytes of a text keeps
pub record HasWalked (spellings : List (ℕ × List ℕ)) (text : List ℕ) (i code : ℕ) : Type 0 where
  pub code_is : code ≡ front_code (take i text)
  pub none : NoneWithin spellings text i

-- the elements of a slice are bytes
abbrev pub HoldsBytes : List ℕ → Type 0
HoldsBytes text = (j : ℕ) → Fits w8 (get_or text j 0)

-- each front of a slice is one of bytes
pub bytes_take : (n : ℕ) (text : List ℕ) → HoldsBytes text → AreBytes (take n text)
bytes_take zero text bytes = refl
bytes_take (suc n) [] bytes = refl
bytes_take (suc n) (b ∷ bs) bytes =
    let first : Fits w8 (get_or (b ∷ bs) 0 0) = bytes 0 in
    let small : b < 256 = omega (arith, first) in
    and_from _ _ (lt-ltb b 256 small) (bytes_take n bs (λ j. bytes (suc j)))

-- the code of fewer than 8 bytes has room for one more
pub code_room : (text : List ℕ) (i code : ℕ) → HoldsBytes text → code ≡ front_code (take i text) → i < 8 → i < length text → (0 < code) × (code < 2 ^ 57)
code_room text i code bytes is few inside =
    let size : length (take i text) ≡ i = length-take-le i text (omega arith) in
    let small : front_code (take i text) < 2 ^ 57 = code_small (take i text) (bytes_take i text bytes) (omega arith) in
    let least : 1 ≤ front_code (take i text) = code_least (take i text) in
    (omega arith, omega arith)

-- the index knows the next front
pub walk_front : (index : Index) (text : List ℕ) (i code : ℕ) → IsIndex index → HoldsBytes text → HasWalked (pairs index) text i code → i < length text
    → front_at index (code * 256 + get_or text i 0) ≡ front_in (pairs index) (take (i + 1) text)
walk_front index text i code sound bytes walked inside =
    let size : length (take (i + 1) text) ≡ i + 1 = length-take-le (i + 1) text (omega arith) in
    let is : code * 256 + get_or text i 0 ≡ front_code (take (i + 1) text) = ap (λ (n : ℕ). n * 256 + get_or text i 0) walked.code_is ∙ code_more text i (get_or text i 0) inside refl in
    ap (front_at index) is ∙ sound.fronts (take (i + 1) text) (bytes_take (i + 1) text bytes) (omega arith)

-- inside spellings the walk goes on
pub walk_more : (index : Index) (text : List ℕ) (i code : ℕ) → IsIndex index → HoldsBytes text → HasWalked (pairs index) text i code → i < length text
    → front_at index (code * 256 + get_or text i 0) ≡ Some Inside → HasWalked (pairs index) text (i + 1) (code * 256 + get_or text i 0)
walk_more index text i code sound bytes walked inside front = record {
  code_is = ap (λ (n : ℕ). n * 256 + get_or text i 0) walked.code_is ∙ code_more text i (get_or text i 0) inside refl;
  none = walk_inside (pairs index) text i sound.apart (sym (walk_front index text i code sound bytes walked inside) ∙ front) walked.none;
}
