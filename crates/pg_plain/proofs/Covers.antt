-- The values and the covers of a word, from the entries that apply in it.
use Rattle.std.proofs.Common.{◌≡◌, ℕ, ◌+◌, ◌-◌, ◌<◌, ◌≤◌, Bool, true, false, cond, ◌&&◌, ◌||◌, List, [], ◌∷◌, length, take, drop, get_or, replicate, max, nat_le, nat_eq, sym, refl, ap, subst, ◌∙◌, arith}
use Rattle.std.proofs.lemmas.Bool.{leb-true, le-leb, and_from}
use Rattle.std.proofs.lemmas.List.{length-take-le, length-drop, take-take, drop-drop, drop-take, get_or-replicate}
use Rattle.std.specs.Cmp.Lexicographic.{bytes_decides}
use Rattle.std.specs.List.{starts_with, list_all, list_any}
use Rattle.pg_types.specs.declared.limits.TheConstants.{WORD_LETTERS_MAX}
use Rattle.pg_patterns.specs.Values.{Patterns, stands_at, applies, greatest_value, value_at}
use Rattle.pg_patterns.specs.Inside.PatternMaps.{is_entry}
use Rattle.pg_select.specs.Windows.{Hopeless, window, fits, is_covered}
use Rattle.pg_plain.specs.Inside.Strings.{is_string}
use Rattle.pg_select.specs.Inside.words.Positions.{bit}
use Rattle.pg_select.specs.Inside.words.WindowStrings.{is_within}
use Rattle.pg_select.proofs.Bits.{same_bits}
use Rattle.pg_plain.specs.Inside.Greatest.{greatest_by}
use Rattle.pg_types.proofs.BoolFacts.{and_first, and_second, all_weaker}
use Rattle.std.specs.Cmp.{both_ways}

entry_string : (e : (List ℕ × ℕ) × ℕ) → is_entry e ≡ true → is_string e.0 ≡ true
entry_string e h = and_first _ _ (and_first _ _ (and_first _ _ (and_first _ _ h)))

-- the entries of a map of patterns have 1 to 32 signs
pub entries_are_strings : (P : Patterns) → list_all is_entry P ≡ true → list_all (λ e. is_string e.0) P ≡ true
entries_are_strings P all = all_weaker is_entry (λ (e : (List ℕ × ℕ) × ℕ). is_string e.0) P entry_string all

-- the signs from where k stands in the window are those from where it stands in the word
inner : (w : List ℕ) (p len dot : ℕ) (k : List ℕ × ℕ) → k.1 ≤ dot → dot ≤ p → (dot - k.1) + length k.0 ≤ len → take (length k.0) (drop (dot - k.1) (window w p len dot))
    ≡ take (length k.0) (drop (p - k.1) w)
inner w p len dot k low high size =
    let whole : len ≡ (dot - k.1) + (len - (dot - k.1)) = omega arith in
    let from : (p - dot) + (dot - k.1) ≡ p - k.1 = omega arith in
    let room : length k.0 ≤ len - (dot - k.1) = omega arith in
    ap (λ x. take (length k.0) (drop (dot - k.1) (take x (drop (p - dot) w)))) whole
    ∙ ap (λ x. take (length k.0) x) (drop-take (dot - k.1) (len - (dot - k.1)) (drop (p - dot) w))
    ∙ take-take (length k.0) (len - (dot - k.1)) (drop (dot - k.1) (drop (p - dot) w)) room
    ∙ ap (λ x. take (length k.0) x) (drop-drop (dot - k.1) (p - dot) w)
    ∙ ap (λ x. take (length k.0) (drop x w)) from

-- a dotted string applies in a window that fits where it applies in the word, and stands within the window
pub cover_law : (w : List ℕ) (p len dot : ℕ) (k : List ℕ × ℕ) → fits w p len dot ≡ true → applies (window w p len dot) dot k ≡ (applies w p k && is_within len dot (length k.0) k.1)
cover_law w p len dot k fit = both_ways _ _ out back
  where
    high : dot ≤ p
    high = leb-true dot p (and_first (nat_le dot p) (nat_le (p - dot + len) (length w)) fit)

    room : p - dot + len ≤ length w
    room = leb-true (p - dot + len) (length w) (and_second (nat_le dot p) (nat_le (p - dot + len) (length w)) fit)

    size : length (window w p len dot) ≡ len
    size = let left : length (drop (p - dot) w) ≡ length w - (p - dot) = length-drop (p - dot) w in let there : p - dot + len ≤ length w = room in length-take-le len (drop (p - dot) w) (omega arith)

    out : applies (window w p len dot) dot k ≡ true → (applies w p k && is_within len dot (length k.0) k.1) ≡ true
    out h =
        let low : k.1 ≤ dot = leb-true k.1 dot (and_first (nat_le k.1 dot) (stands_at k.0 (window w p len dot) (dot - k.1)) h) in
        let stands = and_second (nat_le k.1 dot) (stands_at k.0 (window w p len dot) (dot - k.1)) h in
        let ends : (dot - k.1) + length k.0 ≤ length (window w p len dot) = leb-true ((dot - k.1) + length k.0) (length (window w p len dot))
        (and_first (nat_le ((dot - k.1) + length k.0) (length (window w p len dot))) (starts_with nat_eq (drop (dot - k.1) (window w p len dot)) k.0) stands) in
        let fitting : (dot - k.1) + length k.0 ≤ len = subst (λ x. (dot - k.1) + length k.0 ≤ x) size ends in
        let signs : k.0 ≡ take (length k.0) (drop (dot - k.1) (window w p len dot)) =
        (bytes_decides k.0 (take (length k.0) (drop (dot - k.1) (window w p len dot)))).0
        (and_second (nat_le ((dot - k.1) + length k.0) (length (window w p len dot))) (starts_with nat_eq (drop (dot - k.1) (window w p len dot)) k.0) stands) in
        let there : k.0 ≡ take (length k.0) (drop (p - k.1) w) = signs ∙ inner w p len dot k low high fitting in
        let up : dot ≤ p = high in
        let space : p - dot + len ≤ length w = room in
        and_from (applies w p k) (is_within len dot (length k.0) k.1)
        (and_from (nat_le k.1 p) (stands_at k.0 w (p - k.1)) (le-leb k.1 p (omega arith))
        (and_from (nat_le ((p - k.1) + length k.0) (length w)) (starts_with nat_eq (drop (p - k.1) w) k.0) (le-leb ((p - k.1) + length k.0) (length w) (omega arith))
        ((bytes_decides k.0 (take (length k.0) (drop (p - k.1) w))).1 there)))
        (and_from (nat_le k.1 dot) (nat_le (length k.0 + dot) (len + k.1)) (le-leb k.1 dot low) (le-leb (length k.0 + dot) (len + k.1) (omega arith)))

    back : (applies w p k && is_within len dot (length k.0) k.1) ≡ true → applies (window w p len dot) dot k ≡ true
    back h =
        let all : applies w p k ≡ true = and_first (applies w p k) (is_within len dot (length k.0) k.1) h in
        let inside : is_within len dot (length k.0) k.1 ≡ true = and_second (applies w p k) (is_within len dot (length k.0) k.1) h in
        let low : k.1 ≤ dot = leb-true k.1 dot (and_first (nat_le k.1 dot) (nat_le (length k.0 + dot) (len + k.1)) inside) in
        let ends : length k.0 + dot ≤ len + k.1 = leb-true (length k.0 + dot) (len + k.1) (and_second (nat_le k.1 dot) (nat_le (length k.0 + dot) (len + k.1)) inside) in
        let fitting : (dot - k.1) + length k.0 ≤ len = omega arith in
        let stands = and_second (nat_le k.1 p) (stands_at k.0 w (p - k.1)) all in
        let signs : k.0 ≡ take (length k.0) (drop (p - k.1) w) = (bytes_decides k.0 (take (length k.0) (drop (p - k.1) w))).0
        (and_second (nat_le ((p - k.1) + length k.0) (length w)) (starts_with nat_eq (drop (p - k.1) w) k.0) stands) in
        let there : k.0 ≡ take (length k.0) (drop (dot - k.1) (window w p len dot)) = signs ∙ sym (inner w p len dot k low high fitting) in
        and_from (nat_le k.1 dot) (stands_at k.0 (window w p len dot) (dot - k.1)) (le-leb k.1 dot low)
        (and_from (nat_le ((dot - k.1) + length k.0) (length (window w p len dot))) (starts_with nat_eq (drop (dot - k.1) (window w p len dot)) k.0)
        (le-leb ((dot - k.1) + length k.0) (length (window w p len dot)) (subst (λ x. (dot - k.1) + length k.0 ≤ x) (sym size) fitting))
        ((bytes_decides k.0 (take (length k.0) (drop (dot - k.1) (window w p len dot)))).1 there))

bit_or : (a b c : Bool) → bit ((a && b) || c) ≡ max (cond a (bit b) 0) (bit c)
bit_or true true true = refl
bit_or true true false = refl
bit_or true false true = refl
bit_or true false false = refl
bit_or false b true = refl
bit_or false b false = refl

-- whether an entry passes, as the greatest of the bits
any_bit : {X : Type 0} (g h : (List ℕ × ℕ) × X → Bool) (t : List ℕ × ℕ → Bool) (es : List ((List ℕ × ℕ) × X)) → ((e : (List ℕ × ℕ) × X) → g e ≡ (t e.0 && h e))
    → bit (list_any g es) ≡ greatest_by (λ e. bit (h e)) t es
any_bit g h t [] same = refl
any_bit g h t (e ∷ es) same =
    ap (λ b. bit (b || list_any g es)) (same e) ∙ bit_or (t e.0) (h e) (list_any g es) ∙ ap (λ n. max (cond (t e.0) (bit (h e)) 0) n) (any_bit g h t es same)

swap : (a b c : Bool) → (a && (b && c)) ≡ (b && (a && c))
swap true true c = refl
swap true false c = refl
swap false true c = refl
swap false false c = refl

joined_bits : (a b : Bool) (x y z : ℕ) → x ≡ 0 → y ≡ max x (bit a) → z ≡ max y (bit b) → z ≡ bit (a || b)
joined_bits true true x y z p q r = omega arith
joined_bits true false x y z p q r = omega arith
joined_bits false true x y z p q r = omega arith
joined_bits false false x y z p q r = omega arith

best_greatest : (t : List ℕ × ℕ → Bool) (P : Patterns) → greatest_by (λ e. e.1) t P ≡ greatest_value t P
best_greatest t [] = refl
best_greatest t (e ∷ es) = ap (λ n. max (cond (t e.0) e.1 0) n) (best_greatest t es)

none_given : {X : Type 0} (t : List ℕ × ℕ → Bool) (es : List ((List ℕ × ℕ) × X)) → greatest_by (λ e. 0) t es ≡ 0
none_given t [] = refl
none_given t (e ∷ es) = let rest : greatest_by (λ e. 0) t es ≡ 0 = none_given t es in ap (λ n. max (cond (t e.0) 0 0) n) rest ∙ nothing (t e.0)
  where
    nothing : (b : Bool) → max (cond b 0 0) 0 ≡ 0
    nothing true = refl
    nothing false = refl

raised_value : (x y z a b v : ℕ) → x ≡ 0 → a ≡ v → b ≡ 0 → y ≡ max x a → z ≡ max y b → z ≡ v
raised_value x y z a b v p q r s t = omega arith

start_value : (values : List ℕ) (p : ℕ) → values ≡ replicate (WORD_LETTERS_MAX + 2) 0 → p < WORD_LETTERS_MAX + 2 → get_or values p 0 ≡ 0
start_value values p is inside = ap (λ x. get_or x p 0) is ∙ get_or-replicate (WORD_LETTERS_MAX + 2) p 0 0 inside

start_cover : (covers : List Bool) (p : ℕ) → covers ≡ replicate (WORD_LETTERS_MAX + 2) false → p < WORD_LETTERS_MAX + 2 → bit (get_or covers p false) ≡ 0
start_cover covers p is inside = ap (λ x. bit (get_or x p false)) is ∙ ap bit (get_or-replicate (WORD_LETTERS_MAX + 2) p false false inside)

-- the values of a word: those of the patterns, and hopeless dotted strings give none
pub values_end : (P : Patterns) (H : Hopeless) (w x y z : List ℕ) → length w ≤ WORD_LETTERS_MAX + 2 → x ≡ replicate (WORD_LETTERS_MAX + 2) 0
    → ((p : ℕ) → p < WORD_LETTERS_MAX + 2 → get_or y p 0 ≡ max (get_or x p 0) (greatest_by (λ e. e.1) (applies w p) P))
    → ((p : ℕ) → p < WORD_LETTERS_MAX + 2 → get_or z p 0 ≡ max (get_or y p 0) (greatest_by (λ e. 0) (applies w p) H))
    → (p : ℕ) → p < length w → get_or z p 0 ≡ value_at P w p
values_end P H w x y z long start first second p inside =
    let room : p < WORD_LETTERS_MAX + 2 = omega arith in
    raised_value (get_or x p 0) (get_or y p 0) (get_or z p 0) (greatest_by (λ e. e.1) (applies w p) P) (greatest_by (λ e. 0) (applies w p) H) (value_at P w p)
    (start_value x p start room) (best_greatest (applies w p) P) (none_given (applies w p) H) (first p room) (second p room)

-- the covers of the windows that fit
pub covers_end : (P : Patterns) (H : Hopeless) (level len dot : ℕ) (w : List ℕ) (x y z : List Bool) → length w ≤ WORD_LETTERS_MAX + 2 → x ≡ replicate (WORD_LETTERS_MAX + 2) false
    → ((p : ℕ) → p < WORD_LETTERS_MAX + 2 → bit (get_or y p false) ≡ max (bit (get_or x p false)) (greatest_by (λ e. bit (nat_le level e.1 && is_within len dot (length e.0.0) e.0.1)) (applies w p) P))
    → ((p : ℕ) → p < WORD_LETTERS_MAX + 2 → bit (get_or z p false) ≡ max (bit (get_or y p false)) (greatest_by (λ e. bit (is_within len dot (length e.0.0) e.0.1)) (applies w p) H))
    → (p : ℕ) → p < length w → fits w p len dot ≡ true → get_or z p false ≡ is_covered level P H (window w p len dot) dot
covers_end P H level len dot w x y z long start first second p inside fit =
    let room : p < WORD_LETTERS_MAX + 2 = omega arith in
    let law : (k : List ℕ × ℕ) → applies (window w p len dot) dot k ≡ (applies w p k && is_within len dot (length k.0) k.1) = λ k. cover_law w p len dot k fit in
    let patterns : bit (list_any (λ e. nat_le level e.1 && applies (window w p len dot) dot e.0) P)
    ≡ greatest_by (λ e. bit (nat_le level e.1 && is_within len dot (length e.0.0) e.0.1)) (applies w p) P =
    any_bit (λ (e : (List ℕ × ℕ) × ℕ). nat_le level e.1 && applies (window w p len dot) dot e.0) (λ (e : (List ℕ × ℕ) × ℕ). nat_le level e.1 && is_within len dot (length e.0.0) e.0.1) (applies w p) P
    (λ e. ap (λ b. nat_le level e.1 && b) (law e.0) ∙ swap (nat_le level e.1) (applies w p e.0) (is_within len dot (length e.0.0) e.0.1)) in
    let hopeless : bit (list_any (λ e. applies (window w p len dot) dot e.0) H) ≡ greatest_by (λ e. bit (is_within len dot (length e.0.0) e.0.1)) (applies w p) H =
    any_bit (λ (e : (List ℕ × ℕ) × Unit {0}). applies (window w p len dot) dot e.0) (λ (e : (List ℕ × ℕ) × Unit {0}). is_within len dot (length e.0.0) e.0.1) (applies w p) H (λ e. law e.0) in
    same_bits (get_or z p false) (is_covered level P H (window w p len dot) dot)
    (joined_bits (list_any (λ e. nat_le level e.1 && applies (window w p len dot) dot e.0) P) (list_any (λ e. applies (window w p len dot) dot e.0) H)
    (bit (get_or x p false)) (bit (get_or y p false)) (bit (get_or z p false))
    (start_cover x p start room) (first p room ∙ ap (λ n. max (bit (get_or x p false)) n) (sym patterns)) (second p room ∙ ap (λ n. max (bit (get_or y p false)) n) (sym hopeless)))
