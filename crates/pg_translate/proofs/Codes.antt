-- The codes of texts: different texts of bytes have different codes.
use Rattle.std.proofs.Common.{◌≡◌, ℕ, ◌+◌, ◌-◌, ◌*◌, ◌^◌, ◌<◌, ◌≤◌, nat_lt, true, ⊎_elim, List, [], ◌∷◌, ◌++◌, length, take, drop, get_or, fold, refl, sym, ap, ap₂, ◌∙◌, arith, suc, zero}
use Rattle.std.specs.List.{list_all}
use Rattle.std.proofs.lemmas.Bool.{and_parts, ltb-true, cases_order}
use Rattle.std.proofs.lemmas.List.{length-drop, take-append-drop, take_more, length-take-le}
use Rattle.std.proofs.lemmas.List.Sums.{fold-append}
use Rattle.pg_translate.specs.Inside.spellings.Fronts.{front_code, AreBytes}

-- the code of a text behind a number
abbrev pub code_from : ℕ → List ℕ → ℕ
code_from code text = fold (λ code b. code * 256 + b) code text

-- equal codes of texts of one length: the numbers before them and the texts are equal
same_from : (c d : ℕ) (p q : List ℕ) → AreBytes p → AreBytes q → length p ≡ length q → code_from c p ≡ code_from d q → (c ≡ d) × (p ≡ q)
same_from c d [] [] bp bq lengths h = (h, refl)
same_from c d [] (y ∷ ys) bp bq lengths h = absurd (omega arith)
same_from c d (x ∷ xs) [] bp bq lengths h = absurd (omega arith)
same_from c d (x ∷ xs) (y ∷ ys) bp bq lengths h =
    let px : (nat_lt x 256 ≡ true) × (list_all (λ b. nat_lt b 256) xs ≡ true) = and_parts _ _ bp in
    let py : (nat_lt y 256 ≡ true) × (list_all (λ b. nat_lt b 256) ys ≡ true) = and_parts _ _ bq in
    let rest : (c * 256 + x ≡ d * 256 + y) × (xs ≡ ys) = same_from (c * 256 + x) (d * 256 + y) xs ys px.1 py.1 (omega arith) h in
    let small_x : x < 256 = ltb-true x 256 px.0 in
    let small_y : y < 256 = ltb-true y 256 py.0 in
    let here : c * 256 + x ≡ d * 256 + y = rest.0 in
    let codes : c ≡ d = omega arith in
    let bytes : x ≡ y = omega arith in
    (codes, ap₂ (λ (z : ℕ) (zs : List ℕ). z ∷ zs) bytes rest.1)

-- a code is at least the number before the text
code_from_least : (c : ℕ) (p : List ℕ) → c ≤ code_from c p
code_from_least c [] = omega arith
code_from_least c (x ∷ xs) = let rest : c * 256 + x ≤ code_from (c * 256 + x) xs = code_from_least (c * 256 + x) xs in omega arith

-- a code is at least 1
pub code_least : (p : List ℕ) → 1 ≤ front_code p
code_least p = code_from_least 1 p

-- the code of a text that is not empty is at least 256
pub code_some : (p : List ℕ) → 0 < length p → 256 ≤ front_code p
code_some [] some = absurd (omega arith)
code_some (x ∷ xs) some = let rest : 1 * 256 + x ≤ code_from (1 * 256 + x) xs = code_from_least (1 * 256 + x) xs in omega arith

-- a part of a text of bytes is one
bytes_drop : (n : ℕ) (p : List ℕ) → AreBytes p → AreBytes (drop n p)
bytes_drop zero p h = h
bytes_drop (suc n) [] h = refl
bytes_drop (suc n) (x ∷ xs) h = bytes_drop n xs (and_parts _ _ h).1

-- a longer text has another code
longer_differs : (p q : List ℕ) → AreBytes p → AreBytes q → length p < length q → front_code p ≡ front_code q → ⊥
longer_differs p q bp bq longer h =
    let k : ℕ = length q - length p in
    let split : take k q ++ drop k q ≡ q = take-append-drop k q in
    let behind : front_code q ≡ code_from (front_code (take k q)) (drop k q) = ap front_code (sym split) ∙ fold-append (λ code b. code * 256 + b) 1 (take k q) (drop k q) in
    let lengths : length (drop k q) ≡ length q - k = length-drop k q in
    let heads : length (take k q) ≡ k = length-take-le k q (omega arith) in
    let same : (1 ≡ front_code (take k q)) × (p ≡ drop k q) = same_from 1 (front_code (take k q)) p (drop k q) bp (bytes_drop k q bq) (omega arith) (h ∙ behind) in
    let large : 256 ≤ front_code (take k q) = code_some (take k q) (omega arith) in
    let small : 1 ≡ front_code (take k q) = same.0 in
    absurd (omega arith)

-- texts of bytes with one code are equal
pub code_same : (p q : List ℕ) → AreBytes p → AreBytes q → front_code p ≡ front_code q → p ≡ q
code_same p q bp bq h =
    ⊎_elim (λ (lengths : length p ≡ length q). (same_from 1 1 p q bp bq lengths h).1)
    (λ other. ⊎_elim (λ (longer : length p < length q). absurd (longer_differs p q bp bq longer h)) (λ shorter. absurd (longer_differs q p bq bp shorter (sym h))) other)
    (cases_order (length p) (length q))

-- the code of a text and a byte behind it
pub code_push : (p : List ℕ) (b : ℕ) → front_code (p ++ b ∷ []) ≡ front_code p * 256 + b
code_push p b = fold-append (λ code b. code * 256 + b) 1 p (b ∷ [])

-- the code of the next front of a text
pub code_more : (text : List ℕ) (i b : ℕ) → i < length text → b ≡ get_or text i 0 → front_code (take i text) * 256 + b ≡ front_code (take (i + 1) text)
code_more text i b inside is = sym (ap front_code (take_more text i 0 inside) ∙ code_push (take i text) (get_or text i 0) ∙ ap (λ (n : ℕ). front_code (take i text) * 256 + n) (sym is))

-- the greatest code of texts of at most n bytes behind a number
abbrev bound : ℕ → ℕ → ℕ
bound c zero = c
bound c (suc n) = bound (c * 256 + 255) n

bound_least : (n c d : ℕ) → c ≤ d → c ≤ bound d n
bound_least zero c d h = h
bound_least (suc n) c d h = bound_least n c (d * 256 + 255) (omega arith)

code_bound : (n c d : ℕ) (p : List ℕ) → c ≤ d → AreBytes p → length p ≤ n → code_from c p ≤ bound d n
code_bound n c d [] small bytes few = bound_least n c d small
code_bound zero c d (x ∷ xs) small bytes few = absurd (omega arith)
code_bound (suc n) c d (x ∷ xs) small bytes few =
    let parts : (nat_lt x 256 ≡ true) × (list_all (λ b. nat_lt b 256) xs ≡ true) = and_parts _ _ bytes in
    let byte : x < 256 = ltb-true x 256 parts.0 in
    code_bound n (c * 256 + x) (d * 256 + 255) xs (omega arith) parts.1 (omega arith)

-- the code of a text of fewer than 8 bytes is below 2^57
pub code_small : (p : List ℕ) → AreBytes p → length p < 8 → front_code p < 2 ^ 57
code_small p bytes few = let small : code_from 1 p ≤ bound 1 7 = code_bound 7 1 1 p (omega arith) bytes (omega arith) in omega arith
