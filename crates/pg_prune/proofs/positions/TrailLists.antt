-- Ranges, and lists that are filtered.
use Rattle.std.proofs.Common.{◌≡◌, ℕ, zero, suc, ◌+◌, ◌<◌, ◌≤◌, Bool, true, false, cond, ◌&&◌, List, [], ◌∷◌, ◌++◌, length, map, take, get_or, Option, Some, None, refl, sym, ap, ◌∙◌, arith, All}
use Rattle.std.specs.List.{range_with_len, filter, filter_map, cons_option}
use Rattle.std.proofs.lemmas.List.{append-nil, take_more}
use Rattle.std.proofs.lemmas.List.Elements.{All-head, All-tail, filter_map-append, filter_more}

-- two functions that agree on a range
pub range_agree : {X : Type 0} (f g : ℕ → X) (lo n : ℕ) → ((k : ℕ) → lo ≤ k → k < lo + n → f k ≡ g k) → map f (range_with_len lo n) ≡ map g (range_with_len lo n)
range_agree f g lo zero same = refl
range_agree f g lo (suc n) same =
    let first : f lo ≡ g lo = same lo (omega arith) (omega arith) in
    let rest = range_agree f g (lo + 1) n (λ k low high. same k (omega arith) (omega arith)) in
    cc

-- a range in two parts
pub range_parts : (lo m n : ℕ) → range_with_len lo (m + n) ≡ range_with_len lo m ++ range_with_len (lo + m) n
range_parts lo zero n =
    let size : 0 + n ≡ n = omega arith in
    let position : lo ≡ lo + 0 = omega arith in
    ap (range_with_len lo) size ∙ ap (λ k. range_with_len k n) position
range_parts lo (suc m) n =
    let size : suc m + n ≡ suc (m + n) = omega arith in
    let position : lo + 1 + m ≡ lo + suc m = omega arith in
    ap (range_with_len lo) size ∙ ap (λ xs. lo ∷ xs) (range_parts (lo + 1) m n ∙ ap (λ k. range_with_len (lo + 1) m ++ range_with_len k n) position)

-- what is kept of what is kept
kept_both : {X : Type 0} (p : X → Bool) (x : X) (qs rs : List X) (a c : Bool) → c ≡ (a && p x) → filter p qs ≡ rs → filter p (cond a (x ∷ qs) qs) ≡ cond c (x ∷ rs) rs
kept_both p x qs rs false c is rest = rest ∙ ap (λ b. cond b (x ∷ rs) rs) (sym is)
kept_both p x qs rs true c is rest = ap (λ ys. cond (p x) (x ∷ ys) ys) rest ∙ ap (λ b. cond b (x ∷ rs) rs) (sym is)

pub filter_both : {X : Type 0} (p q r : X → Bool) → ((x : X) → r x ≡ (q x && p x)) → (xs : List X) → filter p (filter q xs) ≡ filter r xs
filter_both p q r both [] = refl
filter_both p q r both (x ∷ xs) = kept_both p x (filter q xs) (filter r xs) (q x) (r x) (both x) (filter_both p q r both xs)

-- all are kept where all pass
pub filter_all : {X : Type 0} (p : X → Bool) (xs : List X) → All (λ x. p x ≡ true) xs → xs ≡ filter p xs
filter_all p [] all = refl
filter_all p (x ∷ xs) all =
    let first : p x ≡ true = All-head (λ x. p x ≡ true) x xs all in
    let rest = filter_all p xs (All-tail (λ x. p x ≡ true) x xs all) in
    ap (λ ys. x ∷ ys) rest ∙ ap (λ b. cond b (x ∷ filter p xs) (filter p xs)) (sym first)

-- what a function gives on a range where it gives nothing
pub nothing_in : {Y : Type 0} (g : ℕ → Option Y) (lo n : ℕ) → ((k : ℕ) → lo ≤ k → k < lo + n → g k ≡ None) → filter_map g (range_with_len lo n) ≡ []
nothing_in g lo zero none = refl
nothing_in g lo (suc n) none =
    ap (λ o. cons_option o (filter_map g (range_with_len (lo + 1) n))) (none lo (omega arith) (omega arith))
    ∙ nothing_in g (lo + 1) n (λ k low high. none k (omega arith) (omega arith))

-- what a function gives on a range that is shifted
pub given_shifted : {Y : Type 0} (h g : ℕ → Option Y) (d lo n : ℕ) → ((k : ℕ) → h k ≡ g (k + d)) → filter_map h (range_with_len lo n) ≡ filter_map g (range_with_len (lo + d) n)
given_shifted h g d lo zero same = refl
given_shifted h g d lo (suc n) same =
    let position : lo + 1 + d ≡ lo + d + 1 = omega arith in
    ap (λ o. cons_option o (filter_map h (range_with_len (lo + 1) n))) (same lo)
    ∙ ap (cons_option (g (lo + d))) (given_shifted h g d (lo + 1) n same ∙ ap (λ k. filter_map g (range_with_len k n)) position)

-- what a function gives on an element more
pub given_more : {X Y : Type 0} (f : X → Option Y) (xs : List X) (i : ℕ) (d : X) (y : Y) → i < length xs → Some y ≡ f (get_or xs i d) → filter_map f (take i xs)
    ++ y ∷ [] ≡ filter_map f (take (i + 1) xs)
given_more f xs i d y inside is =
    ap (λ o. filter_map f (take i xs) ++ cons_option o []) is
    ∙ sym (filter_map-append f (take i xs) (get_or xs i d ∷ []))
    ∙ ap (λ ys. filter_map f ys) (sym (take_more xs i d inside))

pub given_none : {X Y : Type 0} (f : X → Option Y) (xs : List X) (i : ℕ) (d : X) → i < length xs → None ≡ f (get_or xs i d) → filter_map f (take i xs) ≡ filter_map f (take (i + 1) xs)
given_none f xs i d inside is =
    sym (append-nil (filter_map f (take i xs)))
    ∙ ap (λ o. filter_map f (take i xs) ++ cons_option o []) is
    ∙ sym (filter_map-append f (take i xs) (get_or xs i d ∷ []))
    ∙ ap (λ ys. filter_map f ys) (sym (take_more xs i d inside))

-- what passes a test among an element more
pub passed_more : {X : Type 0} (p : X → Bool) (xs : List X) (i : ℕ) (d : X) → i < length xs → p (get_or xs i d) ≡ true → filter p (take i xs) ++ get_or xs i d ∷ [] ≡ filter p (take (i + 1) xs)
passed_more p xs i d inside is = ap (λ b. filter p (take i xs) ++ cond b (get_or xs i d ∷ []) []) (sym is) ∙ sym (filter_more p xs i d inside)

pub passed_none : {X : Type 0} (p : X → Bool) (xs : List X) (i : ℕ) (d : X) → i < length xs → p (get_or xs i d) ≡ false → filter p (take i xs) ≡ filter p (take (i + 1) xs)
passed_none p xs i d inside is = sym (append-nil (filter p (take i xs))) ∙ ap (λ b. filter p (take i xs) ++ cond b (get_or xs i d ∷ []) []) (sym is) ∙ sym (filter_more p xs i d inside)
