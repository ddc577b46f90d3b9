-- Windows of one sign more compare as the windows without it, and then as that sign.
use Rattle.std.proofs.Common.{◌≡◌, ℕ, ◌+◌, ◌*◌, ◌/◌, ◌%◌, ◌<◌, ◌≤◌, Bool, true, false, List, [], ◌∷◌, ◌++◌, length, get_or, take, drop, refl, sym, ap, ◌∙◌, subst, cond, nat_eq, inl, inr, Fits, w16, arith}
use Rattle.std.specs.declared.cmp.Ordering.{Ordering}
use Rattle.std.specs.declared.cmp.Ordering.TheVariants.{Less, Equal, Greater}
use Rattle.std.specs.Ordering.{nat_cmp, ordering_then, is_eq}
use Rattle.std.specs.Cmp.Lexicographic.{slice_cmp, nat_list_cmp_total, texts_ties, same_text}
use Rattle.std.proofs.lemmas.Bool.{cases_eq, eq-eqb, ne_eqb}
use Rattle.std.proofs.lemmas.Bool.Decides.{nat_tests}
use Rattle.std.proofs.lemmas.List.{take_more, length-take-le, length-drop, get_or-drop}
use Rattle.std.proofs.lemmas.Nat.{mul-add-lt}
use Rattle.std.proofs.Math.Nat.{mul_comm}
use Rattle.std.proofs.lemmas.Cmp.{ranked, by_ranked, tied_itself}
use Rattle.pg_starts.specs.Inside.Starts.{window_from, window_order, part_behind, part_of}
use Rattle.pg_starts.specs.Inside.Orders.{AreOrdered, AreNumbers, then_part}

pub then_equal : (r : Ordering) → ordering_then r Equal ≡ r
then_equal Less = refl
then_equal Equal = refl
then_equal Greater = refl

then_assoc : (p q r : Ordering) → ordering_then (ordering_then p q) r ≡ ordering_then p (ordering_then q r)
then_assoc Less q r = refl
then_assoc Equal q r = refl
then_assoc Greater q r = refl

-- lists of one length with a sign more: the last sign decides where the lists are equal
pub cmp_push : (xs ys : List ℕ) (a b : ℕ) → length xs ≡ length ys
    → slice_cmp nat_cmp (xs ++ a ∷ []) (ys ++ b ∷ []) ≡ ordering_then (slice_cmp nat_cmp xs ys) (nat_cmp a b)
cmp_push [] [] a b e = then_equal (nat_cmp a b)
cmp_push [] (y ∷ ys) a b e = absurd (omega arith)
cmp_push (x ∷ xs) [] a b e = absurd (omega arith)
cmp_push (x ∷ xs) (y ∷ ys) a b e =
    let same : length xs ≡ length ys = omega arith in
    ap (ordering_then (nat_cmp x y)) (cmp_push xs ys a b same)
    ∙ sym (then_assoc (nat_cmp x y) (slice_cmp nat_cmp xs ys) (nat_cmp a b))

pub cmp_less : (m n : ℕ) → m < n → nat_cmp m n ≡ Less
cmp_less m n h = grind (arith, nat_tests)

pub cmp_equal : (m n : ℕ) → m ≡ n → nat_cmp m n ≡ Equal
cmp_equal m n h = grind (arith, nat_tests)

pub cmp_greater : (m n : ℕ) → n < m → nat_cmp m n ≡ Greater
cmp_greater m n h = grind (arith, nat_tests)

same_high : (r m n a b : ℕ) → m ≡ n → nat_cmp (m * r + a) (n * r + b) ≡ nat_cmp a b
same_high r m n a b same =
    let high : m * r ≡ n * r = ap (λ k. k * r) same in
    by_ranked (a < b) (a ≡ b) (b < a) (nat_cmp a b) (ranked a b (nat_cmp a b) refl)
    (λ e h. cmp_less (m * r + a) (n * r + b) (omega arith) ∙ sym e)
    (λ e h. cmp_equal (m * r + a) (n * r + b) (omega arith) ∙ sym e)
    (λ e h. cmp_greater (m * r + a) (n * r + b) (omega arith) ∙ sym e)

less_high : (r m n a b : ℕ) → m < n → a < r → m * r + a < n * r + b
less_high r m n a b less low = omega (arith, mul-add-lt m r a n less low, mul_comm r n)

-- pairs packed into one number compare as pairs
pub cmp_pack : (r m n a b : ℕ) → a < r → b < r
    → nat_cmp (m * r + a) (n * r + b) ≡ ordering_then (nat_cmp m n) (nat_cmp a b)
cmp_pack r m n a b low high = by_ranked (m < n) (m ≡ n) (n < m) (nat_cmp m n) (ranked m n (nat_cmp m n) refl)
    (λ e h. cmp_less (m * r + a) (n * r + b) (less_high r m n a b h low) ∙ sym (ap (λ o. ordering_then o (nat_cmp a b)) e))
    (λ e h. same_high r m n a b h ∙ sym (ap (λ o. ordering_then o (nat_cmp a b)) e))
    (λ e h. cmp_greater (m * r + a) (n * r + b) (less_high r n m b a h high) ∙ sym (ap (λ o. ordering_then o (nat_cmp a b)) e))

-- a window of one sign more
pub window_more : (signs : List ℕ) (i len : ℕ) → i + len < length signs
    → window_from signs i (len + 1) ≡ window_from signs i len ++ get_or signs (i + len) 0 ∷ []
window_more signs i len h =
    let room : len < length (drop i signs) = omega (arith, length-drop i signs) in
    take_more (drop i signs) len 0 room ∙ ap (λ x. take len (drop i signs) ++ x ∷ []) (get_or-drop i signs len 0)

pub length_window : (signs : List ℕ) (i len : ℕ) → i + len ≤ length signs → length (window_from signs i len) ≡ len
length_window signs i len h = length-take-le len (drop i signs) (omega (arith, length-drop i signs))

-- a window as long compares with itself as equal, and only with itself
pub same_from_equal : (xs ys : List ℕ) → slice_cmp nat_cmp xs ys ≡ Equal → xs ≡ ys
same_from_equal xs ys e = same_text xs ys (sym (texts_ties xs ys ∙ ap is_eq e))

pub equal_from_same : (xs ys : List ℕ) → xs ≡ ys → slice_cmp nat_cmp xs ys ≡ Equal
equal_from_same xs ys e = sym (ap (slice_cmp nat_cmp xs) e) ∙ tied_itself nat_list_cmp_total xs

pub less_from_cmp : (m n : ℕ) → nat_cmp m n ≡ Less → m < n
less_from_cmp m n e = grind (arith, nat_tests)

pub equal_from_cmp : (m n : ℕ) → nat_cmp m n ≡ Equal → m ≡ n
equal_from_cmp m n e = grind (arith, nat_tests)

-- windows of one sign more
pub longer_order : (signs : List ℕ) (at i j : ℕ) → i + at < length signs → j + at < length signs
    → ordering_then (window_order signs at i j) (nat_cmp (get_or signs (i + at) 0) (get_or signs (j + at) 0)) ≡ window_order signs (at + 1) i j
longer_order signs at i j ri rj =
    let long : length (window_from signs i at) ≡ length (window_from signs j at) = length_window signs i at (omega arith) ∙ sym (length_window signs j at (omega arith)) in
    sym (ap (λ x. slice_cmp nat_cmp x (window_from signs j (at + 1))) (window_more signs i at ri)
    ∙ ap (slice_cmp nat_cmp (window_from signs i at ++ get_or signs (i + at) 0 ∷ [])) (window_more signs j at rj)
    ∙ cmp_push _ _ _ _ long)

-- a sign compares as its parts
parts_compare : (a b : ℕ) → ordering_then (ordering_then (nat_cmp (a / 4096) (b / 4096)) (nat_cmp (a / 64 % 64) (b / 64 % 64))) (nat_cmp (a % 64) (b % 64)) ≡ nat_cmp a b
parts_compare a b =
    let x : a / 64 * 64 + a % 64 ≡ a = omega arith in
    let y : b / 64 * 64 + b % 64 ≡ b = omega arith in
    let high_x : a / 4096 * 64 + a / 64 % 64 ≡ a / 64 = omega arith in
    let high_y : b / 4096 * 64 + b / 64 % 64 ≡ b / 64 = omega arith in
    ap (λ o. ordering_then o (nat_cmp (a % 64) (b % 64)))
    (sym (cmp_pack 64 (a / 4096) (b / 4096) (a / 64 % 64) (b / 64 % 64) (omega arith) (omega arith)) ∙ (λ k. nat_cmp (high_x k) (high_y k)))
    ∙ sym (cmp_pack 64 (a / 64) (b / 64) (a % 64) (b % 64) (omega arith) (omega arith)) ∙ (λ k. nat_cmp (x k) (y k))

-- windows that take in a sign in its three parts
pub sign_order : (signs : List ℕ) (at i j : ℕ) → i + at < length signs → j + at < length signs
    → then_part (then_part (then_part (window_order signs at) (part_behind signs at 2)) (part_behind signs at 1)) (part_behind signs at 0) i j ≡ window_order signs (at + 1) i j
sign_order signs at i j ri rj =
    let a : ℕ = get_or signs (i + at) 0 in
    let b : ℕ = get_or signs (j + at) 0 in
    let w : Ordering = window_order signs at i j in
    ap (λ o. ordering_then o (nat_cmp (a % 64) (b % 64))) (then_assoc w (nat_cmp (a / 4096) (b / 4096)) (nat_cmp (a / 64 % 64) (b / 64 % 64)))
    ∙ then_assoc w (ordering_then (nat_cmp (a / 4096) (b / 4096)) (nat_cmp (a / 64 % 64) (b / 64 % 64))) (nat_cmp (a % 64) (b % 64))
    ∙ ap (ordering_then w) (parts_compare a b)
    ∙ longer_order signs at i j ri rj

-- a part that is 0 everywhere changes no order
pub ordered_same : (order : ℕ → ℕ → Ordering) (part : ℕ → ℕ) (test : ℕ → Bool) (num : List ℕ) (count : ℕ) → ((i : ℕ) → part i ≡ 0) → AreOrdered order test num count
    → AreOrdered (then_part order part) test num count
ordered_same order part test num count none a = record {
  below = a.below;
  compare = λ i j x y. a.compare i j x y ∙ sym (ap (ordering_then (order i j)) (cmp_equal (part i) (part j) (none i ∙ sym (none j))) ∙ then_equal (order i j));
}

-- numbers in another order that is the same
pub numbers_in : (order other : ℕ → ℕ → Ordering) (test : ℕ → Bool) (num firsts : List ℕ) → ((i j : ℕ) → test i ≡ true → test j ≡ true → order i j ≡ other i j)
    → AreNumbers order test num firsts → AreNumbers other test num firsts
numbers_in order other test num firsts same a = record {
  ordered = record { below = a.ordered.below; compare = λ i j x y. a.ordered.compare i j x y ∙ same i j x y };
  taken = a.taken;
}

-- numbers of fewer starts
pub ordered_fewer : (order : ℕ → ℕ → Ordering) (more fewer : ℕ → Bool) (num : List ℕ) (count : ℕ) → ((i : ℕ) → fewer i ≡ true → more i ≡ true) → AreOrdered order more num count
    → AreOrdered order fewer num count
ordered_fewer order more fewer num count among a = record {
  below = λ i x. a.below i (among i x);
  compare = λ i j x y. a.compare i j (among i x) (among j y);
}

-- a part of a sign is less than 64
part_small : (k sign : ℕ) → sign < 65536 → part_of k sign < 64
part_small k sign low = elim (cases_eq k 2) [
  | inl is ↦ subst (λ b. cond b (sign / 4096) (cond (nat_eq k 1) (sign / 64 % 64) (sign % 64)) < 64) (sym (eq-eqb k 2 is)) (omega arith)
  | inr other ↦ subst (λ b. cond b (sign / 4096) (cond (nat_eq k 1) (sign / 64 % 64) (sign % 64)) < 64) (sym (ne_eqb k 2 other)) (by (nat_eq k 1))
]
  where
    by : (b : Bool) → cond b (sign / 64 % 64) (sign % 64) < 64
    by true = omega arith
    by false = omega arith

pub part_low : (signs : List ℕ) (at k : ℕ) → ((i : ℕ) → Fits w16 (get_or signs i 0)) → (i : ℕ) → part_behind signs at k i < 64
part_low signs at k low i = part_small k (get_or signs (i + at) 0) (omega (arith, low (i + at)))
