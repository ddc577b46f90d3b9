-- Lists that are made position by position.
use Rattle.std.proofs.Common.{◌≡◌, ℕ, ◌+◌, ◌<◌, ◌≤◌, List, [], ◌∷◌, ◌++◌, length, map, take, drop, get_or, add-one, refl, ap, ◌∙◌, arith, suc, zero}
use Rattle.std.specs.List.{flat_map, range_with_len, AllByRecursion}
use Rattle.std.proofs.Math.Seq.{drop-cons}
use Rattle.std.proofs.lemmas.List.{map-append}

-- two functions that agree at each position of a range
pub same_over_range : {A : Type 0} (f g : ℕ → List A) (a n : ℕ) → ((p : ℕ) → a ≤ p → p < a + n → f p ≡ g p) → flat_map f (range_with_len a n) ≡ flat_map g (range_with_len a n)
same_over_range f g a zero same = refl
same_over_range f g a (suc n) same =
    let here : f a ≡ g a = same a (omega arith) (omega arith) in
    let rest : flat_map f (range_with_len (a + 1) n) ≡ flat_map g (range_with_len (a + 1) n) = same_over_range f g (a + 1) n (λ p low high. same p (omega arith) (omega arith)) in
    rw (here, rest) refl

pub same_map_over_range : {A : Type 0} (f g : ℕ → A) (a n : ℕ) → ((p : ℕ) → a ≤ p → p < a + n → f p ≡ g p) → map f (range_with_len a n) ≡ map g (range_with_len a n)
same_map_over_range f g a zero same = refl
same_map_over_range f g a (suc n) same =
    let here : f a ≡ g a = same a (omega arith) (omega arith) in
    let rest : map f (range_with_len (a + 1) n) ≡ map g (range_with_len (a + 1) n) = same_map_over_range f g (a + 1) n (λ p low high. same p (omega arith) (omega arith)) in
    rw (here, rest) refl

-- a part of a list, position by position
pub part_of : {A : Type 0} (d : A) (xs : List A) (a n : ℕ) → a + n ≤ length xs → take n (drop a xs) ≡ map (λ p. get_or xs p d) (range_with_len a n)
part_of d xs a zero inside = refl
part_of d xs a (suc n) inside =
    let rest : take n (drop (a + 1) xs) ≡ map (λ p. get_or xs p d) (range_with_len (a + 1) n) = part_of d xs (a + 1) n (omega arith) in
    let after : take n (drop (suc a) xs) ≡ map (λ p. get_or xs p d) (range_with_len (a + 1) n) = rw (← add-one) rest in
    rw (drop-cons xs a d (omega arith)) (ap (λ r. get_or xs a d ∷ r) after)

-- a fact of each element of what a range gives
pub each_append : {A : Type 0} (P : A → Type 0) (xs ys : List A) → AllByRecursion P xs → AllByRecursion P ys → AllByRecursion P (xs ++ ys)
each_append P [] ys front back = back
each_append P (x ∷ xs) ys front back = (front.0, each_append P xs ys front.1 back)

pub each_over_range : {A : Type 0} (P : A → Type 0) (f : ℕ → List A) (a n : ℕ) → ((p : ℕ) → a ≤ p → p < a + n → AllByRecursion P (f p)) → AllByRecursion P (flat_map f (range_with_len a n))
each_over_range P f a zero each = tt
each_over_range P f a (suc n) each = each_append P (f a) (flat_map f (range_with_len (a + 1) n)) (each a (omega arith) (omega arith))
    (each_over_range P f (a + 1) n (λ p low high. each p (omega arith) (omega arith)))

-- a map goes into the pieces
pub map_pieces : {X A B : Type 0} (g : A → B) (f : X → List A) (xs : List X) → map g (flat_map f xs) ≡ flat_map (λ x. map g (f x)) xs
map_pieces g f [] = refl
map_pieces g f (x ∷ xs) = map-append g (f x) (flat_map f xs) ∙ ap (λ r. map g (f x) ++ r) (map_pieces g f xs)
