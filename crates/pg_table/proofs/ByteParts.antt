-- Parts of a list of bytes, and the numbers in them.
use Rattle.std.proofs.Common.{◌≡◌, ℕ, suc, zero, ◌+◌, ◌*◌, ◌/◌, ◌%◌, ◌<◌, List, [], ◌∷◌, ◌++◌, length, get_or, slice_index, refl, sym, ◌∙◌, ap, arith, append_assoc, length-append}
use Rattle.std.specs.List.{flat_map}
use Rattle.std.proofs.lemmas.List.{get_or-append-add}
use Rattle.pg_table.specs.Numbers.{number_of_bytes, bytes_of_number}

-- the bytes of a part stand in b from i on
pub record HasPart (b : List ℕ) (i : ℕ) (part : List ℕ) : Type 0 where
  pub before : List ℕ
  pub after : List ℕ
  pub whole : b ≡ before ++ (part ++ after)
  pub at : length before ≡ i

pub part_first : (b : List ℕ) (i : ℕ) (x y : List ℕ) → HasPart b i (x ++ y) → HasPart b i x
part_first b i x y has = record { before = has.before; after = y ++ has.after; whole = has.whole ∙ ap (λ l. has.before ++ l) (append_assoc x y has.after); at = has.at }

pub part_rest : (b : List ℕ) (i j : ℕ) (x y : List ℕ) → HasPart b i (x ++ y) → i + length x ≡ j → HasPart b j y
part_rest b i j x y has there = record {
  before = has.before ++ x;
  after = has.after;
  whole = has.whole ∙ ap (λ l. has.before ++ l) (append_assoc x y has.after) ∙ sym (append_assoc has.before x (y ++ has.after));
  at = length-append has.before x ∙ ap (λ n. n + length x) has.at ∙ there;
}

-- the byte at a place of a part
pub part_byte : (b : List ℕ) (i k : ℕ) (part : List ℕ) → HasPart b i part → k < length part → slice_index b (i + k) ≡ slice_index part k
part_byte b i k part has inside =
    ap (λ l. get_or l (i + k) 0) has.whole
    ∙ ap (λ n. get_or (has.before ++ (part ++ has.after)) (n + k) 0) (sym has.at)
    ∙ get_or-append-add has.before (part ++ has.after) k 0
    ∙ within part k inside
  where
    within : (part : List ℕ) (k : ℕ) → k < length part → get_or (part ++ has.after) k 0 ≡ get_or part k 0
    within [] k inside = absurd (omega arith)
    within (x ∷ xs) zero inside = refl
    within (x ∷ xs) (suc k) inside = within xs k (omega arith)

pub length-bytes : (n x : ℕ) → length (bytes_of_number n x) ≡ n
unfolding bytes_of_number
length-bytes zero x = refl
length-bytes (suc n) x = omega (arith, length-append (bytes_of_number n (x / 256)) (x % 256 ∷ []), length-bytes n (x / 256))

-- nothing is left of a number behind n bytes
abbrev Fits : ℕ → ℕ → Type 0
Fits zero x = x ≡ 0
Fits (suc n) x = Fits n (x / 256)

-- a number reads back
number_part : (n : ℕ) (b : List ℕ) (i x : ℕ) → HasPart b i (bytes_of_number n x) → Fits n x → number_of_bytes n b i ≡ x
unfolding number_of_bytes bytes_of_number
number_part zero b i x has fits = sym fits
number_part (suc n) b i x has fits =
    let front : List ℕ = bytes_of_number n (x / 256) in
    let high : number_of_bytes n b i ≡ x / 256 = number_part n b i (x / 256) (part_first b i front (x % 256 ∷ []) has) fits in
    let last : HasPart b (i + n) (x % 256 ∷ []) = part_rest b i (i + n) front (x % 256 ∷ []) has (ap (λ k. i + k) (length-bytes n (x / 256))) in
    let start : i + n + 0 ≡ i + n = omega arith in
    let low : slice_index b (i + n) ≡ x % 256 = ap (slice_index b) (sym start) ∙ part_byte b (i + n) 0 (x % 256 ∷ []) last (omega arith) in
    omega (arith, high, low)

pub u16_part : (b : List ℕ) (i n : ℕ) → HasPart b i (bytes_of_number 2 n) → n < 65536 → number_of_bytes 2 b i ≡ n
u16_part b i n has small = number_part 2 b i n has (omega arith)

pub u32_part : (b : List ℕ) (i n : ℕ) → HasPart b i (bytes_of_number 4 n) → n < 4294967296 → number_of_bytes 4 b i ≡ n
u32_part b i n has small = number_part 4 b i n has (omega arith)

-- parts of one length, one behind the other
module _ {X : Type 0} (f : X → List ℕ) (k : ℕ) (each : (x : X) → length (f x) ≡ k) where
  pub length-parts : (xs : List X) → length (flat_map f xs) ≡ k * length xs
  length-parts [] = omega arith
  length-parts (x ∷ xs) = omega (arith, length-append (f x) (flat_map f xs), each x, length-parts xs)

  pub part_of : (b : List ℕ) (i j : ℕ) (xs : List X) (n : ℕ) (x : X) → HasPart b i (flat_map f xs) → n < length xs → get_or xs n x ≡ x → i + k * n ≡ j → HasPart b j (f x)
  part_of b i j [] n x has inside is there = absurd (omega arith)
  part_of b i j (y ∷ xs) zero x has inside is there =
      let here : i ≡ j = omega arith in
      let first = part_first b i (f y) (flat_map f xs) has in
      record { before = first.before; after = first.after; whole = first.whole ∙ ap (λ z. first.before ++ (f z ++ first.after)) is; at = first.at ∙ here }
  part_of b i j (y ∷ xs) (suc n) x has inside is there =
      part_of b (i + k) j xs n x (part_rest b i (i + k) (f y) (flat_map f xs) has (ap (λ m. i + m) (each y))) (omega arith) is (omega arith)
