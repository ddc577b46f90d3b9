-- Steps of a pass by the numbers of its windows.
use Rattle.std.proofs.Common.{◌≡◌, ℕ, zero, suc, ◌+◌, ◌<◌, Bool, cond, T, List, [], ◌∷◌, ◌++◌, length, map, slice_get, Some, None, inl, inr, refl, sym, ap, subst, ◌∙◌, arith, length-append}
use Rattle.std.specs.Ordering.{is_eq, eq_by_cmp, ordering_reverse}
use Rattle.std.specs.declared.cmp.Ordering.TheVariants.{Less, Greater}
use Rattle.std.specs.Cmp.{tied_itself}
use Rattle.std.specs.Cmp.Lexicographic.{nat_list_cmp_total}
use Rattle.std.specs.FinMap.Entries.{find, is_sorted, below_all}
use Rattle.std.proofs.lemmas.Bool.{cases_eq, cases_lt}
use Rattle.std.proofs.lemmas.Option.{slice_get_cases, slice_get_within}
use Rattle.pg_types.proofs.BoolFacts.{first_half, second_half}
use Rattle.pg_types.proofs.EntryLists.{below_get}
use Rattle.pg_types.specs.Inside.counting.Counts.{Counts, counted_sums}
use Rattle.pg_types.specs.Inside.counting.NumberedWindows.{Windows, HasNumber, AreInOrder}
use Rattle.pg_dict.specs.Word.{Word}
use Rattle.pg_select.specs.declared.pass.Pass.{Pass}
use Rattle.pg_driver.specs.declared.pass_windows.WordPosition.{WordPosition}
use Rattle.pg_driver.specs.Inside.level.PassWindows.{IsNumbered, HaveNumbers, IsPart}
use Rattle.pg_driver.proofs.Puts.{cmp}

-- the word of a placed position
pub word_there : {X : Type 0} (xs : List X) (i : ℕ) → i < length xs → (x : X) × (slice_get xs i ≡ Some x)
word_there xs i lt = elim (slice_get_cases xs i).1 [
  | inl here ↦ (here.0, here.2)
  | inr past ↦ absurd (let le = past.0 in omega arith)
]

-- an entry is found at its window
find_at : (es : Counts) (k : ℕ) (e : List ℕ × (ℕ × ℕ)) → T (is_sorted cmp es) → slice_get es k ≡ Some e → find cmp e.0 es ≡ Some e.1
find_at [] k e h at = absurd (let no : None ≡ Some e = at in cc)
find_at (x ∷ xs) zero e h at =
    let same : x ≡ e = cc in
    ap (λ (y : List ℕ × (ℕ × ℕ)). cond (eq_by_cmp cmp e.0 y.0) (Some y.1) (find cmp e.0 xs)) same
    ∙ ap (λ b. cond b (Some e.1) (find cmp e.0 xs)) (ap is_eq (tied_itself nat_list_cmp_total e.0))
find_at (x ∷ xs) (suc k) e h at =
    let less : cmp x.0 e.0 ≡ Less = below_get cmp nat_list_cmp_total x.0 e.0 e.1 xs k (first_half (below_all cmp x.0 xs) (is_sorted cmp xs) h) at in
    let more : cmp e.0 x.0 ≡ Greater = nat_list_cmp_total.antisymm e.0 x.0 ∙ ap ordering_reverse less in
    ap (λ o. cond (is_eq o) (Some x.1) (find cmp e.0 xs)) more
    ∙ find_at xs k e (second_half (below_all cmp x.0 xs) (is_sorted cmp xs) h) at

pub part_whole : (counts : Counts) → T (is_sorted cmp counts) → IsPart counts counts
part_whole counts h k e at = find_at counts k e h at

-- the candidate of the next number
pub record Ahead (ws : Windows) (counts : Counts) (n : ℕ) (more : List ℕ) (rest : Counts) : Type 0 where
  pub entry : List ℕ × (ℕ × ℕ)
  pub left : Counts
  pub is : rest ≡ entry ∷ left
  pub number : HasNumber ws entry.0 n
  pub sums : counted_sums counts entry.0 ≡ Some entry.1
  pub next : map (slice_get ws) more ≡ map (λ e. Some e.0) left
  pub part : IsPart left counts

pub ahead : (ws : Windows) (counts : Counts) (n : ℕ) (more : List ℕ) (rest : Counts) → map (slice_get ws) (n ∷ more) ≡ map (λ e. Some e.0) rest → IsPart rest counts → Ahead ws counts n more rest
ahead ws counts n more [] is part = absurd (let no : slice_get ws n ∷ map (slice_get ws) more ≡ [] = is in cc)
ahead ws counts n more (e ∷ rest) is part =
    let all : slice_get ws n ∷ map (slice_get ws) more ≡ Some e.0 ∷ map (λ e. Some e.0) rest = is in
    record {
      entry = e;
      left = rest;
      is = refl;
      number = (let h : slice_get ws n ≡ Some e.0 = cc in h);
      sums = part 0 e refl;
      next = (let t : map (slice_get ws) more ≡ map (λ e. Some e.0) rest = cc in t);
      part = λ k x at. part (suc k) x at;
    }

-- each of the numbers in the order of signs is that of a window
pub order_there : (ws : Windows) (counts : Counts) (ns : List ℕ) → AreInOrder ws counts ns → (k n : ℕ) → slice_get ns k ≡ Some n → n < length ws
order_there ws counts [] is k n at = absurd (let none : None ≡ Some n = at in cc)
order_there ws [] (m ∷ ns) is k n at = absurd (let no : slice_get ws m ∷ map (slice_get ws) ns ≡ [] = is in cc)
order_there ws (e ∷ counts) (m ∷ ns) is zero n at =
    let all : slice_get ws m ∷ map (slice_get ws) ns ≡ Some e.0 ∷ map (λ e. Some e.0) counts = is in
    let here : slice_get ws m ≡ Some e.0 = cc in
    let both : Some m ≡ Some n = at in
    let same : m ≡ n = cc in
    slice_get_within ws n e.0 (ap (slice_get ws) (sym same) ∙ here)
order_there ws (e ∷ counts) (m ∷ ns) is (suc k) n at =
    let all : slice_get ws m ∷ map (slice_get ws) ns ≡ Some e.0 ∷ map (λ e. Some e.0) counts = is in
    let rest : map (slice_get ws) ns ≡ map (λ e. Some e.0) counts = cc in
    order_there ws counts ns rest k n at

-- a window whose number is in the order was counted
pub order_counted : (ws : Windows) (all counts : Counts) (ns : List ℕ) → IsPart counts all → AreInOrder ws counts ns → (k n : ℕ) → slice_get ns k ≡ Some n
    → (u : List ℕ) → HasNumber ws u n → (s : ℕ × ℕ) × (counted_sums all u ≡ Some s)
order_counted ws all counts [] part is k n at u has = absurd (let none : None ≡ Some n = at in cc)
order_counted ws all [] (m ∷ ns) part is k n at u has = absurd (let no : slice_get ws m ∷ map (slice_get ws) ns ≡ [] = is in cc)
order_counted ws all (e ∷ counts) (m ∷ ns) part is zero n at u has =
    let front : slice_get ws m ∷ map (slice_get ws) ns ≡ Some e.0 ∷ map (λ e. Some e.0) counts = is in
    let here : slice_get ws m ≡ Some e.0 = cc in
    let both : Some m ≡ Some n = at in
    let same : m ≡ n = cc in
    let told : Some u ≡ Some e.0 = sym has ∙ ap (slice_get ws) (sym same) ∙ here in
    let window : u ≡ e.0 = cc in
    (e.1, ap (counted_sums all) window ∙ part 0 e refl)
order_counted ws all (e ∷ counts) (m ∷ ns) part is (suc k) n at u has =
    let front : slice_get ws m ∷ map (slice_get ws) ns ≡ Some e.0 ∷ map (λ e. Some e.0) counts = is in
    let rest : map (slice_get ws) ns ≡ map (λ e. Some e.0) counts = cc in
    order_counted ws all counts ns (λ j f there. part (suc j) f there) rest k n at u has

-- the window of a number and its sums are the only ones
pub only_one : (ws : Windows) (counts : Counts) (n : ℕ) (u : List ℕ) (s : ℕ × ℕ) (v : List ℕ) (t : ℕ × ℕ) → HasNumber ws u n → counted_sums counts u
    ≡ Some s → HasNumber ws v n → counted_sums counts v ≡ Some t → t ≡ s
only_one ws counts n u s v t first sums second others =
    let both : Some v ≡ Some u = sym second ∙ first in
    let same : v ≡ u = cc in
    let told : Some t ≡ Some s = sym others ∙ ap (counted_sums counts) same ∙ sums in
    cc

-- a number is that of one window
pub one_window : (ws : Windows) (n : ℕ) (u v : List ℕ) → HasNumber ws u n → HasNumber ws v n → u ≡ v
one_window ws n u v first second =
    let both : Some u ≡ Some v = sym first ∙ second in
    cc

-- elements before and behind the seam of two lists, and the one at the seam of a list with one more
pub get_left : {A : Type 0} (xs ys : List A) (k : ℕ) (x : A) → slice_get xs k ≡ Some x → slice_get (xs ++ ys) k ≡ Some x
get_left [] ys k x e = absurd (let no : None ≡ Some x = e in cc)
get_left (y ∷ xs) ys zero x e = e
get_left (y ∷ xs) ys (suc k) x e = get_left xs ys k x e

pub get_right : {A : Type 0} (xs ys : List A) (k : ℕ) → slice_get (xs ++ ys) (length xs + k) ≡ slice_get ys k
get_right [] ys k = let at : zero + k ≡ k = omega arith in ap (slice_get ys) at
get_right (x ∷ xs) ys k = let at : suc (length xs) + k ≡ suc (length xs + k) = omega arith in ap (slice_get (x ∷ (xs ++ ys))) at ∙ get_right xs ys k

pub get_seam : {A : Type 0} (xs : List A) (x : A) (k : ℕ) → k ≡ length xs → slice_get (xs ++ x ∷ []) k ≡ Some x
get_seam [] x zero e = refl
get_seam [] x (suc k) e = absurd (omega arith)
get_seam (y ∷ xs) x zero e = absurd (omega arith)
get_seam (y ∷ xs) x (suc k) e = get_seam xs x k (omega arith)

pub get_back : {A : Type 0} (xs : List A) (y : A) (k : ℕ) (x : A) → k < length xs → slice_get (xs ++ y ∷ []) k ≡ Some x → slice_get xs k ≡ Some x
get_back [] y k x lt e = absurd (omega arith)
get_back (z ∷ xs) y zero x lt e = e
get_back (z ∷ xs) y (suc k) x lt e = get_back xs y k x (omega arith) e

pub get_last : {A : Type 0} (xs : List A) (y : A) (k : ℕ) (x : A) → slice_get (xs ++ y ∷ []) k ≡ Some x → (k < length xs → ⊥) → (x ≡ y) × (k ≡ length xs)
get_last xs y k x e late =
    let within : k < length (xs ++ y ∷ []) = slice_get_within (xs ++ y ∷ []) k x e in
    let at : k ≡ length xs = elim (cases_eq k (length xs)) [ inl is ↦ is | inr other ↦ absurd (late (omega (arith, length-append xs (y ∷ [])))) ] in
    let both : Some x ≡ Some y = sym e ∙ get_seam xs y k at in
    let same : x ≡ y = cc in
    (same, at)

-- a position more
pub have_more : (pass : Pass) (test : Word → WordPosition → Bool) (words : List Word) (ws : Windows) (entries : List WordPosition) (ns : List ℕ) (e : WordPosition) (n : ℕ)
    → HaveNumbers pass test words ws entries ns → IsNumbered pass test words ws e n → HaveNumbers pass test words ws (entries ++ e ∷ []) (ns ++ n ∷ [])
have_more pass test words ws entries ns e n have numbered = record {
  size = (let size = have.size in omega (arith, length-append entries (e ∷ []), length-append ns (n ∷ [])));
  each = λ k x y at to. elim (cases_lt k (length ns)) [
    | inl lt ↦ have.each k x y (get_back entries e k x (let size = have.size in omega arith) at) (get_back ns n k y lt to)
    | inr le ↦
        let entry = get_last entries e k x at (λ lt. (let size = have.size in omega arith)) in
        let number = get_last ns n k y to (λ lt. omega arith) in
        subst (λ (z : WordPosition). IsNumbered pass test words ws z y) (sym entry.0) (subst (IsNumbered pass test words ws e) (sym number.0) numbered)
  ];
}
