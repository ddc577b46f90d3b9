-- The windows that numbers of starts stand for.
use Rattle.std.proofs.Common.{◌≡◌, ◌≢◌, ◌^◌, ℕ, zero, suc, ◌+◌, ◌<◌, ◌≤◌, Bool, true, false, not, ◌&&◌, ◌||◌, nat_le, cond, List, [], ◌∷◌, length, map, take, drop, ◌-◌, get_or, slice_get, Some, inl, inr, refl, sym, ap, subst, ◌∙◌, arith}
use Rattle.std.specs.declared.cmp.Ordering.TheVariants.{Equal}
use Rattle.std.specs.Ordering.{nat_cmp}
use Rattle.std.specs.Cmp.Lexicographic.{slice_cmp}
use Rattle.std.proofs.lemmas.List.{length-map}
use Rattle.std.proofs.lemmas.Option.{slice_get-get_or, slice_get_within}
use Rattle.pg_types.specs.Inside.counting.NumberedWindows.{Windows, HasNumber}
use Rattle.pg_starts.specs.declared.start_numbers.StartNumbers.{StartNumbers}
use Rattle.pg_starts.specs.Inside.CountsByNumber.{IsRising}
use Rattle.pg_starts.specs.Inside.Codes.{code_at, code_count, coded_windows, digits}
use Rattle.pg_starts.specs.Inside.Known.{AreKnown, is_coded, is_numbered, number_at, number_count, radix_of, windows_of}
use Rattle.pg_starts.specs.Inside.Orders.{AreOrdered}
use Rattle.pg_starts.specs.Inside.Starts.{has_window, window_from, window_order}
use Rattle.pg_dots.specs.declared.start_set.StartSet.{StartSet}
use Rattle.pg_dots.specs.Inside.Starts.{is_left_out, starts_room}
use Rattle.pg_starts.proofs.Orders.{cmp_equal, cmp_less, ordered_fewer, same_from_equal}
use Rattle.pg_starts.proofs.CodeLaws.{code_low, codes_ordered, coded_rise, coded_size, digits_of_code, window_of_code}
use Rattle.pg_starts.proofs.Tallying.{rising_from}
use Rattle.std.proofs.lemmas.Bool.{cases_eq, cases_lt, le-leb, leb-true}
use Rattle.std.proofs.lemmas.Bool.Decides.{nat_tests}
use Rattle.pg_types.proofs.BoolFacts.{and_second}
use Rattle.pg_starts.proofs.Tests.{has_it, in_set, window_ends}

-- an element of a list of values
pub get_mapped : {X : Type 0} (f : ℕ → X) (xs : List ℕ) (k : ℕ) → k < length xs → slice_get (map f xs) k ≡ Some (f (get_or xs k 0))
get_mapped f [] k low = absurd (omega arith)
get_mapped f (x ∷ xs) zero low = refl
get_mapped f (x ∷ xs) (suc k) low = get_mapped f xs k (omega arith)

-- the numbers are codes up to the coded length, and are kept above it
pub coded : (n : StartNumbers) → n.len ≤ n.coded → is_coded n ≡ true
coded n upto = le-leb n.len n.coded upto

pub uncoded : (n : StartNumbers) → n.coded < n.len → is_coded n ≡ false
uncoded n above = grind (arith, nat_tests)

pub number_ends : (signs : List ℕ) (n : StartNumbers) (i : ℕ) → is_numbered signs n i ≡ true → i + n.len ≤ length signs
number_ends signs n i live = leb-true (i + n.len) (length signs) (and_second _ _ live)

pub coded_number : (signs : List ℕ) (n : StartNumbers) (i : ℕ) → n.len ≤ n.coded → number_at signs n i ≡ code_at signs (radix_of n) i n.len
coded_number signs n i upto = ap (λ b. cond b (code_at signs (radix_of n) i n.len) (get_or n.numbers.items i 0)) (coded n upto)

pub kept_number : (signs : List ℕ) (n : StartNumbers) (i : ℕ) → n.coded < n.len → number_at signs n i ≡ get_or n.numbers.items i 0
kept_number signs n i above = ap (λ b. cond b (code_at signs (radix_of n) i n.len) (get_or n.numbers.items i 0)) (uncoded n above)

pub coded_count : (n : StartNumbers) → n.len ≤ n.coded → number_count n ≡ code_count (radix_of n) n.len
coded_count n upto = ap (λ b. cond b (code_count (radix_of n) n.len) (length n.firsts.items)) (coded n upto)

pub kept_count : (n : StartNumbers) → n.coded < n.len → number_count n ≡ length n.firsts.items
kept_count n above = ap (λ b. cond b (code_count (radix_of n) n.len) (length n.firsts.items)) (uncoded n above)

abbrev kept : List ℕ → StartNumbers → Windows
kept signs n = map (λ i. window_from signs i n.len) n.firsts.items

pub coded_all : (signs : List ℕ) (n : StartNumbers) → n.len ≤ n.coded → windows_of signs n ≡ coded_windows (radix_of n) n.len
coded_all signs n upto = ap (λ (b : Bool). cond b (coded_windows (radix_of n) n.len) (kept signs n)) (coded n upto)

pub kept_all : (signs : List ℕ) (n : StartNumbers) → n.coded < n.len → windows_of signs n ≡ kept signs n
kept_all signs n above = ap (λ (b : Bool). cond b (coded_windows (radix_of n) n.len) (kept signs n)) (uncoded n above)

-- a window that has a kept number is that of a start
kept_start : (signs : List ℕ) (n : StartNumbers) (i : ℕ) → n.coded < n.len → is_numbered signs n i ≡ true → has_window signs n.starts n.len i ≡ true
kept_start signs n i above live = ap (λ (b : Bool). (b || not (is_left_out n.starts i)) && nat_le (i + n.len) (length signs)) (sym (uncoded n above)) ∙ live

module _ (signs : List ℕ) (n : StartNumbers) (known : AreKnown signs n) where
  low_signs : (k : ℕ) → get_or signs k 0 < n.greatest + 1
  low_signs k = omega (arith, known.greatest k)

  -- numbers are below their count
  pub number_low : (i : ℕ) → is_numbered signs n i ≡ true → number_at signs n i < number_count n
  number_low i live = elim (cases_lt n.coded n.len) [
    | inl above ↦
        let low : get_or n.numbers.items i 0 < length n.firsts.items = (known.numbers above).ordered.below i (kept_start signs n i above live) in
        omega (arith, low, kept_number signs n i above, kept_count n above)
    | inr upto ↦ omega (arith, code_low signs (radix_of n) low_signs i n.len, coded_number signs n i upto, coded_count n upto)
  ]

  kept_has : (i : ℕ) → n.coded < n.len → is_numbered signs n i ≡ true → HasNumber (kept signs n) (window_from signs i n.len) (get_or n.numbers.items i 0)
  kept_has i above is =
      let a = known.numbers above in
      let live = kept_start signs n i above is in
      let r = get_or n.numbers.items i 0 in
      let low : r < length n.firsts.items = a.ordered.below i live in
      let there = a.taken r low in
      let equal : slice_cmp nat_cmp (window_from signs (get_or n.firsts.items r 0) n.len) (window_from signs i n.len) ≡ Equal =
      sym (a.ordered.compare (get_or n.firsts.items r 0) i there.0 live) ∙ cmp_equal (get_or n.numbers.items (get_or n.firsts.items r 0) 0) r there.1 in
      get_mapped (λ j. window_from signs j n.len) n.firsts.items r low
      ∙ ap (λ (u : List ℕ). Some u) (same_from_equal (window_from signs (get_or n.firsts.items r 0) n.len) (window_from signs i n.len) equal)

  -- the window of a start has its number
  pub has_number : (i : ℕ) → is_numbered signs n i ≡ true → HasNumber (windows_of signs n) (window_from signs i n.len) (number_at signs n i)
  has_number i live = elim (cases_lt n.coded n.len) [
    | inl above ↦ (λ k. slice_get (kept_all signs n above k) (kept_number signs n i above k)) ∙ kept_has i above live
    | inr upto ↦
        (λ k. slice_get (coded_all signs n upto k) (coded_number signs n i upto k))
        ∙ window_of_code (radix_of n) n.len (code_at signs (radix_of n) i n.len) (code_low signs (radix_of n) low_signs i n.len)
        ∙ ap (λ (u : List ℕ). Some u) (digits_of_code signs (radix_of n) low_signs i n.len (number_ends signs n i live))
  ]

  kept_rise : n.coded < n.len → IsRising (kept signs n)
  kept_rise above = rising_from (kept signs n) (λ p q u v before x y.
      let a = known.numbers above in
      let f : ℕ → List ℕ = λ j. window_from signs j n.len in
      let size : length (kept signs n) ≡ length n.firsts.items = length-map n.firsts.items f in
      let low : p < length n.firsts.items = (let in_p = slice_get_within (kept signs n) p u x in omega arith) in
      let high : q < length n.firsts.items = (let in_q = slice_get_within (kept signs n) q v y in omega arith) in
      let first = a.taken p low in
      let second = a.taken q high in
      let both_u : Some u ≡ Some (f (get_or n.firsts.items p 0)) = sym x ∙ get_mapped f n.firsts.items p low in
      let both_v : Some v ≡ Some (f (get_or n.firsts.items q 0)) = sym y ∙ get_mapped f n.firsts.items q high in
      let is_u : u ≡ f (get_or n.firsts.items p 0) = cc in
      let is_v : v ≡ f (get_or n.firsts.items q 0) = cc in
      (λ i. slice_cmp nat_cmp (is_u i) (is_v i))
      ∙ sym (a.ordered.compare (get_or n.firsts.items p 0) (get_or n.firsts.items q 0) first.0 second.0)
      ∙ cmp_less (get_or n.numbers.items (get_or n.firsts.items p 0) 0) (get_or n.numbers.items (get_or n.firsts.items q 0) 0)
      (omega (arith, first.1, second.1, before)))

  -- the windows stand in the order of signs
  pub windows_rise : IsRising (windows_of signs n)
  windows_rise = elim (cases_lt n.coded n.len) [
    | inl above ↦ subst IsRising (sym (kept_all signs n above)) (kept_rise above)
    | inr upto ↦ subst IsRising (sym (coded_all signs n upto)) (coded_rise (radix_of n) n.len (omega arith))
  ]

pub windows_size : (signs : List ℕ) (n : StartNumbers) → length (windows_of signs n) ≡ number_count n
windows_size signs n = elim (cases_lt n.coded n.len) [
  | inl above ↦ ap (λ (ws : Windows). length ws) (kept_all signs n above) ∙ length-map n.firsts.items (λ j. window_from signs j n.len) ∙ sym (kept_count n above)
  | inr upto ↦ ap (λ (ws : Windows). length ws) (coded_all signs n upto) ∙ coded_size (radix_of n) n.len ∙ sym (coded_count n upto)
]

-- a number is read as its digits, or as the window of its first start
pub coded_has : (signs : List ℕ) (n : StartNumbers) (k : ℕ) → n.len ≤ n.coded → k < number_count n → HasNumber (windows_of signs n) (digits (radix_of n) n.len k) k
coded_has signs n k upto low =
    ap (λ (ws : Windows). slice_get ws k) (coded_all signs n upto) ∙ window_of_code (radix_of n) n.len k (omega (arith, low, coded_count n upto))

pub kept_has_at : (signs : List ℕ) (n : StartNumbers) (k : ℕ) → n.coded < n.len → k < number_count n → (start : ℕ) → start ≡ get_or n.firsts.items k 0
    → HasNumber (windows_of signs n) (take (start + n.len - start) (drop start signs)) k
kept_has_at signs n k above low start is =
    let size : start + n.len - start ≡ n.len = omega arith in
    ap (λ (ws : Windows). slice_get ws k) (kept_all signs n above)
    ∙ get_mapped (λ i. window_from signs i n.len) n.firsts.items k (omega (arith, low, kept_count n above))
    ∙ ap (λ (u : List ℕ). Some u) ((λ i. take n.len (drop (sym is i) signs)) ∙ sym (ap (λ z. take z (drop start signs)) size))

-- a window begins at a start of the set, or anywhere where it is coded
both_hold : (b : Bool) → ((b || true) && true) ≡ true
both_hold true = refl
both_hold false = refl

pub start_numbered : (signs : List ℕ) (n : StartNumbers) (i : ℕ) → is_left_out n.starts i ≡ false → i + n.len ≤ length signs → is_numbered signs n i ≡ true
start_numbered signs n i free within = (λ k. (is_coded n || not (free k)) && le-leb (i + n.len) (length signs) within k) ∙ both_hold (is_coded n)

pub coded_numbered : (signs : List ℕ) (n : StartNumbers) (i : ℕ) → n.len ≤ n.coded → i + n.len ≤ length signs → is_numbered signs n i ≡ true
coded_numbered signs n i upto within = (λ k. (coded n upto k || not (is_left_out n.starts i)) && le-leb (i + n.len) (length signs) within k)

-- each number has a window
pub some_window : (signs : List ℕ) (n : StartNumbers) (k : ℕ) → k < number_count n → HasNumber (windows_of signs n) (get_or (windows_of signs n) k []) k
some_window signs n k low = slice_get-get_or (windows_of signs n) k [] (omega (arith, low, windows_size signs n))

-- there are no more numbers than signs
pub few_numbers : (signs : List ℕ) (n : StartNumbers) → 1 ≤ n.len → AreKnown signs n → number_count n ≤ length signs
few_numbers signs n some known = elim (cases_lt n.coded n.len) [
  | inl above ↦ omega (arith, known.few above, kept_count n above)
  | inr upto ↦ omega (arith, known.codes n.len some upto, coded_count n upto)
]

-- a step begins with the codes, or with the numbers there are
module _ (signs : List ℕ) (n : StartNumbers) (known : AreKnown signs n) (from count : ℕ) (upto : n.coded ≤ from) (some : from ≢ n.coded → (from ≡ n.len) × (count ≡ length n.firsts.items)) where
  pub step_few : (from ≡ n.coded → count ≡ code_count (radix_of n) n.coded) → count < 2 ^ 32
  step_few codes = elim (cases_eq from n.coded) [
    | inl same ↦ elim (cases_eq n.coded 0) [
      | inl none ↦
          let one : code_count (radix_of n) n.coded ≡ 1 = ap (code_count (radix_of n)) none in
          omega (arith, codes same, one)
      | inr more ↦ omega (arith, codes same, known.codes n.coded (omega arith) (omega arith), known.small)
    ]
    | inr other ↦ (let there = some other in omega (arith, there.0, there.1, known.few (omega (arith, there.0)), known.small))
  ]

  pub step_ordered : (s : StartSet) (len : ℕ) (numbers : List ℕ) → from < len → (from ≢ n.coded → from + 1 ≡ len) → length signs ≤ starts_room s
      → (from ≡ n.coded → (count ≡ code_count (radix_of n) n.coded) × ((i : ℕ) → i + n.coded ≤ length signs → get_or numbers i 0 ≡ code_at signs (radix_of n) i n.coded))
      → (from ≢ n.coded → numbers ≡ n.numbers.items)
      → (from ≢ n.coded → (i : ℕ) → i < starts_room s → is_left_out s i ≡ false → is_left_out n.starts i ≡ false)
      → AreOrdered (window_order signs from) (has_window signs s len) numbers count
  step_ordered s len numbers below next room codes old part = elim (cases_eq from n.coded) [
    | inl same ↦
        let is = codes same in
        subst (λ f. AreOrdered (window_order signs f) (has_window signs s len) numbers count) (sym same)
        (subst (λ c. AreOrdered (window_order signs n.coded) (has_window signs s len) numbers c) (sym is.0)
        (codes_ordered signs (radix_of n) (low_signs signs n known) (has_window signs s len) numbers n.coded
        (λ i live. let ends = window_ends signs s len i live in omega (arith, ends, below, same)) is.1))
    | inr other ↦
        let there = some other in
        let above : n.coded < n.len = omega (arith, there.0) in
        let more = next other in
        subst (λ f. AreOrdered (window_order signs f) (has_window signs s len) numbers count) (sym there.0)
        (subst (λ c. AreOrdered (window_order signs n.len) (has_window signs s len) numbers c) (sym there.1)
        (subst (λ (ns : List ℕ). AreOrdered (window_order signs n.len) (has_window signs s len) ns (length n.firsts.items)) (sym (old other))
        (ordered_fewer (window_order signs n.len) (has_window signs n.starts n.len) (has_window signs s len) n.numbers.items (length n.firsts.items)
        (λ i live.
        let ends = window_ends signs s len i live in
        has_it signs n.starts n.len i (part other i (omega (arith, ends, room, more)) (in_set signs s len i live)) (omega (arith, ends, more, there.0)))
        (known.numbers above).ordered)))
  ]
