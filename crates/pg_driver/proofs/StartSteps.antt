-- The starts of the windows that passes count, and their numbers.
use Rattle.std.proofs.Common.{◌≡◌, ℕ, ◌+◌, ◌-◌, ◌≤◌, ◌<◌, nat_eq, Bool, true, false, not, ◌||◌, cond, T, List, [], ◌∷◌, length, drop, slice_get, get_or, Option, Some, None, refl, sym, ap, subst, ◌∙◌, arith}
use Rattle.std.specs.List.{All}
use Rattle.std.specs.Ordering.{nat_cmp}
use Rattle.std.specs.Cmp.Lexicographic.{slice_cmp}
use Rattle.std.specs.FinMap.Entries.{is_sorted}
use Rattle.std.specs.Option.{option_map_or}
use Rattle.std.proofs.lemmas.Bool.{le-leb}
use Rattle.std.proofs.lemmas.List.Elements.{All-append, All-drop, All-head, All-nil, All-tail, All-take, All-weaker}
use Rattle.std.proofs.lemmas.List.Sums.{list_all-from_AllPass}
use Rattle.std.proofs.lemmas.Bool.{and_from, and_parts, eq-eqb, eqb-true}
use Rattle.pg_types.specs.declared.parameters.LevelParams.{LevelParams}
use Rattle.pg_types.specs.Inside.Signs.{SignsWithin, is_sign}
use Rattle.pg_types.specs.Inside.counting.Counts.{Counts, counted_sums}
use Rattle.pg_types.specs.Inside.counting.NumberedWindows.{AreInOrder, HasNumber, Windows}
use Rattle.pg_translate.specs.Alphabets.{Alphabet}
use Rattle.pg_dict.specs.Inside.Store.{all_signs}
use Rattle.pg_dict.specs.Inside.SoundWords.{IsWord, SignsAtMost}
use Rattle.pg_dict.specs.Word.{Word}
use Rattle.pg_select.specs.declared.choice.Choice.{Choice}
use Rattle.pg_select.specs.declared.choice.Choice.TheVariants.{Hopeless as GivenUp, Chosen, Left}
use Rattle.pg_select.specs.declared.pass.Pass.{Pass}
use Rattle.pg_select.specs.Inside.Choices.{choice}
use Rattle.pg_select.specs.Windows.{window, fits}
use Rattle.pg_starts.specs.declared.start_numbers.StartNumbers.{StartNumbers}
use Rattle.pg_starts.specs.declared.start_counts.StartCounts.{StartCounts}
use Rattle.pg_starts.specs.Inside.Known.{AreKnown, is_numbered}
use Rattle.pg_starts.specs.Inside.StartCountings.{AreCounting, counts_in, windows_in}
use Rattle.pg_starts.specs.Inside.Starts.{window_from}
use Rattle.pg_starts.proofs.Counted.{counted_start}
use Rattle.pg_starts.proofs.Numbering.{number_ends}
use Rattle.pg_starts.proofs.Orders.{length_window}
use Rattle.pg_driver.specs.declared.counting.WayToCount.{WayToCount}
use Rattle.pg_driver.specs.declared.counting.WayToCount.TheVariants.{Open, EachWord}
use Rattle.pg_driver.specs.declared.pass_windows.WordPosition.{WordPosition}
use Rattle.pg_driver.specs.Inside.choices.LookAhead.{FitCursors}
use Rattle.pg_driver.specs.Inside.counting.Counting.{AreNumbersFor}
use Rattle.pg_driver.specs.Inside.level.PassWindows.{IsCandidate}
use Rattle.pg_driver.specs.Inside.counting.LevelCounting.{AreNumbersIn, HasSize, IsReady}
use Rattle.pg_driver.specs.Inside.counting.OpenSigns.{HasFate, closed_at_sign, closed_by, closed_in, open_at, position_from, start_of}
use Rattle.pg_driver.specs.Traces.{Knowledge}
use Rattle.pg_driver.proofs.FlatSigns.{fit_within, flat_inside}
use Rattle.pg_driver.proofs.NumberSteps.{order_counted, part_whole}
use Rattle.pg_driver.proofs.OpenSigns.{IsSignOf, place_of, sign_within}

-- a window that fits ends among all signs, and its dot is at one of them
pub start_fits : (words : List Word) (n p len dot first : ℕ) (w : Word) → slice_get words n ≡ Some w → p < length w.signs → fits w.signs p len dot ≡ true → first ≡ start_of words n + (p - dot)
    → (first + len ≤ length (all_signs words)) × (first + dot ≡ start_of words n + p) × (first + dot < length (all_signs words))
start_fits words n p len dot first w at low fit is =
    let within = fit_within (length w.signs) p len dot fit in
    let place : first + dot ≡ start_of words n + p = omega (arith, is, within.0) in
    (flat_inside words n p len dot first w at fit is, place, omega (arith, place, sign_within words n p w at low))

-- at an open dot
pub numbered_at : (words : List Word) (len dot first s : ℕ) (n : StartNumbers) → AreNumbersFor words len (open_at dot s) n → dot ≤ len → first + len ≤ length (all_signs words)
    → first + dot ≡ s → first + dot < length (all_signs words) → is_numbered (all_signs words) n first ≡ true
numbered_at words len dot first s n numbers within ends place low =
    numbers.each dot first within ends low (and_from _ _ (eq-eqb dot dot refl) (eq-eqb (first + dot) s place))

pub numbers_at_one : (words : List Word) (len dot s : ℕ) (closed : ℕ → ℕ → Bool) (n : StartNumbers) → AreNumbersFor words len (λ d t. not (closed d t)) n → closed dot s ≡ false
    → AreNumbersFor words len (open_at dot s) n
numbers_at_one words len dot s closed n numbers free = record {
  known = numbers.known;
  len = numbers.len;
  each = λ d i le ends low is.
      let parts = and_parts (nat_eq d dot) (nat_eq (i + d) s) is in
      let same : d ≡ dot = eqb-true d dot parts.0 in
      let place : i + d ≡ s = eqb-true (i + d) s parts.1 in
      numbers.each d i le ends low ((λ k. not (closed (same k) (place k))) ∙ ap not free);
}

-- where more is closed
pub numbers_closing : (words : List Word) (len : ℕ) (old new : ℕ → ℕ → Bool) (n : StartNumbers) → AreNumbersFor words len (λ d t. not (old d t)) n
    → ((d s : ℕ) → s < length (all_signs words) → old d s ≡ true → new d s ≡ true) → AreNumbersFor words len (λ d t. not (new d t)) n
numbers_closing words len old new n numbers more = record {
  known = numbers.known;
  len = numbers.len;
  each = λ d i le ends low is. numbers.each d i le ends low (by d (i + d) low is (old d (i + d)) refl);
}
  where
    by : (d s : ℕ) → s < length (all_signs words) → not (new d s) ≡ true → (b : Bool) → old d s ≡ b → not (old d s) ≡ true
    by d s low is true was = absurd (let wrong : false ≡ true = sym (ap not (more d s low was)) ∙ is in cc)
    by d s low is false was = ap not was

stays_by : (closed : ℕ → Bool) (dot : ℕ) (o : Option Choice) (d : ℕ) → closed d ≡ true → closed_by closed dot o d ≡ true
stays_by closed dot None d is = ap (λ b. b || nat_eq d dot) is
stays_by closed dot (Some Left) d is = is
stays_by closed dot (Some Chosen) d is = refl
stays_by closed dot (Some GivenUp) d is = ap (λ b. b || nat_eq d dot) is

-- what is closed stays closed in a pass
pub stays_closed : (params : LevelParams) (pass : Pass) (counts : Counts) (words : List Word) (old : ℕ → ℕ → Bool) (d s : ℕ) → old d s ≡ true → closed_at_sign params pass counts words old d s ≡ true
stays_closed params pass counts words old d s is = by_word (slice_get words (position_from 0 words s).word)
  where
    by_sums : (o : Option (ℕ × ℕ)) → option_map_or (λ (sums : ℕ × ℕ). closed_by (λ c. old c s) pass.dot (Some (choice params sums.0 sums.1)) d) o (old d s) ≡ true
    by_sums None = is
    by_sums (Some sums) = stays_by (λ c. old c s) pass.dot (Some (choice params sums.0 sums.1)) d is

    by_tests : (a b : Bool) (o : Option (ℕ × ℕ)) → cond a (old d s) (cond b (option_map_or (λ (sums : ℕ × ℕ). closed_by (λ c. old c s) pass.dot (Some (choice params sums.0 sums.1)) d) o (old d s))
        (closed_by (λ c. old c s) pass.dot None d)) ≡ true
    by_tests true b o = is
    by_tests false true o = by_sums o
    by_tests false false o = stays_by (λ c. old c s) pass.dot None d is

    by_word : (o : Option Word) → option_map_or (λ (w : Word). closed_in params pass counts w (position_from 0 words s).at (λ c. old c s) d) o (old d s) ≡ true
    by_word None = is
    by_word (Some w) = by_tests (old pass.dot s) (fits w.signs (position_from 0 words s).at pass.len pass.dot)
        (counted_sums counts (window w.signs (position_from 0 words s).at pass.len pass.dot))

-- what a ready way to count has
pub has_size : (T : Alphabet) (W : List Word) (level len : ℕ) (known : Knowledge) (c : WayToCount) → IsReady T W level len known c → HasSize W c
has_size T W level len known (Open o) ready = ready.size
has_size T W level len known (EachWord e) ready = tt

pub known_in : (words : List Word) (len : ℕ) (n : StartNumbers) (c : WayToCount) → AreNumbersIn words len n c → AreKnown (all_signs words) n
known_in words len n (Open o) numbers = numbers.known
known_in words len n (EachWord e) numbers = numbers.known

-- what became of the window at a sign: it fits, and has a number
module _ (pass : Pass) (words : List Word) (ws : Windows) (fates : List Choice) (s : ℕ) (of : IsSignOf words s) where
  same_word : (w : Word) → slice_get words (position_from 0 words s).word ≡ Some w → of.word ≡ w
  same_word w there = (let both : Some of.word ≡ Some w = sym of.there ∙ ap (λ (e : WordPosition). slice_get words e.word) (sym (place_of words s of)) ∙ there in cc)

  same_at : of.at ≡ (position_from 0 words s).at
  same_at = ap (λ (e : WordPosition). e.at) (sym (place_of words s of))

  pub fate_there : (n : ℕ) (fate : Option Choice) → fits of.word.signs of.at pass.len pass.dot ≡ true → HasNumber ws (window of.word.signs of.at pass.len pass.dot) n → fate ≡ slice_get fates n
      → HasFate pass words ws fates s fate
  fate_there n fate fit has is = record {
    outside = λ w there other. absurd (
        let same = same_word w there in
        let wrong : true ≡ false = sym fit ∙ (λ k. fits (same k).signs (same_at k) pass.len pass.dot) ∙ other in
        cc);
    inside = λ w there fit. (let same = same_word w there in (n, subst (λ (u : List ℕ). HasNumber ws u n) (λ k. window (same k).signs (same_at k) pass.len pass.dot) has, is));
  }

  -- it does not fit
  pub fate_none : fits of.word.signs of.at pass.len pass.dot ≡ false → HasFate pass words ws fates s None
  fate_none other = record {
    outside = λ w there no. refl;
    inside = λ w there fit. absurd (
        let same = same_word w there in
        let wrong : false ≡ true = sym other ∙ (λ k. fits (same k).signs (same_at k) pass.len pass.dot) ∙ fit in
        cc);
  }

pub len_in : (words : List Word) (len : ℕ) (n : StartNumbers) (c : WayToCount) → AreNumbersIn words len n c → n.len ≡ len
len_in words len n (Open o) numbers = numbers.len
len_in words len n (EachWord e) numbers = numbers.len

-- where the same dots are closed
pub numbers_same : (words : List Word) (len room : ℕ) (old new : ℕ → ℕ → Bool) (n : StartNumbers) → AreNumbersFor words len (λ d t. not (old d t)) n
    → length (all_signs words) ≤ room → ((d s : ℕ) → s < room → new d s ≡ old d s) → AreNumbersFor words len (λ d t. not (new d t)) n
numbers_same words len room old new n numbers size same =
    numbers_closing words len old new n numbers (λ d s low was. same d s (omega arith) ∙ was)

-- the windows that were counted have their length, and signs of the words
module _ (words : List Word) (c : StartCounts) (counting : AreCounting (all_signs words) c) (u : List ℕ) (k : ℕ) (sums : ℕ × ℕ) (it : IsCandidate (all_signs words) c k u sums) where
  abbrev start : ℕ
  start = (counted_start (all_signs words) c counting u k sums it.number it.sums).0

  is_window : u ≡ window_from (all_signs words) start c.numbers.len
  is_window = (counted_start (all_signs words) c counting u k sums it.number it.sums).2

  ends : start + c.numbers.len ≤ length (all_signs words)
  ends = number_ends (all_signs words) c.numbers start (counted_start (all_signs words) c counting u k sums it.number it.sums).1

  pub window_size : length u ≡ c.numbers.len
  window_size = ap (λ (v : List ℕ). length v) is_window ∙ length_window (all_signs words) start c.numbers.len ends

  pub window_all : (P : ℕ → Type 0) → All P (all_signs words) → All P u
  window_all P all = subst (All P) (sym is_window) (All-take P c.numbers.len (drop start (all_signs words)) (All-drop P start (all_signs words) all))

-- what holds of each word's signs holds of all signs
pub all_of : (P : ℕ → Type 0) (words : List Word) → All (λ (w : Word). All P w.signs) words → All P (all_signs words)
all_of P [] all = All-nil P
all_of P (w ∷ ws) all = All-append P w.signs (all_signs ws) (All-head (λ (w : Word). All P w.signs) w ws all) (all_of P ws (All-tail (λ (w : Word). All P w.signs) w ws all))

-- the windows can be read, and entered
module _ (words : List Word) (c : StartCounts) (counting : AreCounting (all_signs words) c) (sound : All IsWord words) where
  each_sign : All (λ s. 1 ≤ s) (all_signs words)
  each_sign = all_of (λ s. 1 ≤ s) words (All-weaker IsWord (λ (w : Word). All (λ s. 1 ≤ s) w.signs) (λ w is. is.signs) words sound)

  pub windows_fit : (order : List ℕ) → AreInOrder (windows_in (all_signs words) c) (counts_in (all_signs words) c) order → T (is_sorted (slice_cmp nat_cmp) (counts_in (all_signs words) c))
      → FitCursors (windows_in (all_signs words) c) order
  windows_fit order is sorted k n u at has =
      let counted = order_counted (windows_in (all_signs words) c) (counts_in (all_signs words) c) (counts_in (all_signs words) c) order (part_whole (counts_in (all_signs words) c) sorted) is k n at u has in
      let all : All (λ s. 1 ≤ s) u = window_all words c counting u n counted.0 (record { number = has; sums = counted.1 }) (λ s. 1 ≤ s) each_sign in
      list_all-from_AllPass is_sign u (λ i d low. le-leb 1 (get_or u i d) (all i d low))

  pub windows_enter : (n len : ℕ) → SignsAtMost n words → c.numbers.len ≡ len → (u : List ℕ) (k : ℕ) (sums : ℕ × ℕ) → IsCandidate (all_signs words) c k u sums → (length u ≡ len) × SignsWithin n u
  windows_enter n len most is u k sums it =
      let some : All (λ s. 1 ≤ s) u = window_all words c counting u k sums it (λ s. 1 ≤ s) each_sign in
      let low : All (λ s. s ≤ n) u = window_all words c counting u k sums it (λ s. s ≤ n) (all_of (λ s. s ≤ n) words most) in
      (window_size words c counting u k sums it ∙ is, λ i d inside. (some i d inside, low i d inside))
