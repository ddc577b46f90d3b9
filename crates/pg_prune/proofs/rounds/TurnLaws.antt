-- The turn of an entry: where it stands its number of holders changes, and nothing else changes.
use Rattle.std.proofs.Common.{◌≡◌, ℕ, zero, suc, ◌+◌, ◌-◌, ◌%◌, ◌<◌, ◌≤◌, Bool, true, false, cond, not, ◌&&◌, List, []}
use Rattle.std.proofs.Common.{◌∷◌, ◌++◌, map, length, get_or, Some, None, refl, sym, subst, ap, ◌∙◌, arith, append_assoc, length-append, get_or-set_same}
use Rattle.std.proofs.Math.Seq.{get_or-append_seam}
use Rattle.std.specs.Prelude.{nat_eq}
use Rattle.std.specs.List.{list_all, find, range_with_len}
use Rattle.std.proofs.lemmas.List.Folds.{list_all-append}
use Rattle.std.proofs.lemmas.List.Sums.{count_by-le-length}
use Rattle.std.proofs.lemmas.Bool.{and_from, eq-eqb}
use Rattle.pg_types.proofs.BoolFacts.{and_first, and_second}
use Rattle.pg_patterns.specs.Values.{Patterns, value_at}
use Rattle.pg_patterns.specs.Inside.PatternMaps.{is_entry}
use Rattle.pg_prune.specs.Inside.positions.PositionInReach.{PositionInReach}
use Rattle.pg_prune.specs.Prunes.{break_alike_at}
use Rattle.pg_prune.specs.Inside.positions.EntryPositions.{stands, numbers_of}
use Rattle.pg_prune.specs.Inside.rounds.Holders.{count_at, holder_counts, greatest_held, with_one, less_one, stays_alike}
use Rattle.pg_prune.specs.Inside.rounds.Turns.{Turn, with_entry, without_entry, IsOf}
use Rattle.pg_prune.proofs.pruning.PrunedLaws.{sound_without}
use Rattle.pg_prune.proofs.rounds.Tallies.{tally_away, tally_there, less_with, greatest_value_is, entry_low, entry_high}
use Rattle.pg_prune.proofs.rounds.Walks.{next_of, none_of, is_false}

sound_entry : (before : Patterns) (e : (List ℕ × ℕ) × ℕ) (behind : Patterns) → list_all is_entry (before ++ e ∷ behind) ≡ true → is_entry e ≡ true
sound_entry [] e behind sound = and_first _ _ sound
sound_entry (b ∷ before) e behind sound = sound_entry before e behind (and_second _ _ sound)

low_in : (h : ℕ → ℕ) (m : ℕ) → ((u : ℕ) → h u ≤ m) → (a n i : ℕ) → get_or (map h (range_with_len a n)) i 0 ≤ m
low_in h m low a zero i = omega arith
low_in h m low a (suc n) zero = low a
low_in h m low a (suc n) (suc i) = low_in h m low (a + 1) n i

-- no number of holders is greater than that of the entries
pub held_low : (Q : Patterns) (x : PositionInReach) (i : ℕ) → get_or (holder_counts Q x) i 0 ≤ length Q
held_low Q x i = low_in (count_at Q x) (length Q) (λ u. count_by-le-length (λ e. stands e x && nat_eq e.1 u) Q) 1 9 i

module _ (t : Turn) (numbers : List ℕ) (value : ℕ) (of : IsOf t numbers value) where
  sound_alone : is_entry t.entry ≡ true
  sound_alone = sound_entry t.before t.entry t.behind of.sound

  pub value_low : 1 ≤ value
  value_low = let gives : value ≡ t.entry.1 = of.gives in let low = entry_low t.entry sound_alone in omega arith

  pub value_high : value ≤ 9
  value_high = let gives : value ≡ t.entry.1 = of.gives in let high = entry_high t.entry sound_alone in omega arith

  pub away_same : (x : PositionInReach) → stands t.entry x ≡ false → holder_counts (with_entry t) x ≡ holder_counts (without_entry t) x
  away_same x away = tally_away t.before t.entry t.behind x away

  pub there_more : (x : PositionInReach) → stands t.entry x ≡ true → holder_counts (with_entry t) x ≡ with_one (holder_counts (without_entry t) x) value
  there_more x there =
      tally_there t.before t.entry t.behind x (entry_low t.entry sound_alone) (entry_high t.entry sound_alone) there ∙ ap (with_one (holder_counts (without_entry t) x)) (sym of.gives)

  pub there_less : (x : PositionInReach) → stands t.entry x ≡ true → less_one (holder_counts (with_entry t) x) value ≡ holder_counts (without_entry t) x
  there_less x there = ap (λ c. less_one c value) (there_more x there) ∙ less_with (holder_counts (without_entry t) x) value (let high = value_high in omega arith)

  pub there_some : (x : PositionInReach) → stands t.entry x ≡ true → 0 < get_or (holder_counts (with_entry t) x) (value - 1) 0
  there_some x there =
      let high = value_high in
      let n = get_or (holder_counts (without_entry t) x) (value - 1) 0 in
      let more : get_or (holder_counts (with_entry t) x) (value - 1) 0 ≡ n + 1 = ap (λ c. get_or c (value - 1) 0) (there_more x there)
      ∙ get_or-set_same (holder_counts (without_entry t) x) (value - 1) (n + 1) 0 (omega arith) in
      omega arith

  top_with_is : (x : PositionInReach) → greatest_held (holder_counts (with_entry t) x) ≡ value_at (with_entry t) x.1 x.0.position
  top_with_is x = greatest_value_is (with_entry t) x of.sound

  top_without_is : (x : PositionInReach) → greatest_held (holder_counts (without_entry t) x) ≡ value_at (without_entry t) x.1 x.0.position
  top_without_is x = greatest_value_is (without_entry t) x (sound_without t.before t.entry t.behind of.sound)

  alike_as : (x : PositionInReach) (c : List ℕ) → c ≡ holder_counts (without_entry t) x → break_alike_at (with_entry t) (without_entry t) x
      ≡ nat_eq (greatest_held (holder_counts (with_entry t) x) % 2) (greatest_held c % 2)
  alike_as x c is =
      ap (λ v. nat_eq (v % 2) (value_at (without_entry t) x.1 x.0.position % 2)) (sym (top_with_is x))
      ∙ ap (λ v. nat_eq (greatest_held (holder_counts (with_entry t) x) % 2) (v % 2)) (sym (top_without_is x) ∙ ap greatest_held (sym is))

  pub there_alike : (x : PositionInReach) → stands t.entry x ≡ true → break_alike_at (with_entry t) (without_entry t) x ≡ stays_alike value (holder_counts (with_entry t) x)
  there_alike x there = alike_as x (less_one (holder_counts (with_entry t) x) value) (there_less x there)

  pub away_alike : (x : PositionInReach) → stands t.entry x ≡ false → break_alike_at (with_entry t) (without_entry t) x ≡ true
  away_alike x away = alike_as x (holder_counts (with_entry t) x) (away_same x away) ∙ eq-eqb (greatest_held (holder_counts (with_entry t) x) % 2) _ refl

-- a search is in the middle: in front all break alike
pub record SearchedSoFar (positions : List PositionInReach) (alike : PositionInReach → Bool) (test : PositionInReach → Bool) (left : List ℕ) : Type 0 where
  pub front : List PositionInReach
  pub back : List PositionInReach
  pub is : positions ≡ front ++ back
  pub fine : list_all alike front ≡ true
  pub left_is : left ≡ numbers_of test (length front) back

-- what is at the next number, and the search behind it
pub record SearchStep (positions : List PositionInReach) (alike : PositionInReach → Bool) (test : PositionInReach → Bool) (k : ℕ) (ks : List ℕ) : Type 0 where
  pub position : PositionInReach
  pub there : test position ≡ true
  pub within : k < length positions
  pub at : (d : PositionInReach) → get_or positions k d ≡ position
  pub next : alike position ≡ true → SearchedSoFar positions alike test ks
  pub found : alike position ≡ false → find (λ x. not (alike x)) positions ≡ Some position

find_behind : (alike : PositionInReach → Bool) (front : List PositionInReach) (x : PositionInReach) (more : List PositionInReach) → list_all alike front ≡ true → alike x ≡ false
    → find (λ x. not (alike x)) (front ++ x ∷ more) ≡ Some x
find_behind alike [] x more fine differs = ap (λ b. cond (not b) (Some x) (find (λ x. not (alike x)) more)) differs
find_behind alike (y ∷ front) x more fine differs =
    ap (λ b. cond (not b) (Some y) (find (λ x. not (alike x)) (front ++ x ∷ more))) (and_first _ _ fine) ∙ find_behind alike front x more (and_second _ _ fine) differs

pub find_nothing : (alike : PositionInReach → Bool) (xs : List PositionInReach) → list_all alike xs ≡ true → find (λ x. not (alike x)) xs ≡ None
find_nothing alike [] fine = refl
find_nothing alike (x ∷ xs) fine = ap (λ b. cond (not b) (Some x) (find (λ x. not (alike x)) xs)) (and_first _ _ fine) ∙ find_nothing alike xs (and_second _ _ fine)

away_fine : (alike test : PositionInReach → Bool) → ((x : PositionInReach) → test x ≡ false → alike x ≡ true) → (gap : List PositionInReach)
    → list_all (λ y. not (test y)) gap ≡ true → list_all alike gap ≡ true
away_fine alike test away [] fails = refl
away_fine alike test away (y ∷ ys) fails = and_from _ _ (away y (is_false (test y) (and_first _ _ fails))) (away_fine alike test away ys (and_second _ _ fails))

module _ (positions : List PositionInReach) (alike : PositionInReach → Bool) (test : PositionInReach → Bool) where
  pub look_begins : (left : List ℕ) → left ≡ numbers_of test 0 positions → SearchedSoFar positions alike test left
  look_begins left is = record { front = []; back = positions; is = refl; fine = refl; left_is = is }

  module _ (away : (x : PositionInReach) → test x ≡ false → alike x ≡ true) where
    pub look_steps : (k : ℕ) (ks : List ℕ) → SearchedSoFar positions alike test (k ∷ ks) → SearchStep positions alike test k ks
    look_steps k ks w =
        let n = next_of test (length w.front) w.back k ks (sym w.left_is) in
        let front = w.front ++ n.gap in
        let whole : positions ≡ front ++ n.position ∷ n.more = w.is ∙ ap (λ b. w.front ++ b) n.is ∙ sym (append_assoc w.front n.gap (n.position ∷ n.more)) in
        let fine : list_all alike front ≡ true = list_all-append alike w.front n.gap ∙ and_from _ _ w.fine (away_fine alike test away n.gap n.fails) in
        let k_is : k ≡ length front = n.at ∙ sym (length-append w.front n.gap) in
        record {
          position = n.position;
          there = n.there;
          within = subst (λ (h : List PositionInReach). k < length h) (sym whole) (let many = length-append front (n.position ∷ n.more) in omega (arith, many));
          at = λ d. ap (λ h. get_or h k d) whole ∙ ap (λ j. get_or (front ++ n.position ∷ n.more) j d) k_is ∙ get_or-append_seam front n.position n.more d;
          next = λ same. record {
            front = front ++ n.position ∷ [];
            back = n.more;
            is = whole ∙ sym (append_assoc front (n.position ∷ []) n.more);
            fine = list_all-append alike front (n.position ∷ []) ∙ and_from _ _ fine (and_from _ _ same refl);
            left_is = n.rest ∙ ap (λ j. numbers_of test j n.more) (let many = length-append front (n.position ∷ []) in omega (arith, many));
          };
          found = λ differs. ap (find (λ x. not (alike x))) whole ∙ find_behind alike front n.position n.more fine differs;
        }

    pub look_ends : SearchedSoFar positions alike test [] → find (λ x. not (alike x)) positions ≡ None
    look_ends w =
        find_nothing alike positions (ap (list_all alike) w.is ∙ list_all-append alike w.front w.back
        ∙ and_from _ _ w.fine (away_fine alike test away w.back (none_of test (length w.front) w.back (sym w.left_is))))
