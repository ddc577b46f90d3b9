-- A way to count is ready: what that gives for a pass, and how it goes on.
use Rattle.std.proofs.Common.{◌≡◌, ℕ, ◌+◌, ◌-◌, ◌≤◌, ◌<◌, nat_le, not, ◌&&◌, ◌||◌, List, [], length, slice_get, Some, fold, sum_by, sym, ap, subst, ◌∙◌, arith}
use Rattle.std.specs.List.{flat_map}
use Rattle.pg_types.specs.declared.limits.TheConstants.{LENGTH_MAX, FILE_MAX}
use Rattle.pg_types.specs.declared.marks.Totals.{Totals}
use Rattle.pg_types.specs.declared.parameters.LevelParams.{LevelParams}
use Rattle.pg_types.specs.Inside.counting.Counts.{Counts}
use Rattle.pg_translate.specs.Alphabets.{Alphabet}
use Rattle.pg_select.specs.Sums.{totals as totals_by}
use Rattle.pg_dict.specs.Word.{Word}
use Rattle.pg_dict.specs.Inside.SoundWords.{letter_count}
use Rattle.pg_patterns.specs.Values.{Patterns}
use Rattle.pg_select.specs.Inside.laws.ClosedDots.{pass_at}
use Rattle.pg_select.specs.declared.pass.Pass.{Pass}
use Rattle.pg_select.specs.Inside.laws.Steps.{IsBelow}
use Rattle.pg_select.specs.Inside.engine.Meanings.{Meaning, with_position}
use Rattle.pg_select.specs.CountedPositions.{Candidate}
use Rattle.pg_select.specs.Inside.words.PositionLists.{counted_positions}
use Rattle.pg_select.proofs.LawsCounts.{candidates_listed}
use Rattle.pg_select.specs.Statuses.{is_odd}
use Rattle.pg_select.specs.Windows.{Hopeless}
use Rattle.pg_driver.specs.declared.choices.Choices.{Choices}
use Rattle.pg_driver.specs.declared.counting.WayToCount.{WayToCount}
use Rattle.pg_driver.specs.declared.counting.WayToCount.TheVariants.{Open, EachWord}
use Rattle.pg_driver.specs.declared.counting.open_positions.OpenLevel.{OpenLevel}
use Rattle.pg_driver.specs.Inside.choices.Choosing.{no_choices, with_candidates}
use Rattle.pg_driver.specs.Inside.counting.Counting.{HasRoom, IsBounded}
use Rattle.pg_driver.specs.Inside.counting.LevelCounting.{AreInWords, CanCarry, CanGoOn, Carries, GoesOnAfter, HasEnded, HasEndedOpen, IsAfterPass, IsCounted, IsOpenAt, IsReady, TellsTotals}
use Rattle.pg_dots.specs.Inside.Dots.{is_closed, position_count}
use Rattle.pg_dots.specs.Inside.Positions.{is_among, positions_room}
use Rattle.pg_dots.specs.declared.position_set.PositionSet.{PositionSet}
use Rattle.pg_driver.specs.Inside.counting.OpenSigns.{AreNever, IsLevelAt, dot_of_no_pass, is_open_first, open_word_positions, open_signs, sign_count, start_of}
use Rattle.pg_driver.specs.Inside.counting.OpenPositions.{counted_of}
use Rattle.pg_driver.specs.Inside.records.SoundRecords.{IsSmall}
use Rattle.pg_driver.specs.Inside.records.RunAccounts.{known_of}
use Rattle.pg_driver.specs.Traces.{Knowledge, PassTrace, chosen_in, known_after, pass_trace}
use Rattle.pg_driver.proofs.CarriedTotals.{carried_same, carried_small, carried_within, totals_are_small}
use Rattle.pg_driver.proofs.ListedTraces.{listed_trace, of_listed}
use Rattle.pg_driver.proofs.Numbers.{zero_plus}
use Rattle.pg_driver.proofs.OpenCounted.{counted_there, few_there}
use Rattle.pg_driver.proofs.OpenKnown.{there_after, there_first, there_longer, there_same}
use Rattle.pg_driver.proofs.OpenNext.{next_open}
use Rattle.pg_driver.proofs.OpenSigns.{sign_within}
use Rattle.pg_driver.proofs.OpenTraces.{totals_on}
use Rattle.pg_driver.proofs.Rooms.{room_none}
use Rattle.pg_driver.proofs.WordLevels.{words_after, words_can_move, words_placed}

-- where a level begins
pub ready_at_start : (T : Alphabet) (W : List Word) (level len : ℕ) (m : Meaning) (o : OpenLevel) → m.hopeless ≡ [] → IsBelow level m.patterns → IsBounded T W
    → sign_count W ≤ position_count o.dots → ((d n p : ℕ) (w : Word) → slice_get W n ≡ Some w → p < length w.signs
    → is_closed o.dots d (start_of W n + p) ≡ not (is_open_first T level m.patterns w p))
    → positions_room o.never ≡ position_count o.dots → AreNever T W (is_among o.never)
    → o.totals ≡ totals_by T W m.patterns → IsOpenAt T W level len (known_of m) o
ready_at_start T W level len m o none below bounded size are room never totals = record {
  bounded = bounded;
  size = size;
  room = room;
  never = never;
  dots = subst (λ (H : Hopeless). IsLevelAt level len T W m.patterns H (is_closed o.dots)) (sym none)
      (there_first level len T W m.patterns (is_closed o.dots) below are);
  totals = totals;
}

module _ (T : Alphabet) (W : List Word) (level len : ℕ) (known : Knowledge) (o : OpenLevel) (ready : IsOpenAt T W level len known o) where
  pub has_room : (counts : Counts) (dot : ℕ) → counts ≡ [] → len ≤ LENGTH_MAX → dot ≤ len → HasRoom counts (length (open_signs (is_closed o.dots dot) 0 (sign_count W)))
  has_room counts dot none short within =
      let some : length (open_signs (is_closed o.dots dot) 0 (sign_count W)) ≤ sum_by letter_count W =
      few_there level len dot T W known.patterns known.hopeless (is_closed o.dots) short within ready.bounded.reached ready.dots in
      let letters : sum_by letter_count W ≤ FILE_MAX = ready.bounded.few.letters in
      subst (λ (cs : Counts). HasRoom cs (length (open_signs (is_closed o.dots dot) 0 (sign_count W)))) (sym none)
      (room_none (length (open_signs (is_closed o.dots dot) 0 (sign_count W))) (omega arith))

  pub counts_all : (dot : ℕ) → len ≤ LENGTH_MAX → dot ≤ len → flat_map (counted_of (pass_at level len dot) W) (open_word_positions (is_closed o.dots dot) W)
      ≡ counted_positions T W (record { level = level; len = len; dot = dot }) known.patterns known.hopeless
  counts_all dot short within = sym (counted_there level len dot T W known.patterns known.hopeless (is_closed o.dots) short within ready.dots)

  pub is_small : IsSmall o.totals
  is_small = subst IsSmall (sym ready.totals) (totals_are_small T W known.patterns ready.bounded)

  -- at the next length
  pub ready_longer : (p : OpenLevel) → position_count p.dots ≡ position_count o.dots
      → ((d j : ℕ) → d ≤ LENGTH_MAX → j < position_count o.dots → is_closed p.dots d j ≡ (is_closed o.dots d j || (nat_le 1 d && is_closed o.dots (d - 1) j)))
      → ((j : ℕ) → j < position_count o.dots → is_closed p.dots dot_of_no_pass j ≡ is_closed o.dots dot_of_no_pass j)
      → p.never ≡ o.never → p.totals ≡ o.totals → IsOpenAt T W level (len + 1) known p
  ready_longer p wide are stay same totals = record {
    bounded = ready.bounded;
    size = (let size = ready.size in omega arith);
    dots = there_longer level len T W known.patterns known.hopeless (is_closed o.dots) (is_closed p.dots)
        (λ d s within low. are d s within (let size = ready.size in omega arith)) (λ s low. stay s (let size = ready.size in omega arith)) ready.dots;
    room = ap positions_room same ∙ ready.room ∙ sym wide;
    never = subst (λ (s : PositionSet). AreNever T W (is_among s)) (sym same) ready.never;
    totals = totals ∙ ready.totals;
  }

  -- where the same dots are closed
  pub ready_same : (p : OpenLevel) → position_count p.dots ≡ position_count o.dots → ((d j : ℕ) → j < position_count o.dots → is_closed p.dots d j ≡ is_closed o.dots d j)
      → p.never ≡ o.never → p.totals ≡ o.totals → IsOpenAt T W level len known p
  ready_same p wide are same totals = record {
    bounded = ready.bounded;
    size = (let size = ready.size in omega arith);
    dots = there_same level len T W known.patterns known.hopeless (is_closed o.dots) (is_closed p.dots)
        (λ d s low. are d s (let size = ready.size in omega arith)) ready.dots;
    room = ap positions_room same ∙ ready.room ∙ sym wide;
    never = subst (λ (s : PositionSet). AreNever T W (is_among s)) (sym same) ready.never;
    totals = totals ∙ ready.totals;
  }

-- at the end of a level
pub has_ended : (T : Alphabet) (W : List Word) (level len : ℕ) (known : Knowledge) (c : WayToCount) → IsReady T W level len known c → HasEnded T W level known.patterns c
has_ended T W level len known (Open o) ready = record {
  bounded = ready.bounded;
  size = ready.size;
  status = ready.dots.status;
  room = ready.room;
  never = ready.never;
  totals = ready.totals;
}
has_ended T W level len known (EachWord e) ready = tt

-- where the next level begins
pub ready_next : (T : Alphabet) (W : List Word) (level len : ℕ) (m : Meaning) (o p : OpenLevel) → 1 ≤ level → m.hopeless ≡ [] → IsBelow level m.patterns → HasEndedOpen T W (level - 1) m.patterns o
    → position_count p.dots ≡ position_count o.dots
    → ((d j : ℕ) → j < position_count o.dots → is_closed p.dots d j ≡ (not (is_closed o.dots dot_of_no_pass j) || is_among o.never j))
    → p.never ≡ o.never → p.totals ≡ o.totals → IsOpenAt T W level len (known_of m) p
ready_next T W level len m o p some none below ended wide turned same totals =
    ready_at_start T W level len m p none below ended.bounded (let size = ended.size in omega arith)
    (λ d n q w at low.
    let s = start_of W n + q in
    turned d s (let size = ended.size in let inside = sign_within W n q w at low in omega arith)
    ∙ (λ i. not (ended.status n q w at low i) || ended.never n q w at low i)
    ∙ next_open T level m.patterns w q some)
    (ap positions_room same ∙ ended.room ∙ sym wide)
    (subst (λ (s : PositionSet). AreNever T W (is_among s)) (sym same) ended.never)
    (totals ∙ ended.totals)

-- totals that a ready way tells
pub tells_totals : (T : Alphabet) (W : List Word) (level len : ℕ) (known : Knowledge) (P : Patterns) (c : WayToCount) → known.patterns ≡ P → IsCounted c → IsReady T W level len known c → TellsTotals T W P c
tells_totals T W level len known P (Open o) same counted ready = (ready.totals ∙ ap (totals_by T W) same, is_small T W level len known o ready)
tells_totals T W level len known P (EachWord e) same counted ready =
    let totals : e.totals ≡ totals_by T W P = ready.totals counted ∙ ap (totals_by T W) same in
    (totals, subst IsSmall (sym totals) (totals_are_small T W P (ready.bounded counted)))

-- a pass was counted still after the choices of a pass
pub counted_after : (params : LevelParams) (pass : Pass) (counts : Counts) (words : List Word) (n : Choices) (c d : WayToCount) → GoesOnAfter params pass counts words n c d → IsCounted c → IsCounted d
counted_after params pass counts words n (Open o) (Open p) on counted = tt
counted_after params pass counts words n (Open o) (EachWord f) on counted = absurd on
counted_after params pass counts words n (EachWord e) (Open p) on counted = absurd on
counted_after params pass counts words n (EachWord e) (EachWord f) on counted = on.counted ∙ counted

pub placed : (T : Alphabet) (W : List Word) (level len : ℕ) (known : Knowledge) (c : WayToCount) → IsCounted c → IsReady T W level len known c → AreInWords W c
placed T W level len known (Open o) counted ready = ready.size
placed T W level len known (EachWord e) counted ready = words_placed T W level known e counted ready

-- after a pass
module _ (T : Alphabet) (W : List Word) (params : LevelParams) (known : Knowledge) (pass : Pass) (n : Choices) where
  abbrev made : PassTrace
  made = listed_trace T W params known pass

  -- the numbers of its choices
  pub record AreOf : Type 0 where
    pub good : n.good ≡ sum_by (λ c. c.good) (chosen_in made)
    pub bad : n.bad ≡ sum_by (λ c. c.bad) (chosen_in made)

  pub are_of : n ≡ with_candidates params no_choices (pass_trace T W params known pass).candidates → AreOf
  are_of numbers =
      let is : n ≡ with_candidates params no_choices made.candidates = numbers ∙ ap (λ (cs : List Candidate). with_candidates params no_choices cs) (candidates_listed T W pass known.patterns known.hopeless) in
      record {
        good = ap (λ (x : Choices). x.good) is ∙ zero_plus (sum_by (λ (c : Candidate). c.good) (chosen_in made));
        bad = ap (λ (x : Choices). x.bad) is ∙ zero_plus (sum_by (λ (c : Candidate). c.bad) (chosen_in made));
      }

  module _ (o : OpenLevel) (of : AreOf) (ready : IsOpenAt T W pass.level pass.len known o) where
    carries : Carries (is_odd pass.level) o.totals (totals_by T W (known_after made).patterns) n.good n.bad
    carries =
        subst (λ (g : ℕ). Carries (is_odd pass.level) o.totals (totals_by T W (known_after made).patterns) g n.bad) (sym of.good)
        (subst (λ (b : ℕ). Carries (is_odd pass.level) o.totals (totals_by T W (known_after made).patterns) (sum_by (λ (c : Candidate). c.good) (chosen_in made)) b) (sym of.bad)
        (subst (λ (t : Totals). Carries (is_odd pass.level) t (totals_by T W (known_after made).patterns) (sum_by (λ (c : Candidate). c.good) (chosen_in made))
        (sum_by (λ (c : Candidate). c.bad) (chosen_in made))) (sym ready.totals)
        (totals_on T W params known pass ready.dots.upto)))

    can_carry : CanCarry (is_odd pass.level) o.totals n.good n.bad
    can_carry =
        let before = is_small T W pass.level pass.len known o ready in
        let after : IsSmall (totals_by T W (known_after made).patterns) = totals_are_small T W (known_after made).patterns ready.bounded in
        record {
          small = before;
          sums = carried_small (is_odd pass.level) o.totals (totals_by T W (known_after made).patterns) n.good n.bad before after carries;
          within = carried_within (is_odd pass.level) o.totals (totals_by T W (known_after made).patterns) n.good n.bad carries;
        }

    open_after : (counts : Counts) (p : OpenLevel) → pass.dot ≤ LENGTH_MAX → counts ≡ fold with_position [] (counted_positions T W pass known.patterns known.hopeless)
        → IsAfterPass params pass counts W n o p
        → IsOpenAt T W pass.level pass.len (known_after made) p
    open_after counts p low counted is = record {
      bounded = ready.bounded;
      size = (let size = ready.size in let wide = is.size in omega arith);
      dots = there_after params T W pass known.patterns known.hopeless counts low counted (is_closed o.dots) (is_closed p.dots) is.dots ready.dots;
      room = ap positions_room is.never ∙ ready.room ∙ sym is.size;
      never = subst (λ (s : PositionSet). AreNever T W (is_among s)) (sym is.never) ready.never;
      totals = carried_same (is_odd pass.level) o.totals p.totals (totals_by T W (known_after made).patterns) n.good n.bad is.totals carries;
    }

  pub can_go_on : (counts : Counts) (c : WayToCount) → AreOf → IsCounted c → counts ≡ fold with_position [] (counted_positions T W pass known.patterns known.hopeless)
      → IsReady T W pass.level pass.len known c → CanGoOn params pass counts W n c
  can_go_on counts (Open o) of begun counted ready = can_carry o of ready
  can_go_on counts (EachWord e) of begun counted ready = words_can_move T W params known pass n counts e ready begun counted of.good of.bad

  ready_listed : (counts : Counts) (c d : WayToCount) → AreOf → IsCounted c → pass.dot ≤ LENGTH_MAX → counts
      ≡ fold with_position [] (counted_positions T W pass known.patterns known.hopeless) → GoesOnAfter params pass counts W n c d
      → IsReady T W pass.level pass.len known c → IsReady T W pass.level pass.len (known_after made) d
  ready_listed counts (Open o) (Open p) of begun low counted on ready = open_after o of ready counts p low counted on
  ready_listed counts (Open o) (EachWord f) of begun low counted on ready = absurd on
  ready_listed counts (EachWord e) (Open p) of begun low counted on ready = absurd on
  ready_listed counts (EachWord e) (EachWord f) of begun low counted on ready = words_after T W params known pass n counts e ready begun counted of.good of.bad f on

  pub ready_after : (counts : Counts) (c d : WayToCount) → AreOf → IsCounted c → pass.dot ≤ LENGTH_MAX → counts
      ≡ fold with_position [] (counted_positions T W pass known.patterns known.hopeless) → GoesOnAfter params pass counts W n c d
      → IsReady T W pass.level pass.len known c → IsReady T W pass.level pass.len (known_after (pass_trace T W params known pass)) d
  ready_after counts c d of begun low counted on ready =
      of_listed T W params known pass (λ (p : PassTrace). IsReady T W pass.level pass.len (known_after p) d) (ready_listed counts c d of begun low counted on ready)
