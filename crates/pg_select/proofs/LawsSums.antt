-- The sums of a pass and of the totals are small.
use Rattle.std.proofs.Common.{◌≡◌, ℕ, ◌+◌, ◌-◌, ◌*◌, ◌^◌, ◌<◌, ◌≤◌, nat_le, Bool, true, false, cond, not, ◌&&◌, List, [], ◌∷◌, length, map, get_or, fold, Option, Some, None, refl, ap, ⊎_elim, arith, length-append}
use Rattle.std.specs.declared.cmp.Ordering.{Ordering}
use Rattle.std.specs.declared.cmp.Ordering.TheVariants.{Less, Equal, Greater}
use Rattle.std.specs.FinMap.Entries.{put, by_order}
use Rattle.std.specs.Option.{option_map_or}
use Rattle.std.specs.List.{sum_by, flat_map, range_with_len, All}
use Rattle.std.proofs.lemmas.Bool.{cases_lt, leb-true}
use Rattle.std.proofs.lemmas.List.{get_or_past}
use Rattle.std.proofs.lemmas.List.Elements.{All-head, All-tail, All-get_or}
use Rattle.std.proofs.lemmas.List.FromFn.{length-range_with_len}
use Rattle.std.proofs.lemmas.List.Sums.{sum_by-cons, sum_by-append}
use Rattle.pg_types.specs.declared.limits.TheConstants.{WEIGHT_MAX, FILE_MAX}
use Rattle.pg_types.specs.declared.marks.Mark.{Mark}
use Rattle.pg_types.specs.declared.marks.Mark.TheVariants.{Nothing, Error, Missed, Found, DontCare}
use Rattle.pg_translate.specs.Alphabets.{Alphabet}
use Rattle.pg_translate.specs.Reach.{positions}
use Rattle.pg_dict.specs.Word.{Word}
use Rattle.pg_dict.specs.Inside.SoundWords.{IsWord, letter_count}
use Rattle.pg_patterns.specs.Values.{Patterns}
use Rattle.pg_select.specs.Statuses.{status_at, position_weight}
use Rattle.pg_select.specs.Windows.{Hopeless, window}
use Rattle.pg_select.specs.declared.pass.Pass.{Pass}
use Rattle.pg_select.specs.CountedPositions.{counted_at}
use Rattle.pg_select.specs.Inside.words.PositionLists.{CountedPosition, counted_positions_at, counted_positions, same_signs, with_window, candidates, good_of, bad_of}
use Rattle.pg_select.specs.Inside.words.WordCounts.{counted_positions_in}
use Rattle.pg_select.specs.Sums.{weight_of, totals}
use Rattle.pg_select.specs.Inside.SumSteps.{marks_in, is_found, is_error, is_missed}
use Rattle.pg_select.specs.Inside.laws.Laws.{AreFew, number_of_positions}
use Rattle.pg_select.proofs.LawsCounts.{cmp, counted_as, keys_length}

-- a weight is within its limit
pub weight_within : (w : Word) (p : ℕ) → IsWord w → position_weight w p ≤ WEIGHT_MAX
weight_within w p word =
    ⊎_elim
    (λ (inside : p < length w.weights). All-get_or (λ x. x ≤ WEIGHT_MAX) w.weights p 0 inside word.weights)
    (λ (past : length w.weights ≤ p). let none : get_or w.weights p 0 ≡ 0 = get_or_past w.weights p 0 past in omega arith)
    (cases_lt p (length w.weights))

-- a word has no more positions in reach than letters
pub positions_few : (left right signs : ℕ) → 1 ≤ left → length (positions left right signs) ≤ signs - 2
positions_few left right signs low = by_test (nat_le (left + right + 2) signs) (leb-true (left + right + 2) signs)
  where
    by_test : (b : Bool) → (b ≡ true → left + right + 2 ≤ signs) → length
        (option_map_or (λ (ends : ℕ × ℕ). range_with_len ends.0 (ends.1 + 1 - ends.0)) (cond b (Some (left + 1, signs - right - 1)) None) []) ≤ signs - 2
    by_test false long = omega arith
    by_test true long =
        let enough : left + right + 2 ≤ signs = long refl in
        omega (arith, length-range_with_len (left + 1) (signs - right - 1 + 1 - (left + 1)))

abbrev reached : Alphabet → Word → ℕ
reached m w = length (positions m.left m.right (length w.signs))

pub positions_within : (m : Alphabet) (words : List Word) → 1 ≤ m.left → number_of_positions m words ≤ sum_by letter_count words
positions_within m [] low = omega arith
positions_within m (w ∷ ws) low =
    let rest : number_of_positions m ws ≤ sum_by letter_count ws = positions_within m ws low in
    omega (arith, sum_by-cons (reached m) w ws, sum_by-cons letter_count w ws, positions_few m.left m.right (length w.signs) low)

-- a list of lists weighs no more than its parts may
parts_within : {X Y : Type 0} (f : X → List Y) (g : Y → ℕ) (n : ℕ) (size : X → ℕ) (Holds : X → Type 0) → ((x : X) → Holds x → sum_by g (f x) ≤ n * size x)
    → (xs : List X) → All Holds xs → sum_by g (flat_map f xs) ≤ n * sum_by size xs
parts_within f g n size Holds each [] all = omega arith
parts_within f g n size Holds each (x ∷ xs) all =
    let here : sum_by g (f x) ≤ n * size x = each x (All-head Holds x xs all) in
    let rest : sum_by g (flat_map f xs) ≤ n * sum_by size xs = parts_within f g n size Holds each xs (All-tail Holds x xs all) in
    let whole : sum_by g (flat_map f (x ∷ xs)) ≡ sum_by g (f x) + sum_by g (flat_map f xs) = sum_by-append g (f x) (flat_map f xs) in
    let sizes : n * sum_by size (x ∷ xs) ≡ n * (size x + sum_by size xs) = ap (λ k. n * k) (sum_by-cons size x xs) in
    omega arith

-- the marks of a word weigh no more than its positions may
marks_within : (P : Patterns) (w : Word) → IsWord w → (ps : List ℕ)
    → sum_by (λ (e : Mark × ℕ). e.1) (map (λ (p : ℕ). (status_at P w p, position_weight w p)) ps) ≤ WEIGHT_MAX * length ps
marks_within P w word [] = omega arith
marks_within P w word (p ∷ ps) =
    let rest = marks_within P w word ps in
    omega (
      arith,
      weight_within w p word,
      marks_within P w word ps,
      sum_by-cons (λ (e : Mark × ℕ). e.1) (status_at P w p, position_weight w p)
          (map (λ (q : ℕ). (status_at P w q, position_weight w q)) ps),
    )

-- a mark counts once at most
one_mark : (m : Mark) (x : ℕ) → cond (is_found m) x 0 + cond (is_error m) x 0 + cond (is_missed m) x 0 ≤ x
one_mark Nothing x = omega arith
one_mark Error x = omega arith
one_mark Missed x = omega arith
one_mark Found x = omega arith
one_mark DontCare x = omega arith

three_within : (marks : List (Mark × ℕ)) → weight_of is_found marks + weight_of is_error marks + weight_of is_missed marks ≤ sum_by (λ (e : Mark × ℕ). e.1) marks
three_within [] = omega arith
three_within (e ∷ es) =
    omega (
      arith,
      three_within es,
      one_mark e.0 e.1,
      sum_by-cons (λ (e : Mark × ℕ). e.1) e es,
      sum_by-cons (λ (e : Mark × ℕ). cond (is_found e.0) e.1 0) e es,
      sum_by-cons (λ (e : Mark × ℕ). cond (is_error e.0) e.1 0) e es,
      sum_by-cons (λ (e : Mark × ℕ). cond (is_missed e.0) e.1 0) e es,
    )

-- the totals are within the weights of the positions in reach
pub totals_within : (m : Alphabet) (words : List Word) (P : Patterns) → All IsWord words
    → (totals m words P).good + (totals m words P).bad + (totals m words P).missed ≤ WEIGHT_MAX * number_of_positions m words
totals_within m words P each =
    let whole : sum_by (λ (e : Mark × ℕ). e.1) (flat_map (marks_in m P) words) ≤ WEIGHT_MAX * number_of_positions m words
    = parts_within (marks_in m P) (λ (e : Mark × ℕ). e.1) WEIGHT_MAX (reached m) IsWord (λ w word. marks_within P w word (positions m.left m.right (length w.signs))) words each in
    omega (arith, three_within (flat_map (marks_in m P) words))

-- what is counted at a position weighs no more than it
seen_within : (o : Option Bool) (u : List ℕ) (x : ℕ) → sum_by (λ (s : CountedPosition). s.weight) (counted_as u x o) ≤ x
seen_within None u x = omega arith
seen_within (Some good) u x = omega arith

seen_in : (pass : Pass) (P : Patterns) (H : Hopeless) (w : Word) → IsWord w → (ps : List ℕ)
    → sum_by (λ (s : CountedPosition). s.weight) (flat_map (counted_positions_at pass P H w) ps) ≤ WEIGHT_MAX * length ps
seen_in pass P H w word [] = omega arith
seen_in pass P H w word (p ∷ ps) =
    let here : sum_by (λ (s : CountedPosition). s.weight) (counted_positions_at pass P H w p) ≤ position_weight w p =
    seen_within (counted_at pass P H w p) (window w.signs p pass.len pass.dot) (position_weight w p) in
    omega (
      arith,
      weight_within w p word,
      seen_in pass P H w word ps,
      sum_by-append (λ (s : CountedPosition). s.weight) (counted_positions_at pass P H w p)
          (flat_map (counted_positions_at pass P H w) ps),
    )

-- what a pass counts is within the weights of the positions in reach
pub weights_within : (m : Alphabet) (words : List Word) (pass : Pass) (P : Patterns) (H : Hopeless) → All IsWord words
    → sum_by (λ (s : CountedPosition). s.weight) (counted_positions m words pass P H) ≤ WEIGHT_MAX * number_of_positions m words
weights_within m words pass P H each =
    parts_within (counted_positions_in m pass P H) (λ (s : CountedPosition). s.weight) WEIGHT_MAX (reached m) IsWord
    (λ w word. seen_in pass P H w word (positions m.left m.right (length w.signs))) words each

-- a window more, or none
put_length : (u : List ℕ) (windows : List (List ℕ × Unit {0})) → length (put cmp u (tt {0}) windows) ≤ length windows + 1
put_length u [] = omega arith
put_length u (e ∷ es) =
    let rest : length (put cmp u (tt {0}) es) ≤ length es + 1 = put_length u es in
    elim (cmp u e.0) as (λ (r : Ordering). length (by_order r ((u, tt {0}) ∷ e ∷ es) ((e.0, tt {0}) ∷ es) (e ∷ put cmp u (tt {0}) es)) ≤ length (e ∷ es) + 1) [
      | Less ↦ omega arith
      | Equal ↦ omega arith
      | Greater ↦ omega arith
    ]

windows_few : (windows : List (List ℕ × Unit {0})) (counted : List CountedPosition) → length (fold with_window windows counted) ≤ length windows + length counted
windows_few windows [] = omega arith
windows_few windows (s ∷ ss) = omega (arith, windows_few (with_window windows s) ss, put_length s.window windows)

seen_once : (o : Option Bool) (u : List ℕ) (x : ℕ) → length (counted_as u x o) ≤ 1
seen_once None u x = omega arith
seen_once (Some good) u x = omega arith

counted_few_in : (pass : Pass) (P : Patterns) (H : Hopeless) (w : Word) (ps : List ℕ) → length (flat_map (counted_positions_at pass P H w) ps) ≤ length ps
counted_few_in pass P H w [] = omega arith
counted_few_in pass P H w (p ∷ ps) =
    omega (
      arith,
      seen_once (counted_at pass P H w p) (window w.signs p pass.len pass.dot) (position_weight w p),
      counted_few_in pass P H w ps,
      length-append (counted_positions_at pass P H w p) (flat_map (counted_positions_at pass P H w) ps),
    )

-- a pass counts no more than positions in reach
pub counted_few : (m : Alphabet) (words : List Word) (pass : Pass) (P : Patterns) (H : Hopeless) → length (counted_positions m words pass P H) ≤ number_of_positions m words
counted_few m [] pass P H = omega arith
counted_few m (w ∷ ws) pass P H =
    omega (
      arith,
      counted_few m ws pass P H,
      counted_few_in pass P H w (positions m.left m.right (length w.signs)),
      sum_by-cons (reached m) w ws,
      length-append (counted_positions_in m pass P H w) (flat_map (counted_positions_in m pass P H) ws),
    )

-- and has no more candidates
pub candidates_few : (m : Alphabet) (words : List Word) (pass : Pass) (P : Patterns) (H : Hopeless) → length (candidates (counted_positions m words pass P H)) ≤ number_of_positions m words
candidates_few m words pass P H = omega (
  arith,
  counted_few m words pass P H,
  windows_few [] (counted_positions m words pass P H),
  keys_length (fold with_window [] (counted_positions m words pass P H)),
)

small : (n k : ℕ) → n ≤ WEIGHT_MAX * k → k ≤ FILE_MAX → n < 2 ^ 40
small n k light few = omega arith

-- the totals are small where no more positions are in reach than letters
pub totals_small_within : (m : Alphabet) (words : List Word) (P : Patterns) → number_of_positions m words ≤ sum_by letter_count words → AreFew words
    → (totals m words P).good + (totals m words P).bad + (totals m words P).missed < 2 ^ 40
totals_small_within m words P upto few = small ((totals m words P).good + (totals m words P).bad + (totals m words P).missed) (number_of_positions m words)
    (totals_within m words P few.each) (omega (arith, few.letters))

pub totals_small : (m : Alphabet) (words : List Word) (P : Patterns) → 1 ≤ m.left → AreFew words → (totals m words P).good + (totals m words P).bad + (totals m words P).missed < 2 ^ 40
totals_small m words P low few = totals_small_within m words P (positions_within m words low) few

pub counted_light : (m : Alphabet) (words : List Word) (pass : Pass) (P : Patterns) (H : Hopeless) → 1 ≤ m.left → AreFew words
    → sum_by (λ (s : CountedPosition). s.weight) (counted_positions m words pass P H) < 2 ^ 40
counted_light m words pass P H low few =
    let upto : number_of_positions m words ≤ sum_by letter_count words = positions_within m words low in
    small (sum_by (λ (s : CountedPosition). s.weight) (counted_positions m words pass P H)) (number_of_positions m words) (weights_within m words pass P H few.each) (omega (arith, few.letters))

-- a counted position counts once at most
one_position : (t good : Bool) (x : ℕ) → cond (t && good) x 0 + cond (t && not good) x 0 ≤ x
one_position true true x = omega arith
one_position true false x = omega arith
one_position false good x = omega arith

pub sums_are_parts : (counted : List CountedPosition) (u : List ℕ) → good_of counted u + bad_of counted u ≤ sum_by (λ (s : CountedPosition). s.weight) counted
sums_are_parts [] u = omega arith
sums_are_parts (s ∷ ss) u =
    omega (
      arith,
      sums_are_parts ss u,
      one_position (same_signs u s.window) s.good s.weight,
      sum_by-cons (λ (x : CountedPosition). x.weight) s ss,
      sum_by-cons (λ (x : CountedPosition). cond (same_signs u x.window && x.good) x.weight 0) s ss,
      sum_by-cons (λ (x : CountedPosition). cond (same_signs u x.window && not x.good) x.weight 0) s ss,
    )
