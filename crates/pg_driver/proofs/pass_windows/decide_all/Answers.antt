use Rattle.std.proofs.Common.{◌≡◌, ◌∷◌, ◌++◌, [], List, ℕ, ◌<◌, ◌≤◌, ◌+◌, true, false, Option, None, Some, is_some, inl, inr, length, drop, get_or, slice_get, sym, ap, subst, ◌∙◌, arith, append_assoc}
use Rattle.std.proofs.lemmas.Bool.{cases_lt}
use Rattle.std.proofs.lemmas.List.{append-nil, drop_all, drop_more, length_push}
use Rattle.std.proofs.lemmas.Option.{slice_get_within}
use Rattle.pg_types.specs.Inside.counting.Counts.{counted_sums}
use Rattle.pg_types.specs.Inside.counting.NumberedWindows.{HasNumber, Windows}
use Rattle.pg_select.specs.declared.choice.Choice.{Choice}
use Rattle.pg_starts.specs.Inside.Tallies.{tallied}
use Rattle.pg_starts.specs.Inside.CountsByNumber.{Tallied, counted_from}
use Rattle.pg_starts.specs.Inside.StartCountings.{counts_in, windows_in}
use Rattle.pg_starts.specs.Inside.Known.{number_count}
use Rattle.pg_starts.proofs.Numbering.{some_window, windows_size}
use Rattle.pg_driver.specs.Inside.level.PassWindows.{fate_of_sums}
use Rattle.pg_driver.proofs.NumberSteps.{get_left, get_seam}
use Rattle.pg_driver.proofs.OpenSteps.{small_sums}
use Rattle.pg_driver.proofs.pass_windows.decide_all.Goals as goal
use Rattle.pg_driver.proofs.pass_windows.decide_all.Goals.{then-is_some+in_ok-push, else-is_some}

pub numbers-init : goal.numbers-init
numbers-init c = record {
  order = ap (λ (ns : List ℕ). ns ++ counted_from 0 (tallied c.args.counts.now.tallies)) c.requires.no_order;
  size = ap (λ (xs : List Choice). length xs) c.requires.no_fates;
  each = λ u n low has. absurd (omega arith);
}

pub returns-clause-order : goal.returns-clause-order
returns-clause-order c =
    let ts : Tallied = tallied c.args.counts.now.tallies in
    let past : length ts ≤ c.numbers.number = omega (arith, c.numbers-test.false, c.count-number-end.ensures, c.requires.counting.size) in
    sym (append-nil c.numbers.order.items)
    ∙ ap (λ (xs : Tallied). c.numbers.order.items ++ counted_from c.numbers.number xs) (sym (drop_all c.numbers.number ts past))
    ∙ c.numbers.invariant.order

pub returns-clause-fates : goal.returns-clause-fates
returns-clause-fates c =
    let ws : Windows = windows_in c.args.signs.now c.args.counts.now in
    let size = windows_size c.args.signs.now c.args.counts.now.numbers in
    record {
      size = omega (arith, size, c.numbers.invariant.size, c.numbers-test.false, c.count-number-end.ensures, c.numbers.auto.number-end);
      each = λ u n has. c.numbers.invariant.each u n (let low = slice_get_within ws n u has in omega (arith, low, size, c.numbers-test.false, c.count-number-end.ensures)) has;
    }

-- the sums at a number: it is one of those that were counted, or not
step_on : (ts : Tallied) (k : ℕ) (ns all : List ℕ) (o : Option (ℕ × ℕ)) → k < length ts → o ≡ get_or ts k None → ns ++ counted_from k (drop k ts) ≡ all
    → (is_some o ≡ true → (ns ++ k ∷ []) ++ counted_from (k + 1) (drop (k + 1) ts) ≡ all) × (is_some o ≡ false → ns ++ counted_from (k + 1) (drop (k + 1) ts) ≡ all)
step_on ts k ns all o low is whole = by o (drop_more ts k None low ∙ ap (λ (x : Option (ℕ × ℕ)). x ∷ drop (k + 1) ts) (sym is))
  where
    by : (o : Option (ℕ × ℕ)) → drop k ts ≡ o ∷ drop (k + 1) ts
        → (is_some o ≡ true → (ns ++ k ∷ []) ++ counted_from (k + 1) (drop (k + 1) ts) ≡ all) × (is_some o ≡ false → ns ++ counted_from (k + 1) (drop (k + 1) ts) ≡ all)
    by None front = (λ some. absurd (let no : false ≡ true = some in cc), λ none. ap (λ (xs : Tallied). ns ++ counted_from k xs) (sym front) ∙ whole)
    by (Some s) front = (
      λ some. append_assoc ns (k ∷ []) (counted_from (k + 1) (drop (k + 1) ts)) ∙ ap (λ (xs : Tallied). ns ++ counted_from k xs) (sym front) ∙ whole,
      λ none. absurd (let no : true ≡ false = none in cc),
    )

-- the fates of the numbers so far, and of the next
fates_on : (ws : Windows) (fates : List Choice) (fate : Choice) (k : ℕ) (of : List ℕ → Choice) → length fates ≡ k
    → ((u : List ℕ) (n : ℕ) → n < k → HasNumber ws u n → slice_get fates n ≡ Some (of u)) → ((u : List ℕ) → HasNumber ws u k → fate ≡ of u)
    → (u : List ℕ) (n : ℕ) → n < k + 1 → HasNumber ws u n → slice_get (fates ++ fate ∷ []) n ≡ Some (of u)
fates_on ws fates fate k of size each here u n low has = elim (cases_lt n k) [
  | inl before ↦ get_left fates (fate ∷ []) n (of u) (each u n before has)
  | inr after ↦
      let same : n ≡ k = omega arith in
      get_seam fates fate n (omega arith) ∙ ap Some (here u (subst (HasNumber ws u) same has))
]

pub fate_of-requires-clause-small : goal.fate_of-requires-clause-small
fate_of-requires-clause-small c =
    let signs = c.args.signs.now in
    let k = c.args.counts.now in
    let n = c.numbers.number in
    let low : n < number_count k.numbers = omega (arith, c.numbers-test.true, c.count-number-end.ensures) in
    let u : List ℕ = get_or (windows_in signs k) n [] in
    small_sums (counts_in signs k) u 0 c.sums-sums.result c.requires.room
    (c.sums-sums.ensures.value u (some_window signs k.numbers n low))

pub numbers-preserved : goal.numbers-preserved
numbers-preserved c =
    let signs = c.args.signs.now in
    let k = c.args.counts.now in
    let ts : Tallied = tallied k.tallies in
    let n = c.numbers.number in
    let inv = c.numbers.invariant in
    let low : n < length ts = omega (arith, c.numbers-test.true, c.count-number-end.ensures, c.requires.counting.size) in
    let on = step_on ts n c.numbers.order.items (counted_from 0 ts) c.sums-sums.result low c.sums-sums.ensures.tally inv.order in
    let fates = c.in_ok-push-2.ensures.items in
    let size : length c.push-in-numbers.new.self.items ≡ n + 1 = omega (arith, ap (λ (xs : List Choice). length xs) fates, length_push c.numbers.fates.items c.fate_of.result, inv.size) in
    let each : (u : List ℕ) (m : ℕ) → m < n + 1 → HasNumber (windows_in signs k) u m → slice_get c.push-in-numbers.new.self.items m ≡ Some (fate_of_sums c.args.params.now (counted_sums (counts_in signs k) u)) =
    λ u m less has. ap (λ (xs : List Choice). slice_get xs m) fates
    ∙ fates_on (windows_in signs k) c.numbers.fates.items c.fate_of.result n (λ v. fate_of_sums c.args.params.now (counted_sums (counts_in signs k) v)) inv.size inv.each
    (λ v has. c.fate_of.ensures ∙ ap (fate_of_sums c.args.params.now) (c.sums-sums.ensures.value v has)) u m less has in
    elim c.if-is_some.branch [
      | then-is_some+in_ok-push w ↦ record {
        order = rw (w.order-is, w.in_ok-push.ensures.items) (on.0 (sym c.is_some.ensures ∙ w.if-is_some.true));
        size = size;
        each = each;
      }
      | else-is_some w ↦ record {
        order = rw (w.order-is) (on.1 (sym c.is_some.ensures ∙ w.if-is_some.false));
        size = size;
        each = each;
      }
    ]
