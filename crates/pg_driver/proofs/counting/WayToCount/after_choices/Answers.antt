use Rattle.std.proofs.Common.{◌≡◌, ◌≤◌, ℕ, List, Bool, All, not, length, refl, sym, ap, subst, ◌∙◌}
use Rattle.pg_dict.specs.Inside.Store.{all_signs}
use Rattle.pg_dots.specs.Inside.Dots.{is_closed}
use Rattle.pg_select.specs.declared.choice.Choice.{Choice}
use Rattle.pg_select.specs.Statuses.{is_odd}
use Rattle.pg_starts.specs.Inside.StartCountings.{counts_in, windows_in}
use Rattle.pg_types.specs.declared.limits.TheConstants.{FILE_MAX}
use Rattle.pg_driver.specs.declared.counting.WayToCount.{WayToCount}
use Rattle.pg_driver.specs.declared.counting.WayToCount.TheVariants.{Open, EachWord}
use Rattle.pg_driver.specs.declared.counting.open_positions.OpenLevel.{OpenLevel}
use Rattle.pg_driver.specs.declared.counting.above_positions.ChosenWeights.{ChosenWeights}
use Rattle.pg_driver.specs.declared.pass_windows.TheConstants.{NO_NUMBER}
use Rattle.pg_driver.specs.declared.pass_windows.WordPosition.{WordPosition}
use Rattle.pg_driver.specs.Inside.counting.Counting.{AreNumbersFor}
use Rattle.pg_driver.specs.Inside.counting.LevelCounting.{AreInWords, AreListed, AreNumbersIn, CanCarry, CanGoOn, CanMove, GoesOnAfter, IsAfterWords}
use Rattle.pg_driver.specs.Inside.counting.OpenPositions.{IsInWord}
use Rattle.pg_driver.specs.Inside.counting.OpenSigns.{ClosesBy, closed_at_sign}
use Rattle.pg_driver.specs.Inside.counting.WordLevels.{chosen_weights}
use Rattle.pg_driver.specs.Inside.level.PassWindows.{AreFates, HaveNumbers, is_counted_at}
use Rattle.pg_driver.proofs.OpenCloses.{closes_signs}
use Rattle.pg_driver.proofs.StartSteps.{numbers_closing, stays_closed}
use Rattle.pg_driver.proofs.counting.WayToCount.after_choices.Goals as goal

pub close_dots-requires-clause-ranges : goal.close_dots-requires-clause-ranges
close_dots-requires-clause-ranges c = c.requires.ranges

pub close_dots-requires-clause-dot : goal.close_dots-requires-clause-dot
close_dots-requires-clause-dot c =
    subst (λ (s : WayToCount). AreListed c.args.pass (counts_in (all_signs c.args.dictionary.now) c.args.windows.now.counts) c.args.dictionary.now
    (windows_in (all_signs c.args.dictionary.now) c.args.windows.now.counts) s c.args.windows.now.numbers.items) c.in-Open.is c.requires.listed

pub close_dots-requires-clause-size : goal.close_dots-requires-clause-size
close_dots-requires-clause-size c = subst (AreInWords c.args.dictionary.now) c.in-Open.is c.requires.placed

pub close_dots-requires-clause-counting : goal.close_dots-requires-clause-counting
close_dots-requires-clause-counting c = c.requires.counting

pub close_dots-requires-clause-numbers : goal.close_dots-requires-clause-numbers
close_dots-requires-clause-numbers c =
    subst (AreNumbersIn c.args.dictionary.now c.args.pass.len c.args.windows.now.counts.numbers) c.in-Open.is c.requires.numbers

pub close_dots-requires-clause-fates : goal.close_dots-requires-clause-fates
close_dots-requires-clause-fates c = ap (λ (xs : List Choice). length xs) c.deref.ensures.value ∙ c.requires.fates.size

pub returns-in-Open-clause-after : goal.returns-in-Open-clause-after
returns-in-Open-clause-after c =
    let params = c.args.params.now in
    let words = c.args.dictionary.now in
    let pass = c.args.pass in
    let k = c.args.windows.now.counts in
    let cs = counts_in (all_signs words) k in
    let ws = windows_in (all_signs words) k in
    let o = c.in-Open.open in
    let old : ℕ → ℕ → Bool = is_closed o.dots in
    let after : ℕ → ℕ → Bool = closed_at_sign params pass cs words old in
    let fates : List Choice = c.args.windows.now.fates.items in
    let closes : ClosesBy after pass words ws fates old = closes_signs params cs ws fates c.requires.fates pass words old in
    let there = subst (λ (xs : List Choice). ClosesBy after pass words ws xs old) (sym c.deref.ensures.value) closes in
    let p : OpenLevel = record { dots = c.close_dots.new.dots; never = o.never; totals = c.totals_after-open.result } in
    subst (λ (s : WayToCount). GoesOnAfter params pass cs words c.args.choices s (Open p)) (sym c.in-Open.is)
    (record {
      size = c.close_dots.ensures.size;
      dots = c.close_dots.ensures.closed after there;
      never = refl;
      totals = c.totals_after-open.ensures;
    })

pub returns-in-Open-clause-numbers : goal.returns-in-Open-clause-numbers
returns-in-Open-clause-numbers c =
    let params = c.args.params.now in
    let words = c.args.dictionary.now in
    let pass = c.args.pass in
    let k = c.args.windows.now.counts in
    let cs = counts_in (all_signs words) k in
    let ws = windows_in (all_signs words) k in
    let o = c.in-Open.open in
    let old : ℕ → ℕ → Bool = is_closed o.dots in
    let after : ℕ → ℕ → Bool = closed_at_sign params pass cs words old in
    let fates : List Choice = c.args.windows.now.fates.items in
    let closes : ClosesBy after pass words ws fates old = closes_signs params cs ws fates c.requires.fates pass words old in
    let there = subst (λ (xs : List Choice). ClosesBy after pass words ws xs old) (sym c.deref.ensures.value) closes in
    let numbers : AreNumbersFor words pass.len (λ d s. not (old d s)) k.numbers = subst (AreNumbersIn words pass.len k.numbers) c.in-Open.is c.requires.numbers in
    numbers_closing words pass.len old (is_closed c.close_dots.new.dots) k.numbers numbers
    (λ d s low was. c.close_dots.ensures.closed after there d s low ∙ stays_closed params pass cs words old d s was)

pub totals_after-open-requires : goal.totals_after-open-requires
totals_after-open-requires c =
    let can : CanCarry (is_odd c.args.pass.level) c.in-Open.open.totals c.args.choices.good c.args.choices.bad =
    subst (CanGoOn c.args.params.now c.args.pass (counts_in (all_signs c.args.dictionary.now) c.args.windows.now.counts) c.args.dictionary.now c.args.choices) c.in-Open.is c.requires.totals in
    record { small = can.small; sums = can.sums; within = can.within }

pub returns-in-EachWord-clause-after : goal.returns-in-EachWord-clause-after
returns-in-EachWord-clause-after c =
    let params = c.args.params.now in
    let words = c.args.dictionary.now in
    let pass = c.args.pass in
    let k = c.args.windows.now.counts in
    let cs = counts_in (all_signs words) k in
    let ws = windows_in (all_signs words) k in
    let e = c.in-EachWord.words in
    let ns : List ℕ = c.args.windows.now.numbers.items in
    let have : HaveNumbers pass (is_counted_at pass cs) words ws e.above.items ns =
    subst (λ (s : WayToCount). AreListed pass cs words ws s ns) c.in-EachWord.is c.requires.listed in
    let fates : AreFates params cs ws c.deref-in-EachWord.result.now =
    subst (λ (xs : List Choice). AreFates params cs ws xs) (sym c.deref-in-EachWord.ensures.value) c.requires.fates in
    let there : HaveNumbers pass (is_counted_at pass cs) words ws c.deref-in-EachWord-3.result.now c.deref-in-EachWord-2.result.now =
    subst (λ (es : List WordPosition). HaveNumbers pass (is_counted_at pass cs) words ws es c.deref-in-EachWord-2.result.now) (sym c.deref-in-EachWord-3.ensures.value)
    (subst (λ (xs : List ℕ). HaveNumbers pass (is_counted_at pass cs) words ws e.above.items xs) (sym c.deref-in-EachWord-2.ensures.value) have) in
    let kept : c.kept_above-kept.result ≡ chosen_weights params pass cs words e.above.items =
    c.kept_above-kept.ensures params cs ws fates there
    ∙ ap (λ (es : List WordPosition). chosen_weights params pass cs words es) c.deref-in-EachWord-3.ensures.value in
    subst (λ (s : WayToCount). GoesOnAfter params pass cs words c.args.choices s (EachWord c.after_choices.new.self)) (sym c.in-EachWord.is)
    (subst (λ (k : ChosenWeights). IsAfterWords (is_odd pass.level) c.args.choices k e c.after_choices.new.self) kept c.after_choices.ensures)

pub returns-in-EachWord-clause-numbers : goal.returns-in-EachWord-clause-numbers
returns-in-EachWord-clause-numbers c =
    subst (AreNumbersIn c.args.dictionary.now c.args.pass.len c.args.windows.now.counts.numbers) c.in-EachWord.is c.requires.numbers

pub after_choices-requires : goal.after_choices-requires
after_choices-requires c =
    let params = c.args.params.now in
    let words = c.args.dictionary.now in
    let pass = c.args.pass in
    let k = c.args.windows.now.counts in
    let cs = counts_in (all_signs words) k in
    let ws = windows_in (all_signs words) k in
    let e = c.in-EachWord.words in
    let ns : List ℕ = c.args.windows.now.numbers.items in
    let have : HaveNumbers pass (is_counted_at pass cs) words ws e.above.items ns =
    subst (λ (s : WayToCount). AreListed pass cs words ws s ns) c.in-EachWord.is c.requires.listed in
    let fates : AreFates params cs ws c.deref-in-EachWord.result.now =
    subst (λ (xs : List Choice). AreFates params cs ws xs) (sym c.deref-in-EachWord.ensures.value) c.requires.fates in
    let there : HaveNumbers pass (is_counted_at pass cs) words ws c.deref-in-EachWord-3.result.now c.deref-in-EachWord-2.result.now =
    subst (λ (es : List WordPosition). HaveNumbers pass (is_counted_at pass cs) words ws es c.deref-in-EachWord-2.result.now) (sym c.deref-in-EachWord-3.ensures.value)
    (subst (λ (xs : List ℕ). HaveNumbers pass (is_counted_at pass cs) words ws e.above.items xs) (sym c.deref-in-EachWord-2.ensures.value) have) in
    let kept : c.kept_above-kept.result ≡ chosen_weights params pass cs words e.above.items =
    c.kept_above-kept.ensures params cs ws fates there
    ∙ ap (λ (es : List WordPosition). chosen_weights params pass cs words es) c.deref-in-EachWord-3.ensures.value in
    subst (λ (k : ChosenWeights). CanMove (is_odd pass.level) e.totals c.args.choices k) (sym kept)
    (subst (λ (s : WayToCount). CanGoOn params pass cs words c.args.choices s) c.in-EachWord.is c.requires.totals)

pub kept_above-kept-requires-clause-size : goal.kept_above-kept-requires-clause-size
kept_above-kept-requires-clause-size c =
    let params = c.args.params.now in
    let words = c.args.dictionary.now in
    let pass = c.args.pass in
    let k = c.args.windows.now.counts in
    let cs = counts_in (all_signs words) k in
    let ws = windows_in (all_signs words) k in
    let ns : List ℕ = c.args.windows.now.numbers.items in
    let have : HaveNumbers pass (is_counted_at pass cs) words ws c.in-EachWord.words.above.items ns =
    subst (λ (s : WayToCount). AreListed pass cs words ws s ns) c.in-EachWord.is c.requires.listed in
    ap (λ (xs : List ℕ). length xs) c.deref-in-EachWord-2.ensures.value ∙ have.size ∙ sym (ap (λ (es : List WordPosition). length es) c.deref-in-EachWord-3.ensures.value)

pub kept_above-kept-requires-clause-above : goal.kept_above-kept-requires-clause-above
kept_above-kept-requires-clause-above c =
    subst (λ (es : List WordPosition). length es ≤ FILE_MAX) (sym c.deref-in-EachWord-3.ensures.value)
    (subst (AreInWords c.args.dictionary.now) c.in-EachWord.is c.requires.placed).1

pub kept_above-kept-requires-clause-placed : goal.kept_above-kept-requires-clause-placed
kept_above-kept-requires-clause-placed c =
    subst (λ (es : List WordPosition). All (IsInWord c.args.dictionary.now) es) (sym c.deref-in-EachWord-3.ensures.value)
    (subst (AreInWords c.args.dictionary.now) c.in-EachWord.is c.requires.placed).0

pub kept_above-kept-requires-clause-fates : goal.kept_above-kept-requires-clause-fates
kept_above-kept-requires-clause-fates c = subst (λ (xs : List Choice). length xs ≤ NO_NUMBER) (sym c.deref-in-EachWord.ensures.value) c.requires.few
