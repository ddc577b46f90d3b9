use Rattle.std.proofs.Common.{◌≡◌, ◌≤◌, ◌<◌, ◌+◌, ℕ, List, true, length, sym, ap, subst, arith}
use Rattle.std.proofs.lemmas.Bool.{not-true}
use Rattle.std.proofs.lemmas.Result.{on_ok_weaker}
use Rattle.std.specs.Result.{OnOk}
use Rattle.pg_dict.specs.Inside.Store.{all_signs}
use Rattle.pg_dots.specs.Inside.Dots.{is_closed}
use Rattle.pg_starts.specs.Inside.Known.{AreKnown, is_numbered}
use Rattle.pg_driver.specs.declared.counting.WayToCount.{WayToCount}
use Rattle.pg_driver.specs.Inside.counting.LevelCounting.{AreNumbersIn, HasSize}
use Rattle.pg_driver.proofs.OpenSigns.{signs_few}
use Rattle.pg_driver.proofs.counting.WayToCount.number.Goals as goal

pub number_open-requires-clause-few : goal.number_open-requires-clause-few
number_open-requires-clause-few c =
    let all = ap (λ (xs : List ℕ). length xs) c.all_signs-signs.ensures in
    omega (arith, signs_few c.args.dictionary.now c.len-words.ensures.words, c.len-words.ensures.letters)

pub number_all-requires-clause-few : goal.number_all-requires-clause-few
number_all-requires-clause-few c =
    let all = ap (λ (xs : List ℕ). length xs) c.all_signs-signs.ensures in
    omega (arith, signs_few c.args.dictionary.now c.len-words.ensures.words, c.len-words.ensures.letters)

pub number_open-requires-clause-size : goal.number_open-requires-clause-size
number_open-requires-clause-size c =
    let size = subst (HasSize c.args.dictionary.now) c.in-Open.is c.requires.size in
    omega (arith, ap (λ (xs : List ℕ). length xs) c.all_signs-signs.ensures, size)

pub number_open-requires-clause-known : goal.number_open-requires-clause-known
number_open-requires-clause-known c = subst (λ (xs : List ℕ). AreKnown xs c.args.windows.now.counts.numbers) (sym c.all_signs-signs.ensures) c.requires.known

pub number_all-requires-clause-known : goal.number_all-requires-clause-known
number_all-requires-clause-known c = subst (λ (xs : List ℕ). AreKnown xs c.args.windows.now.counts.numbers) (sym c.all_signs-signs.ensures) c.requires.known

pub returns-in-Open-clause-known : goal.returns-in-Open-clause-known
returns-in-Open-clause-known c = subst (λ (xs : List ℕ). AreKnown xs c.number_open.new.self.numbers) c.all_signs-signs.ensures c.number_open.ensures.known

pub returns-in-EachWord-clause-known : goal.returns-in-EachWord-clause-known
returns-in-EachWord-clause-known c = subst (λ (xs : List ℕ). AreKnown xs c.number_all.new.self.numbers) c.all_signs-signs.ensures c.number_all.ensures.known

pub returns-in-Open-clause-numbers : goal.returns-in-Open-clause-numbers
returns-in-Open-clause-numbers c =
    let words = c.args.dictionary.now in
    let n = c.number_open.new.self.numbers in
    let dots = c.in-Open.open.dots in
    let known : AreKnown (all_signs words) n = subst (λ (xs : List ℕ). AreKnown xs n) c.all_signs-signs.ensures c.number_open.ensures.known in
    subst (λ (s : WayToCount). OnOk c.number_open.result (AreNumbersIn words c.args.len n s)) (sym c.in-Open.is)
    (on_ok_weaker c.number_open.result
    (λ done. record {
      known = known;
      len = done.0;
      each = λ d i upto ends low is.
          subst (λ (xs : List ℕ). (i + c.args.len ≤ length xs) → (i + d < length xs) → is_numbered xs n i ≡ true) c.all_signs-signs.ensures
          (λ e l. done.1 d i upto e l (not-true (is_closed dots d (i + d)) is)) ends low;
    })
    c.number_open.ensures.done)

pub returns-in-EachWord-clause-numbers : goal.returns-in-EachWord-clause-numbers
returns-in-EachWord-clause-numbers c =
    let words = c.args.dictionary.now in
    let n = c.number_all.new.self.numbers in
    let known : AreKnown (all_signs words) n = subst (λ (xs : List ℕ). AreKnown xs n) c.all_signs-signs.ensures c.number_all.ensures.known in
    subst (λ (s : WayToCount). OnOk c.number_all.result (AreNumbersIn words c.args.len n s)) (sym c.in-EachWord.is)
    (on_ok_weaker c.number_all.result
    (λ done. record {
      known = known;
      len = done.0;
      each = λ d i upto ends low is.
          subst (λ (xs : List ℕ). (i + c.args.len ≤ length xs) → is_numbered xs n i ≡ true) c.all_signs-signs.ensures
          (λ e. done.1 i e) ends;
    })
    c.number_all.ensures.done)
