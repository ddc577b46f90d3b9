use Rattle.std.proofs.Common.{◌≡◌, ℕ, ◌+◌, ◌-◌, List, true, false, length, take, drop, sym, ap, subst, ◌∙◌, arith}
use Rattle.std.proofs.lemmas.Option.{slice_get_within, slice_get-get_or}
use Rattle.pg_types.specs.Inside.counting.NumberedWindows.{HasNumber}
use Rattle.pg_dict.specs.Inside.Store.{all_signs}
use Rattle.pg_select.specs.Windows.{fits, window}
use Rattle.pg_starts.specs.Inside.Known.{is_numbered}
use Rattle.pg_starts.specs.Inside.StartCountings.{AreCounting, windows_in}
use Rattle.pg_starts.specs.Inside.Starts.{window_from}
use Rattle.pg_driver.specs.Inside.counting.OpenSigns.{start_of}
use Rattle.pg_driver.proofs.FlatSigns.{fit_within, flat_window, sign_is}
use Rattle.pg_driver.proofs.OpenSigns.{sign_of}
use Rattle.pg_driver.proofs.StartSteps.{fate_none, fate_there, numbered_at, start_fits}
use Rattle.pg_driver.proofs.counting.open_passes.fate_of.Goals as goal

pub fits_around-requires : goal.fits_around-requires
fits_around-requires c = c.requires.within

pub returns-then-not-fits_around : goal.returns-then-not-fits_around
returns-then-not-fits_around c =
    let words = c.args.dictionary.now in
    let pass = c.args.pass in
    let of = sign_of words c.args.sign c.requires.within in
    let other : fits of.word.signs of.at pass.len pass.dot ≡ false = sym (c.fits_around.ensures of.number of.at of.word of.there of.within (sign_is words c.args.sign of)) ∙ c.if-not-fits_around.true in
    fate_none pass words (windows_in (all_signs words) c.args.counts.now) c.args.fates.now c.args.sign of other

pub overflow_sub-sign : goal.overflow_sub-sign
overflow_sub-sign c =
    let words = c.args.dictionary.now in
    let pass = c.args.pass in
    let of = sign_of words c.args.sign c.requires.within in
    let fit : fits of.word.signs of.at pass.len pass.dot ≡ true = sym (c.fits_around.ensures of.number of.at of.word of.there of.within (sign_is words c.args.sign of)) ∙ c.if-not-fits_around.false in
    omega (arith, of.is, (fit_within (length of.word.signs) of.at pass.len pass.dot fit).0)

pub number-number-requires-clause-counting : goal.number-number-requires-clause-counting
number-number-requires-clause-counting c = subst (λ (xs : List ℕ). AreCounting xs c.args.counts.now) (sym c.all_signs-signs.ensures) c.requires.counting

pub number-number-requires-clause-start : goal.number-number-requires-clause-start
number-number-requires-clause-start c =
    let words = c.args.dictionary.now in
    let pass = c.args.pass in
    let of = sign_of words c.args.sign c.requires.within in
    let fit : fits of.word.signs of.at pass.len pass.dot ≡ true = sym (c.fits_around.ensures of.number of.at of.word of.there of.within (sign_is words c.args.sign of)) ∙ c.if-not-fits_around.false in
    let first = c.args.sign - pass.dot in
    let begins : first ≡ start_of words of.number + (of.at - pass.dot) = omega (arith, of.is, (fit_within (length of.word.signs) of.at pass.len pass.dot fit).0) in
    let ends = start_fits words of.number of.at pass.len pass.dot first of.word of.there of.within fit begins in
    subst (λ (xs : List ℕ). is_numbered xs c.args.counts.now.numbers first ≡ true) (sym c.all_signs-signs.ensures)
    (numbered_at words pass.len pass.dot first c.args.sign c.args.counts.now.numbers c.requires.numbers c.requires.ranges.within ends.0 (ends.1 ∙ of.is) ends.2)

pub bounds-fates-number : goal.bounds-fates-number
bounds-fates-number c =
    let words = c.args.dictionary.now in
    let first = c.args.sign - c.args.pass.dot in
    let has : HasNumber (windows_in (all_signs words) c.args.counts.now) (window_from (all_signs words) first c.args.counts.now.numbers.len) c.number-number.result =
    subst (λ (xs : List ℕ). HasNumber (windows_in xs c.args.counts.now) (window_from xs first c.args.counts.now.numbers.len) c.number-number.result) c.all_signs-signs.ensures c.number-number.ensures in
    omega (arith, slice_get_within (windows_in (all_signs words) c.args.counts.now) c.number-number.result (window_from (all_signs words) first c.args.counts.now.numbers.len) has, c.requires.fates)

pub returns : goal.returns
returns c =
    let words = c.args.dictionary.now in
    let pass = c.args.pass in
    let of = sign_of words c.args.sign c.requires.within in
    let fit : fits of.word.signs of.at pass.len pass.dot ≡ true = sym (c.fits_around.ensures of.number of.at of.word of.there of.within (sign_is words c.args.sign of)) ∙ c.if-not-fits_around.false in
    let first = c.args.sign - pass.dot in
    let begins : first ≡ start_of words of.number + (of.at - pass.dot) = omega (arith, of.is, (fit_within (length of.word.signs) of.at pass.len pass.dot fit).0) in
    let u : window_from (all_signs words) first c.args.counts.now.numbers.len ≡ window of.word.signs of.at pass.len pass.dot =
    ap (λ k. take k (drop first (all_signs words))) c.requires.numbers.len ∙ flat_window words of.number of.at pass.len pass.dot first of.word of.there fit begins in
    let has : HasNumber (windows_in (all_signs words) c.args.counts.now) (window_from (all_signs words) first c.args.counts.now.numbers.len) c.number-number.result =
    subst (λ (xs : List ℕ). HasNumber (windows_in xs c.args.counts.now) (window_from xs first c.args.counts.now.numbers.len) c.number-number.result) c.all_signs-signs.ensures c.number-number.ensures in
    let low = slice_get_within (windows_in (all_signs words) c.args.counts.now) c.number-number.result (window_from (all_signs words) first c.args.counts.now.numbers.len) has in
    fate_there pass words (windows_in (all_signs words) c.args.counts.now) c.args.fates.now c.args.sign of c.number-number.result _ fit
    (subst (λ (v : List ℕ). HasNumber (windows_in (all_signs words) c.args.counts.now) v c.number-number.result) u has)
    (sym (slice_get-get_or c.args.fates.now c.number-number.result _ (omega (arith, low, c.requires.fates))))
