use Rattle.std.proofs.Common.{◌≡◌, ℕ, ◌+◌, ◌-◌, ◌≤◌, List, Bool, true, false, cond, not, length, take, drop, fold, refl, sym, ap, subst, ◌∙◌, arith}
use Rattle.pg_types.specs.declared.limits.TheConstants.{WEIGHT_MAX}
use Rattle.pg_types.specs.Inside.counting.Counts.{AreSmall, Counts, sums_of, with_count, with_weight}
use Rattle.pg_dict.specs.declared.sites.Site.{Site}
use Rattle.pg_dict.specs.Inside.Sites.{all_sites}
use Rattle.pg_dict.specs.Inside.Store.{all_signs}
use Rattle.pg_dict.proofs.WordStore.Told.{word_in}
use Rattle.pg_select.proofs.MarkSteps.{weight_small}
use Rattle.pg_select.specs.Inside.engine.Meanings.{with_position}
use Rattle.pg_select.specs.Statuses.{is_odd, position_weight}
use Rattle.pg_select.specs.Windows.{fits, window}
use Rattle.pg_starts.specs.Inside.Known.{is_numbered}
use Rattle.pg_starts.specs.Inside.StartCountings.{AreCounting, counts_in}
use Rattle.pg_starts.specs.Inside.Starts.{window_from}
use Rattle.pg_driver.specs.declared.pass_windows.WordPosition.{WordPosition}
use Rattle.pg_driver.specs.Inside.counting.OpenPositions.{counted_of}
use Rattle.pg_driver.specs.Inside.counting.OpenSigns.{start_of}
use Rattle.pg_driver.proofs.FlatSigns.{counted_fit, counted_none, fit_within, flat_window, sign_is, site_at, sites_count, weight_at, weights_count}
use Rattle.pg_driver.proofs.OpenSigns.{place_of, signs_few}
use Rattle.pg_driver.proofs.Rooms.{room_small}
use Rattle.pg_driver.proofs.StartSteps.{numbered_at, start_fits}
use Rattle.pg_driver.proofs.counting.open_passes.count_sign.Goals as goal

pub fits_around-requires : goal.fits_around-requires
fits_around-requires c = c.requires.within

pub bounds-sites-sign : goal.bounds-sites-sign
bounds-sites-sign c =
    omega (arith, ap (λ (xs : List Site). length xs) c.all_sites-sites.ensures, sites_count c.args.dictionary.now, c.requires.within)

pub bounds-weights-sign : goal.bounds-weights-sign
bounds-weights-sign c =
    omega (arith, ap (λ (xs : List ℕ). length xs) c.all_weights-weights.ensures, weights_count c.args.dictionary.now c.requires.words, c.requires.within)

pub offset_bounds-weights-sign : goal.offset_bounds-weights-sign
offset_bounds-weights-sign c =
    omega (arith, c.requires.within, signs_few c.args.dictionary.now c.requires.words, c.requires.letters)

pub overflow_sub-start : goal.overflow_sub-start
overflow_sub-start c =
    let words = c.args.dictionary.now in
    let pass = c.args.pass in
    let s = site_at words c.all_sites-sites.result.now c.args.sign (record { left = 0 }) c.all_sites-sites.ensures c.requires.within in
    let w = s.of.word in
    let p = s.of.at in
    let fit : fits w.signs p pass.len pass.dot ≡ true = sym (c.fits_around.ensures s.of.number p w s.of.there s.of.within (sign_is words c.args.sign s.of)) ∙ c.if-not-fits_around.false in
    omega (arith, s.of.is, (fit_within (length w.signs) p pass.len pass.dot fit).0)

pub add-requires-clause-counting : goal.add-requires-clause-counting
add-requires-clause-counting c = subst (λ (xs : List ℕ). AreCounting xs c.args.counts.now) (sym c.all_signs-signs.ensures) c.requires.counting

pub add-requires-clause-start : goal.add-requires-clause-start
add-requires-clause-start c =
    let words = c.args.dictionary.now in
    let pass = c.args.pass in
    let s = site_at words c.all_sites-sites.result.now c.args.sign (record { left = 0 }) c.all_sites-sites.ensures c.requires.within in
    let w = s.of.word in
    let p = s.of.at in
    let fit : fits w.signs p pass.len pass.dot ≡ true = sym (c.fits_around.ensures s.of.number p w s.of.there s.of.within (sign_is words c.args.sign s.of)) ∙ c.if-not-fits_around.false in
    let first = c.args.sign - pass.dot in
    let begins : first ≡ start_of words s.of.number + (p - pass.dot) = omega (arith, s.of.is, (fit_within (length w.signs) p pass.len pass.dot fit).0) in
    let ends = start_fits words s.of.number p pass.len pass.dot first w s.of.there s.of.within fit begins in
    subst (λ (xs : List ℕ). is_numbered xs c.args.counts.now.numbers first ≡ true) (sym c.all_signs-signs.ensures)
    (numbered_at words pass.len pass.dot first c.args.sign c.args.counts.now.numbers c.requires.numbers c.requires.ranges.within ends.0 (ends.1 ∙ s.of.is) ends.2)

pub add-requires-clause-small : goal.add-requires-clause-small
add-requires-clause-small c =
    let words = c.args.dictionary.now in
    let s = site_at words c.all_sites-sites.result.now c.args.sign (record { left = 0 }) c.all_sites-sites.ensures c.requires.within in
    let word = word_in words s.of.number s.of.word c.requires.words s.of.there in
    let weight : c.from.result ≡ position_weight s.of.word s.of.at = c.from.ensures
    ∙ weight_at words c.all_weights-weights.result.now c.args.sign 0 s.of c.all_weights-weights.ensures c.requires.words in
    let light = subst (λ x. x ≤ WEIGHT_MAX) (sym weight) (weight_small s.of.word s.of.at word s.of.within) in
    subst (λ (xs : List ℕ). AreSmall (with_weight (sums_of (counts_in xs c.args.counts.now) (window_from xs (c.args.sign - c.args.pass.dot) c.args.counts.now.numbers.len)) c.is_good-good.result c.from.result))
    (sym c.all_signs-signs.ensures)
    (room_small (counts_in (all_signs words) c.args.counts.now) (window_from (all_signs words) (c.args.sign - c.args.pass.dot) c.args.counts.now.numbers.len) c.is_good-good.result c.from.result c.requires.room light)

pub returns-then-not-fits_around-clause-counts : goal.returns-then-not-fits_around-clause-counts
returns-then-not-fits_around-clause-counts c =
    let words = c.args.dictionary.now in
    let pass = c.args.pass in
    let cs = counts_in (all_signs words) c.args.counts.now in
    let s = site_at words (all_sites words) c.args.sign (record { left = 0 }) refl c.requires.within in
    let w = s.of.word in
    let p = s.of.at in
    let other : fits w.signs p pass.len pass.dot ≡ false = sym (c.fits_around.ensures s.of.number p w s.of.there s.of.within (sign_is words c.args.sign s.of)) ∙ c.if-not-fits_around.true in
    sym (ap (λ (e : WordPosition). fold with_position cs (counted_of pass words e)) (place_of words c.args.sign s.of)
    ∙ counted_none cs pass.level pass.len pass.dot words s.of.number p w s.of.there other)

pub returns-clause-counting : goal.returns-clause-counting
returns-clause-counting c = subst (λ (xs : List ℕ). AreCounting xs c.add.new.self) c.all_signs-signs.ensures c.add.ensures.counting

pub returns-clause-counts : goal.returns-clause-counts
returns-clause-counts c =
    let words = c.args.dictionary.now in
    let pass = c.args.pass in
    let old = c.args.counts.now in
    let cs : Counts = counts_in (all_signs words) old in
    let s = site_at words c.all_sites-sites.result.now c.args.sign (record { left = 0 }) c.all_sites-sites.ensures c.requires.within in
    let w = s.of.word in
    let p = s.of.at in
    let fit : fits w.signs p pass.len pass.dot ≡ true = sym (c.fits_around.ensures s.of.number p w s.of.there s.of.within (sign_is words c.args.sign s.of)) ∙ c.if-not-fits_around.false in
    let first = c.args.sign - pass.dot in
    let begins : first ≡ start_of words s.of.number + (p - pass.dot) = omega (arith, s.of.is, (fit_within (length w.signs) p pass.len pass.dot fit).0) in
    let hyphens = ap (λ (b : Bool). cond (is_odd pass.level) b (not b)) (c.has_hyphen.ensures w p s.is) in
    let u : window_from (all_signs words) first old.numbers.len ≡ window w.signs p pass.len pass.dot =
    ap (λ k. take k (drop first (all_signs words))) c.requires.numbers.len ∙ flat_window words s.of.number p pass.len pass.dot first w s.of.there fit begins in
    subst (λ (xs : List ℕ). counts_in xs c.add.new.self ≡ with_count (counts_in xs old) (window_from xs first old.numbers.len) c.is_good-good.result c.from.result)
    c.all_signs-signs.ensures c.add.ensures.counts
    ∙ counted_fit cs pass.level pass.len pass.dot words s.of.number p w s.of.there (window_from (all_signs words) first old.numbers.len) c.is_good-good.result c.from.result fit u
    (c.is_good-good.ensures ∙ hyphens)
    (c.from.ensures ∙ weight_at words c.all_weights-weights.result.now c.args.sign 0 s.of c.all_weights-weights.ensures c.requires.words)
    ∙ sym (ap (λ (e : WordPosition). fold with_position cs (counted_of pass words e)) (place_of words c.args.sign s.of))
