use Rattle.std.proofs.Common.{◌≡◌, ℕ, ◌+◌, ◌-◌, ◌≤◌, Bool, true, false, not, ◌&&◌, cond, Option, None, Some, List, [], ◌∷◌, fold, length, take, drop, refl, sym, ap, subst, ◌∙◌, arith}
use Rattle.std.specs.List.{slice_index_or}
use Rattle.std.specs.Option.{option_map_or}
use Rattle.pg_dict.specs.Inside.LentWords.{lent_word}
use Rattle.pg_dict.specs.Inside.Store.{all_signs}
use Rattle.pg_types.specs.declared.limits.TheConstants.{WEIGHT_MAX}
use Rattle.pg_types.specs.Inside.counting.Counts.{AreSmall, Counts, sums_of, with_count, with_weight}
use Rattle.pg_types.specs.Inside.counting.NumberedWindows.{HasNumber}
use Rattle.pg_select.proofs.MarkSteps.{weight_small}
use Rattle.pg_select.specs.declared.pass.Pass.{Pass}
use Rattle.pg_select.specs.CountedPositions.{counted_at}
use Rattle.pg_select.specs.Inside.engine.Meanings.{with_position}
use Rattle.pg_select.specs.Inside.words.Positions.{HasCovers}
use Rattle.pg_select.specs.Statuses.{position_weight}
use Rattle.pg_select.specs.Windows.{fits, is_covered, window}
use Rattle.pg_starts.specs.Inside.Known.{is_numbered}
use Rattle.pg_starts.specs.Inside.StartCountings.{AreCounting, counts_in, windows_in}
use Rattle.pg_starts.specs.Inside.Starts.{window_from}
use Rattle.pg_driver.specs.declared.pass_windows.TheConstants.{NO_NUMBER}
use Rattle.pg_driver.specs.Inside.counting.OpenSigns.{start_of}
use Rattle.pg_driver.specs.Inside.level.PassWindows.{GetsNumber}
use Rattle.pg_driver.proofs.FlatSigns.{fit_of, fit_within, flat_window}
use Rattle.pg_driver.proofs.OpenSigns.{sign_within}
use Rattle.pg_driver.proofs.Rooms.{room_small}
use Rattle.pg_driver.proofs.StartSteps.{start_fits}
use Rattle.pg_driver.proofs.counting.words.count_at.Goals as goal

-- whether a window counts, by the cover that was found for it
found_counts : (fit cover real : Bool) (good told : Option Bool) → (fit ≡ true → cover ≡ real) → good ≡ told → cond (fit && not cover) good None ≡ cond (fit && not real) told None
found_counts false cover real good told same is = refl
found_counts true cover real good told same is = ap (λ (b : Bool). cond (not b) good None) (same refl) ∙ ap (λ (o : Option Bool). cond (not real) o None) is

pub returns-in_default-clause-ok : goal.returns-in_default-clause-ok
returns-in_default-clause-ok g c =
    let m = g.E.Engine.meaning c.args.engine.now in
    let words = c.args.dictionary.now in
    let w = lent_word c.args.w.now in
    let pass = c.args.pass in
    let p = c.args.p in
    let covers : HasCovers pass m.patterns m.hopeless w.signs c.args.found.now.covers =
    subst (λ (x : Pass). HasCovers x m.patterns m.hopeless w.signs c.args.found.now.covers) c.requires.pass c.requires.read.covers in
    let found : c.counts_in_pass.result ≡ counted_at pass m.patterns m.hopeless w p =
    c.counts_in_pass.ensures
    ∙ found_counts (fits w.signs p pass.len pass.dot) (slice_index_or c.args.found.now.covers p false) (is_covered pass.level m.patterns m.hopeless (window w.signs p pass.len pass.dot) pass.dot)
    c.args.good _ (covers p c.requires.within) c.requires.good in
    let none : counted_at pass m.patterns m.hopeless w p ≡ None = sym found ∙ c.in_default.is in
    ap (λ (o : Option Bool). fold with_position (counts_in (all_signs words) c.args.counts.now)
    (option_map_or (λ (good : Bool). record { window = window w.signs p pass.len pass.dot; good = good; weight = position_weight w p } ∷ []) o [])) (sym none)

pub returns-in_default-clause-number : goal.returns-in_default-clause-number
returns-in_default-clause-number g c =
    let m = g.E.Engine.meaning c.args.engine.now in
    let words = c.args.dictionary.now in
    let w = lent_word c.args.w.now in
    let pass = c.args.pass in
    let p = c.args.p in
    let covers : HasCovers pass m.patterns m.hopeless w.signs c.args.found.now.covers =
    subst (λ (x : Pass). HasCovers x m.patterns m.hopeless w.signs c.args.found.now.covers) c.requires.pass c.requires.read.covers in
    let found : c.counts_in_pass.result ≡ counted_at pass m.patterns m.hopeless w p =
    c.counts_in_pass.ensures
    ∙ found_counts (fits w.signs p pass.len pass.dot) (slice_index_or c.args.found.now.covers p false) (is_covered pass.level m.patterns m.hopeless (window w.signs p pass.len pass.dot) pass.dot)
    c.args.good _ (covers p c.requires.within) c.requires.good in
    let none : counted_at pass m.patterns m.hopeless w p ≡ None = sym found ∙ c.in_default.is in
    subst (λ (o : Option Bool). GetsNumber o (windows_in (all_signs words) c.args.counts.now) (window w.signs p pass.len pass.dot) NO_NUMBER) (sym none) refl

pub add-requires-clause-counting : goal.add-requires-clause-counting
add-requires-clause-counting g c = subst (λ (xs : List ℕ). AreCounting xs c.args.counts.now) (sym c.all_signs-signs.ensures) c.requires.counting

pub overflow_sub-start : goal.overflow_sub-start
overflow_sub-start g c =
    let m = g.E.Engine.meaning c.args.engine.now in
    let words = c.args.dictionary.now in
    let w = lent_word c.args.w.now in
    let pass = c.args.pass in
    let p = c.args.p in
    let covers : HasCovers pass m.patterns m.hopeless w.signs c.args.found.now.covers =
    subst (λ (x : Pass). HasCovers x m.patterns m.hopeless w.signs c.args.found.now.covers) c.requires.pass c.requires.read.covers in
    let found : c.counts_in_pass.result ≡ counted_at pass m.patterns m.hopeless w p =
    c.counts_in_pass.ensures
    ∙ found_counts (fits w.signs p pass.len pass.dot) (slice_index_or c.args.found.now.covers p false) (is_covered pass.level m.patterns m.hopeless (window w.signs p pass.len pass.dot) pass.dot)
    c.args.good _ (covers p c.requires.within) c.requires.good in
    let some : counted_at pass m.patterns m.hopeless w p ≡ Some c.in-Some.good = sym found ∙ c.in-Some.is in
    let fit : fits w.signs p pass.len pass.dot ≡ true = fit_of (fits w.signs p pass.len pass.dot) _ _ c.in-Some.good some in
    let at = c.requires.place in
    let first = c.args.before + p - pass.dot in
    let within = fit_within (length w.signs) p pass.len pass.dot fit in
    let begins : first ≡ start_of words at.number + (p - pass.dot) = omega (arith, at.starts, within.0) in
    omega (arith, within.0)

pub add-requires-clause-start : goal.add-requires-clause-start
add-requires-clause-start g c =
    let m = g.E.Engine.meaning c.args.engine.now in
    let words = c.args.dictionary.now in
    let w = lent_word c.args.w.now in
    let pass = c.args.pass in
    let p = c.args.p in
    let covers : HasCovers pass m.patterns m.hopeless w.signs c.args.found.now.covers =
    subst (λ (x : Pass). HasCovers x m.patterns m.hopeless w.signs c.args.found.now.covers) c.requires.pass c.requires.read.covers in
    let found : c.counts_in_pass.result ≡ counted_at pass m.patterns m.hopeless w p =
    c.counts_in_pass.ensures
    ∙ found_counts (fits w.signs p pass.len pass.dot) (slice_index_or c.args.found.now.covers p false) (is_covered pass.level m.patterns m.hopeless (window w.signs p pass.len pass.dot) pass.dot)
    c.args.good _ (covers p c.requires.within) c.requires.good in
    let some : counted_at pass m.patterns m.hopeless w p ≡ Some c.in-Some.good = sym found ∙ c.in-Some.is in
    let fit : fits w.signs p pass.len pass.dot ≡ true = fit_of (fits w.signs p pass.len pass.dot) _ _ c.in-Some.good some in
    let at = c.requires.place in
    let first = c.args.before + p - pass.dot in
    let within = fit_within (length w.signs) p pass.len pass.dot fit in
    let begins : first ≡ start_of words at.number + (p - pass.dot) = omega (arith, at.starts, within.0) in
    let ends = start_fits words at.number p pass.len pass.dot first w at.there c.requires.within fit begins in
    subst (λ (xs : List ℕ). is_numbered xs c.args.counts.now.numbers first ≡ true) (sym c.all_signs-signs.ensures)
    (c.requires.numbers.each pass.dot first c.requires.ranges.within ends.0 ends.2 refl)

pub add-requires-clause-small : goal.add-requires-clause-small
add-requires-clause-small g c =
    let words = c.args.dictionary.now in
    let first = c.args.before + c.args.p - c.args.pass.dot in
    let light = subst (λ x. x ≤ WEIGHT_MAX) (sym c.from.ensures) (weight_small (lent_word c.args.w.now) c.args.p c.requires.read.word c.requires.within) in
    subst (λ (xs : List ℕ). AreSmall (with_weight (sums_of (counts_in xs c.args.counts.now) (window_from xs first c.args.counts.now.numbers.len)) c.in-Some.good c.from.result))
    (sym c.all_signs-signs.ensures)
    (room_small (counts_in (all_signs words) c.args.counts.now) (window_from (all_signs words) first c.args.counts.now.numbers.len) c.in-Some.good c.from.result c.requires.room light)

pub number-requires-clause-counting : goal.number-requires-clause-counting
number-requires-clause-counting g c = c.add.ensures.counting

pub number-requires-clause-start : goal.number-requires-clause-start
number-requires-clause-start g c =
    let m = g.E.Engine.meaning c.args.engine.now in
    let words = c.args.dictionary.now in
    let w = lent_word c.args.w.now in
    let pass = c.args.pass in
    let p = c.args.p in
    let covers : HasCovers pass m.patterns m.hopeless w.signs c.args.found.now.covers =
    subst (λ (x : Pass). HasCovers x m.patterns m.hopeless w.signs c.args.found.now.covers) c.requires.pass c.requires.read.covers in
    let found : c.counts_in_pass.result ≡ counted_at pass m.patterns m.hopeless w p =
    c.counts_in_pass.ensures
    ∙ found_counts (fits w.signs p pass.len pass.dot) (slice_index_or c.args.found.now.covers p false) (is_covered pass.level m.patterns m.hopeless (window w.signs p pass.len pass.dot) pass.dot)
    c.args.good _ (covers p c.requires.within) c.requires.good in
    let some : counted_at pass m.patterns m.hopeless w p ≡ Some c.in-Some.good = sym found ∙ c.in-Some.is in
    let fit : fits w.signs p pass.len pass.dot ≡ true = fit_of (fits w.signs p pass.len pass.dot) _ _ c.in-Some.good some in
    let at = c.requires.place in
    let first = c.args.before + p - pass.dot in
    let within = fit_within (length w.signs) p pass.len pass.dot fit in
    let begins : first ≡ start_of words at.number + (p - pass.dot) = omega (arith, at.starts, within.0) in
    let ends = start_fits words at.number p pass.len pass.dot first w at.there c.requires.within fit begins in
    (λ k. is_numbered c.all_signs-signs.result.now (c.add.ensures.numbers k) first)
    ∙ subst (λ (xs : List ℕ). is_numbered xs c.args.counts.now.numbers first ≡ true) (sym c.all_signs-signs.ensures)
    (c.requires.numbers.each pass.dot first c.requires.ranges.within ends.0 ends.2 refl)

pub returns-clause-counting : goal.returns-clause-counting
returns-clause-counting g c = subst (λ (xs : List ℕ). AreCounting xs c.add.new.self) c.all_signs-signs.ensures c.add.ensures.counting

pub returns-clause-ok : goal.returns-clause-ok
returns-clause-ok g c =
    let m = g.E.Engine.meaning c.args.engine.now in
    let words = c.args.dictionary.now in
    let w = lent_word c.args.w.now in
    let pass = c.args.pass in
    let p = c.args.p in
    let covers : HasCovers pass m.patterns m.hopeless w.signs c.args.found.now.covers =
    subst (λ (x : Pass). HasCovers x m.patterns m.hopeless w.signs c.args.found.now.covers) c.requires.pass c.requires.read.covers in
    let found : c.counts_in_pass.result ≡ counted_at pass m.patterns m.hopeless w p =
    c.counts_in_pass.ensures
    ∙ found_counts (fits w.signs p pass.len pass.dot) (slice_index_or c.args.found.now.covers p false) (is_covered pass.level m.patterns m.hopeless (window w.signs p pass.len pass.dot) pass.dot)
    c.args.good _ (covers p c.requires.within) c.requires.good in
    let some : counted_at pass m.patterns m.hopeless w p ≡ Some c.in-Some.good = sym found ∙ c.in-Some.is in
    let fit : fits w.signs p pass.len pass.dot ≡ true = fit_of (fits w.signs p pass.len pass.dot) _ _ c.in-Some.good some in
    let at = c.requires.place in
    let first = c.args.before + p - pass.dot in
    let within = fit_within (length w.signs) p pass.len pass.dot fit in
    let begins : first ≡ start_of words at.number + (p - pass.dot) = omega (arith, at.starts, within.0) in
    let u : window_from (all_signs words) first c.args.counts.now.numbers.len ≡ window w.signs p pass.len pass.dot =
    ap (λ k. take k (drop first (all_signs words))) c.requires.numbers.len ∙ flat_window words at.number p pass.len pass.dot first w at.there fit begins in
    let cs : Counts = counts_in (all_signs words) c.args.counts.now in
    subst (λ (xs : List ℕ). counts_in xs c.add.new.self ≡ with_count (counts_in xs c.args.counts.now) (window_from xs first c.args.counts.now.numbers.len) c.in-Some.good c.from.result)
    c.all_signs-signs.ensures c.add.ensures.counts
    ∙ (λ k. with_count cs (u k) c.in-Some.good (c.from.ensures k))
    ∙ ap (λ (o : Option Bool). fold with_position cs
    (option_map_or (λ (good : Bool). record { window = window w.signs p pass.len pass.dot; good = good; weight = position_weight w p } ∷ []) o [])) (sym some)

pub returns-clause-number : goal.returns-clause-number
returns-clause-number g c =
    let m = g.E.Engine.meaning c.args.engine.now in
    let words = c.args.dictionary.now in
    let w = lent_word c.args.w.now in
    let pass = c.args.pass in
    let p = c.args.p in
    let covers : HasCovers pass m.patterns m.hopeless w.signs c.args.found.now.covers =
    subst (λ (x : Pass). HasCovers x m.patterns m.hopeless w.signs c.args.found.now.covers) c.requires.pass c.requires.read.covers in
    let found : c.counts_in_pass.result ≡ counted_at pass m.patterns m.hopeless w p =
    c.counts_in_pass.ensures
    ∙ found_counts (fits w.signs p pass.len pass.dot) (slice_index_or c.args.found.now.covers p false) (is_covered pass.level m.patterns m.hopeless (window w.signs p pass.len pass.dot) pass.dot)
    c.args.good _ (covers p c.requires.within) c.requires.good in
    let some : counted_at pass m.patterns m.hopeless w p ≡ Some c.in-Some.good = sym found ∙ c.in-Some.is in
    let fit : fits w.signs p pass.len pass.dot ≡ true = fit_of (fits w.signs p pass.len pass.dot) _ _ c.in-Some.good some in
    let at = c.requires.place in
    let first = c.args.before + p - pass.dot in
    let within = fit_within (length w.signs) p pass.len pass.dot fit in
    let begins : first ≡ start_of words at.number + (p - pass.dot) = omega (arith, at.starts, within.0) in
    let u : window_from (all_signs words) first c.args.counts.now.numbers.len ≡ window w.signs p pass.len pass.dot =
    ap (λ k. take k (drop first (all_signs words))) c.requires.numbers.len ∙ flat_window words at.number p pass.len pass.dot first w at.there fit begins in
    let ws = windows_in (all_signs words) c.add.new.self in
    let has : HasNumber ws (window_from (all_signs words) first c.add.new.self.numbers.len) c.number.result =
    subst (λ (xs : List ℕ). HasNumber (windows_in xs c.add.new.self) (window_from xs first c.add.new.self.numbers.len) c.number.result) c.all_signs-signs.ensures c.number.ensures in
    subst (λ (o : Option Bool). GetsNumber o ws (window w.signs p pass.len pass.dot) c.number.result) (sym some)
    (subst (λ (v : List ℕ). HasNumber ws v c.number.result) (ap (λ k. take k.len (drop first (all_signs words))) c.add.ensures.numbers ∙ u) has)

pub overflow_add-start : goal.overflow_add-start
overflow_add-start g c =
    let at = c.requires.place in
    omega (arith, at.starts, sign_within c.args.dictionary.now at.number c.args.p (lent_word c.args.w.now) at.there c.requires.within, at.few)
