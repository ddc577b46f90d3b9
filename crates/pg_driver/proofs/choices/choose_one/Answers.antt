use Rattle.std.proofs.Common.{◌≡◌, ℕ, ◌+◌, List, Option, Some, unwrap_or, refl, sym, ap, subst, ◌∙◌, arith}
use Rattle.std.proofs.lemmas.Option.{slice_get_within}
use Rattle.pg_select.specs.Inside.engine.Meanings.{Meaning, KeepsButFamilies, after_choose, after_give_up}
use Rattle.pg_starts.specs.Inside.StartCountings.{windows_in}
use Rattle.pg_starts.proofs.Numbering.{windows_size}
use Rattle.pg_driver.proofs.NumberSteps.{one_window}
use Rattle.pg_driver.proofs.ChoiceSteps.{left_one, left_numbers, chosen_one, chosen_numbers, hopeless_one, hopeless_numbers}
use Rattle.pg_driver.proofs.choices.choose_one.Goals as goal

-- the sums that were read are those of the candidate
read_is : (o : Option (ℕ × ℕ)) (r sums : ℕ × ℕ) → r ≡ unwrap_or o (0, 0) → o ≡ Some sums → r ≡ sums
read_is o r sums is some = is ∙ ap (λ (x : Option (ℕ × ℕ)). unwrap_or {T = ℕ × ℕ} x (0, 0)) some

pub sums-requires-clause-number : goal.sums-requires-clause-number
sums-requires-clause-number g c =
    let low = slice_get_within (windows_in c.args.signs.now c.args.counts.now) c.args.number c.args.seen.now.window c.requires.window in
    omega (arith, low, windows_size c.args.signs.now c.args.counts.now.numbers)

pub overflow_add-choices-in-Chosen-2 : goal.overflow_add-choices-in-Chosen-2
overflow_add-choices-in-Chosen-2 g c =
    let it = c.requires.there in
    let same = read_is c.sums.result c.unwrap_or-good.result it.1 c.unwrap_or-good.ensures (c.sums.ensures.value it.0 it.2.number ∙ it.2.sums) in
    omega (arith, (c.requires.sums it.0 it.1 it.2).0, ap (λ (s : ℕ × ℕ). s.0) same)

pub overflow_add-choices-in-Chosen-3 : goal.overflow_add-choices-in-Chosen-3
overflow_add-choices-in-Chosen-3 g c =
    let it = c.requires.there in
    let same = read_is c.sums.result c.unwrap_or-good.result it.1 c.unwrap_or-good.ensures (c.sums.ensures.value it.0 it.2.number ∙ it.2.sums) in
    omega (arith, (c.requires.sums it.0 it.1 it.2).1, ap (λ (s : ℕ × ℕ). s.1) same)

pub returns-in_err-choose-in-Chosen-clause-signs : goal.returns-in_err-choose-in-Chosen-clause-signs
returns-in_err-choose-in-Chosen-clause-signs g c =
    let m : Meaning = g.E.Engine.meaning c.args.engine.now in
    let kept : KeepsButFamilies c.args.seen.now.window m (g.E.Engine.meaning c.choose.new.self) =
    c.in_err-choose-in-Chosen.ensures.err in
    ap (λ (x : Meaning). x.signs) kept.kept

pub returns-in_err-give_up-in-Hopeless-clause-signs : goal.returns-in_err-give_up-in-Hopeless-clause-signs
returns-in_err-give_up-in-Hopeless-clause-signs g c =
    let m : Meaning = g.E.Engine.meaning c.args.engine.now in
    let kept : KeepsButFamilies c.args.seen.now.window m (g.E.Engine.meaning c.give_up.new.self) =
    c.in_err-give_up-in-Hopeless.ensures.err in
    ap (λ (x : Meaning). x.signs) kept.kept

pub returns-in_ok-choose-in-Chosen-clause-ok : goal.returns-in_ok-choose-in-Chosen-clause-ok
returns-in_ok-choose-in-Chosen-clause-ok g c = λ u sums it.
    let m : Meaning = g.E.Engine.meaning c.args.engine.now in
    let n : Meaning = g.E.Engine.meaning c.choose.new.self in
    let same : c.args.seen.now.window ≡ u = one_window (windows_in c.args.signs.now c.args.counts.now) c.args.number c.args.seen.now.window u c.requires.window it.number in
    let entered : n ≡ after_choose m u n.tidy = subst (λ (v : List ℕ). n ≡ after_choose m v n.tidy) same c.in_ok-choose-in-Chosen.ensures.ok in
    chosen_one c.args.params.now m n (record { window = u; good = sums.0; bad = sums.1 })
    (sym (c.requires.fate u sums it) ∙ c.in-Chosen.is) entered

pub returns-in_ok-choose-in-Chosen-clause-choices : goal.returns-in_ok-choose-in-Chosen-clause-choices
returns-in_ok-choose-in-Chosen-clause-choices g c = λ u sums it.
    let same : c.unwrap_or-good.result ≡ sums = read_is c.sums.result c.unwrap_or-good.result sums c.unwrap_or-good.ensures (c.sums.ensures.value u it.number ∙ it.sums) in
    ap (λ (s : ℕ × ℕ). record {
      candidates = c.args.choices.now.candidates + 1;
      chosen = c.args.choices.now.chosen + 1;
      hopeless = c.args.choices.now.hopeless;
      good = c.args.choices.now.good + s.0;
      bad = c.args.choices.now.bad + s.1;
    }) same
    ∙ chosen_numbers c.args.params.now c.args.choices.now (record { window = u; good = sums.0; bad = sums.1 }) (sym (c.requires.fate u sums it) ∙ c.in-Chosen.is)

pub returns-in_ok-choose-in-Chosen-clause-signs : goal.returns-in_ok-choose-in-Chosen-clause-signs
returns-in_ok-choose-in-Chosen-clause-signs g c =
    let m : Meaning = g.E.Engine.meaning c.args.engine.now in
    let n : Meaning = g.E.Engine.meaning c.choose.new.self in
    let chosen : n ≡ after_choose m c.args.seen.now.window n.tidy = c.in_ok-choose-in-Chosen.ensures.ok in
    ap (λ (x : Meaning). x.signs) chosen

pub returns-in_ok-give_up-in-Hopeless-clause-ok : goal.returns-in_ok-give_up-in-Hopeless-clause-ok
returns-in_ok-give_up-in-Hopeless-clause-ok g c = λ u sums it.
    let m : Meaning = g.E.Engine.meaning c.args.engine.now in
    let n : Meaning = g.E.Engine.meaning c.give_up.new.self in
    let same : c.args.seen.now.window ≡ u = one_window (windows_in c.args.signs.now c.args.counts.now) c.args.number c.args.seen.now.window u c.requires.window it.number in
    let entered : n ≡ after_give_up m u n.tidy = subst (λ (v : List ℕ). n ≡ after_give_up m v n.tidy) same c.in_ok-give_up-in-Hopeless.ensures.ok in
    hopeless_one c.args.params.now m n (record { window = u; good = sums.0; bad = sums.1 })
    (sym (c.requires.fate u sums it) ∙ c.in-Hopeless.is) entered

pub returns-in_ok-give_up-in-Hopeless-clause-choices : goal.returns-in_ok-give_up-in-Hopeless-clause-choices
returns-in_ok-give_up-in-Hopeless-clause-choices g c = λ u sums it.
    hopeless_numbers c.args.params.now c.args.choices.now (record { window = u; good = sums.0; bad = sums.1 }) (sym (c.requires.fate u sums it) ∙ c.in-Hopeless.is)

pub returns-in_ok-give_up-in-Hopeless-clause-signs : goal.returns-in_ok-give_up-in-Hopeless-clause-signs
returns-in_ok-give_up-in-Hopeless-clause-signs g c =
    let m : Meaning = g.E.Engine.meaning c.args.engine.now in
    let n : Meaning = g.E.Engine.meaning c.give_up.new.self in
    let given : n ≡ after_give_up m c.args.seen.now.window n.tidy = c.in_ok-give_up-in-Hopeless.ensures.ok in
    ap (λ (x : Meaning). x.signs) given

pub returns-in-Left-clause-ok : goal.returns-in-Left-clause-ok
returns-in-Left-clause-ok g c = λ u sums it.
    left_one c.args.params.now (g.E.Engine.meaning c.args.engine.now) (record { window = u; good = sums.0; bad = sums.1 }) (sym (c.requires.fate u sums it) ∙ c.in-Left.is)

pub returns-in-Left-clause-choices : goal.returns-in-Left-clause-choices
returns-in-Left-clause-choices g c = λ u sums it.
    left_numbers c.args.params.now c.args.choices.now (record { window = u; good = sums.0; bad = sums.1 }) (sym (c.requires.fate u sums it) ∙ c.in-Left.is)

pub choose-requires : goal.choose-requires
choose-requires g c = c.requires.enter

pub give_up-requires : goal.give_up-requires
give_up-requires g c = c.requires.enter

pub overflow_add-choices : goal.overflow_add-choices
overflow_add-choices g c = omega (arith, c.requires.few)

pub overflow_add-choices-in-Chosen : goal.overflow_add-choices-in-Chosen
overflow_add-choices-in-Chosen g c = omega (arith, c.requires.few, c.requires.sound)

pub overflow_add-choices-in-Hopeless : goal.overflow_add-choices-in-Hopeless
overflow_add-choices-in-Hopeless g c = omega (arith, c.requires.few, c.requires.sound)

pub returns-in_ok-choose-in-Chosen-clause-sound : goal.returns-in_ok-choose-in-Chosen-clause-sound
returns-in_ok-choose-in-Chosen-clause-sound g c = omega (arith, c.requires.sound)

pub returns-in_ok-give_up-in-Hopeless-clause-sound : goal.returns-in_ok-give_up-in-Hopeless-clause-sound
returns-in_ok-give_up-in-Hopeless-clause-sound g c = omega (arith, c.requires.sound)

pub returns-in-Left-clause-sound : goal.returns-in-Left-clause-sound
returns-in-Left-clause-sound g c = omega (arith, c.requires.sound)

pub returns-in-Left-clause-signs : goal.returns-in-Left-clause-signs
returns-in-Left-clause-signs g c = refl
