use Rattle.std.proofs.Common.{◌≡◌, ℕ, List, [], fold, length, map, sym, ap, subst, ◌∙◌, arith}
use Rattle.pg_types.specs.Inside.Signs.{SignsWithin}
use Rattle.pg_types.specs.Inside.counting.Counts.{Counts}
use Rattle.pg_types.specs.Inside.counting.NumberedWindows.{AreInOrder}
use Rattle.pg_select.specs.Sums.{totals as totals_by}
use Rattle.pg_dict.specs.Inside.SoundWords.{SignsAtMost}
use Rattle.pg_dict.specs.Inside.Store.{all_signs}
use Rattle.pg_select.specs.declared.choice.Choice.{Choice}
use Rattle.pg_select.specs.Inside.engine.Meanings.{Meaning, with_position}
use Rattle.pg_starts.specs.declared.start_counts.StartCounts.{StartCounts}
use Rattle.pg_starts.specs.Inside.StartCountings.{AreCounting, counts_in, windows_in}
use Rattle.pg_driver.specs.Inside.choices.Choosing.{HasChosen, candidate_of, no_choices, with_candidates}
use Rattle.pg_driver.specs.Inside.choices.LookAhead.{FitCursors}
use Rattle.pg_driver.specs.Inside.counting.Counting.{HasRoom}
use Rattle.pg_driver.specs.Inside.counting.LevelCounting.{AreListed, AreNumbersIn, CanGoOn, GoesOnAfter, IsReady}
use Rattle.pg_driver.specs.Inside.level.PassWindows.{AreFates, IsCandidate}
use Rattle.pg_driver.specs.Inside.level.States.{State}
use Rattle.pg_driver.specs.Inside.records.RunAccounts.{known_of}
use Rattle.pg_driver.specs.Traces.{Knowledge}
use Rattle.pg_driver.proofs.OpenSigns.{signs_few}
use Rattle.pg_driver.proofs.PassSteps.{counted_as, did_pass, numbers_are, pass_state, seen_in}
use Rattle.pg_driver.proofs.ReadySteps.{are_of, can_go_on, counted_after, placed, ready_after}
use Rattle.pg_driver.proofs.StartSteps.{len_in, windows_enter, windows_fit}
use Rattle.pg_driver.proofs.level.run_pass.Goals as goal

pub count-requires-clause-begun : goal.count-requires-clause-begun
count-requires-clause-begun g c = record {
  ranges = c.requires.ranges;
  begun = ap (λ (x : Meaning). x.pass) c.begin_pass.ensures;
  signs = subst (λ n. SignsAtMost n c.args.dictionary.now) (sym (ap (λ (x : Meaning). x.signs) c.begin_pass.ensures)) c.requires.signs;
}

pub count-requires-clause-ready : goal.count-requires-clause-ready
count-requires-clause-ready g c =
    subst (λ (k : Knowledge). IsReady c.args.table.now c.args.dictionary.now c.args.pass.level c.args.pass.len k c.args.counting.now)
    (sym (ap known_of c.begin_pass.ensures)) c.requires.ready

pub count-requires-clause-numbers : goal.count-requires-clause-numbers
count-requires-clause-numbers g c = c.requires.numbers

pub begin_pass-requires : goal.begin_pass-requires
begin_pass-requires g c = record {
  level = (c.requires.ranges.level_low, c.requires.ranges.level_high);
  len = (c.requires.ranges.len_low, c.requires.ranges.len_high);
  dot = c.requires.ranges.within;
  begun = c.requires.begun;
}

pub decide-requires-clause-level : goal.decide-requires-clause-level
decide-requires-clause-level g c = c.requires.level

pub decide-requires-clause-counting : goal.decide-requires-clause-counting
decide-requires-clause-counting g c = subst (λ (xs : List ℕ). AreCounting xs c.count.new.windows.counts) (sym c.all_signs-signs.ensures) c.in_ok-before.ensures.counting

pub decide-requires-clause-few : goal.decide-requires-clause-few
decide-requires-clause-few g c =
    omega (arith, ap (λ (xs : List ℕ). length xs) c.all_signs-signs.ensures, signs_few c.args.dictionary.now c.len-words.ensures.words, c.len-words.ensures.letters)

pub decide-requires-clause-room : goal.decide-requires-clause-room
decide-requires-clause-room g c =
    subst (λ (xs : List ℕ). HasRoom (counts_in xs c.count.new.windows.counts) 0) (sym c.all_signs-signs.ensures) c.in_ok-before.ensures.did.room

-- what the choice reads of the windows
record CanChoose (xs : List ℕ) (k : StartCounts) (m : Meaning) : Type 0 where
  counting : AreCounting xs k
  cursors : (order : List ℕ) → AreInOrder (windows_in xs k) (counts_in xs k) order → FitCursors (windows_in xs k) order
  enter : (u : List ℕ) (n : ℕ) (sums : ℕ × ℕ) → IsCandidate xs k n u sums → (length u ≡ m.pass.len) × SignsWithin m.signs u
  room : HasRoom (counts_in xs k) 0

pub choose_all-requires : goal.choose_all-requires
choose_all-requires g c =
    let m = g.E.Engine.meaning c.args.engine.now in
    let m1 = g.E.Engine.meaning c.begin_pass.new.self in
    let words = c.args.dictionary.now in
    let xs : List ℕ = c.all_signs-signs.result.now in
    let k = c.count.new.windows.counts in
    let d = c.decide.new.self.counts in
    let counting : AreCounting (all_signs words) k = c.in_ok-before.ensures.counting in
    let len : k.numbers.len ≡ c.args.pass.len = len_in words c.args.pass.len k.numbers c.count.new.self c.in_ok-before.ensures.numbers in
    let most : SignsAtMost m1.signs words = subst (λ n. SignsAtMost n words) (sym (ap (λ (x : Meaning). x.signs) c.begin_pass.ensures)) c.requires.signs in
    let same : k.numbers.len ≡ m1.pass.len = len ∙ sym (ap (λ (x : Meaning). x.pass.len) c.begin_pass.ensures) in
    let of_words : CanChoose (all_signs words) k m1 = record {
      counting = counting;
      cursors = λ order is. windows_fit words k counting c.len-words.ensures.words order is c.in_ok-before.ensures.did.room.sorted;
      enter = windows_enter words k counting c.len-words.ensures.words m1.signs m1.pass.len most same;
      room = c.in_ok-before.ensures.did.room;
    } in
    let can : CanChoose xs d m1 =
    subst (λ (x : StartCounts). CanChoose xs x m1) (sym c.decide.ensures.counts) (subst (λ (ys : List ℕ). CanChoose ys k m1) (sym c.all_signs-signs.ensures) of_words) in
    let order : AreInOrder (windows_in xs d) (counts_in xs d) c.deref-2.result.now =
    subst (λ (order : List ℕ). AreInOrder (windows_in xs d) (counts_in xs d) order) (sym c.deref-2.ensures.value)
    (subst (λ (x : StartCounts). AreInOrder (windows_in xs x) (counts_in xs x) c.decide.new.self.order.items) (sym c.decide.ensures.counts) c.in_ok-decide.ensures.order) in
    record {
      level = c.requires.level;
      counting = can.counting;
      cursors = can.cursors c.deref-2.result.now order;
      enter = can.enter;
      room = can.room;
      fates = subst (λ (fates : List Choice). AreFates c.args.params.now (counts_in xs d) (windows_in xs d) fates) (sym c.deref.ensures.value)
          (subst (λ (x : StartCounts). AreFates c.args.params.now (counts_in xs x) (windows_in xs x) c.decide.new.self.fates.items) (sym c.decide.ensures.counts) c.in_ok-decide.ensures.fates);
      order = order;
    }

pub after_choices-requires-clause-ranges : goal.after_choices-requires-clause-ranges
after_choices-requires-clause-ranges g c = c.requires.ranges

pub after_choices-requires-clause-few : goal.after_choices-requires-clause-few
after_choices-requires-clause-few g c = c.in_ok-decide.ensures.few

pub after_choices-requires-clause-counting : goal.after_choices-requires-clause-counting
after_choices-requires-clause-counting g c =
    subst (AreCounting (all_signs c.args.dictionary.now)) (sym c.decide.ensures.counts) c.in_ok-before.ensures.counting

pub after_choices-requires-clause-numbers : goal.after_choices-requires-clause-numbers
after_choices-requires-clause-numbers g c =
    subst (λ (x : StartCounts). AreNumbersIn c.args.dictionary.now c.args.pass.len x.numbers c.count.new.self) (sym c.decide.ensures.counts) c.in_ok-before.ensures.numbers

pub after_choices-requires-clause-fates : goal.after_choices-requires-clause-fates
after_choices-requires-clause-fates g c =
    subst (λ (x : StartCounts). AreFates c.args.params.now (counts_in (all_signs c.args.dictionary.now) x) (windows_in (all_signs c.args.dictionary.now) x) c.decide.new.self.fates.items) (sym c.decide.ensures.counts)
    (subst (λ (xs : List ℕ). AreFates c.args.params.now (counts_in xs c.count.new.windows.counts) (windows_in xs c.count.new.windows.counts) c.decide.new.self.fates.items) c.all_signs-signs.ensures c.in_ok-decide.ensures.fates)

pub after_choices-requires-clause-listed : goal.after_choices-requires-clause-listed
after_choices-requires-clause-listed g c =
    let words = c.args.dictionary.now in
    subst (λ (x : StartCounts). AreListed c.args.pass (counts_in (all_signs words) x) words (windows_in (all_signs words) x) c.count.new.self c.decide.new.self.numbers.items) (sym c.decide.ensures.counts)
    (subst (λ (ns : List ℕ). AreListed c.args.pass (counts_in (all_signs words) c.count.new.windows.counts) words (windows_in (all_signs words) c.count.new.windows.counts) c.count.new.self ns)
    (sym c.decide.ensures.numbers) c.in_ok-before.ensures.listed)

pub after_choices-requires-clause-placed : goal.after_choices-requires-clause-placed
after_choices-requires-clause-placed g c =
    let m = g.E.Engine.meaning c.args.engine.now in
    let m1 = g.E.Engine.meaning c.begin_pass.new.self in
    let words = c.args.dictionary.now in
    let pass = c.args.pass in
    let params = c.args.params.now in
    let T = c.args.table.now in
    let W = words in
    let k = c.count.new.windows.counts in
    let cs : Counts = counts_in (all_signs words) k in
    let counted : cs ≡ fold with_position [] (seen_in c.args.table.now words pass m) = counted_as c.args.table.now words pass m m1 cs c.begin_pass.ensures c.in_ok-before.ensures.did.counts in
    let ready : IsReady T W pass.level pass.len (known_of m) c.count.new.self =
    subst (λ (x : Knowledge). IsReady T W pass.level pass.len x c.count.new.self) (ap known_of c.begin_pass.ensures) c.in_ok-before.ensures.ready in
    placed T W pass.level pass.len (known_of m) c.count.new.self c.in_ok-before.ensures.counted ready

pub after_choices-requires-clause-totals : goal.after_choices-requires-clause-totals
after_choices-requires-clause-totals g c =
    let m = g.E.Engine.meaning c.args.engine.now in
    let m1 = g.E.Engine.meaning c.begin_pass.new.self in
    let words = c.args.dictionary.now in
    let pass = c.args.pass in
    let params = c.args.params.now in
    let T = c.args.table.now in
    let W = words in
    let k = c.count.new.windows.counts in
    let cs : Counts = counts_in (all_signs words) k in
    let counted : cs ≡ fold with_position [] (seen_in c.args.table.now words pass m) = counted_as c.args.table.now words pass m m1 cs c.begin_pass.ensures c.in_ok-before.ensures.did.counts in
    let ready : IsReady T W pass.level pass.len (known_of m) c.count.new.self =
    subst (λ (x : Knowledge). IsReady T W pass.level pass.len x c.count.new.self) (ap known_of c.begin_pass.ensures) c.in_ok-before.ensures.ready in
    let n = g.E.Engine.meaning c.choose_all.new.engine in
    let has : HasChosen params (map candidate_of cs) m1 n =
    subst (λ (x : StartCounts). HasChosen params (map candidate_of (counts_in (all_signs words) x)) m1 n) c.decide.ensures.counts
    (subst (λ (xs : List ℕ). HasChosen params (map candidate_of (counts_in xs c.decide.new.self.counts)) m1 n) c.all_signs-signs.ensures c.in_ok-choices.ensures.ok) in
    let chosen : c.in_ok-choices.choices ≡ with_candidates params no_choices (map candidate_of cs) =
    subst (λ (x : StartCounts). c.in_ok-choices.choices ≡ with_candidates params no_choices (map candidate_of (counts_in (all_signs words) x))) c.decide.ensures.counts
    (subst (λ (xs : List ℕ). c.in_ok-choices.choices ≡ with_candidates params no_choices (map candidate_of (counts_in xs c.decide.new.self.counts))) c.all_signs-signs.ensures c.in_ok-choices.ensures.choices) in
    let numbers = numbers_are c.args.table.now words params pass m cs c.in_ok-choices.choices counted chosen in
    subst (λ (x : StartCounts). CanGoOn params pass (counts_in (all_signs words) x) words c.in_ok-choices.choices c.count.new.self) (sym c.decide.ensures.counts)
    (can_go_on T W params (known_of m) pass c.in_ok-choices.choices cs c.count.new.self (are_of T W params (known_of m) pass c.in_ok-choices.choices numbers) c.in_ok-before.ensures.counted
    counted ready)

pub returns-clause-done : goal.returns-clause-done
returns-clause-done g c =
    let m = g.E.Engine.meaning c.args.engine.now in
    let m1 = g.E.Engine.meaning c.begin_pass.new.self in
    let words = c.args.dictionary.now in
    let pass = c.args.pass in
    let params = c.args.params.now in
    let T = c.args.table.now in
    let W = words in
    let k = c.count.new.windows.counts in
    let cs : Counts = counts_in (all_signs words) k in
    let counted : cs ≡ fold with_position [] (seen_in c.args.table.now words pass m) = counted_as c.args.table.now words pass m m1 cs c.begin_pass.ensures c.in_ok-before.ensures.did.counts in
    let n = g.E.Engine.meaning c.choose_all.new.engine in
    let has : HasChosen params (map candidate_of cs) m1 n =
    subst (λ (x : StartCounts). HasChosen params (map candidate_of (counts_in (all_signs words) x)) m1 n) c.decide.ensures.counts
    (subst (λ (xs : List ℕ). HasChosen params (map candidate_of (counts_in xs c.decide.new.self.counts)) m1 n) c.all_signs-signs.ensures c.in_ok-choices.ensures.ok) in
    let chosen : c.in_ok-choices.choices ≡ with_candidates params no_choices (map candidate_of cs) =
    subst (λ (x : StartCounts). c.in_ok-choices.choices ≡ with_candidates params no_choices (map candidate_of (counts_in (all_signs words) x))) c.decide.ensures.counts
    (subst (λ (xs : List ℕ). c.in_ok-choices.choices ≡ with_candidates params no_choices (map candidate_of (counts_in xs c.decide.new.self.counts))) c.all_signs-signs.ensures c.in_ok-choices.ensures.choices) in
    let before = c.in_ok-before.ensures.did.totals ∙ ap (λ (x : Meaning). totals_by T W x.patterns) c.begin_pass.ensures in
    did_pass c.args.table.now words params pass m m1 n cs c.in_ok-before.before c.in_ok-choices.choices c.layout.result c.begin_pass.ensures counted before has chosen c.layout.ensures

pub returns-clause-ready : goal.returns-clause-ready
returns-clause-ready g c =
    let m = g.E.Engine.meaning c.args.engine.now in
    let m1 = g.E.Engine.meaning c.begin_pass.new.self in
    let words = c.args.dictionary.now in
    let pass = c.args.pass in
    let params = c.args.params.now in
    let T = c.args.table.now in
    let W = words in
    let k = c.count.new.windows.counts in
    let cs : Counts = counts_in (all_signs words) k in
    let counted : cs ≡ fold with_position [] (seen_in c.args.table.now words pass m) = counted_as c.args.table.now words pass m m1 cs c.begin_pass.ensures c.in_ok-before.ensures.did.counts in
    let ready : IsReady T W pass.level pass.len (known_of m) c.count.new.self =
    subst (λ (x : Knowledge). IsReady T W pass.level pass.len x c.count.new.self) (ap known_of c.begin_pass.ensures) c.in_ok-before.ensures.ready in
    let n = g.E.Engine.meaning c.choose_all.new.engine in
    let has : HasChosen params (map candidate_of cs) m1 n =
    subst (λ (x : StartCounts). HasChosen params (map candidate_of (counts_in (all_signs words) x)) m1 n) c.decide.ensures.counts
    (subst (λ (xs : List ℕ). HasChosen params (map candidate_of (counts_in xs c.decide.new.self.counts)) m1 n) c.all_signs-signs.ensures c.in_ok-choices.ensures.ok) in
    let chosen : c.in_ok-choices.choices ≡ with_candidates params no_choices (map candidate_of cs) =
    subst (λ (x : StartCounts). c.in_ok-choices.choices ≡ with_candidates params no_choices (map candidate_of (counts_in (all_signs words) x))) c.decide.ensures.counts
    (subst (λ (xs : List ℕ). c.in_ok-choices.choices ≡ with_candidates params no_choices (map candidate_of (counts_in xs c.decide.new.self.counts))) c.all_signs-signs.ensures c.in_ok-choices.ensures.choices) in
    let numbers = numbers_are c.args.table.now words params pass m cs c.in_ok-choices.choices counted chosen in
    let state = pass_state c.args.table.now words params pass m m1 n cs c.begin_pass.ensures counted has in
    let on : GoesOnAfter params pass cs words c.in_ok-choices.choices c.count.new.self c.after_choices.new.self =
    subst (λ (x : StartCounts). GoesOnAfter params pass (counts_in (all_signs words) x) words c.in_ok-choices.choices c.count.new.self c.after_choices.new.self) c.decide.ensures.counts c.after_choices.ensures.after in
    subst (λ (x : Knowledge). IsReady T W pass.level pass.len x c.after_choices.new.self) (sym (ap (λ (s : State). s.known) state))
    (ready_after T W params (known_of m) pass c.in_ok-choices.choices cs c.count.new.self c.after_choices.new.self
    (are_of T W params (known_of m) pass c.in_ok-choices.choices numbers) c.in_ok-before.ensures.counted (omega (arith, c.requires.ranges.within, c.requires.ranges.len_high))
    counted on ready)

pub returns-clause-counted : goal.returns-clause-counted
returns-clause-counted g c =
    counted_after c.args.params.now c.args.pass (counts_in (all_signs c.args.dictionary.now) c.decide.new.self.counts) c.args.dictionary.now c.in_ok-choices.choices
    c.count.new.self c.after_choices.new.self c.after_choices.ensures.after c.in_ok-before.ensures.counted

pub returns-clause-numbers : goal.returns-clause-numbers
returns-clause-numbers g c = c.after_choices.ensures.numbers

pub returns-clause-sound : goal.returns-clause-sound
returns-clause-sound g c = record { within = c.in_ok-choices.ensures.sound; before = c.in_ok-before.ensures.did.small }

pub returns-clause-few : goal.returns-clause-few
returns-clause-few g c = omega (arith, c.in_ok-choices.ensures.sound, c.in_ok-choices.ensures.few)

pub returns-clause-signs : goal.returns-clause-signs
returns-clause-signs g c = c.choose_all.ensures.signs ∙ ap (λ (x : Meaning). x.signs) c.begin_pass.ensures

pub returns-in_err-before-clause-signs : goal.returns-in_err-before-clause-signs
returns-in_err-before-clause-signs g c = ap (λ (x : Meaning). x.signs) c.begin_pass.ensures

pub returns-in_err-decide-clause-signs : goal.returns-in_err-decide-clause-signs
returns-in_err-decide-clause-signs g c = ap (λ (x : Meaning). x.signs) c.begin_pass.ensures

pub returns-in_err-choices-clause-signs : goal.returns-in_err-choices-clause-signs
returns-in_err-choices-clause-signs g c = c.choose_all.ensures.signs ∙ ap (λ (x : Meaning). x.signs) c.begin_pass.ensures
