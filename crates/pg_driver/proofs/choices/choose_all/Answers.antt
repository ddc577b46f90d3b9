use Rattle.std.proofs.Common.{◌≡◌, ℕ, ◌+◌, ◌<◌, ◌≤◌, List, [], ◌∷◌, length, map, drop, get_or, slice_get, Option, Some, inr, refl, sym, ap, subst, ◌∙◌, arith}
use Rattle.std.specs.List.{sum_by}
use Rattle.std.proofs.lemmas.List.{length-map, drop_all, drop_more}
use Rattle.std.proofs.lemmas.List.Sums.{sum_by-cons}
use Rattle.std.proofs.lemmas.Option.{slice_get_within}
use Rattle.pg_types.specs.Inside.Signs.{SignsWithin}
use Rattle.pg_types.specs.Inside.counting.Counts.{Counts, counted_sums}
use Rattle.pg_starts.specs.Inside.StartCountings.{counts_in, windows_in}
use Rattle.pg_select.specs.Inside.Choices.{choice}
use Rattle.pg_select.specs.Inside.engine.Meanings.{Meaning}
use Rattle.pg_select.specs.CountedPositions.{Candidate}
use Rattle.pg_driver.specs.declared.choices.Choices.{Choices}
use Rattle.pg_driver.specs.Inside.choices.Choosing.{HasChosen, with_candidates, candidate_of}
use Rattle.pg_driver.specs.Inside.level.PassWindows.{IsCandidate, fate_of_sums}
use Rattle.pg_driver.specs.Inside.level.States.{state_of}
use Rattle.pg_driver.proofs.ChoiceSteps.{bad_adds, bad_within, good_adds, good_within, keeps_on, numbers_append, state_none, state_step, state_with}
use Rattle.pg_driver.proofs.NumberSteps.{Ahead, ahead, one_window, only_one, order_there, part_whole}
use Rattle.pg_driver.proofs.SeenCandidates.{none_seen, seen_at}
use Rattle.pg_driver.proofs.choices.choose_all.Goals as goal

pub candidates-init : goal.candidates-init
candidates-init g c =
    let m = g.E.Engine.meaning c.args.engine.now in
    record {
      kept = refl;
      rest = (counts_in c.args.signs.now c.args.counts.now);
      ahead = c.requires.order;
      part = part_whole (counts_in c.args.signs.now c.args.counts.now) c.requires.room.sorted;
      from = omega arith;
      seen = none_seen c.args.fates.now (windows_in c.args.signs.now c.args.counts.now) c.args.order.now c.clear.new.self.items c.clear.ensures.items;
      state = refl;
      choices = refl;
      few = omega (arith, length-map (counts_in c.args.signs.now c.args.counts.now) candidate_of, c.requires.room.few);
      sound = omega arith;
      good = omega (arith, good_within (counts_in c.args.signs.now c.args.counts.now), c.requires.room.light);
      bad = omega (arith, bad_within (counts_in c.args.signs.now c.args.counts.now), c.requires.room.light);
    }

pub look_ahead-requires-clause-there : goal.look_ahead-requires-clause-there
look_ahead-requires-clause-there g c =
    order_there (windows_in c.args.signs.now c.args.counts.now) (counts_in c.args.signs.now c.args.counts.now) c.args.order.now c.requires.order

pub look_ahead-requires-clause-counting : goal.look_ahead-requires-clause-counting
look_ahead-requires-clause-counting g c = c.requires.counting

pub look_ahead-requires-clause-cursors : goal.look_ahead-requires-clause-cursors
look_ahead-requires-clause-cursors g c = c.requires.cursors

pub choose_one-requires-clause-counting : goal.choose_one-requires-clause-counting
choose_one-requires-clause-counting g c = c.requires.counting

pub choose_one-requires-clause-window : goal.choose_one-requires-clause-window
choose_one-requires-clause-window g c =
    (seen_at c.args.fates.now (windows_in c.args.signs.now c.args.counts.now) c.args.order.now c.in_ok-from.from c.look_ahead.new.seen.items c.in_ok-from.ensures.seen
    c.candidates.k c.index.result.now c.in_ok-from.ensures.from c.in_ok-from.ensures.within c.candidates-test.true c.index.ensures).window

pub choose_one-requires-clause-enter : goal.choose_one-requires-clause-enter
choose_one-requires-clause-enter g c =
    let m0 = g.E.Engine.meaning c.args.engine.now in
    let m = g.E.Engine.meaning c.candidates.engine in
    let u : List ℕ = c.index.result.now.window in
    let seen = seen_at c.args.fates.now (windows_in c.args.signs.now c.args.counts.now) c.args.order.now c.in_ok-from.from c.look_ahead.new.seen.items c.in_ok-from.ensures.seen
    c.candidates.k c.index.result.now c.in_ok-from.ensures.from c.in_ok-from.ensures.within c.candidates-test.true c.index.ensures in
    let k = c.candidates.k in
    let n = get_or c.args.order.now k 0 in
    let more : List ℕ = drop (k + 1) c.args.order.now in
    let inv = c.candidates.invariant in
    let a : Ahead (windows_in c.args.signs.now c.args.counts.now) (counts_in c.args.signs.now c.args.counts.now) n more inv.rest = ahead (windows_in c.args.signs.now c.args.counts.now) (counts_in c.args.signs.now c.args.counts.now) n more inv.rest
    (sym (ap (map (slice_get (windows_in c.args.signs.now c.args.counts.now))) (drop_more c.args.order.now k 0 c.candidates-test.true)) ∙ inv.ahead) inv.part in
    let same : u ≡ a.entry.0 = one_window (windows_in c.args.signs.now c.args.counts.now) n u a.entry.0 seen.window a.number in
    let can = c.requires.enter u n a.entry.1 (record { number = seen.window; sums = ap (counted_sums (counts_in c.args.signs.now c.args.counts.now)) same ∙ a.sums }) in
    inr (
      can.0 ∙ sym (ap (λ (x : Meaning). x.pass.len) c.candidates.invariant.kept),
      subst (λ n. SignsWithin n u) (sym (ap (λ (x : Meaning). x.signs) c.candidates.invariant.kept)) can.1,
    )

pub choose_one-requires-clause-fate : goal.choose_one-requires-clause-fate
choose_one-requires-clause-fate g c = λ u sums it.
    let m0 = g.E.Engine.meaning c.args.engine.now in
    let m = g.E.Engine.meaning c.candidates.engine in
    let k = c.candidates.k in
    let n = get_or c.args.order.now k 0 in
    let more : List ℕ = drop (k + 1) c.args.order.now in
    let inv = c.candidates.invariant in
    let a : Ahead (windows_in c.args.signs.now c.args.counts.now) (counts_in c.args.signs.now c.args.counts.now) n more inv.rest = ahead (windows_in c.args.signs.now c.args.counts.now) (counts_in c.args.signs.now c.args.counts.now) n more inv.rest
    (sym (ap (map (slice_get (windows_in c.args.signs.now c.args.counts.now))) (drop_more c.args.order.now k 0 c.candidates-test.true)) ∙ inv.ahead) inv.part in
    let there : n < length (windows_in c.args.signs.now c.args.counts.now) = slice_get_within (windows_in c.args.signs.now c.args.counts.now) n a.entry.0 a.number in
    let seen = seen_at c.args.fates.now (windows_in c.args.signs.now c.args.counts.now) c.args.order.now c.in_ok-from.from c.look_ahead.new.seen.items c.in_ok-from.ensures.seen k c.index.result.now
    c.in_ok-from.ensures.from c.in_ok-from.ensures.within c.candidates-test.true c.index.ensures in
    let both : Some c.index.result.now.fate ≡ Some (choice c.args.params.now sums.0 sums.1) =
    sym seen.fate ∙ c.requires.fates.each u n it.number ∙ ap (λ (o : Option (ℕ × ℕ)). Some (fate_of_sums c.args.params.now o)) it.sums in
    cc

pub choose_one-requires-clause-there : goal.choose_one-requires-clause-there
choose_one-requires-clause-there g c =
    let k = c.candidates.k in
    let n = get_or c.args.order.now k 0 in
    let more : List ℕ = drop (k + 1) c.args.order.now in
    let inv = c.candidates.invariant in
    let a : Ahead (windows_in c.args.signs.now c.args.counts.now) (counts_in c.args.signs.now c.args.counts.now) n more inv.rest = ahead (windows_in c.args.signs.now c.args.counts.now) (counts_in c.args.signs.now c.args.counts.now) n more inv.rest
    (sym (ap (map (slice_get (windows_in c.args.signs.now c.args.counts.now))) (drop_more c.args.order.now k 0 c.candidates-test.true)) ∙ inv.ahead) inv.part in
    (a.entry.0, a.entry.1, record { number = a.number; sums = a.sums })

pub choose_one-requires-clause-sums : goal.choose_one-requires-clause-sums
choose_one-requires-clause-sums g c = λ u sums it.
    let m0 = g.E.Engine.meaning c.args.engine.now in
    let m = g.E.Engine.meaning c.candidates.engine in
    let k = c.candidates.k in
    let n = get_or c.args.order.now k 0 in
    let more : List ℕ = drop (k + 1) c.args.order.now in
    let inv = c.candidates.invariant in
    let a : Ahead (windows_in c.args.signs.now c.args.counts.now) (counts_in c.args.signs.now c.args.counts.now) n more inv.rest = ahead (windows_in c.args.signs.now c.args.counts.now) (counts_in c.args.signs.now c.args.counts.now) n more inv.rest
    (sym (ap (map (slice_get (windows_in c.args.signs.now c.args.counts.now))) (drop_more c.args.order.now k 0 c.candidates-test.true)) ∙ inv.ahead) inv.part in
    let there : n < length (windows_in c.args.signs.now c.args.counts.now) = slice_get_within (windows_in c.args.signs.now c.args.counts.now) n a.entry.0 a.number in
    let is : map candidate_of inv.rest ≡ candidate_of a.entry ∷ map candidate_of a.left = ap (λ (es : Counts). map candidate_of es) a.is in
    let same = only_one (windows_in c.args.signs.now c.args.counts.now) (counts_in c.args.signs.now c.args.counts.now) n a.entry.0 a.entry.1 u sums a.number a.sums it.number
    it.sums in (
      omega (
        arith,
        ap (λ (s : ℕ × ℕ). s.0) same,
        ap (λ (cs : List Candidate). sum_by (λ c. c.good) cs) is,
        sum_by-cons (λ (c : Candidate). c.good) (candidate_of a.entry) (map candidate_of a.left),
        inv.good,
      ),
      omega (
        arith,
        ap (λ (s : ℕ × ℕ). s.1) same,
        ap (λ (cs : List Candidate). sum_by (λ c. c.bad) cs) is,
        sum_by-cons (λ (c : Candidate). c.bad) (candidate_of a.entry) (map candidate_of a.left),
        inv.bad,
      ),
    )

pub choose_one-requires-clause-few : goal.choose_one-requires-clause-few
choose_one-requires-clause-few g c =
    let m0 = g.E.Engine.meaning c.args.engine.now in
    let m = g.E.Engine.meaning c.candidates.engine in
    let k = c.candidates.k in
    let n = get_or c.args.order.now k 0 in
    let more : List ℕ = drop (k + 1) c.args.order.now in
    let inv = c.candidates.invariant in
    let a : Ahead (windows_in c.args.signs.now c.args.counts.now) (counts_in c.args.signs.now c.args.counts.now) n more inv.rest = ahead (windows_in c.args.signs.now c.args.counts.now) (counts_in c.args.signs.now c.args.counts.now) n more inv.rest
    (sym (ap (map (slice_get (windows_in c.args.signs.now c.args.counts.now))) (drop_more c.args.order.now k 0 c.candidates-test.true)) ∙ inv.ahead) inv.part in
    let there : n < length (windows_in c.args.signs.now c.args.counts.now) = slice_get_within (windows_in c.args.signs.now c.args.counts.now) n a.entry.0 a.number in
    let is : map candidate_of inv.rest ≡ candidate_of a.entry ∷ map candidate_of a.left = ap (λ (es : Counts). map candidate_of es) a.is in
    omega (arith, ap (λ (cs : List Candidate). length cs) is, inv.few)

pub candidates-preserved : goal.candidates-preserved
candidates-preserved g c =
    let m0 = g.E.Engine.meaning c.args.engine.now in
    let m = g.E.Engine.meaning c.candidates.engine in
    let k = c.candidates.k in
    let n = get_or c.args.order.now k 0 in
    let more : List ℕ = drop (k + 1) c.args.order.now in
    let inv = c.candidates.invariant in
    let a : Ahead (windows_in c.args.signs.now c.args.counts.now) (counts_in c.args.signs.now c.args.counts.now) n more inv.rest = ahead (windows_in c.args.signs.now c.args.counts.now) (counts_in c.args.signs.now c.args.counts.now) n more inv.rest
    (sym (ap (map (slice_get (windows_in c.args.signs.now c.args.counts.now))) (drop_more c.args.order.now k 0 c.candidates-test.true)) ∙ inv.ahead) inv.part in
    let there : n < length (windows_in c.args.signs.now c.args.counts.now) = slice_get_within (windows_in c.args.signs.now c.args.counts.now) n a.entry.0 a.number in
    let is : map candidate_of inv.rest ≡ candidate_of a.entry ∷ map candidate_of a.left = ap (λ (es : Counts). map candidate_of es) a.is in
    let after = g.E.Engine.meaning c.choose_one.new.engine in
    let params = c.args.params.now in
    let first : Candidate = candidate_of a.entry in
    let rest : List Candidate = map candidate_of a.left in
    let it : IsCandidate c.args.signs.now c.args.counts.now n a.entry.0 a.entry.1 = record { number = a.number; sums = a.sums } in
    let ok : HasChosen params (first ∷ []) m after = c.in_ok-choose_one.ensures.ok a.entry.0 a.entry.1 it in
    let chosen : c.choose_one.new.choices ≡ with_candidates params c.candidates.choices (first ∷ []) = c.in_ok-choose_one.ensures.choices a.entry.0 a.entry.1 it in
    record {
      kept = keeps_on m0 m after inv.kept ok.kept;
      rest = a.left;
      ahead = a.next;
      part = a.part;
      from = (let low = c.in_ok-from.ensures.from in omega arith);
      seen = c.in_ok-from.ensures.seen;
      state =
          state_step m0 m after params first rest _ inv.kept ok
          (ap (λ (cs : List Candidate). state_with m0.signs params m0.pass (state_of m) cs) (sym is) ∙ inv.state);
      choices =
          ap (λ (x : Choices). with_candidates params x rest) chosen
          ∙ sym (numbers_append params c.candidates.choices (first ∷ []) rest)
          ∙ ap (λ (cs : List Candidate). with_candidates params c.candidates.choices cs) (sym is)
          ∙ inv.choices;
      few = omega (arith, ap (λ (x : Choices). x.candidates) chosen, ap (λ (cs : List Candidate). length cs) is, inv.few);
      sound = c.in_ok-choose_one.ensures.sound;
      good = omega (
        arith,
        ap (λ (x : Choices). x.good) chosen,
        good_adds params c.candidates.choices first,
        ap (λ (cs : List Candidate). sum_by (λ c. c.good) cs) is,
        sum_by-cons (λ (c : Candidate). c.good) first rest,
        inv.good,
      );
      bad = omega (
        arith,
        ap (λ (x : Choices). x.bad) chosen,
        bad_adds params c.candidates.choices first,
        ap (λ (cs : List Candidate). sum_by (λ c. c.bad) cs) is,
        sum_by-cons (λ (c : Candidate). c.bad) first rest,
        inv.bad,
      );
    }

pub look_ahead-requires-clause-fates : goal.look_ahead-requires-clause-fates
look_ahead-requires-clause-fates g c = c.requires.fates.size

pub look_ahead-requires-clause-within : goal.look_ahead-requires-clause-within
look_ahead-requires-clause-within g c = c.candidates-test.true

pub look_ahead-requires-clause-from : goal.look_ahead-requires-clause-from
look_ahead-requires-clause-from g c = c.candidates.invariant.from

pub look_ahead-requires-clause-seen : goal.look_ahead-requires-clause-seen
look_ahead-requires-clause-seen g c = c.candidates.invariant.seen

pub index-requires : goal.index-requires
index-requires g c = (let low = c.in_ok-from.ensures.from in let high = c.in_ok-from.ensures.within in omega arith)

pub overflow_sub-k : goal.overflow_sub-k
overflow_sub-k g c = c.in_ok-from.ensures.from

pub choose_one-requires-clause-level : goal.choose_one-requires-clause-level
choose_one-requires-clause-level g c = c.requires.level

pub choose_one-requires-clause-sound : goal.choose_one-requires-clause-sound
choose_one-requires-clause-sound g c = c.candidates.invariant.sound

pub returns-in_err-from-clause-signs : goal.returns-in_err-from-clause-signs
returns-in_err-from-clause-signs g c = ap (λ (x : Meaning). x.signs) c.candidates.invariant.kept

pub returns-in_err-choose_one-clause-signs : goal.returns-in_err-choose_one-clause-signs
returns-in_err-choose_one-clause-signs g c = c.choose_one.ensures.signs ∙ ap (λ (x : Meaning). x.signs) c.candidates.invariant.kept

-- behind the last number no candidate is left
none_left : (ws : List (List ℕ)) (order : List ℕ) (k : ℕ) (rest : Counts) → length order ≤ k → map (slice_get ws) (drop k order) ≡ map (λ e. Some e.0) rest → rest ≡ []
none_left ws order k [] past is = refl
none_left ws order k (e ∷ es) past is = absurd (let no : [] ≡ Some e.0 ∷ map (λ e. Some e.0) es = sym (ap (map (slice_get ws)) (drop_all k order past)) ∙ is in cc)

pub returns-clause-ok : goal.returns-clause-ok
returns-clause-ok g c =
    let m0 = g.E.Engine.meaning c.args.engine.now in
    let m = g.E.Engine.meaning c.candidates.engine in
    let params = c.args.params.now in
    let inv = c.candidates.invariant in
    let none : inv.rest ≡ [] = none_left (windows_in c.args.signs.now c.args.counts.now) c.args.order.now c.candidates.k inv.rest c.candidates-test.false inv.ahead in
    record {
      state =
          sym (state_none m0.signs params m0.pass (state_of m))
          ∙ ap (λ (es : Counts). state_with m0.signs params m0.pass (state_of m) (map candidate_of es)) (sym none)
          ∙ inv.state;
      kept = inv.kept;
    }

-- no candidate more changes no number
numbers_none : (n : Choices) → n ≡ record { candidates = n.candidates + 0; chosen = n.chosen + 0; hopeless = n.hopeless + 0; good = n.good + 0; bad = n.bad + 0 }
numbers_none n =
    let zero : (x : ℕ) → x ≡ x + 0 = λ x. omega arith in
    λ i. record { candidates = zero n.candidates i; chosen = zero n.chosen i; hopeless = zero n.hopeless i; good = zero n.good i; bad = zero n.bad i }

pub returns-clause-choices : goal.returns-clause-choices
returns-clause-choices g c =
    let params = c.args.params.now in
    let inv = c.candidates.invariant in
    let none : inv.rest ≡ [] = none_left (windows_in c.args.signs.now c.args.counts.now) c.args.order.now c.candidates.k inv.rest c.candidates-test.false inv.ahead in
    numbers_none c.candidates.choices
    ∙ ap (λ (es : Counts). with_candidates params c.candidates.choices (map candidate_of es)) (sym none)
    ∙ inv.choices

pub returns-clause-sound : goal.returns-clause-sound
returns-clause-sound g c = c.candidates.invariant.sound

pub returns-clause-few : goal.returns-clause-few
returns-clause-few g c = omega (arith, c.candidates.invariant.few)

pub returns-clause-signs : goal.returns-clause-signs
returns-clause-signs g c = ap (λ (x : Meaning). x.signs) c.candidates.invariant.kept
