use Rattle.std.proofs.Common.{◌≡◌, ◌≤◌, ℕ, List, true, not, fold, [], refl, subst, sym, ap, ◌∙◌, arith}
use Rattle.std.specs.List.{flat_map}
use Rattle.pg_dict.specs.Inside.Store.{all_signs}
use Rattle.pg_dots.specs.Inside.Dots.{is_closed, position_count}
use Rattle.pg_types.specs.Inside.counting.Counts.{Counts}
use Rattle.pg_select.specs.Inside.words.PositionLists.{CountedPosition}
use Rattle.pg_select.specs.Inside.engine.Meanings.{with_position}
use Rattle.pg_starts.specs.Inside.Known.{AreKnown}
use Rattle.pg_starts.specs.Inside.StartCountings.{AreCounting, counts_in}
use Rattle.pg_driver.specs.declared.counting.open_positions.OpenLevel.{OpenLevel}
use Rattle.pg_driver.specs.Inside.counting.Counting.{AreNumbersFor}
use Rattle.pg_driver.specs.Inside.counting.LevelCounting.{AreNumbersIn, IsOpenAt, IsReady}
use Rattle.pg_driver.specs.Inside.counting.OpenPositions.{counted_of}
use Rattle.pg_driver.specs.Inside.counting.OpenSigns.{open_word_positions, sign_count}
use Rattle.pg_driver.specs.Inside.records.RunAccounts.{known_of}
use Rattle.pg_driver.proofs.ReadySteps.{counts_all, has_room, is_small, ready_same}
use Rattle.pg_driver.proofs.StartSteps.{known_in, len_in, numbers_same}
use Rattle.pg_driver.proofs.counting.WayToCount.count.Goals as goal

pub begin-requires-clause-known : goal.begin-requires-clause-known
begin-requires-clause-known g c =
    subst (λ (xs : List ℕ). AreKnown xs c.args.windows.now.counts.numbers) (sym c.all_signs.ensures)
    (known_in c.args.dictionary.now c.args.pass.len c.args.windows.now.counts.numbers c.args.self.now c.requires.numbers)

pub begin-requires-clause-len : goal.begin-requires-clause-len
begin-requires-clause-len g c =
    omega (arith, len_in c.args.dictionary.now c.args.pass.len c.args.windows.now.counts.numbers c.args.self.now c.requires.numbers, c.requires.begun.ranges.len_low)

pub count_open-requires-clause-ranges : goal.count_open-requires-clause-ranges
count_open-requires-clause-ranges g c = c.requires.begun.ranges

pub count_open-requires-clause-counting : goal.count_open-requires-clause-counting
count_open-requires-clause-counting g c = subst (λ (xs : List ℕ). AreCounting xs c.begin.new.self) c.all_signs.ensures c.in_ok-begin.ensures.counting

pub count_open-requires-clause-numbers : goal.count_open-requires-clause-numbers
count_open-requires-clause-numbers g c =
    let m = g.E.Engine.meaning c.args.engine.now in
    let words = c.args.dictionary.now in
    let T = c.args.table.now in
    let W = words in
    let pass = c.args.pass in
    let o = c.in-Open.open in
    let p : OpenLevel = record { dots = c.reach.new.self; never = o.never; totals = o.totals } in
    let ready : IsOpenAt T W pass.level pass.len (known_of m) o = subst (IsReady T W pass.level pass.len (known_of m)) c.in-Open.is c.requires.ready in
    let numbers : AreNumbersFor words pass.len (λ d s. not (is_closed o.dots d s)) c.args.windows.now.counts.numbers =
    subst (AreNumbersIn words pass.len c.args.windows.now.counts.numbers) c.in-Open.is c.requires.numbers in
    let numbers_now : AreNumbersFor words pass.len (λ d s. not (is_closed c.reach.new.self d s)) c.args.windows.now.counts.numbers =
    numbers_same words pass.len (position_count o.dots) (is_closed o.dots) (is_closed c.reach.new.self) c.args.windows.now.counts.numbers numbers ready.size
    c.in_ok-reach-in-Open.ensures.closed in
    subst (AreNumbersFor words pass.len (λ d s. not (is_closed c.reach.new.self d s))) (sym c.begin.ensures.numbers) numbers_now

pub count_open-requires-clause-room : goal.count_open-requires-clause-room
count_open-requires-clause-room g c =
    let m = g.E.Engine.meaning c.args.engine.now in
    let words = c.args.dictionary.now in
    let T = c.args.table.now in
    let W = words in
    let pass = c.args.pass in
    let o = c.in-Open.open in
    let p : OpenLevel = record { dots = c.reach.new.self; never = o.never; totals = o.totals } in
    let ready : IsOpenAt T W pass.level pass.len (known_of m) o = subst (IsReady T W pass.level pass.len (known_of m)) c.in-Open.is c.requires.ready in
    let now : IsOpenAt T W pass.level pass.len (known_of m) p = ready_same T W pass.level pass.len
    (known_of m) o ready p c.in_ok-reach-in-Open.ensures.positions c.in_ok-reach-in-Open.ensures.closed refl refl in
    let fresh : counts_in (all_signs words) c.begin.new.self ≡ [] = subst (λ (xs : List ℕ). counts_in xs c.begin.new.self ≡ []) c.all_signs.ensures c.in_ok-begin.ensures.none in
    has_room T W pass.level pass.len (known_of m) p now (counts_in (all_signs words) c.begin.new.self) pass.dot fresh c.requires.begun.ranges.len_high c.requires.begun.ranges.within

pub count_open-requires-clause-words : goal.count_open-requires-clause-words
count_open-requires-clause-words g c =
    let m = g.E.Engine.meaning c.args.engine.now in
    let words = c.args.dictionary.now in
    let T = c.args.table.now in
    let W = words in
    let pass = c.args.pass in
    let o = c.in-Open.open in
    let p : OpenLevel = record { dots = c.reach.new.self; never = o.never; totals = o.totals } in
    let ready : IsOpenAt T W pass.level pass.len (known_of m) o = subst (IsReady T W pass.level pass.len (known_of m)) c.in-Open.is c.requires.ready in
    ready.bounded.few.each

pub count_open-requires-clause-letters : goal.count_open-requires-clause-letters
count_open-requires-clause-letters g c =
    let m = g.E.Engine.meaning c.args.engine.now in
    let words = c.args.dictionary.now in
    let T = c.args.table.now in
    let W = words in
    let pass = c.args.pass in
    let o = c.in-Open.open in
    let p : OpenLevel = record { dots = c.reach.new.self; never = o.never; totals = o.totals } in
    let ready : IsOpenAt T W pass.level pass.len (known_of m) o = subst (IsReady T W pass.level pass.len (known_of m)) c.in-Open.is c.requires.ready in
    ready.bounded.few.letters

pub count_open-requires-clause-size : goal.count_open-requires-clause-size
count_open-requires-clause-size g c =
    let m = g.E.Engine.meaning c.args.engine.now in
    let words = c.args.dictionary.now in
    let T = c.args.table.now in
    let W = words in
    let pass = c.args.pass in
    let o = c.in-Open.open in
    let p : OpenLevel = record { dots = c.reach.new.self; never = o.never; totals = o.totals } in
    let ready : IsOpenAt T W pass.level pass.len (known_of m) o = subst (IsReady T W pass.level pass.len (known_of m)) c.in-Open.is c.requires.ready in
    subst (λ (n : ℕ). sign_count words ≤ n) (sym c.in_ok-reach-in-Open.ensures.positions) ready.size

pub count_open-requires-clause-reached : goal.count_open-requires-clause-reached
count_open-requires-clause-reached g c = c.in_ok-reach-in-Open.ensures.reached

pub returns-in_ok-reach-in-Open-clause-did : goal.returns-in_ok-reach-in-Open-clause-did
returns-in_ok-reach-in-Open-clause-did g c =
    let m = g.E.Engine.meaning c.args.engine.now in
    let words = c.args.dictionary.now in
    let T = c.args.table.now in
    let W = words in
    let pass = c.args.pass in
    let o = c.in-Open.open in
    let p : OpenLevel = record { dots = c.reach.new.self; never = o.never; totals = o.totals } in
    let ready : IsOpenAt T W pass.level pass.len (known_of m) o = subst (IsReady T W pass.level pass.len (known_of m)) c.in-Open.is c.requires.ready in
    let now : IsOpenAt T W pass.level pass.len (known_of m) p = ready_same T W pass.level pass.len
    (known_of m) o ready p c.in_ok-reach-in-Open.ensures.positions c.in_ok-reach-in-Open.ensures.closed refl refl in
    let fresh : counts_in (all_signs words) c.begin.new.self ≡ [] = subst (λ (xs : List ℕ). counts_in xs c.begin.new.self ≡ []) c.all_signs.ensures c.in_ok-begin.ensures.none in
    record {
      counts =
          c.count_open.ensures.counts
          ∙ ap (λ (cs : Counts). fold with_position cs (flat_map (counted_of pass words) (open_word_positions (is_closed c.reach.new.self pass.dot) words))) fresh
          ∙ ap (λ (seen : List CountedPosition). fold with_position [] seen)
          (counts_all T W pass.level pass.len (known_of m) p now pass.dot c.requires.begun.ranges.len_high c.requires.begun.ranges.within);
      room = c.count_open.ensures.room;
      totals = ready.totals;
      small = is_small T W pass.level pass.len (known_of m) o ready;
    }

pub returns-in_ok-reach-in-Open-clause-ready : goal.returns-in_ok-reach-in-Open-clause-ready
returns-in_ok-reach-in-Open-clause-ready g c =
    let m = g.E.Engine.meaning c.args.engine.now in
    let words = c.args.dictionary.now in
    let T = c.args.table.now in
    let W = words in
    let pass = c.args.pass in
    let o = c.in-Open.open in
    let p : OpenLevel = record { dots = c.reach.new.self; never = o.never; totals = o.totals } in
    let ready : IsOpenAt T W pass.level pass.len (known_of m) o = subst (IsReady T W pass.level pass.len (known_of m)) c.in-Open.is c.requires.ready in
    ready_same T W pass.level pass.len (known_of m) o ready p c.in_ok-reach-in-Open.ensures.positions c.in_ok-reach-in-Open.ensures.closed refl refl

pub returns-in_ok-reach-in-Open-clause-counted : goal.returns-in_ok-reach-in-Open-clause-counted
returns-in_ok-reach-in-Open-clause-counted g c = tt

pub returns-in_ok-reach-in-Open-clause-counting : goal.returns-in_ok-reach-in-Open-clause-counting
returns-in_ok-reach-in-Open-clause-counting g c = c.count_open.ensures.counting

pub returns-in_ok-reach-in-Open-clause-numbers : goal.returns-in_ok-reach-in-Open-clause-numbers
returns-in_ok-reach-in-Open-clause-numbers g c =
    let m = g.E.Engine.meaning c.args.engine.now in
    let words = c.args.dictionary.now in
    let T = c.args.table.now in
    let W = words in
    let pass = c.args.pass in
    let o = c.in-Open.open in
    let p : OpenLevel = record { dots = c.reach.new.self; never = o.never; totals = o.totals } in
    let ready : IsOpenAt T W pass.level pass.len (known_of m) o = subst (IsReady T W pass.level pass.len (known_of m)) c.in-Open.is c.requires.ready in
    let numbers : AreNumbersFor words pass.len (λ d s. not (is_closed o.dots d s)) c.args.windows.now.counts.numbers =
    subst (AreNumbersIn words pass.len c.args.windows.now.counts.numbers) c.in-Open.is c.requires.numbers in
    let numbers_now : AreNumbersFor words pass.len (λ d s. not (is_closed c.reach.new.self d s)) c.args.windows.now.counts.numbers =
    numbers_same words pass.len (position_count o.dots) (is_closed o.dots) (is_closed c.reach.new.self) c.args.windows.now.counts.numbers numbers ready.size
    c.in_ok-reach-in-Open.ensures.closed in
    subst (AreNumbersFor words pass.len (λ d s. not (is_closed c.reach.new.self d s))) (sym (c.count_open.ensures.numbers ∙ c.begin.ensures.numbers)) numbers_now

pub returns-in_ok-reach-in-Open-clause-listed : goal.returns-in_ok-reach-in-Open-clause-listed
returns-in_ok-reach-in-Open-clause-listed g c = c.in_ok-reach-in-Open.ensures.reached

pub count_each_word-requires-clause-counting : goal.count_each_word-requires-clause-counting
count_each_word-requires-clause-counting g c = subst (λ (xs : List ℕ). AreCounting xs c.begin.new.self) c.all_signs.ensures c.in_ok-begin.ensures.counting

pub count_each_word-requires-clause-starts : goal.count_each_word-requires-clause-starts
count_each_word-requires-clause-starts g c =
    subst (AreNumbersFor c.args.dictionary.now c.args.pass.len (λ d s. true)) (sym c.begin.ensures.numbers)
    (subst (AreNumbersIn c.args.dictionary.now c.args.pass.len c.args.windows.now.counts.numbers) c.in-EachWord.is c.requires.numbers)

pub count_each_word-requires-clause-fresh : goal.count_each_word-requires-clause-fresh
count_each_word-requires-clause-fresh g c =
    subst (λ (xs : List ℕ). counts_in xs c.begin.new.self ≡ []) c.all_signs.ensures c.in_ok-begin.ensures.none

pub count_each_word-requires-clause-begun : goal.count_each_word-requires-clause-begun
count_each_word-requires-clause-begun g c = c.requires.begun

pub count_each_word-requires-clause-ready : goal.count_each_word-requires-clause-ready
count_each_word-requires-clause-ready g c =
    subst (IsReady c.args.table.now c.args.dictionary.now c.args.pass.level c.args.pass.len (known_of (g.E.Engine.meaning c.args.engine.now))) c.in-EachWord.is c.requires.ready
