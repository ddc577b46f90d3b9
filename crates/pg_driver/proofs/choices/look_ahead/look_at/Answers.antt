use Rattle.std.proofs.Common.{◌≡◌, ◌<◌, List, [], ◌∷◌, ◌++◌, length, slice_get, get_or, None, Some, sym, ap, subst, ◌∙◌, arith}
use Rattle.std.proofs.lemmas.List.{length-append}
use Rattle.std.proofs.lemmas.Option.{slice_get-get_or}
use Rattle.pg_starts.specs.Inside.StartCountings.{windows_in}
use Rattle.pg_starts.proofs.Numbering.{windows_size}
use Rattle.pg_driver.specs.declared.choices.look_ahead.SeenCandidate.{SeenCandidate}
use Rattle.pg_driver.proofs.SeenCandidates.{EachSeen, seen_more}
use Rattle.pg_driver.proofs.choices.look_ahead.look_at.Goals as goal

pub numbers-init : goal.numbers-init
numbers-init c =
    let none : c.clear.new.self.items ≡ [] = c.clear.ensures.items in
    record {
      size = ap (λ (xs : List SeenCandidate). length xs) none;
      each = subst (λ (xs : List SeenCandidate). EachSeen c.args.fates.now (windows_in c.args.signs.now c.args.counts.now) c.args.numbers.now xs) (sym none)
          (λ k n x at there. absurd (let no : None ≡ Some x = there in cc));
    }

pub numbers-preserved : goal.numbers-preserved
numbers-preserved c =
    let inv = c.numbers.invariant in
    let ws = (windows_in c.args.signs.now c.args.counts.now) in
    let n = get_or c.args.numbers.now c.numbers.number-index 0 in
    let at : slice_get c.args.numbers.now c.numbers.number-index ≡ Some n = slice_get-get_or c.args.numbers.now c.numbers.number-index 0 c.numbers-test.true in
    let lt : n < length ws = c.requires.there c.numbers.number-index n at in
    let e : SeenCandidate = record { fate = get_or c.args.fates.now n _; window = c.read.new.window } in
    let items : c.push.new.self.items ≡ c.numbers.seen.items ++ e ∷ [] = c.in_ok-push.ensures.items in
    record {
      size = (let size = inv.size in omega (arith, ap (λ (xs : List SeenCandidate). length xs) items, length-append c.numbers.seen.items (e ∷ [])));
      each =
          subst (λ (xs : List SeenCandidate). EachSeen c.args.fates.now ws c.args.numbers.now xs) (sym items)
          (seen_more c.args.fates.now ws c.args.numbers.now c.numbers.seen.items e n (ap (slice_get c.args.numbers.now) inv.size ∙ at)
          (record { fate = slice_get-get_or c.args.fates.now n _ (let size = c.requires.fates in omega arith); window = c.read.ensures }) inv.each);
    }

pub returns-clause-size : goal.returns-clause-size
returns-clause-size c = (let size = c.numbers.invariant.size in let end = c.numbers.auto.number-index-end in let past = c.numbers-test.false in omega arith)

pub returns-clause-each : goal.returns-clause-each
returns-clause-each c = c.numbers.invariant.each

pub bounds-fates-number : goal.bounds-fates-number
bounds-fates-number c =
    let k = c.numbers.number-index in
    let lt = c.requires.there k (get_or c.args.numbers.now k 0) (slice_get-get_or c.args.numbers.now k 0 c.numbers-test.true) in
    omega (arith, lt, c.requires.fates)

pub read-requires-clause-counting : goal.read-requires-clause-counting
read-requires-clause-counting c = c.requires.counting

pub read-requires-clause-number : goal.read-requires-clause-number
read-requires-clause-number c =
    let k = c.numbers.number-index in
    let lt = c.requires.there k (get_or c.args.numbers.now k 0) (slice_get-get_or c.args.numbers.now k 0 c.numbers-test.true) in
    omega (arith, lt, windows_size c.args.signs.now c.args.counts.now.numbers)

pub read-requires-clause-signs : goal.read-requires-clause-signs
read-requires-clause-signs c = λ u has.
    let k = c.numbers.number-index in
    c.requires.cursors k (get_or c.args.numbers.now k 0) u (slice_get-get_or c.args.numbers.now k 0 c.numbers-test.true) has
