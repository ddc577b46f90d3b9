use Rattle.std.proofs.Common.{◌≡◌, ℕ, ◌+◌, slice_get, ap, sym, subst, ◌∙◌, arith}
use Rattle.std.proofs.lemmas.Result.{on_ok_weaker}
use Rattle.pg_types.specs.Inside.counting.NumberedWindows.{AreInOrder}
use Rattle.pg_starts.specs.declared.start_counts.StartCounts.{StartCounts}
use Rattle.pg_starts.specs.Inside.Tallies.{tallied}
use Rattle.pg_starts.specs.Inside.CountsByNumber.{counted_from}
use Rattle.pg_starts.specs.Inside.StartCountings.{AreCounting, counts_in, windows_in}
use Rattle.pg_starts.proofs.Numbering.{few_numbers, windows_size}
use Rattle.pg_starts.proofs.Tallying.{in_order}
use Rattle.pg_driver.proofs.pass_windows.PassWindows.decide.Goals as goal

pub returns-clause-order : goal.returns-clause-order
returns-clause-order c =
    let signs = c.args.signs.now in
    let k = c.args.self.now.counts in
    let zero : (j : ℕ) → j ≡ 0 + j = λ j. omega arith in
    on_ok_weaker c.decide_all.result
    (λ is. subst (AreInOrder (windows_in signs k) (counts_in signs k)) (sym (is ∙ ap (λ (x : StartCounts). counted_from 0 (tallied x.tallies)) c.forget.ensures.counts))
    (in_order (windows_in signs k) 0 (windows_in signs k) (tallied k.tallies) (λ j. ap (slice_get (windows_in signs k)) (zero j))
    (c.requires.counting.size ∙ sym (windows_size signs k.numbers))))
    c.decide_all.ensures.order

pub returns-clause-few : goal.returns-clause-few
returns-clause-few c =
    let signs = c.args.signs.now in
    let x = c.forget.new.self.counts in
    let counting : AreCounting signs x = subst (AreCounting signs) (sym c.forget.ensures.counts) c.requires.counting in
    on_ok_weaker c.decide_all.result
    (λ fates. let size = fates.size in omega (arith, size, windows_size signs x.numbers, few_numbers signs x.numbers counting.some counting.known, c.requires.few))
    c.decide_all.ensures.fates
