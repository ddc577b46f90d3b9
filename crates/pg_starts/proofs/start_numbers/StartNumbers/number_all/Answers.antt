use Rattle.std.proofs.Common.{◌≡◌, false, sym, subst, ◌∙◌, arith}
use Rattle.std.proofs.lemmas.Result.{on_ok_weaker}
use Rattle.pg_dots.specs.declared.start_set.StartSet.{StartSet}
use Rattle.pg_dots.specs.Inside.Starts.{is_left_out}
use Rattle.pg_starts.proofs.Numbering.{coded_numbered, start_numbered}
use Rattle.pg_starts.proofs.start_numbers.StartNumbers.number_all.Goals as goal

pub returns-then-size-self-clause-done : goal.returns-then-size-self-clause-done
returns-then-size-self-clause-done c =
    let n = c.take_codes.new.self in
    on_ok_weaker c.take_codes.result
    (λ done.
    let len : n.len ≡ c.args.len = done ∙ c.from-size.ensures in (
      len,
      λ i ends. coded_numbered c.args.signs.now n i (omega (arith, done, c.take_codes.ensures.coded, c.if-size-self.true)) (omega (arith, ends, len)),
    ))
    c.take_codes.ensures.done

pub returns-clause-done : goal.returns-clause-done
returns-clause-done c =
    let n = c.number_next.new.self in
    on_ok_weaker c.number_next.result
    (λ done.
    let len : n.len ≡ c.args.len = done.0 ∙ c.from-size.ensures in (
      len,
      λ i ends. start_numbered c.args.signs.now n i
          (subst (λ (s : StartSet). is_left_out s i ≡ false) (sym done.1) (c.in_ok-all.ensures.all i)) (omega (arith, ends, len)),
    ))
    c.number_next.ensures.done
