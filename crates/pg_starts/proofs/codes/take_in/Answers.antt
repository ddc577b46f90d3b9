use Rattle.std.proofs.Common.{◌≡◌, ◌+◌, ◌*◌, ◌<◌, ◌≤◌, ◌^◌, ℕ, List, get_or, sym, ◌∙◌, arith}
use Rattle.pg_starts.specs.Inside.Codes.{code_at, code_count}
use Rattle.pg_starts.proofs.CodeLaws.{code_low, code_more}
use Rattle.pg_starts.proofs.codes.take_in.Goals as goal

-- a code with a digit more fits
digit_fits : (signs : List ℕ) (greatest start at code radix : ℕ) → ((k : ℕ) → get_or signs k 0 ≤ greatest) → code_count (greatest + 1) (at + 1) ≤ 2 ^ 32
    → code ≡ code_at signs (greatest + 1) start at → radix ≡ greatest + 1 → code * radix + get_or signs (start + at) 0 < 2 ^ 32
digit_fits signs greatest start at code radix small few is same =
    let low = code_low signs (greatest + 1) (λ k. omega (arith, small k)) start (at + 1) in
    let whole : code * radix + get_or signs (start + at) 0 ≡ code_at signs (greatest + 1) start (at + 1) =
    (λ i. is i * same i + get_or signs (start + at) 0) ∙ sym (code_more signs (greatest + 1) start at) in
    omega (arith, low, whole, few)

pub overflow_mul-codes : goal.overflow_mul-codes
overflow_mul-codes c =
    let start = c.starts.start in
    let fits = digit_fits c.args.signs.now c.args.greatest start c.args.at (get_or c.starts.codes start 0) (c.from-radix.result + 1) c.requires.greatest c.requires.few
    (c.starts.invariant.left start (omega arith) ∙ c.requires.codes start (omega (arith, c.starts-test.true, c.saturating_sub-end.ensures))) (omega (arith, c.from-radix.ensures)) in
    record { fits = omega (arith, fits) }

pub overflow_add-codes : goal.overflow_add-codes
overflow_add-codes c =
    let start = c.starts.start in
    let fits = digit_fits c.args.signs.now c.args.greatest start c.args.at (get_or c.starts.codes start 0) (c.from-radix.result + 1) c.requires.greatest c.requires.few
    (c.starts.invariant.left start (omega arith) ∙ c.requires.codes start (omega (arith, c.starts-test.true, c.saturating_sub-end.ensures))) (omega (arith, c.from-radix.ensures)) in
    record { fits = omega (arith, fits, c.from.ensures) }
