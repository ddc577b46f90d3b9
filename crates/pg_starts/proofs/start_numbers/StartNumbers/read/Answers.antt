use Rattle.std.proofs.Common.{◌<◌, ◌+◌, ◌-◌, ℕ, List, length, take, drop, sym, subst, ◌∙◌, arith}
use Rattle.std.proofs.lemmas.Grind.{get_or_default_zero}
use Rattle.pg_types.specs.Inside.counting.NumberedWindows.{HasNumber}
use Rattle.pg_starts.specs.Inside.Codes.{digits}
use Rattle.pg_starts.specs.Inside.Known.{radix_of, windows_of}
use Rattle.pg_starts.proofs.Numbering.{coded_has, kept_count, kept_has_at}
use Rattle.pg_starts.proofs.start_numbers.StartNumbers.read.Goals as goal

pub decode-requires-clause-signs : goal.decode-requires-clause-signs
decode-requires-clause-signs c =
    let n = c.args.self.now in
    c.requires.signs (digits (radix_of n) n.len c.args.number) (coded_has c.args.signs.now n c.args.number c.if-self.true c.requires.number)

pub returns-then-self : goal.returns-then-self
returns-then-self c =
    let n = c.args.self.now in
    subst (λ (u : List ℕ). HasNumber (windows_of c.args.signs.now n) u c.args.number) (sym c.decode.ensures)
    (coded_has c.args.signs.now n c.args.number c.if-self.true c.requires.number)

pub set-requires-clause-signs : goal.set-requires-clause-signs
set-requires-clause-signs c =
    let n = c.args.self.now in
    let k : ℕ = c.index.result.now in
    let low : c.args.number < length n.firsts.items = omega (arith, c.requires.number, kept_count n c.if-self.false) in
    c.requires.signs (take (k + n.len - k) (drop k c.args.signs.now))
    (kept_has_at c.args.signs.now n c.args.number c.if-self.false c.requires.number k (c.index.ensures ∙ get_or_default_zero n.firsts.items c.args.number k low))

pub returns : goal.returns
returns c =
    let n = c.args.self.now in
    let k : ℕ = c.index.result.now in
    let low : c.args.number < length n.firsts.items = omega (arith, c.requires.number, kept_count n c.if-self.false) in
    subst (λ (u : List ℕ). HasNumber (windows_of c.args.signs.now n) u c.args.number) (sym c.set.ensures)
    (kept_has_at c.args.signs.now n c.args.number c.if-self.false c.requires.number k (c.index.ensures ∙ get_or_default_zero n.firsts.items c.args.number k low))
