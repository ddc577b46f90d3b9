use Rattle.std.proofs.Common.{◌≡◌, ℕ, length, get_or, None, Some, sym, Option, ap, ◌∙◌}
use Rattle.std.proofs.lemmas.List.{length-replicate}
use Rattle.std.proofs.lemmas.Result.{on_ok_weaker}
use Rattle.pg_starts.specs.Inside.CountsByNumber.{Tallied, counts_by}
use Rattle.pg_starts.specs.Inside.Tallies.{tallied}
use Rattle.pg_starts.specs.Inside.Known.{windows_of}
use Rattle.pg_starts.proofs.Tallying.{none_counted, none_at}
use Rattle.pg_starts.proofs.start_counts.StartCounts.begin.Goals as goal

pub returns-clause-counting : goal.returns-clause-counting
returns-clause-counting c =
    on_ok_weaker c.begin.result
    (λ is. record {
      known = c.requires.known;
      some = c.requires.len;
      size = ap (λ (ts : Tallied). length ts) is ∙ length-replicate {A = Option (ℕ × ℕ)} c.count.result None ∙ c.count.ensures;
      from = λ k s at.
          let none : get_or (tallied c.begin.new.self) k None ≡ None = ap (λ (ts : Tallied). get_or ts k None) is ∙ none_at c.count.result k in
          absurd (let wrong : None ≡ Some s = sym none ∙ at in cc);
    }) c.begin.ensures

pub returns-clause-none : goal.returns-clause-none
returns-clause-none c =
    on_ok_weaker c.begin.result
    (λ is. ap (counts_by (windows_of c.args.signs.now c.args.self.now.numbers)) is ∙ none_counted (windows_of c.args.signs.now c.args.self.now.numbers) c.count.result)
    c.begin.ensures
