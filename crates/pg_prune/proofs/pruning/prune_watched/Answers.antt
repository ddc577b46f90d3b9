use Rattle.std.proofs.Common.{◌≤◌, ◌+◌, refl, sym, subst}
use Rattle.std.proofs.lemmas.Result.{IfOk-weaker}
use Rattle.std.specs.List.{All}
use Rattle.pg_translate.specs.Alphabets.{letters_of}
use Rattle.pg_prune.specs.Prunes.{Pruning}
use Rattle.pg_prune.specs.Inside.Prunings.{IsPruning}
use Rattle.pg_prune.proofs.pruning.PrunedLaws.{pruned_all, pruned_part, pruned_alike, pruned_least, pruned_needs}
use Rattle.pg_prune.proofs.pruning.prune_watched.Goals as goal

pub returns : goal.returns
returns g c =
    let m = c.args.table.now in
    let ws = c.args.dictionary.now in
    let P = c.args.patterns.now in
    let n = letters_of c.args.table.now + 1 in
    IfOk-weaker c.find.result _ _ (λ (found : Pruning) is. subst (IsPruning m n ws P) (sym is) (record {
      pruned = refl;
      alike = pruned_alike m ws P;
      least = pruned_least m ws P;
      needs = pruned_needs m ws P;
      part = pruned_part m ws P;
      known = pruned_all m ws P (λ e. All (λ s. s ≤ n) e.0.0) c.requires.known;
    })) c.find.ensures
