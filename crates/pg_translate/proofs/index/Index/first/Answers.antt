use Rattle.std.proofs.Common.{◌≡◌, ◌-◌, ◌<◌, ◌≤◌, ℕ, length, List, sym, subst, arith}
use Rattle.pg_translate.proofs.Firsts.{first_sizes}
use Rattle.pg_translate.proofs.index.Index.first.Goals as goal

pub returns-clause-size : goal.returns-clause-size
returns-clause-size c =
    let letters : length c.args.self.now.firsts.items ≡ _ = c.requires.sound.letters in
    subst (λ (t : List ℕ). (0 < length t) × (length t ≤ 8)) (sym c.as_bytes.ensures) (first_sizes c.args.self.now (c.args.sign - 2) c.index.result.now c.requires.sound (omega arith) c.index.ensures)
