use Rattle.std.proofs.Common.{ℕ, List, length, nat_eq, ap, ◌∙◌}
use Rattle.std.proofs.lemmas.Bool.{eq-eqb}
use Rattle.pg_plain.specs.Inside.Strings.{has_signs_up_to}
use Rattle.pg_types.proofs.TableSigns.{are_signs}
use Rattle.pg_plain.proofs.Known.{up_to_told}
use Rattle.pg_plain.proofs.engine.PlainEngineEngine.count.Goals as goal

pub set-requires-clause-signs : goal.set-requires-clause-signs
set-requires-clause-signs c = are_signs c.args.self.now.signs c.args.window.now c.requires.signs

pub invariant_of-self-clause-windows : goal.invariant_of-self-clause-windows
invariant_of-self-clause-windows c =
    c.add.ensures.windows (λ (u : List ℕ). nat_eq (length u) c.args.self.now.pass.len)
    (eq-eqb (length c.set.new.self) c.args.self.now.pass.len (ap (λ x. length x) c.set.ensures ∙ c.requires.len)) c.args.self.now.windows

pub invariant_of-self-clause-counts_known : goal.invariant_of-self-clause-counts_known
invariant_of-self-clause-counts_known c =
    c.add.ensures.windows (has_signs_up_to c.args.self.now.signs)
    (ap (has_signs_up_to c.args.self.now.signs) c.set.ensures ∙ up_to_told c.args.self.now.signs c.args.window.now c.requires.signs) c.args.self.now.counts_known
