use Rattle.std.proofs.Common.{◌≡◌, ℕ, true, List, length, sym, ap, subst, ◌∙◌}
use Rattle.pg_patterns.specs.Inside.PatternMaps.{is_entry}
use Rattle.pg_plain.specs.Inside.Strings.{has_signs_up_to}
use Rattle.pg_plain.proofs.Entered.{window_entry}
use Rattle.pg_plain.proofs.Known.{enters_len, enters_signs}
use Rattle.pg_plain.proofs.engine.PlainEngineEngine.choose.Goals as goal

pub invariant_of-self-clause-entries : goal.invariant_of-self-clause-entries
invariant_of-self-clause-entries c =
    let size : length c.signs-signs.result.now ≡ c.args.self.now.pass.len = ap (λ x. length x) c.signs-signs.ensures.value
    ∙ enters_len c.args.self.now.counts.entries c.args.self.now.signs c.args.at.now c.args.self.now.pass.len c.requires c.args.self.now.windows in
    c.raise_in.ensures.kept c.args.self.now.entries
    (subst (λ k. is_entry (k, c.args.self.now.pass.level) ≡ true) (sym c.new-dotted.ensures)
    (window_entry c.signs-signs.result.now c.args.self.now.pass.dot c.args.self.now.pass.level c.args.self.now.pass.len size c.signs-signs.ensures.signs
    c.args.self.now.len.0 c.args.self.now.len.1 c.args.self.now.dot c.args.self.now.level.0 c.args.self.now.level.1))

pub invariant_of-self-clause-known : goal.invariant_of-self-clause-known
invariant_of-self-clause-known c =
    c.raise_in.ensures.dotted (λ k. has_signs_up_to c.args.self.now.signs k.0) c.args.self.now.known
    (ap (λ (k : List ℕ × ℕ). has_signs_up_to c.args.self.now.signs k.0) c.new-dotted.ensures ∙ ap (has_signs_up_to c.args.self.now.signs) c.signs-signs.ensures.value
    ∙ enters_signs c.args.self.now.counts.entries c.args.self.now.signs c.args.at.now c.args.self.now.pass.len c.requires c.args.self.now.counts_known)
