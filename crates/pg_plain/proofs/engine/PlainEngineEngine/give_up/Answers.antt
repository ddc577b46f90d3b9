use Rattle.std.proofs.Common.{◌≡◌, ℕ, true, List, length, sym, ap, subst, ◌∙◌}
use Rattle.pg_plain.specs.Inside.Strings.{is_string, has_signs_up_to}
use Rattle.pg_plain.proofs.Entered.{window_string}
use Rattle.pg_plain.proofs.Known.{enters_len, enters_signs}
use Rattle.pg_plain.proofs.engine.PlainEngineEngine.give_up.Goals as goal

pub invariant_of-self-clause-strings : goal.invariant_of-self-clause-strings
invariant_of-self-clause-strings c =
    let size : length c.signs-signs.result.now ≡ c.args.self.now.pass.len = ap (λ x. length x) c.signs-signs.ensures.value
    ∙ enters_len c.args.self.now.counts.entries c.args.self.now.signs c.args.at.now c.args.self.now.pass.len c.requires c.args.self.now.windows in (
      c.put_in.ensures.sorted,
      c.put_in.ensures.dotted is_string c.args.self.now.strings.1
          (subst (λ k. is_string k ≡ true) (sym c.new-dotted.ensures) (window_string c.signs-signs.result.now c.args.self.now.pass.dot c.args.self.now.pass.len
          size c.args.self.now.len.0 c.args.self.now.len.1)),
    )

pub invariant_of-self-clause-hopeless_known : goal.invariant_of-self-clause-hopeless_known
invariant_of-self-clause-hopeless_known c =
    c.put_in.ensures.dotted (λ k. has_signs_up_to c.args.self.now.signs k.0) c.args.self.now.hopeless_known
    (ap (λ (k : List ℕ × ℕ). has_signs_up_to c.args.self.now.signs k.0) c.new-dotted.ensures ∙ ap (has_signs_up_to c.args.self.now.signs) c.signs-signs.ensures.value
    ∙ enters_signs c.args.self.now.counts.entries c.args.self.now.signs c.args.at.now c.args.self.now.pass.len c.requires c.args.self.now.counts_known)
