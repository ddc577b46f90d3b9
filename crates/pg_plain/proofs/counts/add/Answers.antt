use Rattle.std.proofs.Common.{◌≡◌, ℕ, true, false, List, is_some, unwrap_or, ap, sym, subst, ◌∙◌}
use Rattle.std.specs.List.{list_all}
use Rattle.pg_types.specs.Inside.counting.Counts.{Counts, AreSmall, sums_of, with_weight}
use Rattle.pg_plain.proofs.Counted.{added, windows_put}
use Rattle.pg_plain.proofs.counts.add.Goals as goal

pub add_weight-requires : goal.add_weight-requires
add_weight-requires c =
    let held : c.unwrap_or-sums.result ≡ sums_of c.args.counts.now.entries c.args.window = c.unwrap_or-sums.ensures ∙ ap (λ o. unwrap_or o (0, 0)) (c.copied.ensures ∙ c.get.ensures.value) in
    subst (λ sums. AreSmall (with_weight sums c.args.good c.args.weight)) (sym held) c.requires

pub returns-in_err-insert-clause-there : goal.returns-in_err-insert-clause-there
returns-in_err-insert-clause-there c = λ there.
    absurd (let wrong : true ≡ false = sym there ∙ ap is_some c.in_err-insert.ensures.absent in cc)

pub returns-clause-ok : goal.returns-clause-ok
returns-clause-ok c =
    let held : c.unwrap_or-sums.result ≡ sums_of c.args.counts.now.entries c.args.window = c.unwrap_or-sums.ensures ∙ ap (λ o. unwrap_or o (0, 0)) (c.copied.ensures ∙ c.get.ensures.value) in
    added c.args.counts.now.entries c.insert.new.self.entries c.args.window c.args.good c.args.weight c.add_weight.result
    (c.add_weight.ensures ∙ ap (λ sums. with_weight sums c.args.good c.args.weight) held) c.in_ok-insert.ensures.entries

pub returns-clause-windows : goal.returns-clause-windows
returns-clause-windows c = λ test new all.
    let held : c.unwrap_or-sums.result ≡ sums_of c.args.counts.now.entries c.args.window = c.unwrap_or-sums.ensures ∙ ap (λ o. unwrap_or o (0, 0)) (c.copied.ensures ∙ c.get.ensures.value) in
    let ok = added c.args.counts.now.entries c.insert.new.self.entries c.args.window c.args.good c.args.weight c.add_weight.result
    (c.add_weight.ensures ∙ ap (λ sums. with_weight sums c.args.good c.args.weight) held) c.in_ok-insert.ensures.entries in
    subst (λ (x : Counts). list_all (λ (e : List ℕ × (ℕ × ℕ)). test e.0) x ≡ true) (sym ok) (windows_put test c.args.counts.now.entries c.args.window _ new all)
