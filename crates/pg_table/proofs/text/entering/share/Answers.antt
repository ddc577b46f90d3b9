use Rattle.std.proofs.Common.{◌≡◌, ℕ, ◌+◌, ◌-◌, ◌∷◌, List, map, refl, sym, ap, subst, ◌∙◌, arith}
use Rattle.pg_outputs.proofs.ListLaws.{list_of-zero}
use Rattle.pg_outputs.specs.Inside.Heads.{Grows}
use Rattle.pg_outputs.specs.declared.records.Record.{Record}
use Rattle.pg_table.specs.Inside.text.PackedTrie.{dot_values}
use Rattle.pg_table.specs.Inside.text.Sharing.{Lists, Shares, value_and_dot, with_ends}
use Rattle.pg_table.proofs.text.Recorded.{ends_more}
use Rattle.pg_table.proofs.text.Sharing.{shares_more, pairs_none, pairs_more}
use Rattle.pg_table.proofs.text.entering.share.Goals as goal

pub loop-i-init : goal.loop-i-init
loop-i-init c = record {
  low = c.requires.order;
  high = omega arith;
  inside = omega arith;
  list = list_of-zero c.args.outputs.now ∙ ap (map value_and_dot) (sym (pairs_none c.args.patterns.now c.args.end));
  shares = λ lists shares. subst (λ l. Shares c.args.outputs.now (with_ends lists l)) (sym (pairs_none c.args.patterns.now c.args.end)) shares;
  grows = record { longer = omega arith; same = λ h le. refl };
}

pub loop-i-preserved : goal.loop-i-preserved
loop-i-preserved c =
    let P = c.args.patterns.now in
    let i : ℕ = c.loop-i.i - 1 in
    let before : i + 1 ≡ c.loop-i.i = omega arith in
    let x : ℕ × ℕ = (c.entry-entry.result.dot, c.entry-entry.result.value) in
    let rest : List (ℕ × ℕ) = dot_values P c.loop-i.i c.args.end in
    let more : dot_values P i c.args.end ≡ x ∷ rest =
    pairs_more P i c.args.end ((c.entry-entry.result.signs.now, c.entry-entry.result.dot), c.entry-entry.result.value) c.entry-entry.ensures.value (omega (arith, c.loop-i.invariant.high))
    ∙ ap (λ n. x ∷ dot_values P n c.args.end) before in
    record {
      low = omega (arith, c.loop-i.invariant.low);
      high = omega (arith, c.loop-i.invariant.high);
      inside = c.in_ok-head.ensures.head.1;
      list = c.in_ok-head.ensures.list ∙ ap (λ m. value_and_dot x ∷ m) c.loop-i.invariant.list ∙ ap (map value_and_dot) (sym more);
      shares = λ lists shares.
          subst (λ ls. Shares c.cons.new.self ls) (sym (ap (with_ends lists) more ∙ ends_more lists x rest))
          (shares_more c.loop-i.outputs c.cons.new.self (with_ends lists rest) x rest c.loop-i.head (c.loop-i.invariant.shares lists shares) c.loop-i.invariant.inside c.loop-i.invariant.list (record {
            there = λ j at. (c.in_ok-head.ensures.there j at).1;
            added = λ lacks. (c.in_ok-head.ensures.added lacks).1;
            one_head = c.in_ok-head.ensures.one_head;
            shared = c.in_ok-head.ensures.shared;
          }));
      grows = record {
        longer = omega (arith, c.loop-i.invariant.grows.longer, c.in_ok-head.ensures.grows.longer);
        same = λ h le. c.in_ok-head.ensures.grows.same h (omega (arith, c.loop-i.invariant.grows.longer)) ∙ c.loop-i.invariant.grows.same h le;
      };
    }

pub returns-in_err-head-clause-grows : goal.returns-in_err-head-clause-grows
returns-in_err-head-clause-grows c = subst (λ (r : List Record). Grows c.args.outputs.now r) (sym c.in_err-head.ensures.err) c.loop-i.invariant.grows

pub returns-clause-shares : goal.returns-clause-shares
returns-clause-shares c =
    let same : c.loop-i.i ≡ c.args.at = omega (arith, c.loop-i.invariant.low) in
    subst (λ (n : ℕ). (lists : Lists) → Shares c.args.outputs.now lists → Shares c.loop-i.outputs (with_ends lists (dot_values c.args.patterns.now n c.args.end))) same c.loop-i.invariant.shares

pub returns-clause-list : goal.returns-clause-list
returns-clause-list c =
    let same : c.loop-i.i ≡ c.args.at = omega (arith, c.loop-i.invariant.low) in
    c.loop-i.invariant.list ∙ ap (λ (n : ℕ). map value_and_dot (dot_values c.args.patterns.now n c.args.end)) same
