use Rattle.std.proofs.Common.{rules, ◌≡◌, length, ap, ◌∙◌, subst, arith}
use Rattle.pg_starts.specs.Inside.Starts.{has_window, part_behind}
use Rattle.pg_starts.specs.Inside.Orders.{AreKeys}
use Rattle.pg_starts.specs.Inside.Sets.{AreOfSets}
use Rattle.pg_starts.proofs.Orders.{part_low}
use Rattle.pg_starts.proofs.Ranks.{written_whole}
use Rattle.pg_starts.proofs.SetLaws.{few_from, keys_from_sets}
use Rattle.pg_starts.proofs.Tests.{window_ends}
use Rattle.pg_starts.proofs.keys.keys_of.Goals as goal

pub returns-clause-keys : goal.returns-clause-keys
returns-clause-keys c =
    let long : length c.mark.new.sets ≡ c.in_ok-sets.sets.len = search rules in
    let whole : c.deref.result.now ≡ c.mark.new.sets =
    c.deref.ensures.value ∙ written_whole c.mark.new.sets c.in_ok-sets.sets.items c.in_ok-sets.sets.len long in
    let count : length c.deref.result.now ≡ c.args.count = ap length whole ∙ long ∙ search rules in
    keys_from_sets (has_window c.args.signs.now c.args.starts.now c.args.len) (part_behind c.args.signs.now c.args.at c.args.part) c.args.numbers.now c.args.count
    c.mark.new.sets c.in_ok-keys.keys.items
    (part_low c.args.signs.now c.args.at c.args.part c.type_inv.signs) c.requires.below c.mark.ensures
    (subst (λ l. AreOfSets l c.args.count c.in_ok-keys.keys.items) whole
    (subst (λ n. AreOfSets c.deref.result.now n c.in_ok-keys.keys.items) count c.in_ok-keys.ensures))

pub returns-clause-few : goal.returns-clause-few
returns-clause-few c =
    let keys : AreKeys (has_window c.args.signs.now c.args.starts.now c.args.len) (part_behind c.args.signs.now c.args.at c.args.part) c.args.numbers.now c.in_ok-keys.keys.items =
    let long : length c.mark.new.sets ≡ c.in_ok-sets.sets.len = search rules in
    let whole : c.deref.result.now ≡ c.mark.new.sets =
    c.deref.ensures.value ∙ written_whole c.mark.new.sets c.in_ok-sets.sets.items c.in_ok-sets.sets.len long in
    let count : length c.deref.result.now ≡ c.args.count = ap length whole ∙ long ∙ search rules in
    keys_from_sets (has_window c.args.signs.now c.args.starts.now c.args.len) (part_behind c.args.signs.now c.args.at c.args.part) c.args.numbers.now c.args.count
    c.mark.new.sets c.in_ok-keys.keys.items
    (part_low c.args.signs.now c.args.at c.args.part c.type_inv.signs) c.requires.below c.mark.ensures
    (subst (λ l. AreOfSets l c.args.count c.in_ok-keys.keys.items) whole
    (subst (λ n. AreOfSets c.deref.result.now n c.in_ok-keys.keys.items) count c.in_ok-keys.ensures)) in
    few_from (has_window c.args.signs.now c.args.starts.now c.args.len) (part_behind c.args.signs.now c.args.at c.args.part) c.args.numbers.now (length c.args.signs.now) c.in_ok-keys.keys.items
    (λ i live. let ends = window_ends c.args.signs.now c.args.starts.now c.args.len i live in omega (arith, ends, c.requires.at)) keys
