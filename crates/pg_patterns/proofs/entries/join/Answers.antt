use Rattle.std.proofs.Common.{rules}
use Rattle.std.proofs.lemmas.Fn.{dedup_same}
use Rattle.std.proofs.lemmas.List.Sorted.{answers_always}
use Rattle.std.specs.Ordering.{is_lt}
use Rattle.pg_patterns.specs.Inside.DottedOrder.{same_dotted}
use Rattle.pg_patterns.specs.Inside.Search.{entry_cmp}
use Rattle.pg_patterns.proofs.Kept.{entry_ranks, joined_by_sort}
use Rattle.pg_patterns.proofs.entries.join.Goals as goal

pub returns : goal.returns
returns c =
    joined_by_sort c.args.entries.now.items c.sort_unstable_by.new.self.items c.dedup_by.new.self.items c.requires c.sort_unstable_by.ensures.permutation
    (c.sort_unstable_by.ensures.sorted (λ e f. is_lt (entry_cmp e f)) entry_ranks (answers_always _ _ _ (λ f a r f' k. search rules)))
    (dedup_same _ (λ f g. same_dotted f.0 g.0) _ (λ x y b f' x' y' k. search rules) _ _ c.dedup_by.ensures.filtered)
