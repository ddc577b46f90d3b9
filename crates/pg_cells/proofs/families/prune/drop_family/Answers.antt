use Rattle.std.proofs.Common.{◌≡◌, ◌≢◌, [], inl, inr, refl, subst, MatchBool, arith}
use Rattle.pg_cells.specs.Inside.families.Layouts.{signs_at_base}
use Rattle.pg_cells.proofs.families.prune.drop_family.Goals as goal

pub returns-then-is_empty-clause-prunes : goal.returns-then-is_empty-clause-prunes
returns-then-is_empty-clause-prunes g c n told =
    let none = subst (λ b. MatchBool b (signs_at_base n c.args.store.now c.args.base ≡ []) (signs_at_base n c.args.store.now c.args.base ≢ [])) c.if-is_empty.true told in
    inr (c.set_child.new.self, none, c.set_child.ensures.sets, c.set_base.ensures.sets)

pub returns-else-is_empty-clause-prunes : goal.returns-else-is_empty-clause-prunes
returns-else-is_empty-clause-prunes g c n told =
    let some = subst (λ b. MatchBool b (signs_at_base n c.args.store.now c.args.base ≡ []) (signs_at_base n c.args.store.now c.args.base ≢ [])) c.if-is_empty.false told in
    inl (some, refl)

pub returns-then-is_empty-clause-row : goal.returns-then-is_empty-clause-row
returns-then-is_empty-clause-row g c = c.set_base.ensures.row

pub returns-else-is_empty-clause-row : goal.returns-else-is_empty-clause-row
returns-else-is_empty-clause-row g c = c.requires.row

pub set_child-requires-clause-taken : goal.set_child-requires-clause-taken
set_child-requires-clause-taken g c = c.requires.parent

pub set_child-requires-clause-child : goal.set_child-requires-clause-child
set_child-requires-clause-child g c = let base = c.requires.base in omega arith

pub set_base-requires : goal.set_base-requires
set_base-requires g c = let base = c.requires.base in let size = c.set_child.ensures.sets.elsewhere.size in omega arith
