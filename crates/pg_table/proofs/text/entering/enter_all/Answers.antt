use Rattle.std.proofs.Common.{◌≡◌, ℕ, ap, sym, subst, ◌∙◌}
use Rattle.pg_patterns.specs.Inside.PatternMaps.{SignsUpTo}
use Rattle.pg_cells.specs.Inside.families.Root.{root_alone}
use Rattle.pg_cells.specs.Inside.linked.ValuedFamilies.{ValuedFamilies}
use Rattle.pg_table.specs.Inside.text.PackedTrie.{IsEntered}
use Rattle.pg_table.proofs.text.entering.enter_all.Goals as goal

signs_of : (h : ValuedFamilies ℕ) (n : ℕ) → h ≡ root_alone n 0 → h.signs ≡ n
signs_of h n is = ap (λ (g : ValuedFamilies ℕ). g.signs) is

pub enter_strings-requires-clause-known : goal.enter_strings-requires-clause-known
enter_strings-requires-clause-known c = subst (λ n. SignsUpTo n c.args.patterns.now) (sym (signs_of c.in_ok-cells.cells c.args.signs c.in_ok-cells.ensures.held)) c.requires.known

pub enter_strings-requires-clause-cells : goal.enter_strings-requires-clause-cells
enter_strings-requires-clause-cells c = c.in_ok-cells.ensures.held ∙ ap (λ n. root_alone n 0) (sym (signs_of c.in_ok-cells.cells c.args.signs c.in_ok-cells.ensures.held))

pub enter_strings-requires-clause-held : goal.enter_strings-requires-clause-held
enter_strings-requires-clause-held c = c.in_ok-cells.ensures.kept

pub enter_strings-requires-clause-outputs : goal.enter_strings-requires-clause-outputs
enter_strings-requires-clause-outputs c = c.new-outputs.ensures.empty

pub enter_strings-requires-clause-one_head : goal.enter_strings-requires-clause-one_head
enter_strings-requires-clause-one_head c = c.new-outputs.ensures.one_head

pub returns : goal.returns
returns c = subst (λ n. IsEntered n c.args.patterns.now c.enter_strings.new.cells c.enter_strings.new.outputs)
    (signs_of c.in_ok-cells.cells c.args.signs c.in_ok-cells.ensures.held) c.in_ok-enter_strings.ensures
