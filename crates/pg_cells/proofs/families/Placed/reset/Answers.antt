use Rattle.std.proofs.Common.{[], ◌∷◌, map, ap, ◌∙◌, arith}
use Rattle.std.specs.List.{range_with_len}
use Rattle.pg_types.specs.Placement.{root}
use Rattle.pg_cells.specs.Inside.linked.ValuedFamilies.{ValuedFamilies}
use Rattle.pg_cells.specs.Inside.families.Layouts.{AreKept}
use Rattle.pg_cells.specs.Inside.families.OneTrie.{TrieOfRow, kept_is_only, held_is_kept}
use Rattle.pg_cells.specs.Inside.families.Root.{root_alone, IsRootAlone}
use Rattle.pg_cells.specs.declared.store.member.Member.{Member}
use Rattle.pg_cells.specs.Inside.store.Store.{member_code}
use Rattle.pg_cells.proofs.PlacedSigns.{seen}
use Rattle.pg_cells.proofs.ValuedFamilyLaws.{is_held}
use Rattle.pg_cells.proofs.StringCells.{root_within}
use Rattle.pg_cells.proofs.RootTrie.{root_trie}
use Rattle.pg_cells.proofs.families.Placed.reset.Goals as goal

pub clear-requires-clause-some : goal.clear-requires-clause-some
clear-requires-clause-some g c = omega arith

pub clear-requires-clause-within : goal.clear-requires-clause-within
clear-requires-clause-within g c = let within = root_within c.self.inside.signs c.self.inside.store c.self.inside.layout.0 c.self.invariant.trie c.self.invariant.some in omega arith

pub take_root-requires-clause-empty : goal.take_root-requires-clause-empty
take_root-requires-clause-empty g c = c.clear.ensures.empty c.args.blank

pub take_root-requires-clause-length : goal.take_root-requires-clause-length
take_root-requires-clause-length g c = let size = c.clear.ensures.least in omega arith

pub invariant_of-self-inside : goal.invariant_of-self-inside
invariant_of-self-inside g c = (
  (
    record { families = root c.self.inside.signs; values = map (λ x. (x ∷ [], c.args.blank)) (range_with_len 1 c.self.inside.signs) },
    ∣ root_trie c.args.blank c.self.inside.signs c.take_root.new.store c.set_base.new.self c.self.invariant.some c.take_root.ensures.root_to c.set_base.ensures.sets ∣₁,
  ),
  tt,
)

pub invariant_of-self : goal.invariant_of-self
invariant_of-self g c =
    let trie = root_trie c.args.blank c.self.inside.signs c.take_root.new.store c.set_base.new.self c.self.invariant.some c.take_root.ensures.root_to c.set_base.ensures.sets in
    let all : (d : TrieOfRow c.self.inside.signs c.set_base.new.self) → AreKept c.self.inside.signs c.set_base.new.self d.0 =
    λ d. record {
      row = c.set_base.ensures.row;
      trie = held_is_kept (member_code g.row.V.coded) c.self.inside.signs c.set_base.new.self d _ trie;
      some =
          c.self.invariant.some;
      few = c.self.invariant.few;
    } in
    search all

pub returns : goal.returns
returns g c =
    let trie = root_trie c.args.blank c.self.inside.signs c.take_root.new.store c.set_base.new.self c.self.invariant.some c.take_root.ensures.root_to c.set_base.ensures.sets in
    let all : (d : TrieOfRow c.self.inside.signs c.set_base.new.self) → IsRootAlone c.args.self.now.signs c.args.blank (seen c.self.inside.signs d.0) =
    λ d. record {
      held = ap (seen c.self.inside.signs) (kept_is_only (member_code g.row.V.coded) c.self.inside.signs c.set_base.new.self d _ trie)
          ∙ ap (λ (h : ValuedFamilies (Member g.row.V.Denot)). root_alone h.signs c.args.blank) c.self.view_is;
      kept = is_held c.self.inside.signs c.set_base.new.self d.0 (held_is_kept (member_code g.row.V.coded) c.self.inside.signs c.set_base.new.self d _ trie) c.set_base.ensures.row.values;
    } in
    search all

pub take_root-requires-clause-signs : goal.take_root-requires-clause-signs
take_root-requires-clause-signs g c = c.self.invariant.few

pub set_base-requires : goal.set_base-requires
set_base-requires g c = let cleared = c.clear.ensures.least in let size = c.take_root.ensures.size in omega arith

pub take_root-requires-clause-fits : goal.take_root-requires-clause-fits
take_root-requires-clause-fits g c = c.requires
