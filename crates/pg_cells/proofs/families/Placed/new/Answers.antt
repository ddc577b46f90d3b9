use Rattle.std.proofs.Common.{[], ◌∷◌, map, ap, sym, subst, refl, arith}
use Rattle.std.specs.List.{range_with_len}
use Rattle.pg_types.specs.Placement.{root}
use Rattle.pg_cells.specs.Inside.families.Layouts.{AreKept}
use Rattle.pg_cells.specs.Inside.families.OneTrie.{TrieOfRow, kept_is_only, held_is_kept}
use Rattle.pg_cells.specs.Inside.store.CellRows.{without_links}
use Rattle.pg_cells.specs.Inside.families.Root.{IsRootAlone, IsRootTo}
use Rattle.pg_cells.specs.Inside.store.Store.{member_code}
use Rattle.pg_cells.proofs.PlacedSigns.{seen}
use Rattle.pg_cells.proofs.ValuedFamilyLaws.{is_held}
use Rattle.pg_cells.proofs.RootSteps.{planted_none, planted_extended}
use Rattle.pg_cells.proofs.RootTrie.{root_trie}
use Rattle.pg_cells.proofs.families.Placed.new.Goals as goal

pub take_root-requires-clause-empty : goal.take_root-requires-clause-empty
take_root-requires-clause-empty g c =
    let start : IsRootTo 1 c.args.blank c.in_ok-store.store = subst (IsRootTo 1 c.args.blank) (sym c.in_ok-store.ensures) (planted_none (without_links c.args.blank.value) c.args.blank) in
    planted_extended c.args.blank c.in_ok-store.store c.grow.new.self start c.in_ok-grow.ensures.extends

pub invariant_of-result : goal.invariant_of-result
invariant_of-result g c = (
  (
    record { families = root c.args.signs; values = map (λ x. (x ∷ [], c.args.blank)) (range_with_len 1 c.args.signs) },
    ∣ root_trie c.args.blank c.args.signs c.take_root.new.store c.set_base.new.self c.requires.signs.0 c.take_root.ensures.root_to c.set_base.ensures.sets ∣₁,
  ),
  tt,
)

pub invariant_of-result-2 : goal.invariant_of-result-2
invariant_of-result-2 g c =
    let trie = root_trie c.args.blank c.args.signs c.take_root.new.store c.set_base.new.self c.requires.signs.0 c.take_root.ensures.root_to c.set_base.ensures.sets in
    let all : (d : TrieOfRow c.args.signs c.set_base.new.self) → AreKept c.args.signs c.set_base.new.self d.0 =
    λ d. record { row = c.set_base.ensures.row; trie = held_is_kept (member_code g.row.V.coded) c.args.signs c.set_base.new.self d _ trie; some = c.requires.signs.0; few = c.requires.signs.1 } in
    search all

pub returns : goal.returns
returns g c =
    let trie = root_trie c.args.blank c.args.signs c.take_root.new.store c.set_base.new.self c.requires.signs.0 c.take_root.ensures.root_to c.set_base.ensures.sets in
    let all : (d : TrieOfRow c.args.signs c.set_base.new.self) → IsRootAlone c.args.signs c.args.blank (seen c.args.signs d.0) =
    λ d. record {
      held = ap (seen c.args.signs) (kept_is_only (member_code g.row.V.coded) c.args.signs c.set_base.new.self d _ trie);
      kept = is_held c.args.signs c.set_base.new.self d.0 (held_is_kept (member_code g.row.V.coded) c.args.signs c.set_base.new.self d _ trie) c.set_base.ensures.row.values;
    } in
    search all

pub overflow_add-signs : goal.overflow_add-signs
overflow_add-signs g c = let few = c.requires.signs.1 in record { fits = omega arith }

pub same-store : goal.same-store
same-store g c = refl

pub take_root-requires-clause-length : goal.take_root-requires-clause-length
take_root-requires-clause-length g c = let long = c.in_ok-grow.ensures.length in omega arith

pub take_root-requires-clause-signs : goal.take_root-requires-clause-signs
take_root-requires-clause-signs g c = c.requires.signs.1

pub set_base-requires : goal.set_base-requires
set_base-requires g c = let long = c.in_ok-grow.ensures.length in let size = c.take_root.ensures.size in omega arith

pub take_root-requires-clause-fits : goal.take_root-requires-clause-fits
take_root-requires-clause-fits g c = c.requires.fits
