use Rattle.std.proofs.lemmas.Result.{err_from_is_err_and}
use Rattle.std.proofs.Common.{◌≡◌, ◌+◌, ◌<◌, [], length, subst, ◌∙◌, arith, rules}
use Rattle.pg_cells.proofs.LinkLaws.{root_first}
use Rattle.pg_trie.specs.Inside.Strings.{AreStringsTo, PutsBelow}
use Rattle.pg_trie.proofs.TrieLaws.Listing.{strings_start, strings_step, get_there}
use Rattle.pg_trie.proofs.copy.strings.strings.Goals as goal

pub push_family-requires-clause-first : goal.push_family-requires-clause-first
push_family-requires-clause-first c = root_first c.args.cells.now c.requires.held

pub loop-i-init : goal.loop-i-init
loop-i-init c = record {
  inside = omega arith;
  strings = strings_start c.args.cells.now c.requires.held c.push_family.new.strings.items
      (subst (λ l. PutsBelow c.args.cells.now [] (c.args.cells.now.signs + 1) l c.push_family.new.strings.items) c.new-strings.ensures.items c.in_ok-push_family.ensures);
}

pub push_below-requires-clause-sound : goal.push_below-requires-clause-sound
push_below-requires-clause-sound c k at = c.loop-i.invariant.strings.sound c.loop-i.i k at

pub loop-i-preserved : goal.loop-i-preserved
loop-i-preserved c =
    let lt : c.loop-i.i < length c.loop-i.strings.items = first_of (omega arith, search rules) in
    let k = get_there c.loop-i.strings.items c.loop-i.i lt in
    let puts = c.in_ok-push_below.ensures k.0 k.1 in
    record {
      inside = omega (arith, puts.longer);
      strings = strings_step c.args.cells.now c.requires.held c.loop-i.i c.loop-i.strings.items c.push_below.new.strings.items k.0 c.loop-i.invariant.strings k.1 puts;
    }

pub returns : goal.returns
returns c =
    let end : c.loop-i.i ≡ length c.loop-i.strings.items = omega (arith, c.loop-i.strings.ok.0, c.loop-i.strings.small) in
    subst (λ n. AreStringsTo c.args.cells.now c.loop-i.strings.items n) end c.loop-i.invariant.strings

pub returns-in_err-push_family : goal.returns-in_err-push_family
returns-in_err-push_family c = let err = err_from_is_err_and c.from_residual.result c.from_residual.ensures.1 in rw err.1 tt

pub returns-in_err-push_below : goal.returns-in_err-push_below
returns-in_err-push_below c = let err = err_from_is_err_and c.from_residual-in_err-push_below.result c.from_residual-in_err-push_below.ensures.1 in rw err.1 tt

pub push_family-requires-clause-short : goal.push_family-requires-clause-short
push_family-requires-clause-short c = c.requires.short

pub push_family-requires-clause-held : goal.push_family-requires-clause-held
push_family-requires-clause-held c = c.requires.held

pub returns-then-i-len : goal.returns-then-i-len
returns-then-i-len c =
    subst (AreStringsTo c.args.cells.now c.loop-i.strings.items) (c.if-i-len.true ∙ c.len.ensures ∙ c.loop-i.strings.ok.0) c.loop-i.invariant.strings

pub push_below-requires-clause-inside : goal.push_below-requires-clause-inside
push_below-requires-clause-inside c = omega (arith, c.len.ensures, c.loop-i.strings.ok.0)

pub push_below-requires-clause-held : goal.push_below-requires-clause-held
push_below-requires-clause-held c = c.requires.held

pub push_below-requires-clause-short : goal.push_below-requires-clause-short
push_below-requires-clause-short c = c.requires.short

pub push_below-requires-clause-signs : goal.push_below-requires-clause-signs
push_below-requires-clause-signs c = c.requires.signs
