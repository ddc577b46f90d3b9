use Rattle.std.proofs.Common.{◌≡◌, ◌+◌, cond, nat_eq, None, Some, ◌∷◌, ◌++◌, [], sym, subst, ap, ◌∙◌, arith, rules}
use Rattle.pg_types.specs.Inside.Placing.{cell_of}
use Rattle.pg_cells.proofs.LinkLaws.{goes_cell}
use Rattle.pg_trie.specs.Inside.Strings.{PutsBelow}
use Rattle.pg_trie.proofs.TrieLaws.Listing.{bound_is, puts_first, puts_next, puts_one, is_string}
use Rattle.pg_cells.proofs.Walking.{sign_falls}
use Rattle.pg_trie.proofs.copy.strings.push_family.Goals as goal

pub loop-s-init : goal.loop-s-init
loop-s-init c = record {
  small = omega arith;
  goes = λ up. (c.requires.first.found up).1;
  puts = puts_first c.args.cells.now c.requires.held c.args.prefix.now c.args.first c.args.strings.now.items c.requires.first;
}

pub find-requires : goal.find-requires
find-requires c =
    let cell = goes_cell c.args.cells.now c.requires.held c.args.prefix.now c.loop-s.s (c.loop-s.invariant.goes (omega arith)) in
    record { base = (c.args.prefix.now, c.requires.base); sign = c.requires.held.signs c.args.prefix.now c.loop-s.s cell.0 cell.1 }

pub returns-in_default : goal.returns-in_default
returns-in_default c =
    let cell = goes_cell c.args.cells.now c.requires.held c.args.prefix.now c.loop-s.s (c.loop-s.invariant.goes (omega arith)) in
    let none : cell_of c.args.cells.now.families (c.args.prefix.now ++ c.loop-s.s ∷ []) ≡ None = sym (c.in_default.ensures.cell c.args.prefix.now c.requires.base) in
    absurd (let wrong : None ≡ Some cell.0 = sym none ∙ cell.1 in cc)

pub next_sign-s-requires : goal.next_sign-s-requires
next_sign-s-requires c = (c.args.prefix.now ++ c.loop-s.s ∷ [], sym (c.in-Some.ensures.cell c.args.prefix.now c.requires.base))

pub loop-s-preserved : goal.loop-s-preserved
loop-s-preserved c =
    let at : cell_of c.args.cells.now.families (c.args.prefix.now ++ c.loop-s.s ∷ []) ≡ Some c.in-Some.cell = sym (c.in-Some.ensures.cell c.args.prefix.now c.requires.base) in
    let next = c.next_sign-s.ensures c.args.prefix.now c.loop-s.s at in
    record {
      small = c.next_sign-s.type_inv;
      goes = λ up. (next.found up).1;
      puts = puts_next c.args.cells.now c.requires.held c.args.prefix.now c.loop-s.s c.next_sign-s.result c.args.strings.now.items c.push.new.self.items next
          (puts_one c.args.cells.now c.args.prefix.now c.loop-s.s c.args.strings.now.items c.loop-s.strings.items c.push.new.self.items
          (subst (λ m. PutsBelow c.args.cells.now c.args.prefix.now m c.args.strings.now.items c.loop-s.strings.items)
          (bound_is c.loop-s.s (c.args.cells.now.signs + 1) (omega arith)) c.loop-s.invariant.puts)
          (is_string c.args.cells.now c.requires.held c.requires.short (c.args.prefix.now ++ c.loop-s.s ∷ []) c.in-Some.cell at)
          (c.in_ok-push.ensures.items ∙ ap (λ x. c.loop-s.strings.items ++ x ∷ []) c.longer.ensures));
    }

pub loop-s-smaller : goal.loop-s-smaller
loop-s-smaller c =
    let next = c.next_sign-s.ensures c.args.prefix.now c.loop-s.s (sym (c.in-Some.ensures.cell c.args.prefix.now c.requires.base)) in
    sign_falls c.loop-s.s c.next_sign-s.result (omega arith) c.loop-s.invariant.small (λ up. (next.found up).0)

pub returns : goal.returns
returns c =
    subst (λ b. PutsBelow c.args.cells.now c.args.prefix.now (cond b (c.args.cells.now.signs + 1) c.loop-s.s) c.args.strings.now.items c.loop-s.strings.items)
    (ap (λ n. nat_eq n 0) c.loop-s-test.false) c.loop-s.invariant.puts
