use Rattle.std.proofs.Common.{refl, arith}
use Rattle.pg_translate.proofs.ItemKinds.{no_edge}
use Rattle.pg_dict.proofs.LineReading.Running.{line_runs}
use Rattle.pg_dict.proofs.LineReading.Takes.{seeks_item, seeks_letter, shorter_behind}
use Rattle.pg_dict.proofs.entries.line.Line.seek.Goals as goal

pub returns-in-Letter : goal.returns-in-Letter
returns-in-Letter c = let p = seeks_letter _ _ _ _ _ _ _ _ c.items.invariant.whole c.items.invariant.within c.in-Letter.ensures.item in
    (p.0, p.1, c.items.invariant.small, c.in-Letter.ensures.range.0, c.in-Letter.ensures.range.1)

pub items-preserved-in-Digit : goal.items-preserved-in-Digit
items-preserved-in-Digit c = rw c.from-weight.ensures (let p = seeks_item _ _ _ _ _ _ _ _ _ c.items.invariant.whole c.items.invariant.within c.in-Digit.ensures.item (λ _ _. refl) in
    record { whole = p.0; within = p.1; small = omega (arith, c.in-Digit.ensures.range) })

pub items-preserved-in-Weight : goal.items-preserved-in-Weight
items-preserved-in-Weight c = let p = seeks_item _ _ _ _ _ _ _ _ _ c.items.invariant.whole c.items.invariant.within c.in-Weight.ensures.item (λ _ _. refl) in
    record { whole = p.0; within = p.1; small = c.in-Weight.ensures.range.1 }

pub items-preserved : goal.items-preserved
items-preserved c = let p = seeks_item _ _ _ _ _ _ _ _ _ c.items.invariant.whole c.items.invariant.within c.in-Mark.ensures.item (λ _ _. refl) in
    record { whole = p.0; within = p.1; small = c.items.invariant.small }

pub items-init : goal.items-init
items-init c = record {
  whole = line_runs c.args.self.now.table.now c.args.self.now.number c.args.self.now.size c.args.self.now.weight c.args.text.now c.requires;
  within = omega (arith, c.requires);
  small = c.args.self.now.small;
}

pub unreachable-requires : goal.unreachable-requires
unreachable-requires c = no_edge _ _ _ c.in-Edge.ensures.item

pub items-smaller-in-Digit : goal.items-smaller-in-Digit
items-smaller-in-Digit c = shorter_behind _ _ _ _ c.in-Digit.ensures.item

pub items-smaller-in-Weight : goal.items-smaller-in-Weight
items-smaller-in-Weight c = shorter_behind _ _ _ _ c.in-Weight.ensures.item

pub items-smaller : goal.items-smaller
items-smaller c = shorter_behind _ _ _ _ c.in-Mark.ensures.item

pub refuse-requires : goal.refuse-requires
refuse-requires c = c.items.invariant.within
