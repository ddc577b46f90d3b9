use Rattle.std.proofs.Common.{◌≡◌, Some, refl, ap, sym, subst, ◌∙◌}
use Rattle.std.specs.FinMap.{put}
use Rattle.pg_types.specs.Inside.Placing.{cell_of}
use Rattle.pg_cells.specs.declared.store.member.Member.{Member}
use Rattle.pg_cells.specs.Inside.linked.ValuedFamilies.{ValuedFamilies}
use Rattle.pg_cells.specs.Inside.linked.Links.{values_alone}
use Rattle.pg_cells.proofs.StringMaps.{order}
use Rattle.pg_cells.proofs.Relinked.{links_valued}
use Rattle.pg_cells.proofs.Unlinked.{put_plain, held_unlinked}
use Rattle.pg_cells.proofs.linked.Cells.set_value.Goals as goal

pub invariant_of-self : goal.invariant_of-self
invariant_of-self g c =
    let at = subst (λ (h : ValuedFamilies g.row.V.Denot). cell_of h.families c.requires.0 ≡ Some c.args.cell) (sym c.self.view_is) c.requires.1 in
    let m = c.value-member.result in
    links_valued c.self.inside.placed c.set_value.new.self c.self.invariant c.set_value.ensures.kept c.requires.0 m (record m { value = c.args.v }) (c.value-member.ensures.value c.requires.0 at)
    (ap (λ (h : ValuedFamilies (Member g.row.V.Denot)). h.values) (c.set_value.ensures.held c.requires.0 at)) refl refl

pub returns : goal.returns
returns g c = record {
  held = λ q e.
      let at = subst (λ (h : ValuedFamilies g.row.V.Denot). cell_of h.families q ≡ Some c.args.cell) (sym c.self.view_is) e in
      ap values_alone (c.set_value.ensures.held q at)
      ∙ ap (λ es. record (values_alone c.self.inside.placed) { values = es }) (put_plain q (record c.value-member.result { value = c.args.v }) c.self.inside.placed.values
      c.self.invariant.held.ordered)
      ∙ ap (λ (h : ValuedFamilies g.row.V.Denot). record h { values = put order q c.args.v h.values }) c.self.view_is;
  kept = held_unlinked c.set_value.new.self c.set_value.ensures.kept;
}

pub value-member-requires : goal.value-member-requires
value-member-requires g c = (c.requires.0, subst (λ (k : ValuedFamilies g.row.V.Denot). cell_of k.families c.requires.0 ≡ Some c.args.cell) (sym c.self.view_is) c.requires.1)

pub set_value-requires : goal.set_value-requires
set_value-requires g c = record { taken = (c.requires.0, subst (λ (k : ValuedFamilies g.row.V.Denot). cell_of k.families c.requires.0 ≡ Some c.args.cell) (sym c.self.view_is) c.requires.1); fits = c.value-member.ensures.fits }
