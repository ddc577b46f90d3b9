use Rattle.std.proofs.Common.{◌≡◌, ◌≤◌, ◌++◌, [], ◌∷◌, Some, None, inl, inr, sym, ◌∙◌}
use Rattle.std.proofs.lemmas.Bool.{both_ways}
use Rattle.pg_types.specs.Inside.Placing.{cell_of}
use Rattle.pg_cells.specs.Inside.linked.Members.{goes_on}
use Rattle.pg_cells.proofs.LinkLaws.{some_string, some_base, none_goes_on, goes_cell}
use Rattle.pg_cells.proofs.linked.links.sign_after.Goals as goal

pub returns-then-base-eq0-clause-next : goal.returns-then-base-eq0-clause-next
returns-then-base-eq0-clause-next g c q e =
    let h = c.args.cells.now in
    elim (c.requires.sign q e) [
      | inl z ↦ absurd (c.if-s-eq0.false z)
      | inr there ↦ absurd (both_ways (goes_on h.values q c.args.s)
          (none_goes_on h c.requires.links.held q c.args.base (c.requires.base q e) c.if-base-eq0.true c.args.s) there)
    ]

pub returns-in-Some-clause-next : goal.returns-in-Some-clause-next
returns-in-Some-clause-next g c q e =
    let h = c.args.cells.now in
    let has = some_base h.families q c.args.base (c.requires.base q e) c.if-base-eq0.false in
    let at : cell_of h.families (q ++ c.args.s ∷ []) ≡ Some c.in-Some.cell = sym (c.in-Some.ensures.cell q has) in
    c.requires.links.next q c.args.s c.value-in-Some.result (some_string h.families q c.args.parent e) (c.value-in-Some.ensures.value (q ++ c.args.s ∷ []) at)

pub returns-in-None-clause-next : goal.returns-in-None-clause-next
returns-in-None-clause-next g c q e =
    let h = c.args.cells.now in
    let has = some_base h.families q c.args.base (c.requires.base q e) c.if-base-eq0.false in
    elim (c.requires.sign q e) [
      | inl z ↦ absurd (c.if-s-eq0.false z)
      | inr there ↦
          let cell = goes_cell h c.requires.links.held q c.args.s there in
          let none : cell_of h.families (q ++ c.args.s ∷ []) ≡ None = sym (c.in-None.ensures.cell q has) in
          absurd (let apart : None ≡ Some cell.0 = sym none ∙ cell.1 in cc)
    ]

pub value-requires : goal.value-requires
value-requires g c = c.requires.parent

pub find-requires : goal.find-requires
find-requires g c =
    let h = c.args.cells.now in
    let has = some_base h.families c.requires.parent.0 c.args.base (c.requires.base c.requires.parent.0 c.requires.parent.1) c.if-base-eq0.false in
    let sign : (1 ≤ c.args.s) × (c.args.s ≤ h.signs) =
    elim (c.requires.sign c.requires.parent.0 c.requires.parent.1) [
      | inl z ↦ absurd (c.if-s-eq0.false z)
      | inr there ↦
          let cell = goes_cell h c.requires.links.held c.requires.parent.0 c.args.s there in
          c.requires.links.held.signs c.requires.parent.0 c.args.s cell.0 cell.1
    ] in
    record { base = (c.requires.parent.0, has); sign = sign }

pub value-requires-in-Some : goal.value-requires-in-Some
value-requires-in-Some g c =
    let has = some_base c.args.cells.now.families c.requires.parent.0 c.args.base (c.requires.base c.requires.parent.0 c.requires.parent.1) c.if-base-eq0.false in
    (c.requires.parent.0 ++ c.args.s ∷ [], sym (c.in-Some.ensures.cell c.requires.parent.0 has))
