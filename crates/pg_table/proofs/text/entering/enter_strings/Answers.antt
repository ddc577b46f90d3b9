use Rattle.std.proofs.Common.{◌<◌, ◌≤◌, ℕ, [], length, get_or, All, sym, subst, arith}
use Rattle.std.proofs.lemmas.Option.{slice_get-get_or}
use Rattle.pg_cells.specs.Inside.linked.ValuedFamilies.{ValuedFamilies}
use Rattle.pg_cells.specs.Inside.linked.AreValuedFamilies.{AreValuedFamilies}
use Rattle.pg_table.proofs.text.Groups.{Entry}
use Rattle.pg_table.proofs.text.EnteredStrings.{EnteredTo, entered_none, entered_string, entered_whole, signs_within}
use Rattle.pg_table.proofs.text.entering.enter_strings.Goals as goal

pub strings-init : goal.strings-init
strings-init c =
    let signs = c.args.cells.now.signs in
    subst (λ (h : ValuedFamilies ℕ). EnteredTo signs c.args.patterns.now 0 h c.args.outputs.now) (sym c.requires.cells)
    (entered_none signs c.args.patterns.now c.args.outputs.now c.requires.outputs c.requires.one_head (subst (λ (h : ValuedFamilies ℕ). AreValuedFamilies h) c.requires.cells c.requires.held))

-- some entry
abbrev none : Entry
none = (([], 0), 0)

pub share-requires-clause-order : goal.share-requires-clause-order
share-requires-clause-order c =
    let e : Entry = get_or c.args.patterns.now c.strings.at none in
    let inside : c.strings.at < length c.args.patterns.now = omega (arith, c.len.ensures.value) in
    let group = c.string_end-end.ensures e (slice_get-get_or c.args.patterns.now c.strings.at none inside) in
    omega (arith, group.some)

pub share-requires-clause-within : goal.share-requires-clause-within
share-requires-clause-within c =
    let e : Entry = get_or c.args.patterns.now c.strings.at none in
    let inside : c.strings.at < length c.args.patterns.now = omega (arith, c.len.ensures.value) in
    let group = c.string_end-end.ensures e (slice_get-get_or c.args.patterns.now c.strings.at none inside) in
    group.within

pub enter-requires : goal.enter-requires
enter-requires c =
    let known : All (λ s. (1 ≤ s) × (s ≤ c.strings.cells.signs)) c.entry.result.signs.now =
    subst (λ n. All (λ s. (1 ≤ s) × (s ≤ n)) c.entry.result.signs.now) (sym c.strings.invariant.signs)
    (signs_within c.args.cells.now.signs c.args.patterns.now c.strings.at
    ((c.entry.result.signs.now, c.entry.result.dot), c.entry.result.value) c.requires.known c.entry.ensures.value c.entry.ensures.signs) in
    record { some = c.entry.ensures.some; signs = known }

pub strings-smaller : goal.strings-smaller
strings-smaller c =
    let group = c.string_end-end.ensures ((c.entry.result.signs.now, c.entry.result.dot), c.entry.result.value) c.entry.ensures.value in
    omega (arith, group.some, group.within, c.len.ensures.value)

pub strings-preserved : goal.strings-preserved
strings-preserved c =
    let q = c.entry.result.signs.now in
    let group = c.string_end-end.ensures ((c.entry.result.signs.now, c.entry.result.dot), c.entry.result.value) c.entry.ensures.value in
    entered_string c.args.cells.now.signs c.args.patterns.now c.len.ensures.kept c.strings.at c.string_end-end.result q group c.strings.cells
    c.enter.new.cells c.set_value.new.self c.strings.outputs c.share.new.outputs c.in_ok-head.head c.in_ok-cell.cell c.strings.invariant
    c.in_ok-head.ensures.grows c.in_ok-head.ensures.inside c.in_ok-head.ensures.list c.in_ok-head.ensures.shares
    c.in_ok-cell.ensures.held c.in_ok-cell.ensures.signs c.in_ok-cell.ensures.families c.in_ok-cell.ensures.blanks c.in_ok-cell.ensures.cell
    c.set_value.ensures.kept (c.set_value.ensures.held q c.in_ok-cell.ensures.cell)

pub returns : goal.returns
returns c = entered_whole c.args.cells.now.signs c.args.patterns.now c.strings.at c.strings.cells c.strings.outputs c.len.ensures.kept (omega (arith, c.len.ensures.value)) c.strings.invariant
