use Rattle.std.proofs.Common.{◌≡◌, ◌≤◌, ℕ, List, length, sym, subst, ap, ◌∙◌, ◌++◌, arith}
use Rattle.std.specs.List.{All}
use Rattle.std.specs.FinMap.Entries.{find}
use Rattle.pg_types.specs.declared.limits.TheConstants.{PATTERN_SIGNS_MAX}
use Rattle.pg_outputs.specs.Lists.{list_of}
use Rattle.pg_cells.proofs.StringMaps.{order}
use Rattle.pg_trie.specs.Inside.Maps.{maps_of, entries_in, as_value}
use Rattle.pg_trie.proofs.ListLaws.Gathered.{Gathers, gathers_none, gathers_more, gathered}
use Rattle.pg_trie.proofs.TrieLaws.Listing.{get_there, get_index}
use Rattle.pg_trie.proofs.copy.gather.Goals as goal

pub loop-string-init : goal.loop-string-init
loop-string-init c = subst (λ es. Gathers (maps_of c.args.cells.now c.args.outputs.now).patterns c.args.strings.now 0 es) (sym c.new-entries.ensures.items)
    (gathers_none (maps_of c.args.cells.now c.args.outputs.now).patterns c.args.strings.now)

pub value_of-head-requires-clause-signs : goal.value_of-head-requires-clause-signs
value_of-head-requires-clause-signs c =
    let k = get_there c.args.strings.now c.loop-string.string-index c.loop-string-test.true in
    let same : c.signs.result.now ≡ k.0.0 = c.signs.ensures.value ∙ ap (λ (x : List ℕ × ℕ). x.0)
    (c.string-item.is ∙ get_index c.args.strings.now c.loop-string.string-index k.0 c.string-item.result k.1) in
    subst (λ q. All (λ s. (1 ≤ s) × (s ≤ c.args.cells.now.signs)) q) (sym same) (c.requires.strings.sound c.loop-string.string-index k.0 k.1).known

pub push_values-requires-clause-head : goal.push_values-requires-clause-head
push_values-requires-clause-head c =
    let k = get_there c.args.strings.now c.loop-string.string-index c.loop-string-test.true in
    let same : c.signs.result.now ≡ k.0.0 = c.signs.ensures.value ∙ ap (λ (x : List ℕ × ℕ). x.0)
    (c.string-item.is ∙ get_index c.args.strings.now c.loop-string.string-index k.0 c.string-item.result k.1) in
    let cell = (c.requires.strings.sound c.loop-string.string-index k.0 k.1).celled in
    let u = c.requires.trie.held.valued k.0.0 cell.0 cell.1 in
    let is : c.value_of-head.result ≡ u.0 = c.value_of-head.ensures u.0 (ap (λ q. find order q c.args.cells.now.values) same ∙ u.1) in
    omega (arith, (c.requires.trie.heads k.0.0 u.0 u.1).inside)

pub push_values-requires-clause-few : goal.push_values-requires-clause-few
push_values-requires-clause-few c =
    let k = get_there c.args.strings.now c.loop-string.string-index c.loop-string-test.true in
    let same : c.string-item.result ≡ k.0 = c.string-item.is ∙ get_index c.args.strings.now c.loop-string.string-index k.0 c.string-item.result k.1 in
    subst (λ (x : List ℕ × ℕ). length x.0 ≤ PATTERN_SIGNS_MAX) (sym same) (c.requires.strings.sound c.loop-string.string-index k.0 k.1).few

pub loop-string-preserved : goal.loop-string-preserved
loop-string-preserved c =
    let k = get_there c.args.strings.now c.loop-string.string-index c.loop-string-test.true in
    let item : c.string-item.result ≡ k.0 = c.string-item.is ∙ get_index c.args.strings.now c.loop-string.string-index k.0 c.string-item.result k.1 in
    let same : c.signs.result.now ≡ k.0.0 = c.signs.ensures.value ∙ ap (λ (x : List ℕ × ℕ). x.0) item in
    let cell = (c.requires.strings.sound c.loop-string.string-index k.0 k.1).celled in
    let u = c.requires.trie.held.valued k.0.0 cell.0 cell.1 in
    let is : c.value_of-head.result ≡ u.0 = c.value_of-head.ensures u.0 (ap (λ q. find order q c.args.cells.now.values) same ∙ u.1) in
    gathers_more c.args.cells.now c.args.outputs.now c.requires.trie c.args.strings.now c.loop-string.string-index c.loop-string.entries.items c.push_values.new.entries.items k.0 u.0 k.1 u.1
    (c.in_ok-push_values.ensures
    ∙ ap (λ (x : List ℕ × ℕ). c.loop-string.entries.items ++ entries_in as_value x.0 (list_of c.args.outputs.now c.value_of-head.result)) item
    ∙ ap (λ h. c.loop-string.entries.items ++ entries_in as_value k.0.0 (list_of c.args.outputs.now h)) is)
    c.loop-string.invariant

pub returns-clause-joined : goal.returns-clause-joined
returns-clause-joined c =
    let at : c.loop-string.string-index ≡ length c.args.strings.now = omega arith in
    gathered c.args.cells.now c.args.outputs.now c.requires.trie c.args.strings.now c.requires.strings c.loop-string.entries.items
    (subst (λ n. Gathers (maps_of c.args.cells.now c.args.outputs.now).patterns c.args.strings.now n c.loop-string.entries.items) at c.loop-string.invariant)
