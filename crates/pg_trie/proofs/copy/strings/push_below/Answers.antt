use Rattle.std.proofs.Common.{◌≡◌, ℕ, ◌+◌, List, [], ◌∷◌, ◌++◌, Some, slice_get, sym, ap, ◌∙◌, subst, ◌<◌, None}
use Rattle.pg_cells.specs.Inside.linked.Walks.{EndsBefore}
use Rattle.pg_trie.specs.Inside.Strings.{PutsBelow}
use Rattle.pg_trie.proofs.TrieLaws.Listing.{puts_nothing, get_index, on_ok, get_there}
use Rattle.pg_types.specs.Inside.Signs.{SignsWithin}
use Rattle.pg_types.specs.Inside.Placing.{cell_of}
use Rattle.pg_trie.proofs.copy.strings.push_below.Goals as goal

pub returns-in-0 : goal.returns-in-0
returns-in-0 c k at =
    let same : c.signs-2.result.now ≡ k.0 =
    c.signs-2.ensures.value ∙ ap (λ (x : List ℕ × ℕ). x.0) c.new-prefix.ensures ∙ c.signs.ensures.value
    ∙ ap (λ (x : List ℕ × ℕ). x.0) (c.index.ensures ∙ get_index c.args.strings.now.items c.args.i k c.index.result.now at) in
    puts_nothing c.args.cells.now c.requires.held k.0 (c.args.cells.now.signs + 1) c.args.strings.now.items
    (λ x. subst (λ q. EndsBefore c.args.cells.now.values (q ++ x ∷ [])) same (c.child.ensures.none c.signs-2.result.now (sym c.in-Some.ensures) c.in-0.is x))

pub returns-in_default-child : goal.returns-in_default-child
returns-in_default-child c =
    on_ok
    (PutsBelow c.args.cells.now c.signs-in_default-child.result.now (c.args.cells.now.signs + 1) c.args.strings.now.items c.push_family.new.strings.items)
    ((k : List ℕ × ℕ) → slice_get c.args.strings.now.items c.args.i ≡ Some k → PutsBelow c.args.cells.now k.0 (c.args.cells.now.signs + 1) c.args.strings.now.items c.push_family.new.strings.items)
    c.push_family.result
    (λ puts k at.
    subst (λ q. PutsBelow c.args.cells.now q (c.args.cells.now.signs + 1) c.args.strings.now.items c.push_family.new.strings.items)
    (c.signs-in_default-child.ensures.value ∙ ap (λ (x : List ℕ × ℕ). x.0) c.new-prefix.ensures ∙ c.signs.ensures.value
    ∙ ap (λ (x : List ℕ × ℕ). x.0) (c.index.ensures ∙ get_index c.args.strings.now.items c.args.i k c.index.result.now at))
    puts)
    c.push_family.ensures

pub child-requires : goal.child-requires
child-requires c = (c.signs-2.result.now, sym c.in-Some.ensures)

pub first_sign-requires : goal.first_sign-requires
first_sign-requires c = (c.signs-2.result.now, sym c.in-Some.ensures)

pub index-requires : goal.index-requires
index-requires c = subst (λ (k : ℕ). c.args.i < k) (sym c.args.strings.now.ok.0) c.requires.inside

pub new-prefix-requires : goal.new-prefix-requires
new-prefix-requires c = c.signs.ensures.few

pub find_cell-requires-clause-held : goal.find_cell-requires-clause-held
find_cell-requires-clause-held c = c.requires.held

pub find_cell-requires-clause-signs : goal.find_cell-requires-clause-signs
find_cell-requires-clause-signs c =
    let k = get_there c.args.strings.now.items c.args.i c.requires.inside in
    subst (SignsWithin c.args.cells.now.signs)
    (sym
    (c.signs-2.ensures.value ∙ ap (λ (x : List ℕ × ℕ). x.0) c.new-prefix.ensures ∙ c.signs.ensures.value
    ∙ ap (λ (x : List ℕ × ℕ). x.0) (c.index.ensures ∙ get_index c.args.strings.now.items c.args.i k.0 c.index.result.now k.1)))
    (c.requires.sound k.0 k.1).known

pub returns-in_default : goal.returns-in_default
returns-in_default c k at =
    let same : c.signs-2.result.now ≡ k.0 =
    c.signs-2.ensures.value ∙ ap (λ (x : List ℕ × ℕ). x.0) c.new-prefix.ensures ∙ c.signs.ensures.value
    ∙ ap (λ (x : List ℕ × ℕ). x.0) (c.index.ensures ∙ get_index c.args.strings.now.items c.args.i k c.index.result.now at) in
    let celled = (c.requires.sound k at).celled in
    absurd (let wrong : None ≡ Some celled.0 = c.in_default.ensures ∙ ap (cell_of c.args.cells.now.families) same ∙ celled.1 in cc)

pub push_family-requires-clause-first : goal.push_family-requires-clause-first
push_family-requires-clause-first c =
    c.first_sign.ensures c.signs-in_default-child.result.now
    (ap (cell_of c.args.cells.now.families) (c.signs-in_default-child.ensures.value ∙ sym c.signs-2.ensures.value) ∙ sym c.in-Some.ensures)

pub push_family-requires-clause-short : goal.push_family-requires-clause-short
push_family-requires-clause-short c = c.requires.short

pub push_family-requires-clause-held : goal.push_family-requires-clause-held
push_family-requires-clause-held c = c.requires.held
