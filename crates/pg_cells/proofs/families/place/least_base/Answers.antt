use Rattle.std.proofs.Common.{◌≡◌, ℕ, ◌<◌, ◌≤◌, max, ◌∷◌, ◌∙◌, false, length, ap, subst, arith, refl}
use Rattle.pg_types.specs.Inside.Placing.{IsLeast}
use Rattle.pg_cells.specs.Inside.store.Fit.{fits_row, slot_signs}
use Rattle.pg_cells.proofs.BlockedLaws.{tried_within, least_tried}
use Rattle.pg_cells.proofs.BoundLaws.{below_both, none_below, no_elements}
use Rattle.pg_cells.proofs.families.place.least_base.Goals as goal

pub find_base-base-requires-clause-low : goal.find_base-base-requires-clause-low
find_base-base-requires-clause-low g c =
    let signs = c.args.sign ∷ slot_signs c.args.slots.now in
    let known = below_both (fits_row c.args.store.now signs) c.args.low c.args.tried c.greatest_bound-bound.result c.requires.low.0 c.requires.tried c.greatest_bound-bound.ensures in
    let within = tried_within c.args.store.now signs c.args.low (max c.args.tried c.greatest_bound-bound.result) known c.args.room c.requires.low.1 c.requires.room.fits in
    omega (arith, c.max-known.ensures, c.max-from.ensures, within)

pub raise_bound-requires-clause-none : goal.raise_bound-requires-clause-none
raise_bound-requires-clause-none g c =
    let r = c.args.store.now in
    let signs = c.args.sign ∷ slot_signs c.args.slots.now in
    let base = c.find_base-base.result in
    let bound = c.greatest_bound-bound.result in
    let none : length c.args.slots.now ≡ 0 = grind (arith, c.is_empty.ensures, c.if-is_empty.true) in
    let low : c.args.low ≤ max bound 1 = let yes = c.if-low-max.true in let is = c.max.ensures in omega arith in
    let known = below_both (fits_row r signs) c.args.low c.args.tried bound c.requires.low.0 c.requires.tried c.greatest_bound-bound.ensures in
    let least = least_tried r signs c.args.low (max c.args.tried bound) known base
    (subst (λ from. IsLeast (fits_row r signs) from base) (c.max-from.ensures ∙ ap (max c.args.low) c.max-known.ensures) c.find_base-base.ensures.least) in
    let empty = no_elements c.args.slots.now none in
    none_below r c.args.sign c.args.low bound base low
    (subst (λ slots. (b : ℕ) → 0 < b → b < bound → fits_row r (c.args.sign ∷ slot_signs slots) b ≡ false) empty c.greatest_bound-bound.ensures)
    (subst (λ slots. IsLeast (fits_row r (c.args.sign ∷ slot_signs slots)) c.args.low base) empty least)

pub returns-then-low-max-clause-least : goal.returns-then-low-max-clause-least
returns-then-low-max-clause-least g c =
    let r = c.args.store.now in
    let signs = c.args.sign ∷ slot_signs c.args.slots.now in
    let base = c.find_base-base.result in
    let bound = c.greatest_bound-bound.result in
    let known = below_both (fits_row r signs) c.args.low c.args.tried bound c.requires.low.0 c.requires.tried c.greatest_bound-bound.ensures in
    least_tried r signs c.args.low (max c.args.tried bound) known base
    (subst (λ from. IsLeast (fits_row r signs) from base) (c.max-from.ensures ∙ ap (max c.args.low) c.max-known.ensures) c.find_base-base.ensures.least)

pub returns-else-is_empty-clause-least : goal.returns-else-is_empty-clause-least
returns-else-is_empty-clause-least g c =
    let r = c.args.store.now in
    let signs = c.args.sign ∷ slot_signs c.args.slots.now in
    let base = c.find_base-base.result in
    let bound = c.greatest_bound-bound.result in
    let known = below_both (fits_row r signs) c.args.low c.args.tried bound c.requires.low.0 c.requires.tried c.greatest_bound-bound.ensures in
    least_tried r signs c.args.low (max c.args.tried bound) known base
    (subst (λ from. IsLeast (fits_row r signs) from base) (c.max-from.ensures ∙ ap (max c.args.low) c.max-known.ensures) c.find_base-base.ensures.least)

pub find_base-base-requires-clause-room : goal.find_base-base-requires-clause-room
find_base-base-requires-clause-room g c = c.requires.room

pub raise_bound-requires-clause-base : goal.raise_bound-requires-clause-base
raise_bound-requires-clause-base g c = let room = c.find_base-base.ensures.room in let within = c.requires.room.within in omega arith

pub returns-then-low-max-clause-room : goal.returns-then-low-max-clause-room
returns-then-low-max-clause-room g c = c.find_base-base.ensures.room

pub returns-then-low-max-clause-same : goal.returns-then-low-max-clause-same
returns-then-low-max-clause-same g c = c.raise_bound.ensures

pub returns-else-is_empty-clause-room : goal.returns-else-is_empty-clause-room
returns-else-is_empty-clause-room g c = c.find_base-base.ensures.room

pub returns-else-is_empty-clause-same : goal.returns-else-is_empty-clause-same
returns-else-is_empty-clause-same g c = refl
