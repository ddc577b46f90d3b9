use Rattle.std.proofs.Common.{◌≡◌, ℕ, ◌∷◌, arith, sym, subst, ◌∙◌}
use Rattle.std.proofs.lemmas.List.{length-map}
use Rattle.pg_types.specs.Inside.Placing.{IsLeast}
use Rattle.pg_cells.specs.Inside.store.CellRows.{row_of, sign_seen}
use Rattle.pg_cells.specs.Inside.store.Fit.{HasSpace, fits_row, slot_signs}
use Rattle.pg_cells.specs.Inside.store.SetFit.{fits_sets}
use Rattle.pg_cells.proofs.SetLaws.{fits_same}
use Rattle.pg_cells.proofs.store.Store.find_base.Goals as goal

pub find_in_blocks-requires : goal.find_in_blocks-requires
find_in_blocks-requires g c =
    let row = row_of c.self.inside.cells.items in
    let has : HasSpace row c.args.slots.now c.args.sign c.args.room = subst (λ r. HasSpace r c.args.slots.now c.args.sign c.args.room) (sym c.self.view_is) c.requires.room in
    let small = c.self.invariant.kept.small in
    record {
      low = c.requires.low;
      small = omega (arith, has.within, length-map c.self.inside.cells.items sign_seen);
      room = fits_same row c.self.inside.taken_set.cells c.self.inside.bases c.self.invariant.sets (c.args.sign ∷ slot_signs c.args.slots.now) c.args.room ∙ has.fits;
    }

pub returns : goal.returns
returns g c =
    let row = row_of c.self.inside.cells.items in
    let signs = c.args.sign ∷ slot_signs c.args.slots.now in
    let found = c.find_in_blocks.ensures.least in
    let same : (b : ℕ) → fits_row row signs b ≡ fits_sets c.self.inside.taken_set.cells c.self.inside.bases signs b =
    λ b. sym (fits_same row c.self.inside.taken_set.cells c.self.inside.bases c.self.invariant.sets signs b) in
    record {
      least = subst (λ r. IsLeast (fits_row r signs) c.args.low c.find_in_blocks.result) c.self.view_is
          (record { from = found.from; meets = same c.find_in_blocks.result ∙ found.meets; first = λ k from lt. same k ∙ found.first k from lt });
      room = c.find_in_blocks.ensures.room;
    }
