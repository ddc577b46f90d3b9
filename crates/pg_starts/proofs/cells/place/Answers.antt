use Rattle.std.proofs.Common.{arith, rules, ◌≡◌, ◌<◌, ℕ, get_or, set, take, drop, ◌-◌, vec_len, length, ap, ◌∙◌, sym, subst}
use Rattle.pg_starts.specs.Inside.Cells.{ArePacked, IsFree, cell_of, number_of}
use Rattle.pg_starts.proofs.Ranks.{written_whole}
use Rattle.pg_starts.proofs.Families.{room_for_all, boundary, packed_more, family_free}
use Rattle.pg_starts.proofs.cells.place.Goals as goal

pub fill-requires-clause-room : goal.fill-requires-clause-room
fill-requires-clause-room c =
    room_for_all c.args.keys.now c.requires.rising c.families.from c.family_end-upto.result c.family_end-upto.ensures c.first_fit-base.result
    (length c.deref_mut.result.now) (search rules)

pub families-preserved : goal.families-preserved
families-preserved c =
    let keys = c.args.keys.now in
    let from = c.families.from in
    let upto = c.family_end-upto.result in
    let family = c.family_end-upto.ensures in
    let base = c.first_fit-base.result in
    let cells = c.families.cells.items in
    let grown = c.grow.new.cells.items in
    let filled = c.fill.new.cells in
    let long : length filled ≡ c.grow.new.cells.len = search rules in
    let cells_long : length cells ≡ vec_len c.families.cells = search rules in
    record {
      within = omega arith;
      as_count = search rules;
      bound = boundary keys c.requires.rising from upto family;
      packed = subst (λ l. ArePacked keys upto (set c.families.bases.items (number_of (get_or keys from 0)) base) l)
          (sym (written_whole filled grown c.grow.new.cells.len long))
          (packed_more keys c.requires.rising from upto family c.families.bases.items cells grown filled base
          c.requires.few
          (let low = c.requires.below from c.families-test.true in let count : length c.families.bases.items ≡ c.args.count = search rules in omega (arith, low, count))
          (c.families.invariant.bound c.families-test.true)
          (family_free keys cells from upto base family.within
          (subst (λ l. (k : ℕ) → k < length (take (upto - from) (drop from keys)) → IsFree l (cell_of base (get_or (take (upto - from) (drop from keys)) k 0)))
          c.deref-in-families.ensures.value c.first_fit-base.ensures.free))
          (search rules)
          (search rules)
          (λ d h. c.in_ok-grow.ensures.kept d (omega (arith, cells_long, h)))
          (room_for_all keys c.requires.rising from upto family base (length grown) (search rules))
          c.fill.ensures.placed
          (λ d apart. c.fill.ensures.kept d apart ∙ ap (λ l. get_or l d 0) c.deref_mut.ensures.value)
          c.families.invariant.packed);
    }
