use Rattle.std.proofs.Common.{◌≡◌, Option, None, Some, MatchOption, option_map, sym, ap, ◌∙◌}
use Rattle.pg_types.specs.declared.demands.Unmet.{Unmet}
use Rattle.pg_types.specs.declared.refusals.Refusal.{Refusal}
use Rattle.pg_types.specs.Parameters.{items}
use Rattle.pg_types.specs.Inside.reading.Demands.{UnmetItem, first_due, unmet_end, unmet_from}
use Rattle.pg_types.proofs.DemandLaws.{refusal_in, missed, at_end, read_by}
use Rattle.pg_types.proofs.demands.first_unmet.Goals as goal

-- what is answered has the refusal of what is found
same_refusal : (whole : Option UnmetItem) (result : Option Unmet)
    → MatchOption result (whole ≡ None) (λ u. whole ≡ Some (u.refusal, u.due, items u.rest.now)) → option_map refusal_in whole ≡ option_map (λ u. u.refusal) result
same_refusal whole None is = ap (option_map refusal_in) is
same_refusal whole (Some u) is = ap (option_map refusal_in) is

pub returns-in-Err-clause-unmet : goal.returns-in-Err-clause-unmet
returns-in-Err-clause-unmet c =
    missed (items c.items.items.rest.now) c.items.items.item_number c.items.due c.in-Err.refusal (unmet_from (items c.args.bytes.now) 1 first_due)
    (sym c.is_end.ensures ∙ c.items-test.true) c.in-Err.ensures.fault c.items.invariant.left

pub returns-in-Err-clause-reader : goal.returns-in-Err-clause-reader
returns-in-Err-clause-reader c = λ fits.
    read_by c.args.bytes.now (Some (c.in-Err.refusal, c.items.due, items c.items.items.rest.now)) fits
    (missed (items c.items.items.rest.now) c.items.items.item_number c.items.due c.in-Err.refusal (unmet_from (items c.args.bytes.now) 1 first_due)
    (sym c.is_end.ensures ∙ c.items-test.true) c.in-Err.ensures.fault c.items.invariant.left)

pub returns-clause-reader : goal.returns-clause-reader
returns-clause-reader c = λ fits.
    let found : Option UnmetItem = unmet_end c.items.items.item_number c.items.due (items c.items.items.rest.now) in
    let whole : unmet_from (items c.args.bytes.now) 1 first_due ≡ found =
    sym c.items.invariant.left ∙ sym (at_end (items c.items.items.rest.now) c.items.items.item_number c.items.due (sym c.is_end.ensures ∙ c.items-test.false)) in
    read_by c.args.bytes.now found fits whole
    ∙ same_refusal found c.unmet_end.result c.unmet_end.ensures
