use Rattle.std.proofs.Common.{◌∙◌, ap, sym}
use Rattle.std.specs.Option.{is_some}
use Rattle.pg_cells.proofs.LinkLaws.{some_base, none_goes_on, goes_has}
use Rattle.pg_cells.proofs.linked.links.has_sign.Goals as goal

pub returns-then-base-eq0 : goal.returns-then-base-eq0
returns-then-base-eq0 g c q told = sym (none_goes_on c.args.cells.now c.requires.held q c.args.base told c.if-base-eq0.true c.args.s)

pub find-requires : goal.find-requires
find-requires g c =
    record { base = (c.requires.base.0, some_base c.args.cells.now.families c.requires.base.0 c.args.base c.requires.base.1 c.if-base-eq0.false); sign = c.requires.sign }

pub returns : goal.returns
returns g c q told =
    let h = c.args.cells.now in
    let at = c.find.ensures.cell q (some_base h.families q c.args.base told c.if-base-eq0.false) in
    c.is_some.ensures ∙ ap is_some at ∙ sym (goes_has h c.requires.held q c.args.s)
