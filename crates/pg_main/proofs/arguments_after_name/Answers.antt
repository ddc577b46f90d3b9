use Rattle.std.proofs.Common.{◌∙◌, ap, Ok}
use Rattle.std.proofs.lemmas.Iterator.{items_from_collect}
use Rattle.std.proofs.lemmas.Iterator.Adapters.{YieldsList-from_skip, YieldsList-from_vec}
use Rattle.std.specs.Vec.Iter.{into_iter_items, into_iter_len}
use Rattle.pg_main.proofs.arguments_after_name.Goals as goal

pub returns-in-Ok-clause-all : goal.returns-in-Ok-clause-all
returns-in-Ok-clause-all c =
    let arguments = c.args.arguments in
    items_from_collect {E = Unit {0}} (Ok c.in-Ok.given) c.in-Ok.ensures.ran (YieldsList-from_skip {ys = into_iter_items arguments} 1
    (YieldsList-from_vec (into_iter_items arguments) (ap into_iter_items c.skip.ensures.source)
    (ap into_iter_len c.skip.ensures.source ∙ arguments.rest.ok.0)) c.skip.ensures.count)
