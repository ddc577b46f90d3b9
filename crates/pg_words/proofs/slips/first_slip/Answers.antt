use Rattle.std.proofs.Common.{sym, ap, ◌∙◌}
use Rattle.std.specs.Option.{is_none}
use Rattle.pg_words.specs.Inside.Names.{arguments_of}
use Rattle.pg_words.proofs.Unbroken.{unbroken}
use Rattle.pg_words.proofs.slips.first_slip.Goals as goal

pub returns : goal.returns
returns c = record { first = c.walk_call.ensures; none = ap is_none c.walk_call.ensures ∙ sym (unbroken (arguments_of c.args.words.now)) }
