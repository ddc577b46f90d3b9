use Rattle.pg_plain.proofs.FirstSigns.{four_first}
use Rattle.pg_plain.proofs.dotted_keys.packed.Goals as goal

pub returns : goal.returns
returns c = four_first c.args.signs.now c.sign_at-one.result c.sign_at.result c.sign_at-2.result c.sign_at-3.result c.sign_at-one.ensures.value
    c.sign_at.ensures.value c.sign_at-2.ensures.value c.sign_at-3.ensures.value
