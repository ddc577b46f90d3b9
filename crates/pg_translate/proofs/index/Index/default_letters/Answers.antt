use Rattle.std.proofs.Common.{◌≡◌, ap, ◌∙◌, arith}
use Rattle.pg_translate.proofs.Defaults.{defaults}
use Rattle.pg_translate.proofs.index.Index.default_letters.Goals as goal

pub letters-init : goal.letters-init
letters-init c = (c.new-index.ensures.spellings, c.new-index.ensures.sound)

pub letters-preserved : goal.letters-preserved
letters-preserved c = (c.in_ok-add_default.ensures.spellings, c.in_ok-add_default.ensures.sound)

pub add_default-requires-clause-before : goal.add_default-requires-clause-before
add_default-requires-clause-before c = c.letters.invariant.0

pub add_default-requires-clause-sound : goal.add_default-requires-clause-sound
add_default-requires-clause-sound c = c.letters.invariant.1

pub returns-clause-spellings : goal.returns-clause-spellings
returns-clause-spellings c = let last : c.letters.n ≡ 26 = omega arith in c.letters.invariant.0 ∙ ap defaults last

pub returns-clause-sound : goal.returns-clause-sound
returns-clause-sound c = c.letters.invariant.1
