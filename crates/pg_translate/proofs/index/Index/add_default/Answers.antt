use Rattle.std.proofs.Common.{◌≡◌, ◌+◌, ◌-◌, ◌∷◌, [], max, ap, ◌∙◌, arith}
use Rattle.pg_translate.specs.Inside.spellings.FirstSpellings.{letters_in}
use Rattle.pg_translate.specs.Inside.spellings.Fronts.{pairs}
use Rattle.pg_translate.proofs.Additions.{letters_in-push}
use Rattle.pg_translate.proofs.Defaults.{default_fits, default_more}
use Rattle.pg_translate.proofs.index.Index.add_default.Goals as goal

pub add-requires-clause-apart : goal.add-requires-clause-apart
add-requires-clause-apart c = rw c.requires.before (default_fits c.args.n c.requires.number).small

pub add-requires-clause-low : goal.add-requires-clause-low
add-requires-clause-low c =
    let letters : letters_in (pairs c.args.self.now) ≡ c.args.n = ap letters_in c.requires.before ∙ (default_fits c.args.n c.requires.number).letters in
    omega arith

pub add-requires-clause-high : goal.add-requires-clause-high
add-requires-clause-high c =
    let letters : letters_in (pairs c.args.self.now) ≡ c.args.n = ap letters_in c.requires.before ∙ (default_fits c.args.n c.requires.number).letters in
    omega arith

pub add-requires-2-clause-apart : goal.add-requires-2-clause-apart
add-requires-2-clause-apart c = rw (c.in_ok-add.ensures.spellings, c.requires.before) (default_fits c.args.n c.requires.number).capital

pub add-requires-2-clause-low : goal.add-requires-2-clause-low
add-requires-2-clause-low c =
    let letters : letters_in (pairs c.args.self.now) ≡ c.args.n = ap letters_in c.requires.before ∙ (default_fits c.args.n c.requires.number).letters in
    let more : letters_in (pairs c.add.new.self) ≡ max (letters_in (pairs c.args.self.now)) (c.args.n + 2 - 1) = ap letters_in c.in_ok-add.ensures.spellings
    ∙ letters_in-push (pairs c.args.self.now) (c.args.n + 2, (97 + c.args.n) ∷ []) in
    omega arith

pub returns-clause-spellings : goal.returns-clause-spellings
returns-clause-spellings c = rw (c.in_ok-add-2.ensures.spellings, c.in_ok-add.ensures.spellings, c.requires.before) (default_more c.args.n)
