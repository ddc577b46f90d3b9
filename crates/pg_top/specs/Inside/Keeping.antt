-- What is promised of what is asked for.
use Rattle.pg_outside.specs.Content.{FilesShown, Told}
use Rattle.pg_words.specs.Inside.Requests.{Request, ToGenerate, ToPack, ToPrune}
use Rattle.pg_top.specs.Promises.{GeneratePromise, PackPromise, PrunePromise}

-- what is promised of what was asked for, where it is done
abbrev pub KeepsPromise : Request → FilesShown → FilesShown → Type 0
KeepsPromise (ToGenerate n) old new = Told old.held new.held
    (λ before after. GeneratePromise before n.dict n.patterns n.translate n.params)
KeepsPromise (ToPack n) old new = Told old.held new.held
    (λ before after. PackPromise before n.patterns n.translate)
KeepsPromise (ToPrune n) old new = Told old.held new.held
    (λ before after. PrunePromise before n.dict n.patterns n.translate)
KeepsPromise other old new = Unit {0}
