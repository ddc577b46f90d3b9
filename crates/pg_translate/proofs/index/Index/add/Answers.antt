use Rattle.std.proofs.Common.{refl, ap, ◌∙◌, ◌++◌, ◌∷◌, [], List, map}
use Rattle.std.proofs.lemmas.List.{map_push}
use Rattle.pg_translate.specs.declared.index.Spelling.{Spelling}
use Rattle.pg_translate.specs.Inside.spellings.Fronts.{pair_of}
use Rattle.pg_translate.proofs.Additions.{add_index}
use Rattle.pg_translate.proofs.index.Index.add.Goals as goal

pub returns-clause-sound : goal.returns-clause-sound
returns-clause-sound c =
    let spelling : Spelling = record { sign = c.args.sign; text = c.of-text.result } in
    add_index c.args.self.now _ c.args.sign c.of-text.result c.requires.sound
    (ap (map pair_of) c.in_ok-push.ensures.items ∙ map_push pair_of c.keep_first.new.self.spellings.items spelling
    ∙ ap (λ (items : List Spelling). map pair_of items ++ pair_of spelling ∷ []) (rw (c.keep_first.ensures.spellings, c.enter.ensures.spellings) refl))
    (rw (← c.enter.ensures.firsts) c.in_ok-keep_first.ensures.firsts)
    (λ q bytes some. rw (c.keep_first.ensures.heads, c.keep_first.ensures.longer, c.of-text.ensures) (c.in_ok-enter.ensures.fronts q bytes some))
    (rw c.of-text.ensures c.requires.apart)
    c.requires.low c.requires.high c.requires.letter
    (rw c.of-text.ensures c.requires.some)
    (rw c.of-text.ensures c.requires.few)
