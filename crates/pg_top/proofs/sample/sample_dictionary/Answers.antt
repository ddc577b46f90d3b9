use Rattle.std.proofs.Common.{◌∙◌, sym}
use Rattle.pg_dict.specs.DictionaryWords.{words}
use Rattle.pg_translate.proofs.DefaultRules.{default_keeps}
use Rattle.pg_top.proofs.sample.SampleReads.{only_memory}
use Rattle.pg_top.proofs.sample.SampleWords.{sample_accepted}
use Rattle.pg_top.proofs.sample.sample_dictionary.Goals as goal

pub returns-in-Ok-clause-words : goal.returns-in-Ok-clause-words
returns-in-Ok-clause-words c =
    let text = c.deref.ensures.value ∙ c.in_ok-text.ensures in
    (λ k. words (sym c.requires.table k) (sym text k)) ∙ c.in-Ok.ensures.words

pub only_memory-requires : goal.only_memory-requires
only_memory-requires c =
    let text = c.deref.ensures.value ∙ c.in_ok-text.ensures in
    let accepted = sample_accepted c.args.seed c.args.count default_keeps c.requires.count in
    only_memory c.in-Err.error (words c.args.table.now c.deref.result.now) accepted.0 ((λ k. words (c.requires.table k) (text k)) ∙ accepted.1) c.in-Err.ensures.words
