-- A word that its dictionary lends.
use Rattle.pg_dict.specs.Word.{Word}
use Rattle.pg_dict.specs.declared.word.WordRef.{WordRef}

-- the word that a `WordRef` lends
abbrev pub lent_word : WordRef → Word
lent_word w = record {
  signs = w.signs.now;
  hyphens = w.hyphens.now;
  weights = w.weights.now;
  cares = w.cares.now;
  weight = w.weight;
}
