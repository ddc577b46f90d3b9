-- What a packed engine means.
use Rattle.std.specs.Prelude.{Some}
use Rattle.pg_select.specs.Inside.engine.Meanings.{Meaning}
use Rattle.pg_packed.specs.declared.engine.PackedEngine.{PackedEngine}

-- what the engine means: the maps of its tries. The families of the patterns' trie are told
abbrev pub packed_meaning : PackedEngine → Meaning
packed_meaning e = record {
  signs = e.trie.signs;
  patterns = e.trie.patterns;
  hopeless = e.trie.hopeless;
  counts = e.counts.counts;
  pass = e.pass;
  families = Some e.trie.families;
  begun = e.begun;
  tidy = e.tidy;
}
