-- What a plain engine means.
use Rattle.std.specs.Prelude.{true, None}
use Rattle.pg_select.specs.Inside.engine.Meanings.{Meaning}
use Rattle.pg_plain.specs.declared.engine.PlainEngine.{PlainEngine}

-- what the engine means: its maps are the entries in their order. No families are told
abbrev pub plain_meaning : PlainEngine → Meaning
plain_meaning e = record {
  signs = e.signs;
  patterns = e.patterns.entries;
  hopeless = e.hopeless.entries;
  counts = e.counts.entries;
  pass = e.pass;
  families = None;
  begun = e.begun;
  tidy = true;
}
