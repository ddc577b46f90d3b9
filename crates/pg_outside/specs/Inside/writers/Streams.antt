-- What the loop over a writer does, where the bytes that the writer holds are known.
use Rattle.std.specs.Prelude.{ℕ, List, take, Option}
use Rattle.std.specs.Io.KnownBytes.{Appends}

-- where the bytes that a writer held are known, it holds them and then a prefix of these bytes
abbrev pub AppendsPart : Option (List ℕ) → Option (List ℕ) → List ℕ → Type 0
AppendsPart before after bytes = (kept : ℕ) × Appends before after (take kept bytes)
