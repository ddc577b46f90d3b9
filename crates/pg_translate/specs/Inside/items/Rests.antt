-- The cut of the rest of a line.
use Rattle.std.specs.Prelude.{ℕ, ◌+◌, ◌-◌, List, length}
use Rattle.pg_translate.specs.declared.items.Place.{Place}
use Rattle.pg_translate.specs.Alphabets.{Alphabet}
use Rattle.pg_translate.specs.Inside.items.Cuts.{Cut, cut_from}

-- the cut of the rest of a line of this size
abbrev pub cut_rest : Alphabet → Place → ℕ → List ℕ → Cut
cut_rest t place size rest = cut_from t place (length rest) (size - length rest + 1) rest
