use Rattle.std.proofs.Common.{◌≡◌, ◌≤◌, ◌+◌, ◌-◌, length}
use Rattle.pg_types.specs.declared.marks.Mark.TheVariants.{Nothing}
use Rattle.pg_types.specs.declared.limits.TheConstants.{WORD_LETTERS_MAX}
use Rattle.pg_translate.specs.Alphabets.{letters_of}
use Rattle.pg_dict.specs.Inside.Store.{columns_of, IsFit}
use Rattle.pg_dict.specs.Inside.Lines.ReadColumns.{columns_after}
use Rattle.pg_dict.proofs.entries.line.Line.fill.Given as goal

abbrev pub invariant-items : goal.invariant-items
invariant-items l = record {
  whole : columns_after l.self.table.now l.self.weight l.self.number l.self.size l.at.position.mark l.at.position.weight l.at.room (columns_of l.store) l.at.rest.now
      ≡ columns_after l.self.table.now l.self.weight l.self.number l.self.size Nothing l.self.weight (WORD_LETTERS_MAX - 1) (columns_of l.fn.store) l.fn.rest;
  words : l.store.words.items ≡ l.fn.store.words.items;
  fit : IsFit (letters_of l.self.table.now + 1) l.store;
  within : length l.at.rest.now ≤ l.self.size;
  room : length l.store.signs.items + l.at.room ≡ length l.fn.store.signs.items + (WORD_LETTERS_MAX - 1);
  left : length l.store.signs.items + length l.at.rest.now ≤ length l.fn.store.signs.items + length l.fn.rest;
}

abbrev pub decreases-items : goal.decreases-items
decreases-items l = length l.at.rest.now
