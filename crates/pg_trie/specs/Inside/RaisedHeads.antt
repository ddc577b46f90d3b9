-- The heads that were raised last.
use Rattle.std.specs.Prelude.{◌≡◌, ◌<◌, ◌≤◌, List, length, All}
use Rattle.pg_outputs.specs.declared.records.Record.{Record}
use Rattle.pg_outputs.specs.Lists.{list_of}
use Rattle.pg_trie.specs.declared.lists.RaisedHead.{RaisedHead}
use Rattle.pg_trie.specs.Inside.Lists.{list_with}

-- the list of the new head is that of the old one, with the value at the dot
pub record IsRaised (records : List Record) (r : RaisedHead) : Type 0 where
  pub before : r.before ≤ length records
  pub after : r.after ≤ length records
  pub list : list_of records r.after ≡ list_with (r.value, r.dot) (list_of records r.before)

-- each raised head that is kept is right
abbrev pub AreRaised : List Record → List RaisedHead → Type 0
AreRaised records raised = All (λ r. 0 < r.value → IsRaised records r) raised
