-- What every table keeps.
use Rattle.std.specs.Prelude.{◌≡◌, ◌-◌, ◌≤◌, true, length}
use Rattle.std.specs.List.{list_all}
use Rattle.pg_types.specs.declared.limits.TheConstants.{SIGNS_MAX}
use Rattle.pg_translate.specs.declared.head.Head.{Head}
use Rattle.pg_translate.specs.declared.index.Index.{Index}
use Rattle.pg_translate.specs.Alphabets.{Alphabet}
use Rattle.pg_translate.specs.Spellings.{is_spelling}
use Rattle.pg_translate.specs.Inside.tables.Heads.{IsSoundHead, head_marks}
use Rattle.pg_translate.specs.Inside.spellings.Fronts.{IsIndex, pairs}

-- what a table's parts hold
abbrev pub alphabet_in : Head → Index → Alphabet
alphabet_in head index =
    record {
      left = head.left;
      right = head.right;
      marks = head_marks head;
      spellings = pairs index;
    }

-- minima, marks, letters and spellings keep the rules, and an index knows the spellings
pub record IsTable (head : Head) (index : Index) : Type 0 where
  pub head_sound : IsSoundHead head
  pub index_sound : IsIndex index
  pub few : length index.firsts.items ≤ SIGNS_MAX - 1
  pub spelled : list_all (λ s. is_spelling (head_marks head) s.1) (pairs index) ≡ true
