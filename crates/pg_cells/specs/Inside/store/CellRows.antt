-- The parts of the cells, each as a list by the cells' indices.
use Rattle.std.specs.Prelude.{◌≡◌, ◌≢◌, ℕ, ◌+◌, ◌*◌, ◌/◌, ◌%◌, ◌<◌, Bool, true, false, if◌then◌else◌, nat_eq, List, [], ◌∷◌, ◌++◌, map, set, get_or, zero, suc}
use Rattle.pg_cells.specs.declared.store.cell.Cell.{Cell}
use Rattle.pg_cells.specs.declared.store.cell.TheConstants.{SIGN_COUNT, SIGN_AT, NEXT_AT, FIRST_AT, FIRST_COUNT, BASE_AT, LINK_AT}
use Rattle.pg_cells.specs.declared.store.member.Member.{Member}

-- what families see: signs, bases of child families, values, and which indices are bases
pub record Row (V : Type 0) : Type 0 where
  pub signs : List ℕ
  pub children : List ℕ
  pub values : List V
  pub bases : List Bool

-- the sign in `signs` of a cell; 0 in a free cell
abbrev pub sign_in : ℕ → ℕ
sign_in signs = if nat_eq (signs % SIGN_AT) 0 then 0 else signs / SIGN_AT % SIGN_COUNT + 1

-- the next sign in `signs` of a taken cell
abbrev pub next_in : ℕ → ℕ
next_in signs = signs / NEXT_AT % SIGN_COUNT

-- the first sign in `signs` and `links` of a taken cell
abbrev pub first_in : ℕ → ℕ → ℕ
first_in signs links = links % BASE_AT * FIRST_COUNT + signs / FIRST_AT % FIRST_COUNT

-- whether `links` of a cell says that its index is a base
abbrev pub base_in : ℕ → Bool
base_in links = nat_eq (links / BASE_AT % 2) 1

-- the link in `links` of a cell
abbrev pub link_in : ℕ → ℕ
link_in links = links / LINK_AT

module _ {V : Type 0} where
  -- the sign in a cell; 0 in a free cell, and past the end
  abbrev pub sign_at : Row V → ℕ → ℕ
  sign_at r cell = get_or r.signs cell 0

  -- the answer says whether the cell is taken; none past the end is
  pub record SaysTaken (r : Row V) (cell : ℕ) (answer : Bool) : Type 0 where
    pub taken : answer ≡ true → sign_at r cell ≢ 0
    pub free : answer ≡ false → sign_at r cell ≡ 0

  -- the cell is free; no cell past the end is
  abbrev pub IsFree : Row V → ℕ → Type 0
  IsFree r cell = get_or r.signs cell 1 ≡ 0

  -- the base of the child family of a cell; 0 for none, and past the end
  abbrev pub child_at : Row V → ℕ → ℕ
  child_at r cell = get_or r.children cell 0

  -- whether an index is the base of a family; no index past the end is
  abbrev pub base_at : Row V → ℕ → Bool
  base_at r cell = get_or r.bases cell false

  -- the sign of a cell; 0 in a free one
  abbrev pub sign_seen : Cell V → ℕ
  sign_seen c = sign_in c.signs

  -- whether the index of the cell is a base
  abbrev pub base_seen : Cell V → Bool
  base_seen c = base_in c.links

  -- the link of a cell
  abbrev pub link_seen : Cell V → ℕ
  link_seen c = link_in c.links

  -- the base of the child family; a free cell has none
  abbrev pub child_seen : Cell V → ℕ
  child_seen c = if nat_eq (sign_seen c) 0 then 0 else link_seen c

  -- the next and the first sign have room in a cell
  abbrev pub FitsCell : Member V → Type 0
  FitsCell m = (m.next < SIGN_COUNT) × (m.first < SIGN_COUNT)

  -- a value without links
  abbrev pub without_links : V → Member V
  without_links v = record { value = v; next = 0; first = 0 }

  -- the value at the index loses its links
  abbrev pub unlink_at : List (Member V) → ℕ → List (Member V)
  unlink_at [] i = []
  unlink_at (m ∷ ms) zero = without_links m.value ∷ ms
  unlink_at (m ∷ ms) (suc i) = m ∷ unlink_at ms i

  -- the value of a cell, with its links to signs; a free cell has no such links
  abbrev pub member_seen : Cell V → Member V
  member_seen c = if nat_eq (sign_seen c) 0 then without_links c.value
      else record { value = c.value; next = next_in c.signs; first = first_in c.signs c.links }

  -- the row of these cells: what the families see of them
  abbrev pub row_of : List (Cell V) → Row (Member V)
  row_of cells = record {
    signs = map sign_seen cells;
    children = map child_seen cells;
    values = map member_seen cells;
    bases = map base_seen cells;
  }

  -- the row when a taken cell has this base of a child family
  abbrev pub with_child : Row V → ℕ → ℕ → Row V
  with_child r cell child = record r { children = set r.children cell child }

  -- the row when a cell has this value
  abbrev pub with_value : Row V → ℕ → V → Row V
  with_value r cell value = record r { values = set r.values cell value }

  -- the row when this flag says whether an index is the base of a family
  abbrev pub with_base : Row V → ℕ → Bool → Row V
  with_base r cell flag = record r { bases = set r.bases cell flag }

  -- the row when a cell is taken: it has the sign, the value and the base of the child family
  abbrev pub with_taken : Row V → ℕ → ℕ → V → ℕ → Row V
  with_taken r cell sign value child =
      record r {
        signs = set r.signs cell sign;
        values = set r.values cell value;
        children = set r.children cell child;
      }

  -- the row when a cell is given up: it has no sign, no child family and no links
  abbrev pub with_free : Row (Member V) → ℕ → Row (Member V)
  with_free r cell = record r {
    signs = set r.signs cell 0;
    children = set r.children cell 0;
    values = unlink_at r.values cell;
  }

  -- the row with one free cell more, at its end
  abbrev pub with_more : Row V → V → Row V
  with_more r value = record {
    signs = r.signs ++ 0 ∷ [];
    children = r.children ++ 0 ∷ [];
    values = r.values ++ value ∷ [];
    bases = r.bases ++ false ∷ [];
  }
