-- What a run tells of the cells is the account that its layouts are those of.
use Rattle.std.proofs.Common.{◌≡◌, ℕ, List, [], ◌∷◌, map, Option, None, Some, IsSome, refl}
use Rattle.std.specs.List.{AllByRecursion}
use Rattle.std.specs.Option.{option_map}
use Rattle.std.proofs.lemmas.List.Elements.{All-from_recursion}
use Rattle.pg_types.specs.declared.marks.Layout.{Layout}
use Rattle.pg_select.specs.declared.pass.Pass.{Pass}
use Rattle.pg_driver.specs.declared.records.PassRecord.{PassRecord}
use Rattle.pg_driver.specs.declared.records.LevelRecord.{LevelRecord}
use Rattle.pg_driver.specs.Inside.records.SoundRecords.{CompletedRun}
use Rattle.pg_driver.specs.Inside.records.CellsAccounts.{CellsAccount}
use Rattle.pg_driver.specs.Inside.records.RunAccounts.{TellsCells}
use Rattle.pg_texts.specs.Inside.CellsRecords.{HasLayouts, layout_there, pass_cells, level_cells, run_cells}

-- a value that is some is what the layout gives
there : {A : Type 0} (f : Layout → A) (layout : Option Layout) (a : A) → option_map f layout ≡ Some a → f (layout_there layout) ≡ a
there f None a is = cc
there f (Some l) a is = cc

-- each value of a list is some
each_there : {R A : Type 0} (layout : R → Option Layout) (f : R → Layout → A) (rs : List R) (xs : List A) → map (λ r. option_map (f r) (layout r)) rs
    ≡ map Some xs → map (λ r. f r (layout_there (layout r))) rs ≡ xs
each_there layout f [] [] is = refl
each_there layout f [] (a ∷ xs) is = cc
each_there layout f (r ∷ rs) [] is = cc
each_there layout f (r ∷ rs) (a ∷ xs) is =
    let first : option_map (f r) (layout r) ≡ Some a = cc in
    let rest : map (λ r. option_map (f r) (layout r)) rs ≡ map Some xs = cc in
    let here : f r (layout_there (layout r)) ≡ a = there (f r) (layout r) a first in
    let more : map (λ r. f r (layout_there (layout r))) rs ≡ xs = each_there layout f rs xs rest in
    cc

same_account : {s z : Layout} {p q : List (Pass × ℕ × ℕ)} {l m : List (ℕ × Layout)} → s ≡ z → p ≡ q → l ≡ m → let A : Type 0 = CellsAccount in
    ◌≡◌ {A = A} (record { start = s; passes = p; levels = l }) (record { start = z; passes = q; levels = m })
same_account a b c = cc

-- a run tells the account of its cells
pub account_told : (a : CellsAccount) (r : CompletedRun) → TellsCells (Some a) r → run_cells r ≡ a
account_told a r tells =
    let start : layout_there r.first_layout ≡ a.start = rw tells.0 refl in
    let passes : map pass_cells r.passes ≡ a.passes = each_there (λ p. p.layout) (λ p l. (record { level = p.level; len = p.len; dot = p.dot }, l.taken, l.top)) r.passes a.passes tells.1 in
    let levels : map level_cells r.levels ≡ a.levels = each_there (λ l. l.layout) (λ l layout. (l.level, layout)) r.levels a.levels tells.2 in
    same_account start passes levels

-- where a run tells the account of its cells, every layout is there
some_there : {A : Type 0} (f : Layout → A) (layout : Option Layout) (a : A) → option_map f layout ≡ Some a → IsSome layout
some_there f None a is = cc
some_there f (Some l) a is = refl

each_some : {R A : Type 0} (layout : R → Option Layout) (f : R → Layout → A) (rs : List R) (xs : List A) → map (λ r. option_map (f r) (layout r)) rs
    ≡ map Some xs → AllByRecursion (λ r. IsSome (layout r)) rs
each_some layout f [] [] is = tt
each_some layout f [] (a ∷ xs) is = tt
each_some layout f (r ∷ rs) [] is = cc
each_some layout f (r ∷ rs) (a ∷ xs) is =
    let first : option_map (f r) (layout r) ≡ Some a = cc in
    let rest : map (λ r. option_map (f r) (layout r)) rs ≡ map Some xs = cc in
    (some_there (f r) (layout r) a first, each_some layout f rs xs rest)

pub layouts_there : (a : CellsAccount) (r : CompletedRun) → TellsCells (Some a) r → HasLayouts r
layouts_there a r tells = record {
  first = rw tells.0 refl;
  passes = All-from_recursion (λ (p : PassRecord). IsSome p.layout) r.passes
      (each_some (λ p. p.layout) (λ p l. (record { level = p.level; len = p.len; dot = p.dot }, l.taken, l.top)) r.passes a.passes tells.1);
  levels = All-from_recursion (λ (l : LevelRecord). IsSome l.layout) r.levels (each_some (λ l. l.layout) (λ l layout. (l.level, layout)) r.levels a.levels tells.2);
}
