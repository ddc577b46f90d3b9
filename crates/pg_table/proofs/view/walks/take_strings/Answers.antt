use Rattle.std.proofs.Common.{◌≡◌, ◌≢◌, ℕ, ◌+◌, ◌-◌, ◌<◌, ◌≤◌, max, true, List, [], ◌∷◌, ◌++◌, length, take, drop, get_or, refl, sym, ap, ◌∙◌, arith, append_assoc}
use Rattle.pg_types.specs.declared.limits.TheConstants.{PATTERN_SIGNS_MAX}
use Rattle.pg_table.specs.declared.parts.cell.Cell.{Cell}
use Rattle.pg_table.specs.Forms.{cell_at}
use Rattle.pg_table.specs.Lookups.{cell_has_sign, lookup, lookup_from}
use Rattle.pg_table.specs.Inside.view.ListsOf.{list_in}
use Rattle.pg_select.specs.Inside.words.Positions.{values_of, Raises}
use Rattle.pg_table.specs.Inside.view.Raising.{by_record_list, by_table_strings}
use Rattle.pg_table.proofs.view.Levels.{Level, level_step, level_end}
use Rattle.pg_table.proofs.view.CellWalks.{goes_on, no_sign, no_child, list_here, list_below, strings_none, strings_more}
use Rattle.pg_table.proofs.view.walks.take_strings.Goals as goal

pub loop-stop-init : goal.loop-stop-init
unfolding lookup
loop-stop-init c =
    let none : c.args.start - c.args.start ≡ 0 = omega arith in
    let one : c.args.start - c.args.start + 1 ≡ 1 = omega arith in
    record {
      inside = omega arith;
      leads = λ s more. ap (λ n. lookup c.args.view.now (take n (drop c.args.start c.args.w.now) ++ s ∷ more)) none;
      values = λ p low. ap (λ n. max (values_of c.args.out.now p) (by_table_strings c.args.view.now c.args.w.now c.args.start n p)) one;
      uncovered = c.requires.uncovered;
    }

-- the longer strings have no list, where the next sign leads nowhere
pub returns-in_default-clause-values : goal.returns-in_default-clause-values
returns-in_default-clause-values c =
    let b = c.args.view.now in
    let w = c.args.w.now in
    let n : ℕ = c.loop-stop.stop - c.args.start + 1 in
    let s : ℕ = get_or w c.loop-stop.stop 0 in
    level_end (by_table_strings b w c.args.start n) (by_table_strings b w c.args.start 1) (values_of c.args.out.now) (values_of c.loop-stop.out)
    (λ p. strings_none b w p c.args.start n (λ m low few inside.
    let goes = goes_on w c.args.start c.loop-stop.stop m c.loop-stop.auto.stop (omega arith) inside in
    ap (lookup b) goes.whole ∙ c.loop-stop.invariant.leads s goes.more ∙ no_sign b c.loop-stop.base s c.in_default.ensures.cell goes.more))
    c.loop-stop.invariant.values

-- the list of the string that ends here is taken in
taken : (b w : List ℕ) (start stop base : ℕ) (cell : Cell) (before now new : ℕ → ℕ) → start ≤ stop → stop < length w → stop < start + PATTERN_SIGNS_MAX
    → ((s : ℕ) (more : List ℕ) → lookup b (take (stop - start) (drop start w) ++ s ∷ more) ≡ lookup_from b base (s ∷ more))
    → cell_has_sign b base (get_or w stop 0) ≡ true → cell ≡ cell_at b (base + get_or w stop 0)
    → Level (by_table_strings b w start (stop - start + 1)) (by_table_strings b w start 1) before now → Raises (by_record_list start (stop + 1 - start) (list_in b cell.head)) now new
    → Level (by_table_strings b w start (stop + 1 - start + 1)) (by_table_strings b w start 1) before new
taken b w start stop base cell before now new low inside few leads has is level raises =
    let s : ℕ = get_or w stop 0 in
    let n : ℕ = stop + 1 - start in
    let same : stop - start + 1 ≡ n = omega arith in
    let goes = goes_on w start stop n low (omega arith) (omega arith) in
    let list : lookup b (take n (drop start w)) ≡ list_in b cell.head =
    ap (lookup b) goes.whole ∙ leads s goes.more ∙ ap (λ l. lookup_from b base (s ∷ l)) (goes.size refl) ∙ list_here b base s has ∙ ap (λ (x : Cell). list_in b x.head) (sym is) in
    level_step (by_table_strings b w start (stop - start + 1)) (by_record_list start n (list_in b cell.head)) (by_table_strings b w start (n + 1)) (by_table_strings b w start 1) before now new
    (λ p. ap (λ k. by_table_strings b w start k p) same ∙ strings_more b w p start n (omega arith) (omega arith)
    ∙ ap (λ (l : List (ℕ × ℕ)). max (by_record_list start n l p) (by_table_strings b w start (n + 1) p)) list)
    level raises

-- where the cell has no family below it, no longer string has a list
pub returns-then-cell-eq0-clause-values : goal.returns-then-cell-eq0-clause-values
returns-then-cell-eq0-clause-values c =
    let b = c.args.view.now in
    let w = c.args.w.now in
    let start = c.args.start in
    let stop = c.loop-stop.stop in
    let s : ℕ = get_or w stop 0 in
    let n : ℕ = stop + 1 - start + 1 in
    let inside : stop < length w = omega (arith, c.min-stop-end.ensures) in
    let few : stop < start + PATTERN_SIGNS_MAX = omega (arith, c.min-stop-end.ensures) in
    let child : (cell_at b (c.loop-stop.base + s)).child ≡ 0 = ap (λ (x : Cell). x.child) (sym c.in-Some.ensures.cell.1) ∙ c.if-cell-eq0.true in
    level_end (by_table_strings b w start n) (by_table_strings b w start 1) (values_of c.args.out.now) (values_of c.take_list.new.out)
    (λ p. strings_none b w p start n (λ m low short long.
    let goes = goes_on w start stop m c.loop-stop.auto.stop (omega arith) long in
    let more = goes.longer (omega arith) in
    ap (lookup b) goes.whole ∙ c.loop-stop.invariant.leads s goes.more ∙ ap (λ l. lookup_from b c.loop-stop.base (s ∷ l)) more.2 ∙ no_child b c.loop-stop.base s child more.0 more.1))
    (taken b w start stop c.loop-stop.base c.in-Some.cell (values_of c.args.out.now) (values_of c.loop-stop.out)
    (values_of c.take_list.new.out) c.loop-stop.auto.stop inside few c.loop-stop.invariant.leads
    c.in-Some.ensures.cell.0 c.in-Some.ensures.cell.1 c.loop-stop.invariant.values c.take_list.ensures.values)

pub loop-stop-preserved : goal.loop-stop-preserved
loop-stop-preserved c =
    let b = c.args.view.now in
    let w = c.args.w.now in
    let start = c.args.start in
    let stop = c.loop-stop.stop in
    let s : ℕ = get_or w stop 0 in
    let inside : stop < length w = omega (arith, c.min-stop-end.ensures) in
    let few : stop < start + PATTERN_SIGNS_MAX = omega (arith, c.min-stop-end.ensures) in
    let child : (cell_at b (c.loop-stop.base + s)).child ≡ c.in-Some.cell.child = ap (λ (x : Cell). x.child) (sym c.in-Some.ensures.cell.1) in
    let some : (cell_at b (c.loop-stop.base + s)).child ≢ 0 = λ z. c.if-cell-eq0.false (sym child ∙ z) in
    let goes = goes_on w start stop (stop + 1 - start) c.loop-stop.auto.stop (omega arith) (omega arith) in
    record {
      inside = omega (arith, c.in-Some.ensures.within.0);
      leads = λ t more.
          ap (λ l. lookup b (l ++ t ∷ more)) (goes.whole ∙ ap (λ l. take (stop - start) (drop start w) ++ s ∷ l) (goes.size refl))
          ∙ ap (lookup b) (append_assoc (take (stop - start) (drop start w)) (s ∷ []) (t ∷ more))
          ∙ c.loop-stop.invariant.leads s (t ∷ more)
          ∙ list_below b c.loop-stop.base s c.in-Some.ensures.cell.0 some t more
          ∙ ap (λ base. lookup_from b base (t ∷ more)) child;
      values = taken b w start stop c.loop-stop.base c.in-Some.cell (values_of c.args.out.now) (values_of c.loop-stop.out)
          (values_of c.take_list.new.out) c.loop-stop.auto.stop inside few c.loop-stop.invariant.leads
          c.in-Some.ensures.cell.0 c.in-Some.ensures.cell.1 c.loop-stop.invariant.values c.take_list.ensures.values;
      uncovered = c.take_list.ensures.uncovered;
    }

pub returns-clause-values : goal.returns-clause-values
returns-clause-values c =
    let b = c.args.view.now in
    let w = c.args.w.now in
    let n : ℕ = c.loop-stop.stop - c.args.start + 1 in
    level_end (by_table_strings b w c.args.start n) (by_table_strings b w c.args.start 1) (values_of c.args.out.now) (values_of c.loop-stop.out)
    (λ p. strings_none b w p c.args.start n (λ m low few inside. absurd (omega (arith, c.min-stop-end.ensures, c.loop-stop.auto.stop, c.loop-stop.auto.stop-end)))) c.loop-stop.invariant.values
