-- The positions that count at a level, from those that count at the level before.
use Rattle.std.proofs.Common.{◌≡◌, ℕ, ◌-◌, ◌≤◌, ◌%◌, Bool, true, false, cond, not, ◌&&◌, ◌||◌, slice_index_or, is_some, Option, inl, inr, refl, sym, ap, ◌∙◌, arith}
use Rattle.std.proofs.lemmas.Bool.{cases_eq, eq-eqb, ne_eqb}
use Rattle.pg_types.specs.declared.marks.Mark.{Mark}
use Rattle.pg_types.specs.declared.marks.Mark.TheVariants.{Nothing, Error, Missed, Found, DontCare}
use Rattle.pg_translate.specs.Alphabets.{Alphabet}
use Rattle.pg_dict.specs.Word.{Word}
use Rattle.pg_patterns.specs.Values.{Patterns, value_at}
use Rattle.pg_select.specs.Statuses.{is_odd, status_at}
use Rattle.pg_select.proofs.LawsClosedDots.{counted_by, counts_by}
use Rattle.pg_driver.specs.Inside.counting.OpenSigns.{is_in_reach, is_open_first, takes_part}

-- by its reach, care, hyphen and value, and by the level before
turned_by : (r c h v odd : Bool) → (not (not (r && is_some (counted_by odd (cond c (cond h (cond v Found Missed) (cond v Error Nothing)) DontCare)))) || not (r && c))
    ≡ not (r && is_some (counted_by (not odd) (cond c (cond h (cond v Found Missed) (cond v Error Nothing)) DontCare)))
turned_by false c h v odd = refl
turned_by true false h v odd = refl
turned_by true true true true true = refl
turned_by true true true true false = refl
turned_by true true true false true = refl
turned_by true true true false false = refl
turned_by true true false true true = refl
turned_by true true false true false = refl
turned_by true true false false true = refl
turned_by true true false false false = refl

-- levels are odd by turns
odd_next : (level : ℕ) → 1 ≤ level → is_odd level ≡ not (is_odd (level - 1))
odd_next level some = elim (cases_eq (level % 2) 1) [
  | inl odd ↦ eq-eqb (level % 2) 1 odd ∙ sym (ap not (ne_eqb ((level - 1) % 2) 1 (λ is. omega arith)))
  | inr even ↦ ne_eqb (level % 2) 1 even ∙ sym (ap not (eq-eqb ((level - 1) % 2) 1 (omega arith)))
]

-- a position that takes part counts at a level where it did not count at the level before
pub next_open : (m : Alphabet) (level : ℕ) (P : Patterns) (w : Word) (p : ℕ) → 1 ≤ level
    → (not (not (is_open_first m (level - 1) P w p)) || not (takes_part m w p)) ≡ not (is_open_first m level P w p)
next_open m level P w p some =
    let mark : Mark = status_at P w p in
    ap (λ (o : Option Bool). not (not (is_in_reach m w p && is_some o)) || not (takes_part m w p)) (counts_by (level - 1) mark)
    ∙ turned_by (is_in_reach m w p) (slice_index_or w.cares p true) (slice_index_or w.hyphens p false) (is_odd (value_at P w.signs p)) (is_odd (level - 1))
    ∙ ap (λ b. not (is_in_reach m w p && is_some (counted_by b mark))) (sym (odd_next level some))
    ∙ sym (ap (λ (o : Option Bool). not (is_in_reach m w p && is_some o)) (counts_by level mark))
