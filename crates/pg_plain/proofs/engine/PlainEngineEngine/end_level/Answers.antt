use Rattle.std.proofs.Common.{◌≡◌, ℕ, true, T, List, sym, subst, refl, rules}
use Rattle.std.specs.FinMap.Entries.{is_sorted}
use Rattle.std.specs.List.{list_all}
use Rattle.pg_patterns.specs.DottedSigns.{dotted_cmp}
use Rattle.pg_plain.specs.Inside.Strings.{is_string}
use Rattle.pg_plain.proofs.engine.PlainEngineEngine.end_level.Goals as goal

pub returns-clause-ok : goal.returns-clause-ok
returns-clause-ok c = search rules

pub invariant_of-self-clause-strings : goal.invariant_of-self-clause-strings
invariant_of-self-clause-strings c = subst (λ (H : List ((List ℕ × ℕ) × Unit {0})). T (is_sorted dotted_cmp H) × (list_all (λ e. is_string e.0) H ≡ true)) (sym c.clear.ensures.empty) (tt, refl)
