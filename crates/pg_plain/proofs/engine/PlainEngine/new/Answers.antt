use Rattle.std.proofs.Common.{◌≡◌, ℕ, List, true, T, sym, subst, refl}
use Rattle.std.specs.FinMap.Entries.{is_sorted}
use Rattle.pg_patterns.specs.DottedSigns.{dotted_cmp}
use Rattle.std.specs.List.{list_all}
use Rattle.pg_patterns.specs.Values.{Patterns}
use Rattle.pg_patterns.specs.Inside.PatternMaps.{is_entry}
use Rattle.pg_plain.specs.Inside.Strings.{is_string, has_signs_up_to}
use Rattle.pg_plain.proofs.Known.{patterns_told}
use Rattle.pg_plain.proofs.engine.PlainEngine.new.Goals as goal

pub invariant_of-result-clause-known : goal.invariant_of-result-clause-known
invariant_of-result-clause-known c =
    let same = c.in_ok-patterns.ensures.value in
    let sound : list_all is_entry c.args.start.now ≡ true = subst (λ (P : Patterns). list_all is_entry P ≡ true) same c.in_ok-patterns.ensures.kept.sound in
    subst (λ (P : Patterns). list_all (λ e. has_signs_up_to c.args.signs e.0.0) P ≡ true) (sym same) (patterns_told c.args.signs c.args.start.now sound c.requires)

pub invariant_of-result-clause-strings : goal.invariant_of-result-clause-strings
invariant_of-result-clause-strings c = subst (λ (H : List ((List ℕ × ℕ) × Unit {0})). T (is_sorted dotted_cmp H) × (list_all (λ e. is_string e.0) H ≡ true)) (sym c.new.ensures.empty) (tt, refl)
