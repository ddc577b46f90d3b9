-- Files after writes under names that differ.
use Rattle.std.proofs.Common.{◌≡◌, ℕ, List, ◌∷◌, [], ◌++◌, Bool, true, false, not, cond, ◌&&◌, Some, Contains, map, refl, ap, sym, ◌∙◌, arith}
use Rattle.std.specs.List.{list_all, AllByRecursion}
use Rattle.std.specs.Str.{bytes_eq}
use Rattle.std.specs.FinMap as fin
use Rattle.std.proofs.lemmas.Cmp.{nat_list_cmp_total}
use Rattle.std.proofs.lemmas.List.Elements.{Contains-append_right}
use Rattle.std.proofs.lemmas.Map.Text.{is_eq-slice_cmp}
use Rattle.std.proofs.lemmas.Slice.Eq.{bytes_eq-Decides}
use Rattle.pg_outside.specs.Content.{FileMap}
use Rattle.pg_plans.specs.Outcomes.{after_all}
use Rattle.pg_words.specs.AcceptedNames.{outputs_differ}

abbrev pub Writing : Type 0
Writing = List (List ℕ × List ℕ)

abbrev pub names_of : Writing → List (List ℕ)
names_of ws = map (λ w. w.0) ws

get_insert : (m : FileMap) (name bytes q : List ℕ) → fin.get (fin.insert m name bytes) q ≡ cond (bytes_eq q name) (Some bytes) (fin.get m q)
get_insert m name bytes q = fin.get-insert nat_list_cmp_total m name bytes q ∙ grind (arith, is_eq-slice_cmp q name)

-- this name is none of these
abbrev pub NotAmong : List ℕ → List (List ℕ) → Type 0
NotAmong q names = AllByRecursion (λ name. ¬ (q ≡ name)) names

differs : (a b : List ℕ) → ¬ (a ≡ b) → bytes_eq a b ≡ false
differs a b apart = elim (bytes_eq a b) as (λ r. bytes_eq a b ≡ r → r ≡ false) [ true ↦ λ is. absurd (apart ((bytes_eq-Decides a b).0 is)) | false ↦ λ is. refl ] refl

pub get_kept : (ws : Writing) (m : FileMap) (q : List ℕ) → NotAmong q (names_of ws) → fin.get (after_all m ws) q ≡ fin.get m q
get_kept [] m q apart = refl
get_kept (w ∷ ws) m q apart =
    get_kept ws (fin.insert m w.0 w.1) q apart.1 ∙ get_insert m w.0 w.1 q ∙ ap (λ (b : Bool). cond b (Some w.1) (fin.get m q)) (differs q w.0 apart.0)

pub both : (a b : Bool) → (a && b) ≡ true → (a ≡ true) × (b ≡ true)
both true true is = (refl, refl)
both true false is = cc
both false b is = cc

all_parts : (p : List ℕ → Bool) (xs ys : List (List ℕ)) → list_all p (xs ++ ys) ≡ true → (list_all p xs ≡ true) × (list_all p ys ≡ true)
all_parts p [] ys is = (refl, is)
all_parts p (x ∷ xs) ys is =
    let h = both (p x) (list_all p (xs ++ ys)) is in
    let rest = all_parts p xs ys h.1 in
    ((λ k. h.0 k && rest.0 k), rest.1)

-- a name that differs from all of these is none of them
apart_all : (o : List ℕ) (names : List (List ℕ)) → list_all (λ other. not (bytes_eq o other)) names ≡ true → NotAmong o names
apart_all o [] is = tt
apart_all o (name ∷ names) is =
    let h = both (not (bytes_eq o name)) (list_all (λ other. not (bytes_eq o other)) names) is in
    ((λ same. let there : bytes_eq o name ≡ true = (bytes_eq-Decides o name).1 same in let never : not true ≡ true = ap not (sym there) ∙ h.0 in cc), apart_all o names h.1)

pub not_contained : (q : List ℕ) (names : List (List ℕ)) → ¬ Contains names q → NotAmong q names
not_contained q [] none = tt
not_contained q (name ∷ names) none = ((λ same. none (0, omega arith, sym same)), not_contained q names (λ c. none (Contains-append_right (name ∷ []) names q c)))

-- each is there after all of them
pub all_written : (ws : Writing) (inputs : List (List ℕ)) (m : FileMap) → outputs_differ (names_of ws) inputs ≡ true → AllByRecursion (λ w. fin.get (after_all m ws) w.0 ≡ Some w.1) ws
all_written [] inputs m differ = tt
all_written (w ∷ ws) inputs m differ =
    let h = both (list_all (λ other. not (bytes_eq w.0 other)) (names_of ws ++ inputs)) (outputs_differ (names_of ws) inputs) differ in
    let apart = apart_all w.0 (names_of ws) (all_parts (λ other. not (bytes_eq w.0 other)) (names_of ws) inputs h.0).0 in
    let self : bytes_eq w.0 w.0 ≡ true = (bytes_eq-Decides w.0 w.0).1 refl in
    let after : FileMap = fin.insert m w.0 w.1 in
    (get_kept ws after w.0 apart ∙ get_insert m w.0 w.1 w.0 ∙ ap (λ (b : Bool). cond b (Some w.1) (fin.get m w.0)) self, all_written ws inputs after h.1)

none_among : (inputs : List (List ℕ)) → AllByRecursion (λ q. NotAmong q []) inputs
none_among [] = tt
none_among (q ∷ inputs) = (tt, none_among inputs)

joined : (o : List ℕ) (outputs inputs : List (List ℕ)) → NotAmong o inputs → AllByRecursion (λ q. NotAmong q outputs) inputs → AllByRecursion (λ q. NotAmong q (o ∷ outputs)) inputs
joined o outputs [] apart all = tt
joined o outputs (q ∷ inputs) apart all = (((λ same. apart.0 (sym same)), all.0), joined o outputs inputs apart.1 all.1)

-- no input is among the outputs
pub inputs_apart : (outputs inputs : List (List ℕ)) → outputs_differ outputs inputs ≡ true → AllByRecursion (λ q. NotAmong q outputs) inputs
inputs_apart [] inputs differ = none_among inputs
inputs_apart (o ∷ outputs) inputs differ =
    let h = both (list_all (λ other. not (bytes_eq o other)) (outputs ++ inputs)) (outputs_differ outputs inputs) differ in
    joined o outputs inputs (apart_all o inputs (all_parts (λ other. not (bytes_eq o other)) outputs inputs h.0).1) (inputs_apart outputs inputs h.1)
