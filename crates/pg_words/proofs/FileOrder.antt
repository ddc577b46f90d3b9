-- The first two files of one name, and outputs that differ.
use Rattle.std.proofs.Common.{◌≡◌, ℕ, ◌++◌, ◌&&◌, not, Bool, true, false, List, [], ◌∷◌, Option, None, Some, refl, sym, ap, ◌∙◌}
use Rattle.std.specs.List.{list_all}
use Rattle.std.specs.Option.{is_none, option_map_or}
use Rattle.std.specs.Prelude.{if◌then◌else◌}
use Rattle.std.specs.Str.{bytes_eq}
use Rattle.std.proofs.lemmas.Slice.Eq.{bytes_eq-Decides}
use Rattle.pg_words.specs.AcceptedNames.{outputs_differ}
use Rattle.pg_words.specs.Inside.Names.{differs_from}
use Rattle.pg_words.specs.Inside.Slips.{NamedFile, same_name, first_same}
use Rattle.pg_words.specs.declared.slips.Slip.{Slip}
use Rattle.pg_words.specs.declared.slips.Slip.TheVariants.{Same}

-- the names of the files that are written
abbrev pub written : List NamedFile → List (List ℕ)
written [] = []
written ((true, name, behind) ∷ files) = name ∷ written files
written ((false, name, behind) ∷ files) = written files

-- the names of the files that are read
abbrev pub unwritten : List NamedFile → List (List ℕ)
unwritten [] = []
unwritten ((true, name, behind) ∷ files) = unwritten files
unwritten ((false, name, behind) ∷ files) = name ∷ unwritten files

-- two tests that are true together are equal
pub same_truth : (a b : Bool) → (a ≡ true → b ≡ true) → (b ≡ true → a ≡ true) → a ≡ b
same_truth true b f g = sym (f refl)
same_truth false true f g = g refl
same_truth false false f g = refl

-- names are compared in either order
pub either_order : (x y : List ℕ) → bytes_eq x y ≡ bytes_eq y x
either_order x y = same_truth (bytes_eq x y) (bytes_eq y x) (λ h. (bytes_eq-Decides y x).1 (sym ((bytes_eq-Decides x y).0 h)))
    (λ h. (bytes_eq-Decides x y).1 (sym ((bytes_eq-Decides y x).0 h)))

-- the second of three tests first
pub and_swap : (a b c : Bool) → (a && (b && c)) ≡ (b && (a && c))
and_swap true b c = refl
and_swap false true c = refl
and_swap false false c = refl

-- the second and third of four tests in the other order
pub and_middle : (a b c d : Bool) → ((a && b) && (c && d)) ≡ ((a && c) && (b && d))
and_middle false b c d = refl
and_middle true true true d = refl
and_middle true true false d = refl
and_middle true false true d = refl
and_middle true false false d = refl

-- none of a choice
unless : (b : Bool) (n : ℕ) (x : Option ℕ) → is_none (if b then Some n else x) ≡ (not b && is_none x)
unless true n x = refl
unless false n x = refl

-- none of the one and of the other
neither : (f : ℕ → Slip) (x : Option ℕ) (y : Option Slip) → is_none (option_map_or (λ n. Some (f n)) x y) ≡ (is_none x && is_none y)
neither f None y = refl
neither f (Some n) y = refl

-- a name in the middle of others
middle : (p : List ℕ → Bool) (x : List ℕ) (xs ys : List (List ℕ)) → list_all p (xs ++ x ∷ ys) ≡ (p x && list_all p (xs ++ ys))
middle p x [] ys = refl
middle p x (w ∷ xs) ys = ap (λ (b : Bool). p w && b) (middle p x xs ys) ∙ and_swap (p w) (p x) (list_all p (xs ++ ys))

-- no file has the name of one that is written
written_name : (name : List ℕ) (files : List NamedFile) → is_none (same_name name true files) ≡ differs_from name (written files ++ unwritten files)
written_name name [] = refl
written_name name ((true, other, n) ∷ files) = unless (bytes_eq other name) n (same_name name true files)
    ∙ (λ i. not (either_order other name i) && written_name name files i)
written_name name ((false, other, n) ∷ files) = unless (bytes_eq other name) n (same_name name true files)
    ∙ (λ i. not (either_order other name i) && written_name name files i)
    ∙ sym (middle (λ other. not (bytes_eq name other)) other (written files) (unwritten files))

-- no file that is written has this name
read_name : (name : List ℕ) (files : List NamedFile) → is_none (same_name name false files) ≡ list_all (λ output. not (bytes_eq output name)) (written files)
read_name name [] = refl
read_name name ((true, other, n) ∷ files) = unless (bytes_eq other name) n (same_name name false files)
    ∙ ap (λ (b : Bool). not (bytes_eq other name) && b) (read_name name files)
read_name name ((false, other, n) ∷ files) = read_name name files

-- an input more
input_more : (name : List ℕ) (outputs inputs : List (List ℕ)) → outputs_differ outputs (name ∷ inputs)
    ≡ (list_all (λ output. not (bytes_eq output name)) outputs && outputs_differ outputs inputs)
input_more name [] inputs = refl
input_more name (o ∷ outputs) inputs = (λ i. middle (λ other. not (bytes_eq o other)) name outputs inputs i && input_more name outputs inputs i)
    ∙ and_middle (not (bytes_eq o name)) (differs_from o (outputs ++ inputs)) (list_all (λ output. not (bytes_eq output name)) outputs) (outputs_differ outputs inputs)

-- no two files of one name, one of which is written: the outputs differ from all other names
pub in_order : (files : List NamedFile) → is_none (first_same files) ≡ outputs_differ (written files) (unwritten files)
in_order [] = refl
in_order ((true, name, n) ∷ files) = neither (Same n) (same_name name true files) (first_same files) ∙ (λ i. written_name name files i && in_order files i)
in_order ((false, name, n) ∷ files) = neither (Same n) (same_name name false files) (first_same files) ∙ (λ i. read_name name files i && in_order files i)
    ∙ sym (input_more name (written files) (unwritten files))
