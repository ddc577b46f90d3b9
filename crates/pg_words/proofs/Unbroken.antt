-- Arguments are a command exactly where they break the form of none.
use Rattle.std.proofs.Common.{◌≡◌, ℕ, ◌++◌, ◌&&◌, nat_le, nat_lt, not, Bool, true, false, List, [], ◌∷◌, length, get_or, Option, None, Some, refl, sym, ap, subst, ◌∙◌}
use Rattle.std.proofs.Math.Bool.{and_comm, and_assoc}
use Rattle.std.specs.List.{list_all}
use Rattle.std.specs.Option.{is_none, is_some, option_and_then, option_map, option_map_or}
use Rattle.std.specs.Prelude.{codes, if◌then◌else◌}
use Rattle.std.specs.Str.{bytes_eq}
use Rattle.std.proofs.lemmas.List.Folds.{list_all-append}
use Rattle.std.proofs.lemmas.Slice.Eq.{bytes_eq-Decides}
use Rattle.pg_types.specs.declared.limits.TheConstants.{FOLDS_MAX, FOLDS_MIN, PRICE_MAX, SETS_MAX}
use Rattle.pg_words.specs.AcceptedNames.{is_name, outputs_differ, where_accepted}
use Rattle.pg_words.specs.NumbersWithin.{number_within}
use Rattle.pg_words.specs.Inside.Requests.{Request, request_of, ToGenerate, ToAudit, ToSample, ToPack, ToTotals, ToPrune, ToSweep}
use Rattle.pg_words.specs.Inside.forms.Generate.{FileNames, generate_in, audit_in, input_names, output_names, with_options}
use Rattle.pg_words.specs.Inside.forms.Sample.{sample_in}
use Rattle.pg_words.specs.Inside.forms.Pack.{pack_in}
use Rattle.pg_words.specs.Inside.forms.Totals.{totals_in}
use Rattle.pg_words.specs.Inside.forms.Prune.{prune_in}
use Rattle.pg_words.specs.Inside.forms.Sweep.{SweepRequest, sweep_in}
use Rattle.pg_words.specs.Inside.Slips.{Label, PlainForm, fits, slot_behind, file_behind, slip_of_options, slip_of_sets, slip_behind, slip_in, files_in, first_same, forms, slip_of}
use Rattle.pg_words.specs.declared.forms.Kind.TheVariants.{Sample}
use Rattle.pg_words.specs.declared.slips.Slip.{Slip}
use Rattle.pg_words.specs.declared.slips.Slip.TheVariants.{Unfit, Twice, TooManySets}
use Rattle.pg_words.specs.Inside.Names.{differs_from}
use Rattle.pg_words.specs.declared.limits.TheConstants.{SEED_MAX, COUNT_MAX, SAMPLE_DIGITS, FOLDS_DIGITS, PRICE_DIGITS}
use Rattle.pg_words.proofs.FileOrder.{written, unwritten, and_swap, and_middle, either_order, in_order}

-- a row of the table of forms
abbrev row : ℕ → PlainForm
row n = get_or forms n (codes "", Sample, [], [], 0)

-- where arguments break a form
abbrev broken : PlainForm → List (List ℕ) → Option Slip
broken form words = option_map_or (λ slip. Some slip) (slip_in form.2 form.3 form.4 words) (first_same (files_in form.2 form.3 words))

-- a choice that is none only where its test holds
step : (b : Bool) (x : Option Slip) (u : Slip) → is_none (if b then x else Some u) ≡ (b && is_none x)
step true x u = refl
step false x u = refl

-- none of the one and of the other
neither : (x y : Option Slip) → is_none (option_map_or (λ slip. Some slip) x y) ≡ (is_none x && is_none y)
neither None y = refl
neither (Some slip) y = refl

-- what is asked for where a test holds
taken : {X : Type 0} (f : X → Request) (b : Bool) (x : X) → is_some (option_map f (if b then Some x else None)) ≡ b
taken f true x = refl
taken f false x = refl

-- each slot has an argument that fits it, and what stands behind is in order
abbrev all_fit : List Label → List Label → ℕ → List (List ℕ) → Bool
all_fit [] options sets words = is_none (slip_behind options sets words)
all_fit (slot ∷ slots) options sets [] = false
all_fit (slot ∷ slots) options sets (word ∷ words) = fits slot.1 word && all_fit slots options sets words

-- the same from behind, which computes where the arguments are too few or too many
abbrev all_fit_behind : List Label → List Label → ℕ → List (List ℕ) → Bool
all_fit_behind [] options sets words = is_none (slip_behind options sets words)
all_fit_behind (slot ∷ slots) options sets [] = false
all_fit_behind (slot ∷ slots) options sets (word ∷ words) = all_fit_behind slots options sets words && fits slot.1 word

fitting : (slots options : List Label) (sets : ℕ) (words : List (List ℕ)) → is_none (slip_in slots options sets words) ≡ all_fit slots options sets words
fitting [] options sets words = refl
fitting (slot ∷ slots) options sets [] = refl
fitting (slot ∷ slots) options sets (word ∷ words) = step (fits slot.1 word) (slip_in slots options sets words) _
    ∙ ap (λ (b : Bool). fits slot.1 word && b) (fitting slots options sets words)

from_behind : (slots options : List Label) (sets : ℕ) (words : List (List ℕ)) → all_fit slots options sets words ≡ all_fit_behind slots options sets words
from_behind [] options sets words = refl
from_behind (slot ∷ slots) options sets [] = refl
from_behind (slot ∷ slots) options sets (word ∷ words) = ap (λ (b : Bool). fits slot.1 word && b) (from_behind slots options sets words)
    ∙ and_comm (fits slot.1 word) (all_fit_behind slots options sets words)

-- arguments that do not fit a form break it
wrong : (form : PlainForm) (words : List (List ℕ)) → all_fit_behind form.2 form.3 form.4 words ≡ false → false ≡ is_none (broken form words)
wrong form words misfit = sym (neither (slip_in form.2 form.3 form.4 words) (first_same (files_in form.2 form.3 words))
    ∙ ap (λ (b : Bool). b && is_none (first_same (files_in form.2 form.3 words))) (fitting form.2 form.3 form.4 words ∙ from_behind form.2 form.3 form.4 words ∙ misfit))

-- names that fit a form are accepted where its files differ
right : {X : Type 0} (f : X → Request) (x : X) (form : PlainForm) (words inputs outputs : List (List ℕ))
    → all_fit form.2 form.3 form.4 words ≡ list_all is_name (inputs ++ outputs)
    → outputs_differ (written (files_in form.2 form.3 words)) (unwritten (files_in form.2 form.3 words)) ≡ outputs_differ outputs inputs
    → is_some (option_map f (where_accepted inputs outputs x)) ≡ is_none (broken form words)
right f x form words inputs outputs fit differ = taken f (list_all is_name (inputs ++ outputs) && outputs_differ outputs inputs) x
    ∙ sym (neither (slip_in form.2 form.3 form.4 words) (first_same (files_in form.2 form.3 words))
    ∙ (λ i. (fitting form.2 form.3 form.4 words ∙ fit) i && (in_order (files_in form.2 form.3 words) ∙ differ) i))

pack_kept : (words : List (List ℕ)) → is_some (option_map ToPack (pack_in words)) ≡ is_none (broken (row 3) words)
pack_kept [] = refl
pack_kept (a ∷ []) = wrong (row 3) (a ∷ []) refl
pack_kept (a ∷ b ∷ []) = wrong (row 3) (a ∷ b ∷ []) refl
pack_kept (p ∷ t ∷ o ∷ []) = right ToPack _ (row 3) (p ∷ t ∷ o ∷ []) (p ∷ t ∷ []) (o ∷ []) refl refl
pack_kept (a ∷ b ∷ c ∷ d ∷ []) = wrong (row 3) (a ∷ b ∷ c ∷ d ∷ []) refl
pack_kept (a ∷ b ∷ c ∷ d ∷ e ∷ words) = wrong (row 3) (a ∷ b ∷ c ∷ d ∷ e ∷ words) refl

totals_kept : (words : List (List ℕ)) → is_some (option_map ToTotals (totals_in words)) ≡ is_none (broken (row 4) words)
totals_kept [] = refl
totals_kept (a ∷ []) = wrong (row 4) (a ∷ []) refl
totals_kept (a ∷ b ∷ []) = wrong (row 4) (a ∷ b ∷ []) refl
totals_kept (d ∷ t ∷ e ∷ []) = right ToTotals _ (row 4) (d ∷ t ∷ e ∷ []) (d ∷ t ∷ e ∷ []) [] refl refl
totals_kept (a ∷ b ∷ c ∷ d ∷ []) = wrong (row 4) (a ∷ b ∷ c ∷ d ∷ []) refl
totals_kept (a ∷ b ∷ c ∷ d ∷ e ∷ words) = wrong (row 4) (a ∷ b ∷ c ∷ d ∷ e ∷ words) refl

prune_kept : (words : List (List ℕ)) → is_some (option_map ToPrune (prune_in words)) ≡ is_none (broken (row 5) words)
prune_kept [] = refl
prune_kept (a ∷ []) = wrong (row 5) (a ∷ []) refl
prune_kept (a ∷ b ∷ []) = wrong (row 5) (a ∷ b ∷ []) refl
prune_kept (a ∷ b ∷ c ∷ []) = wrong (row 5) (a ∷ b ∷ c ∷ []) refl
prune_kept (a ∷ b ∷ c ∷ d ∷ []) = wrong (row 5) (a ∷ b ∷ c ∷ d ∷ []) refl
prune_kept (d ∷ p ∷ o ∷ t ∷ r ∷ []) = right ToPrune _ (row 5) (d ∷ p ∷ o ∷ t ∷ r ∷ []) (d ∷ p ∷ t ∷ []) (o ∷ r ∷ [])
    (λ i. is_name d && (is_name p && and_swap (is_name o) (is_name t) (is_name r && true) i)) refl
prune_kept (a ∷ b ∷ c ∷ d ∷ e ∷ f ∷ []) = wrong (row 5) (a ∷ b ∷ c ∷ d ∷ e ∷ f ∷ []) refl
prune_kept (a ∷ b ∷ c ∷ d ∷ e ∷ f ∷ g ∷ words) = wrong (row 5) (a ∷ b ∷ c ∷ d ∷ e ∷ f ∷ g ∷ words) refl

sample_kept : (words : List (List ℕ)) → is_some (option_map (λ (n : ℕ × ℕ). ToSample n.0 n.1) (sample_in words)) ≡ is_none (broken (row 2) words)
sample_kept [] = refl
sample_kept (a ∷ []) = wrong (row 2) (a ∷ []) refl
sample_kept (a ∷ b ∷ []) = by_numbers (number_within SAMPLE_DIGITS 0 SEED_MAX a) (number_within SAMPLE_DIGITS 0 COUNT_MAX b)
    ∙ sym (neither (slip_in (row 2).2 (row 2).3 (row 2).4 (a ∷ b ∷ [])) None ∙ ap (λ (b : Bool). b && true) (fitting (row 2).2 (row 2).3 (row 2).4 (a ∷ b ∷ [])))
  where
    by_numbers : (seed count : Option ℕ) → is_some (option_map (λ (n : ℕ × ℕ). ToSample n.0 n.1) (option_and_then (λ s. option_map (λ c. (s, c)) count) seed))
        ≡ ((is_some seed && (is_some count && true)) && true)
    by_numbers None count = refl
    by_numbers (Some s) None = refl
    by_numbers (Some s) (Some c) = refl
sample_kept (a ∷ b ∷ c ∷ []) = wrong (row 2) (a ∷ b ∷ c ∷ []) refl
sample_kept (a ∷ b ∷ c ∷ d ∷ words) = wrong (row 2) (a ∷ b ∷ c ∷ d ∷ words) refl

-- two facts that do not hold
no_four : (a b c d : Bool) → (a && (b && (c && (d && false)))) ≡ false
no_four false b c d = refl
no_four true false c d = refl
no_four true true false d = refl
no_four true true true false = refl
no_four true true true true = refl

-- the names of parameter files
sets_fit : (words : List (List ℕ)) → is_none (slip_of_sets words) ≡ list_all is_name words
sets_fit [] = refl
sets_fit (word ∷ words) = step (is_name word) (slip_of_sets words) _ ∙ ap (λ (b : Bool). is_name word && b) (sets_fit words)

-- as many parameter files as may be
sets_behind : (params : List (List ℕ)) → is_none (slip_behind [] SETS_MAX params) ≡ ((nat_lt 0 (length params) && nat_le (length params) SETS_MAX) && list_all is_name params)
sets_behind params = step (nat_lt 0 (length params)) (if nat_le (length params) SETS_MAX then slip_of_sets params else Some (TooManySets (length params))) _
    ∙ ap (λ (b : Bool). nat_lt 0 (length params) && b) (step (nat_le (length params) SETS_MAX) (slip_of_sets params) _
    ∙ ap (λ (b : Bool). nat_le (length params) SETS_MAX && b) (sets_fit params))
    ∙ sym (and_assoc (nat_lt 0 (length params)) (nat_le (length params) SETS_MAX) (list_all is_name params))

-- parameter files are read
none_written : (params : List (List ℕ)) → written (files_in [] [] params) ≡ []
none_written [] = refl
none_written (a ∷ []) = refl
none_written (a ∷ b ∷ params) = none_written (b ∷ params)

all_unwritten : (params : List (List ℕ)) → unwritten (files_in [] [] params) ≡ params
all_unwritten [] = refl
all_unwritten (a ∷ []) = refl
all_unwritten (a ∷ b ∷ params) = ap (λ (l : List (List ℕ)). a ∷ l) (all_unwritten (b ∷ params))

-- the output behind the parameter files
output_last : (t n o : Bool) → (t && (n && (o && true))) ≡ (o && (t && n))
output_last true true true = refl
output_last true true false = refl
output_last true false true = refl
output_last true false false = refl
output_last false n true = refl
output_last false n false = refl

sweep_tests : (k b m : Option ℕ) (few d p o t n names differ : Bool) (x : ℕ → ℕ → ℕ → SweepRequest) → names ≡ (n && (o && true))
    → is_some (option_map ToSweep (option_and_then (λ k. option_and_then (λ b. option_and_then (λ m. if few then (if (d && (p && (t && names))) && differ then Some (x k b m) else None) else None) m) b) k))
    ≡ ((d && (p && (o && (t && (is_some k && (is_some b && (is_some m && (few && n)))))))) && differ)
sweep_tests None b m few d p o t n names differ x is = sym (ap (λ (z : Bool). z && differ) (no_four d p o t))
sweep_tests (Some k) None m few d p o t n names differ x is = sym (ap (λ (z : Bool). z && differ) (no_four d p o t))
sweep_tests (Some k) (Some b) None few d p o t n names differ x is = sym (ap (λ (z : Bool). z && differ) (no_four d p o t))
sweep_tests (Some k) (Some b) (Some m) false d p o t n names differ x is = sym (ap (λ (z : Bool). z && differ) (no_four d p o t))
sweep_tests (Some k) (Some b) (Some m) true d p o t n names differ x is = taken ToSweep ((d && (p && (t && names))) && differ) (x k b m)
    ∙ ap (λ (z : Bool). (d && (p && z)) && differ) (ap (λ (z : Bool). t && z) is ∙ output_last t n o)

sweep_kept : (words : List (List ℕ)) → is_some (option_map ToSweep (sweep_in words)) ≡ is_none (broken (row 6) words)
sweep_kept [] = refl
sweep_kept (a ∷ []) = wrong (row 6) (a ∷ []) refl
sweep_kept (a ∷ b ∷ []) = wrong (row 6) (a ∷ b ∷ []) refl
sweep_kept (a ∷ b ∷ c ∷ []) = wrong (row 6) (a ∷ b ∷ c ∷ []) refl
sweep_kept (a ∷ b ∷ c ∷ d ∷ []) = wrong (row 6) (a ∷ b ∷ c ∷ d ∷ []) refl
sweep_kept (a ∷ b ∷ c ∷ d ∷ e ∷ []) = wrong (row 6) (a ∷ b ∷ c ∷ d ∷ e ∷ []) refl
sweep_kept (a ∷ b ∷ c ∷ d ∷ e ∷ f ∷ []) = wrong (row 6) (a ∷ b ∷ c ∷ d ∷ e ∷ f ∷ []) refl
sweep_kept (d ∷ p ∷ o ∷ t ∷ k ∷ b ∷ m ∷ params) =
    let words : List (List ℕ) = d ∷ p ∷ o ∷ t ∷ k ∷ b ∷ m ∷ params in
    let folds : Option ℕ = number_within FOLDS_DIGITS FOLDS_MIN FOLDS_MAX k in
    let bad : Option ℕ = number_within PRICE_DIGITS 1 PRICE_MAX b in
    let missed : Option ℕ = number_within PRICE_DIGITS 1 PRICE_MAX m in
    let request : ℕ → ℕ → ℕ → SweepRequest = λ folds bad missed.
    record { dict = d; patterns = p; output = o; translate = t; folds = folds; bad = bad; missed = missed; params = params } in
    sweep_tests folds bad missed (nat_lt 0 (length params) && nat_le (length params) SETS_MAX) (is_name d) (is_name p) (is_name o) (is_name t) (list_all is_name params)
    (list_all is_name (params ++ o ∷ [])) (outputs_differ (o ∷ []) (d ∷ p ∷ t ∷ params)) request (list_all-append is_name params (o ∷ []))
    ∙ sym (neither (slip_in (row 6).2 (row 6).3 (row 6).4 words) (first_same (files_in (row 6).2 (row 6).3 words))
    ∙ (λ i. (fitting (row 6).2 (row 6).3 (row 6).4 words
    ∙ ap (λ (z : Bool). is_name d && (is_name p && (is_name o && (is_name t && (is_some folds && (is_some bad && (is_some missed && z))))))) (sets_behind params)) i
    && (in_order (files_in (row 6).2 (row 6).3 words) ∙ (λ j. outputs_differ (o ∷ none_written params j) (d ∷ p ∷ t ∷ all_unwritten params j))) i))

-- none behind a fact that does not hold
none_and : (b : Bool) → (b && false) ≡ false
none_and true = refl
none_and false = refl

zero : (a b : Bool) → b ≡ false → (a && b) ≡ false
zero a b is = ap (λ (z : Bool). a && z) is ∙ none_and a

-- a choice that is none only where its test does not hold
unless : (b : Bool) (x : Option Slip) (u : Slip) → is_none (if b then Some u else x) ≡ (not b && is_none x)
unless true x u = refl
unless false x u = refl

lone : (b : Bool) (u v : Slip) → is_none (if b then Some u else Some v) ≡ false
lone true u v = refl
lone false u v = refl

-- each option may stand, stands once, and has a file that can be a name
abbrev options_fit : List Label → List (List ℕ) → Bool
options_fit options [] = true
options_fit options (word ∷ []) = false
options_fit options (word ∷ name ∷ rest) = is_some (slot_behind options word) && (not (is_some (file_behind word rest)) && (is_name name && options_fit options rest))

options_fitting : (options : List Label) (words : List (List ℕ)) → is_none (slip_of_options options words) ≡ options_fit options words
options_fitting options [] = refl
options_fitting options (word ∷ []) = lone (is_some (slot_behind options word)) _ _
options_fitting options (word ∷ name ∷ rest) =
    let behind : Option Slip = if is_name name then slip_of_options options rest else Some (Unfit (length (name ∷ rest))) in
    step (is_some (slot_behind options word)) (if is_some (file_behind word rest) then Some (Twice (length (word ∷ name ∷ rest))) else behind) _
    ∙ ap (λ (z : Bool). is_some (slot_behind options word) && z) (unless (is_some (file_behind word rest)) behind _
    ∙ ap (λ (z : Bool). not (is_some (file_behind word rest)) && z) (step (is_name name) (slip_of_options options rest) _
    ∙ ap (λ (z : Bool). is_name name && z) (options_fitting options rest)))

-- which option an argument is
data Which : List ℕ → Type 0 where
  IsPattmp : Which (codes "--pattmp")
  IsCells : Which (codes "--cells")
  IsOther : (word : List ℕ) → bytes_eq word (codes "--pattmp") ≡ false → bytes_eq word (codes "--cells") ≡ false → Which word

which : (word : List ℕ) → Which word
which word = by_tests (bytes_eq word (codes "--pattmp")) (bytes_eq word (codes "--cells")) refl refl
  where
    by_tests : (p c : Bool) → bytes_eq word (codes "--pattmp") ≡ p → bytes_eq word (codes "--cells") ≡ c → Which word
    by_tests true c is also = subst Which (sym ((bytes_eq-Decides word (codes "--pattmp")).0 is)) IsPattmp
    by_tests false true is also = subst Which (sym ((bytes_eq-Decides word (codes "--cells")).0 also)) IsCells
    by_tests false false is also = IsOther word is also

-- a word that is no option
no_option : (word : List ℕ) (rest : Bool) → bytes_eq word (codes "--pattmp") ≡ false → bytes_eq word (codes "--cells") ≡ false
    → (is_some (slot_behind (row 0).3 word) && rest) ≡ false
no_option word rest p c = rw (p, c) refl

not_pattmp : (word : List ℕ) (rest : Bool) → bytes_eq word (codes "--pattmp") ≡ false → (is_some (slot_behind (row 1).3 word) && rest) ≡ false
not_pattmp word rest p = rw p refl

-- of three options one stands twice, or is none
third : {w v u : List ℕ} (x y z : List ℕ) (words : List (List ℕ)) → Which w → Which v → Which u → options_fit (row 0).3 (w ∷ x ∷ v ∷ y ∷ u ∷ z ∷ words) ≡ false
third x y z words (IsOther w p c) b d = rw (p, c) refl
third x y z words IsPattmp (IsOther v p c) d = zero _ _ (zero _ _ (no_option v _ p c))
third x y z words IsPattmp IsPattmp d = refl
third x y z words IsPattmp IsCells (IsOther u p c) = zero (not (is_some (file_behind (codes "--pattmp") (codes "--cells" ∷ y ∷ u ∷ z ∷ words)))) _
    (zero (is_name x) _ (zero (not (is_some (file_behind (codes "--cells") (u ∷ z ∷ words)))) _
    (zero (is_name y) _ (no_option u (not (is_some (file_behind u words)) && (is_name z && options_fit (row 0).3 words)) p c))))
third x y z words IsPattmp IsCells IsPattmp = refl
third x y z words IsPattmp IsCells IsCells = zero _ _ (zero _ _ refl)
third x y z words IsCells (IsOther v p c) d = zero _ _ (zero _ _ (no_option v _ p c))
third x y z words IsCells IsCells d = refl
third x y z words IsCells IsPattmp (IsOther u p c) = zero (not (is_some (file_behind (codes "--cells") (codes "--pattmp" ∷ y ∷ u ∷ z ∷ words)))) _
    (zero (is_name x) _ (zero (not (is_some (file_behind (codes "--pattmp") (u ∷ z ∷ words)))) _
    (zero (is_name y) _ (no_option u (not (is_some (file_behind u words)) && (is_name z && options_fit (row 0).3 words)) p c))))
third x y z words IsCells IsPattmp IsCells = refl
third x y z words IsCells IsPattmp IsPattmp = zero _ _ (zero _ _ refl)

-- of two options of `audit` one stands twice, or is none
second : {w v : List ℕ} (x y : List ℕ) (words : List (List ℕ)) → Which w → Which v → options_fit (row 1).3 (w ∷ x ∷ v ∷ y ∷ words) ≡ false
second x y words (IsOther w p c) b = rw p refl
second x y words IsCells b = refl
second x y words IsPattmp (IsOther v p c) = zero _ _ (zero _ _ (not_pattmp v _ p))
second x y words IsPattmp IsCells = zero _ _ (zero _ _ refl)
second x y words IsPattmp IsPattmp = refl

-- outputs in another order
swapped : (x y : List ℕ) (zs inputs : List (List ℕ)) → outputs_differ (x ∷ y ∷ zs) inputs ≡ outputs_differ (y ∷ x ∷ zs) inputs
swapped x y zs inputs = and_middle (not (bytes_eq x y)) (differs_from x (zs ++ inputs)) (differs_from y (zs ++ inputs)) (outputs_differ zs inputs)
    ∙ (λ i. (not (either_order x y i) && differs_from y (zs ++ inputs)) && (differs_from x (zs ++ inputs) && outputs_differ zs inputs))

ordered : (o : List ℕ) (xs ys inputs : List (List ℕ)) → ((q : List ℕ → Bool) → list_all q xs ≡ list_all q ys) → outputs_differ xs inputs ≡ outputs_differ ys inputs
    → outputs_differ (o ∷ xs) inputs ≡ outputs_differ (o ∷ ys) inputs
ordered o xs ys inputs same rest = λ i. (list_all-append (λ other. not (bytes_eq o other)) xs inputs ∙ ap (λ (z : Bool). z && differs_from o inputs) (same (λ other. not (bytes_eq o other)))
    ∙ sym (list_all-append (λ other. not (bytes_eq o other)) ys inputs)) i && rest i

-- a choice of none and none
skip : (b : Bool) (z : Option FileNames) → z ≡ None → (if b then None else z) ≡ None
skip true z is = refl
skip false z is = is

module _ (d p o t a r : List ℕ) where
  abbrev six : List (List ℕ) → List (List ℕ)
  six words = d ∷ p ∷ o ∷ t ∷ a ∷ r ∷ words

  abbrev named : Option (List ℕ) → Option (List ℕ) → FileNames
  named pattmp cells = record { dict = d; patterns = p; output = o; translate = t; params = a; report = r; pattmp = pattmp; cells = cells }

  abbrev generates : Option FileNames → Bool
  generates names = is_some (option_map ToGenerate (option_and_then (λ n. where_accepted (input_names n) (output_names n) n) names))

  abbrev audits : Option FileNames → Bool
  audits names = is_some (option_map ToAudit (option_and_then (λ n. if list_all is_name (input_names n ++ output_names n) && is_none n.cells then Some n else None) names))

  -- options that do not fit
  not_generated : (words : List (List ℕ)) → options_fit (row 0).3 words ≡ false → false ≡ is_none (broken (row 0) (six words))
  not_generated words misfit = wrong (row 0) (six words)
      (ap (λ (z : Bool). (((((z && is_name r) && is_name a) && is_name t) && is_name o) && is_name p) && is_name d) (options_fitting (row 0).3 words ∙ misfit))

  not_audited : (words : List (List ℕ)) → options_fit (row 1).3 words ≡ false → false ≡ is_none (broken (row 1) (six words))
  not_audited words misfit = wrong (row 1) (six words)
      (ap (λ (z : Bool). (((((z && is_name r) && is_name a) && is_name t) && is_name o) && is_name p) && is_name d) (options_fitting (row 1).3 words ∙ misfit))

  -- the names in the order of what is read and what is written
  inputs_first : (z y : Bool) → (is_name r && z) ≡ y → (is_name d && (is_name p && (is_name o && (is_name t && (is_name a && (is_name r && z))))))
      ≡ (is_name d && (is_name p && (is_name t && (is_name a && (is_name o && y)))))
  inputs_first z y is = ap (λ (b : Bool). is_name d && (is_name p && b)) (and_swap (is_name o) (is_name t) (is_name a && (is_name r && z))
      ∙ ap (λ (b : Bool). is_name t && b) (and_swap (is_name o) (is_name a) (is_name r && z) ∙ ap (λ (b : Bool). is_name a && (is_name o && b)) is))

  -- names that `generate` takes
  generated : (names : FileNames) (words : List (List ℕ)) (y : Bool) → (is_name r && options_fit (row 0).3 words) ≡ y
      → (is_name d && (is_name p && (is_name t && (is_name a && (is_name o && y))))) ≡ list_all is_name (input_names names ++ output_names names)
      → outputs_differ (written (files_in (row 0).2 (row 0).3 (six words))) (unwritten (files_in (row 0).2 (row 0).3 (six words))) ≡ outputs_differ (output_names names) (input_names names)
      → generates (Some names) ≡ is_none (broken (row 0) (six words))
  generated names words y is all differ = right ToGenerate names (row 0) (six words) (input_names names) (output_names names)
      (inputs_first (is_none (slip_of_options (row 0).3 words)) y (ap (λ (b : Bool). is_name r && b) (options_fitting (row 0).3 words) ∙ is) ∙ all) differ

  -- names that `audit` takes
  audited : (names : FileNames) (words : List (List ℕ)) (y : Bool) → (is_name r && options_fit (row 1).3 words) ≡ y
      → (is_name d && (is_name p && (is_name t && (is_name a && (is_name o && y))))) ≡ list_all is_name (input_names names ++ output_names names)
      → is_none names.cells ≡ true → outputs_differ (written (files_in (row 1).2 (row 1).3 (six words))) (unwritten (files_in (row 1).2 (row 1).3 (six words))) ≡ true
      → audits (Some names) ≡ is_none (broken (row 1) (six words))
  audited names words y is all no_cells differ = taken ToAudit (list_all is_name (input_names names ++ output_names names) && is_none names.cells) names
      ∙ (λ i. (sym all ∙ sym (inputs_first (is_none (slip_of_options (row 1).3 words)) y (ap (λ (b : Bool). is_name r && b) (options_fitting (row 1).3 words) ∙ is))
      ∙ sym (fitting (row 1).2 (row 1).3 (row 1).4 (six words))) i && (no_cells ∙ sym differ ∙ sym (in_order (files_in (row 1).2 (row 1).3 (six words)))) i)
      ∙ sym (neither (slip_in (row 1).2 (row 1).3 (row 1).4 (six words)) (first_same (files_in (row 1).2 (row 1).3 (six words))))

  -- a name that is no option, before others or behind one
  other_first : (w x v y : List ℕ) → bytes_eq w (codes "--pattmp") ≡ false → bytes_eq w (codes "--cells") ≡ false → with_options (named None None) (w ∷ x ∷ v ∷ y ∷ []) ≡ None
  other_first w x v y p c = skip (bytes_eq w v) _ (rw (p, c) refl)

  generated_two : {w : List ℕ} (x : List ℕ) → Which w → generates (with_options (named None None) (w ∷ x ∷ [])) ≡ is_none (broken (row 0) (six (w ∷ x ∷ [])))
  generated_two x IsPattmp = generated (named (Some x) None) (codes "--pattmp" ∷ x ∷ []) _ (and_swap (is_name r) (is_name x) true) refl
      (ordered o (r ∷ x ∷ []) (x ∷ r ∷ []) (d ∷ p ∷ t ∷ a ∷ []) (λ q. and_swap (q r) (q x) true) (swapped r x [] (d ∷ p ∷ t ∷ a ∷ [])))
  generated_two x IsCells = generated (named None (Some x)) (codes "--cells" ∷ x ∷ []) _ (and_swap (is_name r) (is_name x) true) refl
      (ordered o (r ∷ x ∷ []) (x ∷ r ∷ []) (d ∷ p ∷ t ∷ a ∷ []) (λ q. and_swap (q r) (q x) true) (swapped r x [] (d ∷ p ∷ t ∷ a ∷ [])))
  generated_two x (IsOther w p c) = ap generates (let none : with_options (named None None) (w ∷ x ∷ []) ≡ None = rw (p, c) refl in none) ∙ not_generated (w ∷ x ∷ []) (rw (p, c) refl)

  -- the report behind two other outputs
  abbrev last_of : (x y : List ℕ) (q : List ℕ → Bool) → list_all q (r ∷ x ∷ y ∷ []) ≡ list_all q (x ∷ y ∷ r ∷ [])
  last_of x y q = and_swap (q r) (q x) (q y && true) ∙ ap (λ (b : Bool). q x && b) (and_swap (q r) (q y) true)

  last_differs : (x y : List ℕ) → outputs_differ (r ∷ x ∷ y ∷ []) (d ∷ p ∷ t ∷ a ∷ []) ≡ outputs_differ (x ∷ y ∷ r ∷ []) (d ∷ p ∷ t ∷ a ∷ [])
  last_differs x y = swapped r x (y ∷ []) (d ∷ p ∷ t ∷ a ∷ [])
      ∙ ordered x (r ∷ y ∷ []) (y ∷ r ∷ []) (d ∷ p ∷ t ∷ a ∷ []) (λ q. and_swap (q r) (q y) true) (swapped r y [] (d ∷ p ∷ t ∷ a ∷ []))

  generated_four : {w v : List ℕ} (x y : List ℕ) → Which w → Which v → generates (with_options (named None None) (w ∷ x ∷ v ∷ y ∷ [])) ≡ is_none (broken (row 0) (six (w ∷ x ∷ v ∷ y ∷ [])))
  generated_four x y IsPattmp IsPattmp = not_generated (codes "--pattmp" ∷ x ∷ codes "--pattmp" ∷ y ∷ []) refl
  generated_four x y IsCells IsCells = not_generated (codes "--cells" ∷ x ∷ codes "--cells" ∷ y ∷ []) refl
  generated_four x y IsPattmp IsCells = generated (named (Some x) (Some y)) (codes "--pattmp" ∷ x ∷ codes "--cells" ∷ y ∷ []) _ (last_of x y is_name) refl
      (ordered o (r ∷ x ∷ y ∷ []) (x ∷ y ∷ r ∷ []) (d ∷ p ∷ t ∷ a ∷ []) (last_of x y) (last_differs x y))
  generated_four x y IsCells IsPattmp = generated (named (Some y) (Some x)) (codes "--cells" ∷ x ∷ codes "--pattmp" ∷ y ∷ []) _
      (last_of x y is_name ∙ and_swap (is_name x) (is_name y) (is_name r && true)) refl
      (ordered o (r ∷ x ∷ y ∷ []) (y ∷ x ∷ r ∷ []) (d ∷ p ∷ t ∷ a ∷ []) (λ q. last_of x y q ∙ and_swap (q x) (q y) (q r && true))
      (last_differs x y ∙ swapped x y (r ∷ []) (d ∷ p ∷ t ∷ a ∷ [])))
  generated_four {v = v} x y (IsOther w p c) b = ap generates (other_first w x v y p c) ∙ not_generated (w ∷ x ∷ v ∷ y ∷ []) (rw (p, c) refl)
  generated_four x y IsPattmp (IsOther v p c) =
      let none : with_options (named None None) (codes "--pattmp" ∷ x ∷ v ∷ y ∷ []) ≡ None = skip (bytes_eq (codes "--pattmp") v) _ (rw (p, c) refl) in
      ap generates none ∙ not_generated (codes "--pattmp" ∷ x ∷ v ∷ y ∷ []) (zero _ _ (zero _ _ (no_option v _ p c)))
  generated_four x y IsCells (IsOther v p c) =
      let none : with_options (named None None) (codes "--cells" ∷ x ∷ v ∷ y ∷ []) ≡ None = skip (bytes_eq (codes "--cells") v) _ (rw (p, c) refl) in
      ap generates none ∙ not_generated (codes "--cells" ∷ x ∷ v ∷ y ∷ []) (zero _ _ (zero _ _ (no_option v _ p c)))

  generate_behind : (words : List (List ℕ)) → generates (with_options (named None None) words) ≡ is_none (broken (row 0) (six words))
  generate_behind [] = generated (named None None) [] _ refl refl refl
  generate_behind (w ∷ []) = not_generated (w ∷ []) refl
  generate_behind (w ∷ x ∷ []) = generated_two x (which w)
  generate_behind (w ∷ x ∷ v ∷ []) = not_generated (w ∷ x ∷ v ∷ []) (zero _ _ (zero _ _ refl))
  generate_behind (w ∷ x ∷ v ∷ y ∷ []) = generated_four x y (which w) (which v)
  generate_behind (w ∷ x ∷ v ∷ y ∷ u ∷ []) = not_generated (w ∷ x ∷ v ∷ y ∷ u ∷ []) (zero (is_some (slot_behind (row 0).3 w)) _ (zero (not (is_some (file_behind w (v ∷ y ∷ u ∷ [])))) _
      (zero (is_name x) _ (zero (is_some (slot_behind (row 0).3 v)) _ (zero (is_name y) _ refl)))))
  generate_behind (w ∷ x ∷ v ∷ y ∷ u ∷ z ∷ words) = not_generated (w ∷ x ∷ v ∷ y ∷ u ∷ z ∷ words) (third x y z words (which w) (which v) (which u))

  -- a cells file, which `audit` has none of
  no_cells : (names : FileNames) → is_none names.cells ≡ false → audits (Some names) ≡ false
  no_cells names is = taken ToAudit (list_all is_name (input_names names ++ output_names names) && is_none names.cells) names
      ∙ zero (list_all is_name (input_names names ++ output_names names)) (is_none names.cells) is

  audited_two : {w : List ℕ} (x : List ℕ) → Which w → audits (with_options (named None None) (w ∷ x ∷ [])) ≡ is_none (broken (row 1) (six (w ∷ x ∷ [])))
  audited_two x IsPattmp = audited (named (Some x) None) (codes "--pattmp" ∷ x ∷ []) _ (and_swap (is_name r) (is_name x) true) refl refl refl
  audited_two x IsCells = no_cells (named None (Some x)) refl ∙ not_audited (codes "--cells" ∷ x ∷ []) refl
  audited_two x (IsOther w p c) = ap audits (let none : with_options (named None None) (w ∷ x ∷ []) ≡ None = rw (p, c) refl in none) ∙ not_audited (w ∷ x ∷ []) (rw p refl)

  not_two : {w v : List ℕ} (x y : List ℕ) → Which w → Which v → audits (with_options (named None None) (w ∷ x ∷ v ∷ y ∷ [])) ≡ false
  not_two x y IsPattmp IsPattmp = refl
  not_two x y IsCells IsCells = refl
  not_two x y IsPattmp IsCells = no_cells (named (Some x) (Some y)) refl
  not_two x y IsCells IsPattmp = no_cells (named (Some y) (Some x)) refl
  not_two {v = v} x y (IsOther w p c) b = ap audits (other_first w x v y p c)
  not_two x y IsPattmp (IsOther v p c) =
      let none : with_options (named None None) (codes "--pattmp" ∷ x ∷ v ∷ y ∷ []) ≡ None = skip (bytes_eq (codes "--pattmp") v) _ (rw (p, c) refl) in ap audits none
  not_two x y IsCells (IsOther v p c) =
      let none : with_options (named None None) (codes "--cells" ∷ x ∷ v ∷ y ∷ []) ≡ None = skip (bytes_eq (codes "--cells") v) _ (rw (p, c) refl) in ap audits none

  audit_behind : (words : List (List ℕ)) → audits (with_options (named None None) words) ≡ is_none (broken (row 1) (six words))
  audit_behind [] = audited (named None None) [] _ refl refl refl refl
  audit_behind (w ∷ []) = not_audited (w ∷ []) refl
  audit_behind (w ∷ x ∷ []) = audited_two x (which w)
  audit_behind (w ∷ x ∷ v ∷ []) = not_audited (w ∷ x ∷ v ∷ []) (zero _ _ (zero _ _ refl))
  audit_behind (w ∷ x ∷ v ∷ y ∷ []) = not_two x y (which w) (which v) ∙ not_audited (w ∷ x ∷ v ∷ y ∷ []) (second x y [] (which w) (which v))
  audit_behind (w ∷ x ∷ v ∷ y ∷ u ∷ words) = not_audited (w ∷ x ∷ v ∷ y ∷ u ∷ words) (second x y (u ∷ words) (which w) (which v))

generate_kept : (words : List (List ℕ)) → is_some (option_map ToGenerate (generate_in words)) ≡ is_none (broken (row 0) words)
generate_kept [] = refl
generate_kept (a ∷ []) = wrong (row 0) (a ∷ []) refl
generate_kept (a ∷ b ∷ []) = wrong (row 0) (a ∷ b ∷ []) refl
generate_kept (a ∷ b ∷ c ∷ []) = wrong (row 0) (a ∷ b ∷ c ∷ []) refl
generate_kept (a ∷ b ∷ c ∷ d ∷ []) = wrong (row 0) (a ∷ b ∷ c ∷ d ∷ []) refl
generate_kept (a ∷ b ∷ c ∷ d ∷ e ∷ []) = wrong (row 0) (a ∷ b ∷ c ∷ d ∷ e ∷ []) refl
generate_kept (d ∷ p ∷ o ∷ t ∷ a ∷ r ∷ words) = generate_behind d p o t a r words

audit_kept : (words : List (List ℕ)) → is_some (option_map ToAudit (audit_in words)) ≡ is_none (broken (row 1) words)
audit_kept [] = refl
audit_kept (a ∷ []) = wrong (row 1) (a ∷ []) refl
audit_kept (a ∷ b ∷ []) = wrong (row 1) (a ∷ b ∷ []) refl
audit_kept (a ∷ b ∷ c ∷ []) = wrong (row 1) (a ∷ b ∷ c ∷ []) refl
audit_kept (a ∷ b ∷ c ∷ d ∷ []) = wrong (row 1) (a ∷ b ∷ c ∷ d ∷ []) refl
audit_kept (a ∷ b ∷ c ∷ d ∷ e ∷ []) = wrong (row 1) (a ∷ b ∷ c ∷ d ∷ e ∷ []) refl
audit_kept (d ∷ p ∷ o ∷ t ∷ a ∷ r ∷ words) = audit_behind d p o t a r words

-- a choice of the one or the other
pick : (b : Bool) (x y : Option Request) (x' y' : Option Slip) → is_some x ≡ is_none x' → is_some y ≡ is_none y' → is_some (if b then x else y) ≡ is_none (if b then x' else y')
pick true x y x' y' one two = one
pick false x y x' y' one two = two

pub unbroken : (words : List (List ℕ)) → is_some (request_of words) ≡ is_none (slip_of words)
unbroken [] = refl
unbroken (name ∷ rest) =
    pick (bytes_eq name (codes "generate")) _ _ _ _ (generate_kept rest) (pick (bytes_eq name (codes "audit")) _ _ _ _ (audit_kept rest)
    (pick (bytes_eq name (codes "sample")) _ _ _ _ (sample_kept rest) (pick (bytes_eq name (codes "pack")) _ _ _ _ (pack_kept rest)
    (pick (bytes_eq name (codes "totals")) _ _ _ _ (totals_kept rest) (pick (bytes_eq name (codes "prune")) _ _ _ _ (prune_kept rest)
    (pick (bytes_eq name (codes "sweep")) _ _ _ _ (sweep_kept rest) refl))))))
