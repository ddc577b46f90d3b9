-- What a read of a file in memory says of the file that was lent.
use Rattle.std.proofs.Common.{◌≡◌, ℕ, ◌+◌, ◌≤◌, List, take, length, Bor, Option, Some, None, Result, OnOk, IsSome, sym, ap, subst, ◌∙◌, arith}
use Rattle.std.specs.Option.{option_copied}
use Rattle.std.proofs.lemmas.Grind.{common_steps}
use Rattle.std.proofs.lemmas.Result.{on_ok_weaker}
use Rattle.pg_outside.specs.Inside.ToldFiles.{IsTooLong}

-- a file that was lent is there
lent : (there : Option (List ℕ)) (found : Option (Bor (List ℕ))) (bytes : Bor (List ℕ)) → option_copied found ≡ there → found ≡ Some bytes → there ≡ Some bytes.now
lent there found bytes is some = sym is ∙ ap (λ (f : Option (Bor (List ℕ))). option_copied f) some

pub lent_there : (there : Option (List ℕ)) (found : Option (Bor (List ℕ))) (bytes : Bor (List ℕ)) → option_copied found ≡ there → found ≡ Some bytes → there ≡ None → ⊥
lent_there there found bytes is some none = some_none bytes.now (sym (lent there found bytes is some) ∙ none)
  where
    some_none : (l : List ℕ) → Some l ≡ None → ⊥
    some_none l e = cc

-- none was lent where none is there
pub none_lent : (there : Option (List ℕ)) (found : Option (Bor (List ℕ))) → option_copied found ≡ there → found ≡ None → IsSome there → ⊥
none_lent there found is none some = none_some (subst (λ (o : Option (List ℕ)). IsSome o) (sym is ∙ ap (λ (f : Option (Bor (List ℕ))). option_copied f) none) some)
  where
    none_some : IsSome {T = List ℕ} None → ⊥
    none_some e = cc

-- its bytes were read
pub reads_lent : {T E : Type 0} (result : Result T E) (there : Option (List ℕ)) (found : Option (Bor (List ℕ))) (bytes : Bor (List ℕ)) (into : List ℕ) → option_copied found ≡ there
    → found ≡ Some bytes → OnOk result (into ≡ bytes.now) → OnOk result (there ≡ Some into)
reads_lent result there found bytes into is some ok = on_ok_weaker result (λ same. lent there found bytes is some ∙ ap (λ (l : List ℕ). Some l) (sym same)) ok

-- its first bytes were read
pub reads_cut : (there : Option (List ℕ)) (found : Option (Bor (List ℕ))) (bytes : Bor (List ℕ)) (into : List ℕ) (limit : ℕ) → option_copied found ≡ there
    → found ≡ Some bytes → IsTooLong (Some bytes.now) limit into → IsTooLong there limit into
reads_cut there found bytes into limit is some cut = subst (λ (o : Option (List ℕ)). IsTooLong o limit into) (sym (lent there found bytes is some)) cut

pub cut_length : (bytes into : List ℕ) (limit : ℕ) → IsTooLong (Some bytes) limit into → length into ≡ limit + 1
cut_length bytes into limit cut = ap (λ (l : List ℕ). length l) cut.1 ∙ take_below (limit + 1) bytes (omega (arith, cut.0))
  where
    take_below : (n : ℕ) (l : List ℕ) → n ≤ length l → length (take n l) ≡ n
    take_below n l below = grind (arith, common_steps)
