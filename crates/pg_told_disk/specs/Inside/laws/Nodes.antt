-- The files of a list of changes.
use Rattle.std.proofs.Common.{◌≡◌, ℕ, List, [], ◌∷◌, length, Bool, true, false, cond, nat_eq, Option, Some, None, string_bytes, refl, sym, ap, ◌∙◌, eq-eqb}
use Rattle.std.specs.Str.{bytes_eq}
use Rattle.pg_told_disk.specs.Inside.laws.Cases.{none_some, some_same, of_cond}
use Rattle.pg_told_disk.specs.Inside.Changes.{number_in, mode_in}
use Rattle.pg_told_disk.specs.declared.change.Change.{Change}
use Rattle.pg_told_disk.specs.declared.change.Change.TheVariants.{Made, Shared, GotMode, Renamed, Removed}

-- the file of this number has permissions
pub record Has (log : List Change) (n : ℕ) : Type 0 where
  pub mode : ℕ
  pub there : mode_in log n ≡ Some mode

-- a file still has permissions after a change that may have set them
keep_has : (log older : List Change) (n : ℕ) (b : Bool) (mode : ℕ)
    → mode_in log n ≡ cond b (Some mode) (mode_in older n) → Has older n → Has log n
keep_has log older n true mode is has = record { mode = mode; there = is }
keep_has log older n false mode is has = record { mode = has.mode; there = is ∙ has.there }

-- a file still has permissions after a change that did not set them
same_has : (log older : List Change) (n : ℕ) → mode_in log n ≡ mode_in older n
    → Has older n → Has log n
same_has log older n is has = record { mode = has.mode; there = is ∙ has.there }

-- the test of two numbers says yes where they are equal
eqb_same : (n m : ℕ) → m ≡ n → nat_eq n m ≡ true
eqb_same n m e = eq-eqb n m (sym e)

-- a file whose number a name leads to is there
pub named_has : (log : List Change) (q : List ℕ) (n : ℕ) → number_in log q ≡ Some n → Has log n
named_has [] q n is = absurd (none_some n is)
named_has (Made own ∷ older) q n is =
    of_cond (bytes_eq q (string_bytes own)) n (Some (length older))
    (number_in older q) (Has (Made own ∷ older) n) is
    (λ e. record {
      mode = 420;
      there = ap (λ (b : Bool). cond b (Some 420) (mode_in older n))
          (eqb_same n (length older) (some_same (length older) n e));
    })
    (λ e. keep_has (Made own ∷ older) older n (nat_eq n (length older)) 420 refl
    (named_has older q n e))
named_has (Shared own old ∷ older) q n is =
    of_cond (bytes_eq q (string_bytes own)) n (number_in older (string_bytes old))
    (number_in older q) (Has (Shared own old ∷ older) n) is
    (λ e. same_has (Shared own old ∷ older) older n refl (named_has older (string_bytes old) n e))
    (λ e. same_has (Shared own old ∷ older) older n refl (named_has older q n e))
named_has (GotMode other mode ∷ older) q n is =
    keep_has (GotMode other mode ∷ older) older n (nat_eq n other) mode refl
    (named_has older q n is)
named_has (Renamed from to ∷ older) q n is =
    of_cond (bytes_eq q (string_bytes to)) n (number_in older (string_bytes from))
    (cond (bytes_eq q (string_bytes from)) None (number_in older q))
    (Has (Renamed from to ∷ older) n) is
    (λ e. same_has (Renamed from to ∷ older) older n refl (named_has older (string_bytes from) n e))
    (λ e. of_cond (bytes_eq q (string_bytes from)) n None
    (number_in older q) (Has (Renamed from to ∷ older) n) e
    (λ none. absurd (none_some n none))
    (λ e2. same_has (Renamed from to ∷ older) older n refl (named_has older q n e2)))
named_has (Removed own ∷ older) q n is =
    of_cond (bytes_eq q (string_bytes own)) n None
    (number_in older q) (Has (Removed own ∷ older) n) is
    (λ none. absurd (none_some n none))
    (λ e. same_has (Removed own ∷ older) older n refl (named_has older q n e))
named_has (change ∷ older) q n is = same_has (change ∷ older) older n refl (named_has older q n is)
