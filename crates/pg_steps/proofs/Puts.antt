-- What the clauses of one put say, as a put that was made.
use Rattle.std.proofs.Common.{◌≡◌, ℕ, ◌≤◌, List, [], ◌∷◌, Result, Ok, Err, inl, inr, refl}
use Rattle.std.specs.Prelude.{OnOk, OnErr}
use Rattle.pg_outside.specs.Content.{SinkShown}
use Rattle.pg_outside.specs.Inside.ToldFiles.{WasPut, WasPartPut}
use Rattle.pg_outside.specs.Faults.{Rose, next_count}
use Rattle.pg_plans.specs.Calls.{PutsEach}

pub last_put : {T E : Type 0} (r : Result T E) (text : List ℕ) (old new : SinkShown) → OnOk r (WasPut old.text new.text text) → OnErr r (WasPartPut old.text new.text text)
    → old.faults ≤ new.faults → OnErr r (Rose old.faults new.faults) → new.puts ≡ next_count old.puts → PutsEach (text ∷ []) old new
last_put (Ok x) text old new whole part later rose puts = inr (new, record { puts = puts; text = whole; faults = later }, refl)
last_put (Err e) text old new whole part later rose puts = inl (rose, record { puts = puts; text = part; faults = later })
