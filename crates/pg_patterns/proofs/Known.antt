-- The signs of a map of entries are those of the entries.
use Rattle.std.proofs.Common.{ℕ, ◌≤◌, List, [], ◌∷◌, max, fold}
use Rattle.std.proofs.lemmas.List.Elements.{All-nil, All-cons, All-head, All-tail}
use Rattle.std.specs.declared.cmp.Ordering.TheVariants.{Less, Equal, Greater}
use Rattle.std.specs.FinMap.Entries.{put, by_order}
use Rattle.std.specs.List.{All}
use Rattle.pg_patterns.specs.DottedSigns.{dotted_cmp}
use Rattle.pg_patterns.specs.Values.{Patterns, raise, value_of, map_of_entries}
use Rattle.pg_patterns.specs.Inside.PatternMaps.{SignsUpTo}

-- the signs of an entry are at most n
abbrev Known : ℕ → (List ℕ × ℕ) × ℕ → Type 0
Known n e = All (λ s. s ≤ n) e.0.0

known_put : (n : ℕ) (k : List ℕ × ℕ) (v : ℕ) (P : Patterns) → All (λ s. s ≤ n) k.0 → SignsUpTo n P → SignsUpTo n (put dotted_cmp k v P)
known_put n k v [] new all = All-cons (Known n) (k, v) [] new (All-nil (Known n))
known_put n k v (e ∷ es) new all =
    let here = All-head (Known n) e es all in
    let rest = All-tail (Known n) e es all in
    elim (dotted_cmp k e.0) as (λ o. SignsUpTo n (by_order o ((k, v) ∷ e ∷ es) ((e.0, v) ∷ es) (e ∷ put dotted_cmp k v es))) [
      | Less ↦ All-cons (Known n) (k, v) (e ∷ es) new all
      | Equal ↦ All-cons (Known n) (e.0, v) es here rest
      | Greater ↦ All-cons (Known n) e (put dotted_cmp k v es) here (known_put n k v es new rest)
    ]

known_fold : (n : ℕ) (es P : List ((List ℕ × ℕ) × ℕ)) → SignsUpTo n P → SignsUpTo n es → SignsUpTo n (fold (λ Q e. raise Q e.0 e.1) P es)
known_fold n [] P map all = map
known_fold n (e ∷ es) P map all =
    known_fold n es (raise P e.0 e.1) (known_put n e.0 (max e.1 (value_of P e.0)) P (All-head (Known n) e es all) map) (All-tail (Known n) e es all)

pub known_joined : (n : ℕ) (es : List ((List ℕ × ℕ) × ℕ)) → SignsUpTo n es → SignsUpTo n (map_of_entries es)
known_joined n es all = known_fold n es [] (All-nil (Known n)) all
