-- What arguments ask for that are not as many as their command takes.
use Rattle.std.proofs.Common.{◌≡◌, ℕ, List, [], ◌∷◌, length, None, refl}
use Rattle.pg_words.specs.Inside.forms.Pack.{pack_in}
use Rattle.pg_words.specs.Inside.forms.Totals.{totals_in}
use Rattle.pg_words.specs.Inside.forms.Prune.{prune_in}

pub not_for_pack : (words : List (List ℕ)) → (length words ≡ 3 → ⊥) → None ≡ pack_in words
not_for_pack [] h = refl
not_for_pack (a ∷ []) h = refl
not_for_pack (a ∷ b ∷ []) h = refl
not_for_pack (a ∷ b ∷ c ∷ []) h = absurd (h refl)
not_for_pack (a ∷ b ∷ c ∷ d ∷ words) h = refl

pub not_for_totals : (words : List (List ℕ)) → (length words ≡ 3 → ⊥) → None ≡ totals_in words
not_for_totals [] h = refl
not_for_totals (a ∷ []) h = refl
not_for_totals (a ∷ b ∷ []) h = refl
not_for_totals (a ∷ b ∷ c ∷ []) h = absurd (h refl)
not_for_totals (a ∷ b ∷ c ∷ d ∷ words) h = refl

pub not_for_prune : (words : List (List ℕ)) → (length words ≡ 5 → ⊥) → None ≡ prune_in words
not_for_prune [] h = refl
not_for_prune (a ∷ []) h = refl
not_for_prune (a ∷ b ∷ []) h = refl
not_for_prune (a ∷ b ∷ c ∷ []) h = refl
not_for_prune (a ∷ b ∷ c ∷ d ∷ []) h = refl
not_for_prune (a ∷ b ∷ c ∷ d ∷ e ∷ []) h = absurd (h refl)
not_for_prune (a ∷ b ∷ c ∷ d ∷ e ∷ f ∷ words) h = refl
