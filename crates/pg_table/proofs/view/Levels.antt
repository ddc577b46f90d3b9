-- How far a walk has come: what the values are now, raised by what is left, is what they were, raised by the whole.
use Rattle.std.proofs.Common.{◌≡◌, ℕ, ◌+◌, ◌<◌, max, arith}
use Rattle.pg_types.specs.declared.limits.TheConstants.{WORD_LETTERS_MAX}
use Rattle.pg_select.specs.Inside.words.Positions.{Raises}

abbrev pub Level : (ℕ → ℕ) → (ℕ → ℕ) → (ℕ → ℕ) → (ℕ → ℕ) → Type 0
Level left whole before now = (p : ℕ) → p < WORD_LETTERS_MAX + 2 → max (now p) (left p) ≡ max (before p) (whole p)

step : (now new part left more whole : ℕ) → new ≡ max now part → left ≡ max part more → max now left ≡ whole → max new more ≡ whole
step now new part left more whole p q r = omega arith

end : (now left whole : ℕ) → left ≡ 0 → max now left ≡ whole → now ≡ whole
end now left whole p q = omega arith

-- a part of what was left is taken in
pub level_step : (left part more whole before now new : ℕ → ℕ) → ((p : ℕ) → left p ≡ max (part p) (more p)) → Level left whole before now → Raises part now new → Level more whole before new
level_step left part more whole before now new split level raises p inside =
    step (now p) (new p) (part p) (left p) (more p) (max (before p) (whole p)) (raises p inside) (split p) (level p inside)

-- nothing is left
pub level_end : (left whole before now : ℕ → ℕ) → ((p : ℕ) → left p ≡ 0) → Level left whole before now → Raises whole before now
level_end left whole before now none level p inside = end (now p) (left p) (max (before p) (whole p)) (none p) (level p inside)
