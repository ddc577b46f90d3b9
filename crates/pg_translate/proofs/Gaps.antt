-- A line has a gap at least.
use Rattle.std.proofs.Common.{◌≡◌, List, [], ◌∷◌, refl, ap}
use Rattle.std.specs.List.{onto_first}
use Rattle.pg_translate.specs.Tokens.{Token, Letter, Digit, Weight, Marked, Edge}
use Rattle.pg_translate.specs.Gaps.{gaps}

-- the gap before its first sign
pub gaps_some : (items : List Token) → (gap : List Token) × (more : List (List Token)) × (gaps items ≡ gap ∷ more)
gaps_some [] = ([], [], refl)
gaps_some (Letter s ∷ items) = ([], gaps items, refl)
gaps_some (Edge ∷ items) = ([], gaps items, refl)
gaps_some (Digit n ∷ items) = let p = gaps_some items in (Digit n ∷ p.0, p.1, ap (onto_first (Digit n)) p.2)
gaps_some (Weight n ∷ items) = let p = gaps_some items in (Weight n ∷ p.0, p.1, ap (onto_first (Weight n)) p.2)
gaps_some (Marked m ∷ items) = let p = gaps_some items in (Marked m ∷ p.0, p.1, ap (onto_first (Marked m)) p.2)
