-- The loop over the positions.
use Rattle.std.proofs.Common.{◌≡◌, ℕ, suc, ◌+◌, ◌<◌, List, [], ◌∷◌, ◌++◌, map, length, drop, Some, refl, sym, ap, ◌∙◌, arith}
use Rattle.std.proofs.Math.Seq.{drop-cons}
use Rattle.std.specs.Prelude.{slice_get}
use Rattle.std.proofs.lemmas.List.{map-append, append_assoc}
use Rattle.std.proofs.lemmas.Option.{get_or_from_slice_get}
use Rattle.pg_translate.specs.Alphabets.{Alphabet}
use Rattle.pg_dict.specs.Word.{Word}
use Rattle.pg_prune.specs.declared.pruned.Need.{Need}
use Rattle.pg_prune.specs.Inside.positions.WordPositions.{positions_in, positions_from}
use Rattle.pg_prune.specs.Inside.positions.PositionInReach.{need_at}

-- a position of the word with a number
abbrev pub at_word : ℕ → ℕ → Need
at_word word p = record { word = word; position = p }

pub needs_in : (word : ℕ) (signs : List ℕ) (ps : List ℕ) → map need_at (map (λ p. (record { word = word; position = p }, signs)) ps) ≡ map (at_word word) ps
needs_in word signs [] = refl
needs_in word signs (p ∷ ps) = ap (λ t. at_word word p ∷ t) (needs_in word signs ps)

-- one word more
pub word_more : (m : Alphabet) (i : ℕ) (d : List Word) (w : Word) (done new : List Need) → i < length d → slice_get d i ≡ Some w → new ≡ done ++ map need_at (positions_in m (i + 1) w)
    → new ++ map need_at (positions_from m (i + 1 + 1) (drop (i + 1) d)) ≡ done ++ map need_at (positions_from m (i + 1) (drop i d))
word_more m i d w done new inside is longer =
    let rest = positions_from m (i + 1 + 1) (drop (i + 1) d) in
    let next : suc i ≡ i + 1 = omega arith in
    let left : drop i d ≡ w ∷ drop (i + 1) d = drop-cons d i w inside ∙ ap (λ x. x ∷ drop (suc i) d) (get_or_from_slice_get d i w w is) ∙ ap (λ j. w ∷ drop j d) next in
    ap (λ ns. ns ++ map need_at rest) longer
    ∙ append_assoc done (map need_at (positions_in m (i + 1) w)) (map need_at rest)
    ∙ ap (λ ns. done ++ ns) (sym (map-append need_at (positions_in m (i + 1) w) rest))
    ∙ ap (λ ws. done ++ map need_at (positions_from m (i + 1) ws)) (sym left)
