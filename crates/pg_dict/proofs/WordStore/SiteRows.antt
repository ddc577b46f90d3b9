-- What stands at the signs of words, one position and one word after the other.
use Rattle.std.proofs.Common.{◌≡◌, ℕ, ◌+◌, ◌-◌, ◌<◌, ◌≤◌, List, [], ◌∷◌, ◌++◌, suc, length, drop, map, append_assoc, ap, sym, subst, ◌∙◌, arith}
use Rattle.std.specs.Prelude.{slice_get, Some}
use Rattle.std.specs.List.{range_with_len}
use Rattle.std.proofs.lemmas.List.{append-nil, drop_all}
use Rattle.pg_dict.specs.Word.{Word}
use Rattle.pg_dict.specs.declared.sites.Site.{Site}
use Rattle.pg_dict.specs.Inside.Sites.{site_of, sites_in, all_sites}
use Rattle.pg_dict.proofs.WordStore.Parts.{drop_word}

-- the positions from one on
range_step : (p end : ℕ) → p < end → range_with_len p (end - p) ≡ p ∷ range_with_len (p + 1) (end - (p + 1))
range_step p end before = let k : end - p ≡ suc (end - (p + 1)) = omega arith in ap (range_with_len p) k

-- one sign of a word more
pub site_added : (w : Word) (items more whole : List Site) (p end : ℕ) (site : Site) → p < end → more ≡ items ++ site ∷ [] → site ≡ site_of w p
    → items ++ map (site_of w) (range_with_len p (end - p)) ≡ whole → more ++ map (site_of w) (range_with_len (p + 1) (end - (p + 1))) ≡ whole
site_added w items more whole p end site before is here left =
    let rest : List Site = map (site_of w) (range_with_len (p + 1) (end - (p + 1))) in
    ap (λ (ys : List Site). ys ++ rest) is ∙ append_assoc items (site ∷ []) rest ∙ ap (λ (x : Site). items ++ x ∷ rest) here
    ∙ ap (λ (ps : List ℕ). items ++ map (site_of w) ps) (sym (range_step p end before)) ∙ left

-- one word more
pub word_added : (words : List Word) (items more whole : List Site) (i : ℕ) (w : Word) → slice_get words i ≡ Some w → more ≡ items ++ sites_in w → items
    ++ all_sites (drop i words) ≡ whole → more ++ all_sites (drop (i + 1) words) ≡ whole
word_added words items more whole i w at is left =
    let rest : List Site = all_sites (drop (i + 1) words) in
    ap (λ (ys : List Site). ys ++ rest) is ∙ append_assoc items (sites_in w) rest
    ∙ ap (λ (ws : List Word). items ++ all_sites ws) (sym (drop_word words i w at)) ∙ left

-- no word is left
pub words_added : (words : List Word) (items whole : List Site) (i : ℕ) → length words ≤ i → items ++ all_sites (drop i words) ≡ whole → items ≡ whole
words_added words items whole i past left = sym (append-nil items) ∙ subst (λ (ws : List Word). items ++ all_sites ws ≡ whole) (drop_all i words past) left
