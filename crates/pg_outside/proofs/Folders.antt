-- The folder of a name, by where its last slash is.
use Rattle.std.proofs.Common.{◌≡◌, ◌+◌, ◌-◌, inl, inr, ℕ, List, [], ◌∷◌, ◌++◌, take, drop, sym, ap, ◌∙◌, lit<, arith}
use Rattle.std.specs.Prelude.{◌==◌, slice_range}
use Rattle.std.specs.Str.{NoCharPasses}
use Rattle.std.specs.Str.Pattern.{HasCharAt}
use Rattle.std.proofs.Math.Seq.{take-add}
use Rattle.std.proofs.lemmas.List.{take-append-drop}
use Rattle.std.proofs.lemmas.Str.Pattern.{drop_at_char, NoCharPasses-char}
use Rattle.pg_outside.specs.Inside.disk.NewNames.{IsFolderOf}

pub folder_none : (folder name : List ℕ) → folder ≡ [] → NoCharPasses (λ d. d == 47) name → IsFolderOf folder name
folder_none folder name is none = record {
  last = name;
  is = ap (λ (l : List ℕ). l ++ name) (sym is);
  no_slash = λ index within. NoCharPasses-char 47 name index none (lit< tt) within;
  ends = inl is;
}

one_more : (name : List ℕ) (i j : ℕ) → HasCharAt 47 name i j → take (i + 1) name ≡ take i name ++ 47 ∷ []
one_more name i j at = take-add i 1 name ∙ ap (λ (l : List ℕ). take i name ++ take 1 l) (drop_at_char 47 name i j at (lit< tt))

-- a part from the start
pub from_start : (part name : List ℕ) (n : ℕ) → part ≡ slice_range name 0 n → part ≡ take n name
from_start part name n is = let whole : n - 0 ≡ n = omega arith in is ∙ ap (λ (k : ℕ). take k name) whole

pub folder_at : (folder name : List ℕ) (i j : ℕ) → HasCharAt 47 name i j → NoCharPasses (λ d. d == 47) (drop j name) → folder ≡ take (i + 1) name → IsFolderOf folder name
folder_at folder name i j at none is = record {
  last = drop j name;
  is = sym (take-append-drop (i + 1) name) ∙ ap (λ (l : List ℕ). l ++ drop (i + 1) name) (sym is) ∙ ap (λ (k : ℕ). folder ++ drop k name) (sym at.ends);
  no_slash = λ index within. NoCharPasses-char 47 (drop j name) index none (lit< tt) within;
  ends = inr (take i name, is ∙ one_more name i j at);
}
