-- The names of new files, and names that stand in the folder of another.
use Rattle.std.specs.Prelude.{◌≡◌, ◌≢◌, ◌==◌, ◌<◌, ℕ, List, [], ◌∷◌, ◌++◌, Bool, true, false, ◌⊎◌, codes, length, slice_index}
use Rattle.std.specs.Fmt.{decimal}

-- this is the folder of the name: what stands up to its last slash
pub record IsFolderOf (folder name : List ℕ) : Type 0 where
  pub last : List ℕ
  pub is : name ≡ folder ++ last
  pub no_slash : (index : ℕ) → index < length last → slice_index last index ≢ 47
  pub ends : (folder ≡ []) ⊎ ((front : List ℕ) × (folder ≡ front ++ 47 ∷ []))

-- a new file's name in this folder: `patgen-new-` and a number
abbrev pub new_name : List ℕ → ℕ → List ℕ
new_name folder counted = folder ++ codes "patgen-new-" ++ decimal counted

-- this is the name of a new file beside the named one: in its folder
pub record IsNewName (own name : List ℕ) : Type 0 where
  pub folder : List ℕ
  pub is_folder : IsFolderOf folder name
  pub counted : ℕ
  pub is : own ≡ new_name folder counted

-- whether the name begins at the root
abbrev pub is_rooted : List ℕ → Bool
is_rooted name = slice_index name 0 == 47

-- this is the name that the text of a link says: seen from the root, or from the link's folder
pub record IsLinkedName (link text joined : List ℕ) : Type 0 where
  pub rooted : is_rooted text ≡ true → joined ≡ text
  pub folder : List ℕ
  pub is_folder : IsFolderOf folder link
  pub inside : is_rooted text ≡ false → joined ≡ folder ++ text
