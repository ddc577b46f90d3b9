-- What the end of a level leaves of a trie.
use Rattle.std.proofs.Common.{◌≡◌, ℕ, Bool, List, [], length, map, sym, ap, subst, ◌∙◌}
use Rattle.pg_types.specs.Placement.{kept_families}
use Rattle.pg_types.specs.Tails.{tails}
use Rattle.pg_outputs.specs.declared.records.Record.{Record}
use Rattle.pg_cells.specs.Inside.linked.ValuedFamilies.{ValuedFamilies}
use Rattle.pg_trie.specs.Inside.IsPatternTrie.{IsPatternTrie}
use Rattle.pg_trie.specs.Inside.Maps.{Maps, maps_of}
use Rattle.pg_trie.specs.Inside.PrunedFamilies.{IsKeep, Prunes}
use Rattle.pg_trie.specs.Inside.FreshLists.{AreFresh, Renews}
use Rattle.pg_trie.specs.Inside.Strings.{HasShortStrings}
use Rattle.pg_trie.proofs.DeletingLaws.Deleted.{HasFresh, IsDeleted, has_fresh, deleted}
use Rattle.pg_trie.proofs.DeletingLaws.TailsLaw.{tails_is}

pub record IsLevelEnd (m : Maps) (left : ValuedFamilies ℕ) (records : List Record) : Type 0 where
  pub trie : IsPatternTrie left records
  pub view : maps_of left records ≡ record m { hopeless = []; families = kept_families (map (λ e. e.0.0) m.patterns) m.families; records = records }
  pub tails_are : length records ≡ tails m.patterns

-- the records were seen, the new heads were told to the cells, which are renewed
module _ (cells : ValuedFamilies ℕ) (records : List Record) (is : IsPatternTrie cells records) (seen : List Record) (same : seen ≡ records) (fresh : List Record)
    (heads told : List ℕ) (are : AreFresh cells seen fresh heads)
    (told_is : told ≡ heads) (renewed : ValuedFamilies ℕ) (renews : Renews cells told renewed) where
  are_fresh : AreFresh cells records fresh heads
  are_fresh = subst (λ r. AreFresh cells r fresh heads) same are

  new : HasFresh cells records renewed fresh
  new = has_fresh cells records fresh heads renewed is.held are_fresh (subst (λ h. Renews cells h renewed) told_is renews)

  pub short : HasShortStrings renewed
  short q v at = let back = new.back q v at in (is.heads q back.0 back.1).short

  -- the cells that are left, and the last records, which are the new ones
  pub level_end : (left : ValuedFamilies ℕ) → ((keep : List ℕ → Bool) → IsKeep keep renewed → Prunes keep renewed left) → (m : Maps) → maps_of cells records
      ≡ m → (last : List Record) → last ≡ fresh → IsLevelEnd m left last
  level_end left prunes m view_is last last_is =
      let done : IsDeleted m left fresh = deleted cells records is renewed fresh new are_fresh.1.one_head left prunes m view_is in
      subst (IsLevelEnd m left) (sym last_is) (record {
        trie = done.trie;
        view = done.view;
        tails_are = tails_is cells records is renewed fresh new are_fresh.1.one_head are_fresh.1.needed ∙ ap (λ (x : Maps). tails x.patterns) view_is;
      })
