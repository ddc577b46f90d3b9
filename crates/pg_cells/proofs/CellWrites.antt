-- What a read of one cell's parts shows of the lists of all cells, and what a write leaves of them.
use Rattle.std.proofs.Common.{◌≡◌, ◌≢◌, ℕ, ◌+◌, ◌-◌, ◌*◌, ◌/◌, ◌%◌, ◌<◌, Bool, true, false, List, [], ◌∷◌, map, set, get_or, length, refl, sym, ◌∙◌, ap, cond, nat_eq, arith, zero, suc}
use Rattle.std.proofs.Math.Seq.{map-set_same}
use Rattle.std.specs.Prelude.{slice_get, Some}
use Rattle.std.specs.Option.{option_map}
use Rattle.std.proofs.lemmas.List.{map-set, get_or-map}
use Rattle.std.proofs.lemmas.Option.{slice_get-map, slice_get-get_or}
use Rattle.std.proofs.lemmas.Bool.{ne_eqb}
use Rattle.pg_cells.specs.declared.store.cell.TheConstants.{SIGN_COUNT}
use Rattle.pg_cells.specs.declared.store.cell.Cell.{Cell}
use Rattle.pg_cells.specs.declared.store.member.Member.{Member}
use Rattle.pg_cells.proofs.WordLaws.{word_taken, word_free, sign_odd, odd_word, value_odd, value_sign, value_next, value_first, value_base, value_link, taken_odd, taken_sign, taken_next, taken_first, taken_base, taken_link, link_same, base_same, low_same}
use Rattle.pg_cells.specs.Inside.store.CellRows.{row_of, without_links, unlink_at, sign_seen, base_seen, link_seen, child_seen, member_seen, sign_in, next_in, first_in, base_in, link_in, FitsCell, sign_at, child_at, with_child, with_value, with_base, with_taken, with_free}

-- a value without its links loses none
without_links_seen : {V : Type 0} (b : Bool) (v : V) (m : Member V) → m.value ≡ v → without_links v ≡ without_links (cond b (without_links v) m).value
without_links_seen true v m e = refl
without_links_seen false v m e = ap without_links (sym e)

-- what is seen of a free cell, and of a taken one
module _ {V : Type 0} (c : Cell V) where
  free_child : sign_seen c ≡ 0 → child_seen c ≡ 0
  free_child e = ap (λ n. cond (nat_eq n 0) 0 (link_seen c)) e

  free_member : sign_seen c ≡ 0 → member_seen c ≡ without_links c.value
  free_member e = ap (λ n. cond (nat_eq n 0) (without_links c.value) (record { value = c.value; next = next_in c.signs; first = first_in c.signs c.links })) e

  taken_child : sign_seen c ≢ 0 → child_seen c ≡ link_seen c
  taken_child e = ap (λ b. cond b 0 (link_seen c)) (ne_eqb (sign_seen c) 0 e)

  taken_member : sign_seen c ≢ 0 → member_seen c ≡ record { value = c.value; next = next_in c.signs; first = first_in c.signs c.links }
  taken_member e = ap (λ b. cond b (without_links c.value) (record { value = c.value; next = next_in c.signs; first = first_in c.signs c.links })) (ne_eqb (sign_seen c) 0 e)

module _ {V : Type 0} (cells : List (Cell V)) (i : ℕ) (d : Cell V) where
  -- the cell that is there
  abbrev pub old : Cell V
  old = get_or cells i d

  -- a part that the new cell has as the old one had it
  kept : {A : Type 0} (f : Cell V → A) (new : Cell V) → f new ≡ f old → map f (set cells i new) ≡ map f cells
  kept f new e = map-set_same f cells i new d e

  -- a part of the new cell that has this value
  now : {A : Type 0} (f : Cell V → A) (new : Cell V) (x : A) → f new ≡ x → map f (set cells i new) ≡ set (map f cells) i x
  now f new x e = map-set f cells i new ∙ ap (set (map f cells) i) e

  pub sign_is : i < length cells → sign_seen old ≡ sign_at (row_of cells) i
  sign_is h = sym (get_or-map sign_seen cells i d 0 h)

  pub cell_taken : i < length cells → nat_eq (old.signs % 2) 1 ≡ true → sign_at (row_of cells) i ≢ 0
  cell_taken h e z = word_taken old.signs e (sign_is h ∙ z)

  pub cell_free : i < length cells → nat_eq (old.signs % 2) 1 ≡ false → sign_at (row_of cells) i ≡ 0
  cell_free h e = sym (sign_is h) ∙ word_free old.signs e

  taken_old : i < length cells → sign_at (row_of cells) i ≢ 0 → sign_seen old ≢ 0
  taken_old h taken e = taken (sym (sign_is h) ∙ e)

  pub child_is : i < length cells → sign_at (row_of cells) i ≢ 0 → link_seen old ≡ child_at (row_of cells) i
  child_is h taken = sym (taken_child old (taken_old h taken)) ∙ sym (get_or-map child_seen cells i d 0 h)

  pub value_is : (c : Cell V) → c ≡ old → i < length cells → sign_at (row_of cells) i ≢ 0
      → slice_get (row_of cells).values i ≡ Some (record { value = c.value; next = next_in c.signs; first = first_in c.signs c.links })
  value_is c same h taken =
      slice_get-map member_seen cells i ∙ ap (option_map member_seen) (slice_get-get_or cells i d h)
      ∙ ap Some (ap member_seen (sym same) ∙ taken_member c (λ e. taken_old h taken (ap sign_seen (sym same) ∙ e)))

  pub write_child : (x : ℕ) → i < length cells → sign_at (row_of cells) i ≢ 0 → row_of (set cells i (record old { links = x * 8 + old.links % 8 })) ≡ with_child (row_of cells) i x
  write_child x h taken =
      let new : Cell V = record old { links = x * 8 + old.links % 8 } in
      let some : sign_seen old ≢ 0 = taken_old h taken in
      λ t. record {
        signs = kept sign_seen new refl t;
        children = now child_seen new x (taken_child new some ∙ link_same x old.links) t;
        values = kept member_seen new (taken_member new some
            ∙ ap (λ n. record { value = old.value; next = next_in old.signs; first = n * 512 + old.signs / 8388608 % 512 }) (low_same x old.links)
            ∙ sym (taken_member old some)) t;
        bases = kept base_seen new (base_same x old.links) t;
      }

  pub write_value : (x : Member V) (upper : ℕ) → upper ≡ x.next * 4096 + x.first % 512 * 8388608 → FitsCell x → i < length cells → sign_at (row_of cells) i ≢ 0
      → row_of (set cells i (record old { value = x.value; signs = old.signs % 4096 + upper; links = old.links / 4 * 4 + x.first / 512 })) ≡ with_value (row_of cells) i x
  write_value x upper is fits h taken =
      let S = old.signs in
      let L = old.links in
      let new : Cell V = record old { value = x.value; signs = S % 4096 + upper; links = L / 4 * 4 + x.first / 512 } in
      let some : sign_seen old ≢ 0 = taken_old h taken in
      let odd : S % 2 ≡ 1 = odd_word S some in
      let same : sign_seen new ≡ sign_seen old = sign_odd (S % 4096 + upper) (value_odd S x.next x.first upper is odd) ∙ value_sign S x.next x.first upper is ∙ sym (sign_odd S odd) in
      let still : sign_seen new ≢ 0 = λ e. some (sym same ∙ e) in
      λ t. record {
        signs = kept sign_seen new same t;
        children = kept child_seen new (taken_child new still ∙ value_link L x.first fits.1 ∙ sym (taken_child old some)) t;
        values = now member_seen new x (taken_member new still ∙ (λ u. record {
          value = x.value;
          next = value_next S x.next x.first upper is fits.0 u;
          first = value_first S L x.next x.first upper is fits.0 fits.1 u;
        })) t;
        bases = kept base_seen new (value_base L x.first fits.1) t;
      }

  -- the second word has another flag, and the rest of it is as before
  pub write_base : (x : Bool) (links : ℕ) → base_in links ≡ x → link_in links ≡ link_in old.links → links % 4 ≡ old.links % 4
      → row_of (set cells i (record old { links = links })) ≡ with_base (row_of cells) i x
  write_base x links base link low =
      let new : Cell V = record old { links = links } in
      let S = old.signs in
      λ t. record {
        signs = kept sign_seen new refl t;
        children = kept child_seen new (ap (λ n. cond (nat_eq (sign_in S) 0) 0 n) link) t;
        values = kept member_seen new
            (ap (λ n. cond (nat_eq (sign_in S) 0) (without_links old.value) (record { value = old.value; next = next_in S; first = n * 512 + S / 8388608 % 512 })) low) t;
        bases = now base_seen new x base t;
      }

  pub write_taken : (sign : ℕ) (x : Member V) (child upper : ℕ) → upper ≡ x.next * 4096 + x.first % 512 * 8388608 → FitsCell x → sign ≢ 0 → sign < SIGN_COUNT
      → row_of (set cells i (record old { value = x.value; signs = 1 + (sign - 1) * 2 + upper; links = child * 8 + old.links / 4 % 2 * 4 + x.first / 512 }))
      ≡ with_taken (row_of cells) i sign x child
  write_taken sign x child upper is fits up small =
      let L = old.links in
      let new : Cell V = record old { value = x.value; signs = 1 + (sign - 1) * 2 + upper; links = child * 8 + L / 4 % 2 * 4 + x.first / 512 } in
      let same : sign_seen new ≡ sign = sign_odd (1 + (sign - 1) * 2 + upper) (taken_odd sign x.next x.first upper is) ∙ taken_sign sign x.next x.first upper is up small in
      let some : sign_seen new ≢ 0 = λ e. up (sym same ∙ e) in
      λ t. record {
        signs = now sign_seen new sign same t;
        children = now child_seen new child (taken_child new some ∙ taken_link child L x.first fits.1) t;
        values = now member_seen new x (taken_member new some ∙ (λ u. record {
          value = x.value;
          next = taken_next sign x.next x.first upper is small fits.0 u;
          first = taken_first sign child L x.next x.first upper is small fits.0 fits.1 u;
        })) t;
        bases = kept base_seen new (taken_base child L x.first fits.1) t;
      }

-- a cell that is given up keeps its value, and that is seen without links
member_bared : {V : Type 0} (cells : List (Cell V)) (i : ℕ) (d : Cell V) (links : ℕ)
    → map member_seen (set cells i (record (get_or cells i d) { signs = 0; links = links })) ≡ unlink_at (map member_seen cells) i
member_bared [] i d links = refl
member_bared (c ∷ cs) zero d links = ap (λ m. m ∷ map member_seen cs) (
    free_member (record c { signs = 0; links = links }) refl
    ∙ without_links_seen (nat_eq (sign_seen c) 0) c.value (record { value = c.value; next = next_in c.signs; first = first_in c.signs c.links }) refl)
member_bared (c ∷ cs) (suc i) d links = ap (λ ms. member_seen c ∷ ms) (member_bared cs i d links)

module _ {V : Type 0} (cells : List (Cell V)) (i : ℕ) (d : Cell V) where
  pub write_free : row_of (set cells i (record (get_or cells i d) { signs = 0; links = (get_or cells i d).links % 8 })) ≡ with_free (row_of cells) i
  write_free =
      let L = (get_or cells i d).links in
      let new : Cell V = record (get_or cells i d) { signs = 0; links = L % 8 } in
      let same : base_in (L % 8) ≡ base_in L = let bit : L % 8 / 4 % 2 ≡ L / 4 % 2 = omega arith in ap (λ n. nat_eq n 1) bit in
      λ t. record {
        signs = now cells i d sign_seen new 0 refl t;
        children = now cells i d child_seen new 0 (free_child new refl) t;
        values = member_bared cells i d (L % 8) t;
        bases = kept cells i d base_seen new same t;
      }
