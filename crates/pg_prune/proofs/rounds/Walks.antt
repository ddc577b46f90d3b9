-- A walk over the numbers of the positions that pass a test.
use Rattle.std.proofs.Common.{◌≡◌, ℕ, ◌+◌, ◌<◌, Bool, true, false, cond, not, List, [], ◌∷◌, ◌++◌, map, length, get_or, refl, sym, subst, ap, ◌∙◌, arith, append_assoc, length-append}
use Rattle.std.proofs.Math.ListN.{set}
use Rattle.std.proofs.Math.Seq.{set-append_seam, get_or-append_seam}
use Rattle.std.specs.List.{list_all}
use Rattle.std.proofs.lemmas.List.{length-map, map-append}
use Rattle.std.proofs.lemmas.Bool.{and_from}
use Rattle.pg_types.proofs.BoolFacts.{and_first, and_second}
use Rattle.pg_prune.specs.Inside.positions.PositionInReach.{PositionInReach}
use Rattle.pg_prune.specs.Inside.positions.EntryPositions.{numbers_of}

-- the first number: positions before it fail, its own passes, and the numbers that follow are those of the positions behind it
pub record Next (test : PositionInReach → Bool) (n : ℕ) (ys : List PositionInReach) (k : ℕ) (ks : List ℕ) : Type 0 where
  pub gap : List PositionInReach
  pub position : PositionInReach
  pub more : List PositionInReach
  pub is : ys ≡ gap ++ position ∷ more
  pub fails : list_all (λ y. not (test y)) gap ≡ true
  pub there : test position ≡ true
  pub at : k ≡ n + length gap
  pub rest : ks ≡ numbers_of test (k + 1) more

next_in : (test : PositionInReach → Bool) (n : ℕ) (y : PositionInReach) (ys : List PositionInReach) (k : ℕ) (ks : List ℕ) (b : Bool) → test y ≡ b
    → cond b (n ∷ numbers_of test (n + 1) ys) (numbers_of test (n + 1) ys) ≡ k ∷ ks → (numbers_of test (n + 1) ys ≡ k ∷ ks → Next test (n + 1) ys k ks) → Next test n (y ∷ ys) k ks
next_in test n y ys k ks true there is others =
    let first : n ≡ k = cc in
    let rest : numbers_of test (n + 1) ys ≡ ks = cc in
    record { gap = []; position = y; more = ys; is = refl; fails = refl; there = there; at = omega arith; rest = sym rest ∙ ap (λ j. numbers_of test (j + 1) ys) first }
next_in test n y ys k ks false away is others =
    let r = others is in
    let fails : not (test y) ≡ true = ap not away in
    record {
      gap = y ∷ r.gap;
      position = r.position;
      more = r.more;
      is = ap (λ t. y ∷ t) r.is;
      fails = and_from _ _ fails r.fails;
      there = r.there;
      at =
          (let at : k ≡ n + 1 + length r.gap = r.at in omega arith);
      rest = r.rest;
    }

pub next_of : (test : PositionInReach → Bool) (n : ℕ) (ys : List PositionInReach) (k : ℕ) (ks : List ℕ) → numbers_of test n ys ≡ k ∷ ks → Next test n ys k ks
next_of test n [] k ks is = absurd (cc)
next_of test n (y ∷ ys) k ks is = next_in test n y ys k ks (test y) refl is (next_of test (n + 1) ys k ks)

none_in : (test : PositionInReach → Bool) (n : ℕ) (y : PositionInReach) (ys : List PositionInReach) (b : Bool) → test y ≡ b
    → cond b (n ∷ numbers_of test (n + 1) ys) (numbers_of test (n + 1) ys) ≡ [] → (numbers_of test (n + 1) ys ≡ [] → list_all (λ y. not (test y)) ys ≡ true)
    → list_all (λ y. not (test y)) (y ∷ ys) ≡ true
none_in test n y ys true there is others = absurd (cc)
none_in test n y ys false away is others = let fails : not (test y) ≡ true = ap not away in and_from _ _ fails (others is)

-- where there is no number, all fail
pub none_of : (test : PositionInReach → Bool) (n : ℕ) (ys : List PositionInReach) → numbers_of test n ys ≡ [] → list_all (λ y. not (test y)) ys ≡ true
none_of test n [] is = refl
none_of test n (y ∷ ys) is = none_in test n y ys (test y) refl is (none_of test (n + 1) ys)

pub is_false : (b : Bool) → not b ≡ true → b ≡ false
is_false true e = cc
is_false false e = refl

-- positions that fail have the same in both lists
pub same_in_gap : {A : Type 0} (test : PositionInReach → Bool) (f g : PositionInReach → A) → ((x : PositionInReach) → test x ≡ false → f x ≡ g x) → (gap : List PositionInReach)
    → list_all (λ y. not (test y)) gap ≡ true → map f gap ≡ map g gap
same_in_gap test f g same [] fails = refl
same_in_gap test f g same (y ∷ ys) fails =
    ap (λ h. h ∷ map f ys) (same y (is_false (test y) (and_first _ _ fails))) ∙ ap (λ t. g y ∷ t) (same_in_gap test f g same ys (and_second _ _ fails))

-- the walk is in the middle: of the positions in front g was written, and behind f still stands
pub record WalkedSoFar {A : Type 0} (positions : List PositionInReach) (f g : PositionInReach → A) (test : PositionInReach → Bool) (held : List A) (left : List ℕ) : Type 0 where
  pub front : List PositionInReach
  pub back : List PositionInReach
  pub is : positions ≡ front ++ back
  pub held_is : held ≡ map g front ++ map f back
  pub left_is : left ≡ numbers_of test (length front) back

-- what is at the next number, and the walk behind it
pub record Step {A : Type 0} (positions : List PositionInReach) (f g : PositionInReach → A) (test : PositionInReach → Bool) (held : List A) (k : ℕ) (ks : List ℕ) : Type 0 where
  pub position : PositionInReach
  pub there : test position ≡ true
  pub within : k < length held
  pub at : (d : A) → get_or held k d ≡ f position
  pub at_position : (d : PositionInReach) → get_or positions k d ≡ position
  pub next : (new : A) → new ≡ g position → WalkedSoFar positions f g test (set held k new) ks

module _ {A : Type 0} (positions : List PositionInReach) (f g : PositionInReach → A) (test : PositionInReach → Bool) where
  pub walk_begins : (held : List A) (left : List ℕ) → held ≡ map f positions → left ≡ numbers_of test 0 positions → WalkedSoFar positions f g test held left
  walk_begins held left is numbers = record { front = []; back = positions; is = refl; held_is = is; left_is = numbers }

  module _ (same : (x : PositionInReach) → test x ≡ false → f x ≡ g x) where
    pub walk_steps : (held : List A) (k : ℕ) (ks : List ℕ) → WalkedSoFar positions f g test held (k ∷ ks) → Step positions f g test held k ks
    walk_steps held k ks w =
        let n = next_of test (length w.front) w.back k ks (sym w.left_is) in
        let front = w.front ++ n.gap in
        let whole : positions ≡ front ++ n.position ∷ n.more = w.is ∙ ap (λ b. w.front ++ b) n.is ∙ sym (append_assoc w.front n.gap (n.position ∷ n.more)) in
        let behind : map f w.back ≡ map f n.gap ++ f n.position ∷ map f n.more = ap (map f) n.is ∙ map-append f n.gap (n.position ∷ n.more) in
        let written : map g w.front ++ map f n.gap ≡ map g front = ap (λ t. map g w.front ++ t) (same_in_gap test f g same n.gap n.fails) ∙ sym (map-append g w.front n.gap) in
        let held_is : held ≡ map g front ++ f n.position ∷ map f n.more = w.held_is ∙ ap (λ t. map g w.front ++ t) behind
        ∙ sym (append_assoc (map g w.front) (map f n.gap) (f n.position ∷ map f n.more)) ∙ ap (λ t. t ++ f n.position ∷ map f n.more) written in
        let k_is : k ≡ length front = n.at ∙ sym (length-append w.front n.gap) in
        let k_at : k ≡ length (map g front) = k_is ∙ sym (length-map front g) in
        record {
          position = n.position;
          there = n.there;
          within = subst (λ (h : List A). k < length h) (sym held_is) (let many = length-append (map g front) (f n.position ∷ map f n.more) in omega (arith, many));
          at = λ d. ap (λ h. get_or h k d) held_is ∙ ap (λ j. get_or (map g front ++ f n.position ∷ map f n.more) j d) k_at ∙ get_or-append_seam (map g front) (f n.position) (map f n.more) d;
          at_position = λ d. ap (λ h. get_or h k d) whole ∙ ap (λ j. get_or (front ++ n.position ∷ n.more) j d) k_is ∙ get_or-append_seam front n.position n.more d;
          next = λ new is. record {
            front = front ++ n.position ∷ [];
            back = n.more;
            is = whole ∙ sym (append_assoc front (n.position ∷ []) n.more);
            held_is = ap (λ h. set h k new) held_is ∙ ap (λ j. set (map g front ++ f n.position ∷ map f n.more) j new) k_at ∙ set-append_seam (map g front) (f n.position) (map f n.more) new
                ∙ ap (λ h. map g front ++ h ∷ map f n.more) is ∙ sym (append_assoc (map g front) (g n.position ∷ []) (map f n.more))
                ∙ ap (λ t. t ++ map f n.more) (sym (map-append g front (n.position ∷ [])));
            left_is = n.rest ∙ ap (λ j. numbers_of test j n.more) (let many = length-append front (n.position ∷ []) in omega (arith, many));
          };
        }

    pub walk_ends : (held : List A) → WalkedSoFar positions f g test held [] → held ≡ map g positions
    walk_ends held w =
        w.held_is ∙ ap (λ t. map g w.front ++ t) (same_in_gap test f g same w.back (none_of test (length w.front) w.back (sym w.left_is))) ∙ sym (map-append g w.front w.back) ∙ ap (map g) (sym w.is)
