-- A link stands for what the name that it says stands for.
use Rattle.std.proofs.Common.{◌≡◌, ℕ, List, [], ◌∷◌, Bool, true, false, cond, Option, Some, None, string_bytes, refl, sym, ap, subst, ◌∙◌}
use Rattle.std.specs.Option.{is_some}
use Rattle.std.specs.Str.{bytes_eq}
use Rattle.std.proofs.lemmas.Bool.{false≢true}
use Rattle.pg_told_disk.specs.Inside.laws.Cases.{eq_yes, cond_yes, cond_no, cond_same}
use Rattle.pg_told_disk.specs.Inside.LinkLists.{or_this, link_named, followed_by, real_in}
use Rattle.pg_told_disk.specs.declared.links.Link.{Link}
use Rattle.std.proofs.lemmas.Slice.Eq.{bytes_eq-Decides}

-- an option that holds a link is not empty
no_link : (link : Link) → Some link ≡ None → ⊥
no_link link e = cc

-- no option that holds a link is empty
none_link : (link : Link) → None ≡ Some link → ⊥
none_link link e = cc

-- two links are equal where the options that hold them are
one_link : (link other : Link) → Some link ≡ Some other → link ≡ other
one_link link other e = cc

-- neither an earlier link nor this one has the name
none_both : (o : Option Link) (link : Link) (q : List ℕ) → or_this o link q ≡ None
    → (o ≡ None) × (bytes_eq q (string_bytes link.name) ≡ false)
none_both (Some first) link q is = absurd (no_link first is)
none_both None link q is = (refl, by_test (bytes_eq q (string_bytes link.name)) is)
  where
    by_test : (b : Bool) → cond b (Some link) None ≡ None → b ≡ false
    by_test true e = absurd (no_link link e)
    by_test false e = refl

-- a name that is no link stands for itself
pub direct_name : (links : List Link) (q : List ℕ) → link_named links q ≡ None → real_in links q ≡ q
direct_name [] q none = refl
direct_name (link ∷ older) q none =
    let both = none_both (link_named older q) link q none in
    ap (λ (r : List ℕ). followed_by r (real_in older (string_bytes link.said)) link)
    (direct_name older q both.0) ∙ cond_no _ _ _ both.1

-- where the test finds no link there is none
not_some : (o : Option Link) → is_some o ≡ false → o ≡ None
not_some None e = refl
not_some (Some link) e = absurd (false≢true (sym e))

-- a name that the test finds to be no link stands for itself
pub not_link : (links : List Link) (q : List ℕ) → is_some (link_named links q) ≡ false
    → real_in links q ≡ q
not_link links q unlinked = direct_name links q (not_some (link_named links q) unlinked)

-- the latest link leads on to the name that it says, where no earlier link has its name
newest_link : (link : Link) (older : List Link) (q : List ℕ) → link_named older q ≡ None
    → q ≡ string_bytes link.name
    → real_in (link ∷ older) (string_bytes link.said) ≡ real_in (link ∷ older) q
newest_link link older q none named =
    cond_same (bytes_eq (real_in older (string_bytes link.said)) (string_bytes link.name))
    (real_in older (string_bytes link.said))
    ∙ sym (ap (λ (r : List ℕ). followed_by r (real_in older (string_bytes link.said)) link)
    (direct_name older q none) ∙ cond_yes _ _ _ (eq_yes q (string_bytes link.name) named))

-- what a link says stands for what the link stands for
pub said_same : (links : List Link) (q : List ℕ) (link : Link) → link_named links q ≡ Some link
    → real_in links (string_bytes link.said) ≡ real_in links q
said_same [] q link is = absurd (none_link link is)
said_same (first ∷ older) q link is = by_older (link_named older q) refl is
    (λ earlier. said_same older q link earlier)
  where
    by_test : (b : Bool) → bytes_eq q (string_bytes first.name) ≡ b → link_named older q ≡ None
        → cond b (Some first) None ≡ Some link
        → real_in (first ∷ older) (string_bytes link.said) ≡ real_in (first ∷ older) q
    by_test false same none found = absurd (none_link link found)
    by_test true same none found =
        subst (λ (l : Link). real_in (first ∷ older) (string_bytes l.said)
        ≡ real_in (first ∷ older) q) (one_link first link found)
        (newest_link first older q none ((bytes_eq-Decides q (string_bytes first.name)).0 same))

    by_older : (o : Option Link) → link_named older q ≡ o → or_this o first q ≡ Some link
        → (link_named older q ≡ Some link
        → real_in older (string_bytes link.said) ≡ real_in older q)
        → real_in (first ∷ older) (string_bytes link.said) ≡ real_in (first ∷ older) q
    by_older (Some early) at found earlier =
        ap (λ (r : List ℕ). followed_by r (real_in older (string_bytes first.said)) first)
        (earlier (at ∙ found))
    by_older None at found earlier = by_test (bytes_eq q (string_bytes first.name)) refl at found
