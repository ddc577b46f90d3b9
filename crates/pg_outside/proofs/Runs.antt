-- One call after another.
use Rattle.std.proofs.Common.{◌≡◌, List, [], ◌∷◌, ◌++◌, Option, Some, None, refl, sym, ap, subst, ◌∙◌, append_assoc}
use Rattle.pg_outside.specs.Inside.disk.Disks.{Disk, DiskHistory, KeepsDisk, ChangesDisk, HoldsNow}
use Rattle.pg_outside.specs.Inside.disk.Moments.{HoldsOfEach, IsDiskRun, RunsCalls}

each_both : (P R : Disk → Type 0) (xs ys : List Disk) → HoldsOfEach P xs → ((disk : Disk) → P disk → R disk) → HoldsOfEach R ys → HoldsOfEach R (xs ++ ys)
each_both P R [] ys p f r = r
each_both P R (x ∷ xs) ys p f r = (f x p.0, each_both P R xs ys p.1 f r)

ran_on : (P Q P2 Q2 P3 Q3 : Disk → Disk → Type 0) (a b c : DiskHistory) → IsDiskRun P Q a b → IsDiskRun P2 Q2 b c
    → ((x y : Disk) → P x y → P3 x y)
    → ((x y z : Disk) → Q x y → P2 y z → P3 x z)
    → ((x y z : Disk) → Q x y → Q2 y z → Q3 x z)
    → IsDiskRun P3 Q3 a c
ran_on P Q P2 Q2 P3 Q3 a b c ab bc first later last = record {
  since = bc.since ++ ab.since;
  moments = bc.moments ∙ ap (λ (l : List Disk). bc.since ++ l) ab.moments ∙ sym (append_assoc bc.since ab.since (a.now ∷ a.past));
  each = each_both (P2 b.now) (P3 a.now) bc.since ab.since bc.each (λ disk p. later a.now b.now disk ab.end p)
      (subst (λ (l : List Disk). HoldsOfEach (P3 a.now) l) (append_none ab.since) (each_both (P a.now) (P3 a.now) ab.since [] ab.each (λ disk p. first a.now disk p) tt));
  end = last a.now b.now c.now ab.end bc.end;
}
  where
    append_none : (xs : List Disk) → xs ++ [] ≡ xs
    append_none [] = refl
    append_none (x ∷ xs) = ap (λ (l : List Disk). x ∷ l) (append_none xs)

-- a run, and then another
pub runs_on : (P Q P2 Q2 P3 Q3 : Disk → Disk → Type 0) (a b c : Option DiskHistory) → RunsCalls a b P Q → RunsCalls b c P2 Q2
    → ((x y : Disk) → P x y → P3 x y)
    → ((x y z : Disk) → Q x y → P2 y z → P3 x z)
    → ((x y z : Disk) → Q x y → Q2 y z → Q3 x z)
    → RunsCalls a c P3 Q3
runs_on P Q P2 Q2 P3 Q3 a b None ab bc first later last = tt
runs_on P Q P2 Q2 P3 Q3 a None (Some c) ab bc first later last = absurd bc
runs_on P Q P2 Q2 P3 Q3 None (Some b) (Some c) ab bc first later last = absurd ab
runs_on P Q P2 Q2 P3 Q3 (Some a) (Some b) (Some c) ab bc first later last = ran_on P Q P2 Q2 P3 Q3 a b c ab bc first later last

-- a call is a run of one moment
pub one_step : (R : Disk → Disk → Type 0) (a b : Option DiskHistory) → ChangesDisk a b R → RunsCalls a b R R
one_step R a None ab = tt
one_step R None (Some b) ab = absurd ab
one_step R (Some a) (Some b) ab = record {
  since = b.now ∷ [];
  moments = ap (λ (l : List Disk). b.now ∷ l) ab.0;
  each = (ab.1, tt);
  end = ab.1;
}

-- a call that changes nothing is a run of no moment
pub no_step : (P Q : Disk → Disk → Type 0) (a b : Option DiskHistory) → KeepsDisk a b → ((x : Disk) → Q x x) → RunsCalls a b P Q
no_step P Q a None ab same = tt
no_step P Q None (Some b) ab same = absurd (none_some b ab)
  where
    none_some : (t : DiskHistory) → None ≡ Some t → ⊥
    none_some t e = cc
no_step P Q (Some a) (Some b) ab same = subst (λ (t : DiskHistory). IsDiskRun P Q t b) (sym (some_some a b ab)) (record { since = []; moments = refl; each = tt; end = same b.now })
  where
    some_some : (s t : DiskHistory) → Some s ≡ Some t → s ≡ t
    some_some s t e = cc

-- a run, seen as less
pub runs_weaker : (P Q P2 Q2 : Disk → Disk → Type 0) (a b : Option DiskHistory) → RunsCalls a b P Q
    → ((x y : Disk) → P x y → P2 x y) → ((x y : Disk) → Q x y → Q2 x y) → RunsCalls a b P2 Q2
runs_weaker P Q P2 Q2 a None ab p q = tt
runs_weaker P Q P2 Q2 None (Some b) ab p q = absurd ab
runs_weaker P Q P2 Q2 (Some a) (Some b) ab p q = record {
  since = ab.since;
  moments = ab.moments;
  each = weaker ab.since ab.each;
  end = q a.now b.now ab.end;
}
  where
    weaker : (xs : List Disk) → HoldsOfEach (P a.now) xs → HoldsOfEach (P2 a.now) xs
    weaker [] e = tt
    weaker (x ∷ xs) e = (p a.now x e.0, weaker xs e.1)

-- what is known of the last disk
pub known_end : (P Q : Disk → Disk → Type 0) (F : Disk → Type 0) (a b : Option DiskHistory) → RunsCalls a b P Q → HoldsNow b F → RunsCalls a b P (λ x z. Q x z × F z)
known_end P Q F a None ab known = tt
known_end P Q F None (Some b) ab known = absurd ab
known_end P Q F (Some a) (Some b) ab known = record { since = ab.since; moments = ab.moments; each = ab.each; end = (ab.end, known) }

-- what is known of the first disk
pub known_start : (P Q P2 Q2 : Disk → Disk → Type 0) (F : Disk → Type 0) (a b : Option DiskHistory) → HoldsNow a F → RunsCalls a b P Q
    → ((x y : Disk) → F x → P x y → P2 x y) → ((x y : Disk) → F x → Q x y → Q2 x y) → RunsCalls a b P2 Q2
known_start P Q P2 Q2 F a None known ab p q = tt
known_start P Q P2 Q2 F None (Some b) known ab p q = absurd ab
known_start P Q P2 Q2 F (Some a) (Some b) known ab p q = runs_at (record { since = ab.since; moments = ab.moments; each = ab.each; end = ab.end })
  where
    weaker : (xs : List Disk) → HoldsOfEach (P a.now) xs → HoldsOfEach (P2 a.now) xs
    weaker [] e = tt
    weaker (x ∷ xs) e = (p a.now x known e.0, weaker xs e.1)

    runs_at : IsDiskRun P Q a b → IsDiskRun P2 Q2 a b
    runs_at r = record { since = r.since; moments = r.moments; each = weaker r.since r.each; end = q a.now b.now known r.end }

-- a call that changes nothing, and then a run
pub keeps_then : (P Q : Disk → Disk → Type 0) (a b c : Option DiskHistory) → KeepsDisk a b → RunsCalls b c P Q → RunsCalls a c P Q
keeps_then P Q a b None ab bc = tt
keeps_then P Q a None (Some c) ab bc = absurd bc
keeps_then P Q a (Some b) (Some c) ab bc = subst (λ (t : Option DiskHistory). RunsCalls t (Some c) P Q) (sym ab) bc

-- a run, and then a call that changes nothing
pub then_keeps : (P Q : Disk → Disk → Type 0) (a b c : Option DiskHistory) → RunsCalls a b P Q → KeepsDisk b c → RunsCalls a c P Q
then_keeps P Q a b None ab bc = tt
then_keeps P Q a b (Some c) ab bc = subst (λ (t : Option DiskHistory). RunsCalls a t P Q) bc ab

-- a call that changes nothing, and then one that does
pub keeps_steps : (R : Disk → Disk → Type 0) (a b c : Option DiskHistory) → KeepsDisk a b → ChangesDisk b c R → ChangesDisk a c R
keeps_steps R a b None ab bc = tt
keeps_steps R a None (Some c) ab bc = absurd bc
keeps_steps R a (Some b) (Some c) ab bc = subst (λ (t : Option DiskHistory). ChangesDisk t (Some c) R) (sym ab) bc

pub keeps_now : (F : Disk → Type 0) (a b : Option DiskHistory) → HoldsNow a F → KeepsDisk a b → HoldsNow b F
keeps_now F a None known ab = tt
keeps_now F a (Some b) known ab = subst (λ (t : Option DiskHistory). HoldsNow t F) ab known

pub keeps_self : (a : Option DiskHistory) → KeepsDisk a a
keeps_self None = tt
keeps_self (Some t) = refl

pub keeps_both : (a b c : Option DiskHistory) → KeepsDisk a b → KeepsDisk b c → KeepsDisk a c
keeps_both a b None ab bc = tt
keeps_both a b (Some c) ab bc = subst (λ (t : Option DiskHistory). KeepsDisk a t) bc ab

pub now_both : (F G : Disk → Type 0) (a : Option DiskHistory) → HoldsNow a F → HoldsNow a G → HoldsNow a (λ d. F d × G d)
now_both F G None f g = tt
now_both F G (Some a) f g = (f, g)

pub now_weaker : (F G : Disk → Type 0) (a : Option DiskHistory) → HoldsNow a F → ((d : Disk) → F d → G d) → HoldsNow a G
now_weaker F G None f w = tt
now_weaker F G (Some a) f w = w a.now f

pub now_always : (F : Disk → Type 0) (a : Option DiskHistory) → ((d : Disk) → F d) → HoldsNow a F
now_always F None f = tt
now_always F (Some a) f = f a.now
