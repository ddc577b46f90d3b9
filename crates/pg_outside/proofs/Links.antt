-- What following one link after the other has come to.
use Rattle.std.proofs.Common.{◌≡◌, ◌+◌, ◌<◌, ◌≤◌, ⊎_elim, ℕ, List, true, false, Option, Some, None, refl, sym, ap, subst, ◌∙◌, arith, add-one}
use Rattle.pg_outside.specs.Inside.disk.Disks.{Disk, DiskHistory, AreOne, KeepsDisk, HoldsNow, IsKindOf, IsFollowedBy}
use Rattle.pg_outside.specs.Inside.disk.Writes.{followed_name, LeadsThroughOpen, IsDeep, StandsFor}
use Rattle.pg_outside.specs.Inside.disk.NewNames.{IsLinkedName}
use Rattle.pg_outside.specs.declared.disk.system.NameKind.TheVariants.{Missing, Link, OpenFile, File}
use Rattle.pg_outside.specs.declared.disk.system.FileId.{FileId}
use Rattle.std.proofs.lemmas.Bool.{true≢false}
use Rattle.pg_outside.proofs.NewNameLoop.{below_or_last}
use Rattle.pg_outside.proofs.Runs.{keeps_now, now_both, now_weaker, now_always}

-- the name was reached by so many links, and stands for what the first stands for
pub record IsReached (name real : List ℕ) (count : ℕ) (disk : Disk) : Type 0 where
  pub one : AreOne disk real name
  pub at : real ≡ followed_name disk count name
  pub links : (before : ℕ) → before < count → disk.links.is_link (followed_name disk before name) ≡ true
  pub closed : (before : ℕ) → before < count → disk.links.is_open (followed_name disk before name) ≡ false

pub not_followed : (told : Option DiskHistory) (name real : List ℕ) → real ≡ name → HoldsNow told (IsReached name real 0)
not_followed told name real is = subst (λ (n : List ℕ). HoldsNow told (IsReached name n 0)) (sym is)
    (now_always (IsReached name name 0) told (λ d. record { one = refl; at = refl; links = λ before below. absurd (omega arith); closed = λ before below. absurd (omega arith) }))

reached : (name real text joined : List ℕ) (count : ℕ) (d : Disk) → IsReached name real count d → IsKindOf real Link d → IsFollowedBy real text d
    → IsLinkedName real text joined → IsReached name joined (count + 1) d
reached name real text joined count d so_far link text_of is_joined =
    let said = text_of joined is_joined in
    record {
      one = said.1 ∙ so_far.one;
      at = said.0 ∙ ap (λ (n : List ℕ). d.links.next n) so_far.at ∙ sym (ap (λ (k : ℕ). followed_name d k name) (add-one count));
      links = λ before below. ⊎_elim
          (λ (earlier : before < count). so_far.links before earlier)
          (λ (last : before ≡ count). ap (λ (k : ℕ). d.links.is_link (followed_name d k name)) last ∙ ap (λ (n : List ℕ). d.links.is_link n) (sym so_far.at) ∙ link.0)
          (below_or_last before count below);
      closed = λ before below. ⊎_elim
          (λ (earlier : before < count). so_far.closed before earlier)
          (λ (last : before ≡ count). ap (λ (k : ℕ). d.links.is_open (followed_name d k name)) last ∙ ap (λ (n : List ℕ). d.links.is_open n) (sym so_far.at) ∙ link.1)
          (below_or_last before count below);
    }

-- one more link
pub reached_on : (name real text joined : List ℕ) (count next : ℕ) (a b c : Option DiskHistory) → HoldsNow a (IsReached name real count) → KeepsDisk a b
    → HoldsNow b (IsKindOf real Link) → KeepsDisk b c → HoldsNow c (IsFollowedBy real text) → IsLinkedName real text joined → next ≡ count + 1 → HoldsNow c (IsReached name joined next)
reached_on name real text joined count next a b c so_far ab link bc text_of is_joined is =
    subst (λ (k : ℕ). HoldsNow c (IsReached name joined k)) (sym is)
    (now_weaker _ _ c (now_both _ _ c (keeps_now _ b c (now_both _ _ b (keeps_now _ a b so_far ab) link) bc) text_of)
    (λ d p. reached name real text joined count d p.0.0 p.0.1 p.1 is_joined))

up_to : (m n : ℕ) → (m < n → ⊥) → n < m + 1
up_to m n below = omega arith

-- no link that was followed is one of the system to an open file, and the name behind them is none
by_name : (name real : List ℕ) (count : ℕ) (d : Disk) → IsReached name real count d → d.links.is_link real ≡ false → LeadsThroughOpen name d → ⊥
by_name name real count d so_far direct through =
    let past : through.count < count → ⊥ = λ earlier. true≢false (sym through.is_open ∙ so_far.closed through.count earlier) in
    true≢false (sym (through.links count (up_to through.count count past)) ∙ ap (λ (n : List ℕ). d.links.is_link n) (sym so_far.at) ∙ direct)

-- the links come to one of the system to an open file
pub leads_open : (name real : List ℕ) (count : ℕ) (a b : Option DiskHistory) → HoldsNow a (IsReached name real count) → KeepsDisk a b
    → HoldsNow b (IsKindOf real OpenFile) → HoldsNow b (LeadsThroughOpen name)
leads_open name real count a b so_far ab kind =
    now_weaker _ _ b (now_both _ _ b (keeps_now _ a b so_far ab) kind) (λ d p. record {
      count = count;
      links = λ before below. ⊎_elim
          (λ (earlier : before < count). p.0.links before earlier)
          (λ (last : before ≡ count). ap (λ (k : ℕ). d.links.is_link (followed_name d k name)) last ∙ ap (λ (n : List ℕ). d.links.is_link n) (sym p.0.at) ∙ p.1.0)
          (below_or_last before count below);
      is_open = ap (λ (n : List ℕ). d.links.is_open n) (sym p.0.at) ∙ p.1.1;
    })

-- the links end at a name of no file
pub stands_none : (name real found : List ℕ) (file : Option FileId) (count : ℕ) (a b : Option DiskHistory) → HoldsNow a (IsReached name real count) → KeepsDisk a b
    → HoldsNow b (IsKindOf real Missing) → found ≡ real → file ≡ None → HoldsNow b (StandsFor found file name)
stands_none name real found file count a b so_far ab kind same none =
    subst (λ (n : List ℕ). HoldsNow b (StandsFor n file name)) (sym same)
    (subst (λ (f : Option FileId). HoldsNow b (StandsFor real f name)) (sym none)
    (now_weaker _ _ b (now_both _ _ b (keeps_now _ a b so_far ab) kind) (λ d p. record { direct = p.1.0; leads = p.1.1; one = p.0.one; by_name = by_name name real count d p.0 p.1.0 })))

-- the links end at a name of a file
pub stands_some : (name real found : List ℕ) (id : FileId) (file : Option FileId) (count : ℕ) (a b : Option DiskHistory) → HoldsNow a (IsReached name real count)
    → KeepsDisk a b → HoldsNow b (IsKindOf real (File id)) → found ≡ real → file ≡ Some id → HoldsNow b (StandsFor found file name)
stands_some name real found id file count a b so_far ab kind same some =
    subst (λ (n : List ℕ). HoldsNow b (StandsFor n file name)) (sym same)
    (subst (λ (f : Option FileId). HoldsNow b (StandsFor real f name)) (sym some)
    (now_weaker _ _ b (now_both _ _ b (keeps_now _ a b so_far ab) kind) (λ d p. record { direct = p.1.0; leads = p.1.1; one = p.0.one; by_name = by_name name real count d p.0 p.1.0 })))

below_all : (m n : ℕ) → m < 41 → 41 ≤ n → m < n
below_all m n below all = omega arith

pub is_deep : (name real : List ℕ) (count : ℕ) (a : Option DiskHistory) → 41 ≤ count → HoldsNow a (IsReached name real count) → HoldsNow a (IsDeep name)
is_deep name real count a all so_far = now_weaker _ _ a so_far (λ d p before below. p.links before (below_all before count below all))
