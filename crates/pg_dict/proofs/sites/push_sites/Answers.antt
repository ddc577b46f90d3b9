use Rattle.std.proofs.Common.{◌≡◌, ℕ, ◌+◌, ◌-◌, ◌*◌, Bool, true, false, cond, length, get_or, refl, ◌∙◌}
use Rattle.std.specs.Int.{from_bool}
use Rattle.pg_dict.specs.Inside.LentWords.{lent_word}
use Rattle.pg_dict.proofs.WordStore.SiteRows.{site_added}
use Rattle.pg_dict.proofs.sites.push_sites.Goals as goal

-- a hyphen as a number
byte_is : (b : Bool) → from_bool b ≡ cond {A = ℕ} b 1 0
byte_is true = refl
byte_is false = refl

pub positions-preserved : goal.positions-preserved
positions-preserved c =
    let w = c.args.w.now in
    let p = c.positions.p in
    let hyphen : c.from-hyphen.result ≡ cond (get_or w.hyphens.now p false) 1 0 = c.from-hyphen.ensures ∙ byte_is (get_or w.hyphens.now p false) in
    site_added (lent_word w) c.positions.sites.items c.push.new.self.items _ p (length w.signs.now) _ c.positions-test.true c.in_ok-push.ensures.items
    (λ i. record { left = 2 * (length w.signs.now - p) + hyphen i })
    c.positions.invariant
