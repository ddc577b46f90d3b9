use Rattle.std.proofs.Common.{◌≡◌, ◌-◌, ◌+◌, ◌*◌, ◌/◌, ◌<◌, ◌≤◌, ◌&&◌, ◌⊎◌, nat_le, nat_lt, ℕ, List, length, get_or, inl, inr, ap, ◌∙◌, arith}
use Rattle.std.proofs.lemmas.Bool.{cases_lt}
use Rattle.std.proofs.lemmas.Bool.Decides.{nat_tests}
use Rattle.pg_dict.specs.declared.sites.Site.{Site}
use Rattle.pg_dict.specs.Inside.Sites.{all_sites}
use Rattle.pg_dict.proofs.WordStore.Around.{sites_count, around}
use Rattle.pg_dict.proofs.dictionary.Dictionary.fits_around.Goals as goal

pub index-requires : goal.index-requires
index-requires c =
    let size = ap (λ (xs : List Site). length xs) (c.self.invariant.sites ∙ ap all_sites c.self.view_is) in
    let within = c.requires in
    omega (arith, sites_count c.args.self.now)

-- twice the greater of two counts is asked for at once
both_left : (back len left needed : ℕ) → len ≤ needed → back + 1 ≤ needed → (needed ≤ len) ⊎ (needed ≤ back + 1)
    → nat_le (2 * needed) left ≡ (nat_lt back (left / 2) && nat_le len (left / 2))
both_left back len left needed low above is = grind (arith, nat_tests)

-- one of two counts is at least the greater of them
either : (back len needed : ℕ) → (len < needed → needed ≤ back + 1) → (needed ≤ len) ⊎ (needed ≤ back + 1)
either back len needed is = elim (cases_lt len needed) [
  | inl above ↦ inr (is above)
  | inr low ↦ inl low
]

pub returns : goal.returns
returns c = λ n p w there within is.
    let left = c.from-left.result in
    let row : c.self.inside.sites.items ≡ all_sites c.args.self.now = c.self.invariant.sites ∙ ap all_sites c.self.view_is in
    let at : left ≡ (get_or (all_sites c.args.self.now) (c.args.sign - c.args.back) c.index.result.now).left =
    c.from-left.ensures ∙ ap (λ (s : Site). s.left) (c.index.ensures ∙ (λ i. get_or (row i) (c.args.sign - c.from-before.ensures i) c.index.result.now)) in
    both_left c.args.back c.args.len left c.max-needed.result (omega arith) (omega arith) (either c.args.back c.args.len c.max-needed.result (omega arith))
    ∙ around c.args.self.now n p c.args.back c.args.sign w c.index.result.now there within is (omega arith) c.args.len (left / 2) (ap (λ l. l / 2) at)
