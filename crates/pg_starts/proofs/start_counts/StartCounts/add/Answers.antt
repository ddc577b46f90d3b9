use Rattle.std.proofs.Common.{◌≡◌, ℕ, true, length, get_or, set, None, Some, inl, inr, sym, ap, subst, ◌∙◌, arith}
use Rattle.std.proofs.lemmas.Bool.{cases_eq}
use Rattle.std.proofs.lemmas.List.{get_or-set_other, length-set}
use Rattle.pg_types.specs.Inside.counting.Counts.{AreSmall, with_weight}
use Rattle.pg_types.specs.Inside.counting.NumberedWindows.{HasNumber}
use Rattle.pg_starts.specs.Inside.CountsByNumber.{Tallied, counts_by}
use Rattle.pg_starts.specs.Inside.Tallies.{tallied}
use Rattle.pg_starts.specs.Inside.Known.{is_numbered, number_at, windows_of}
use Rattle.pg_starts.specs.Inside.Starts.{window_from}
use Rattle.pg_starts.proofs.Numbering.{has_number, number_low, windows_rise, windows_size}
use Rattle.pg_starts.proofs.Tallying.{counted_there, sums_there}
use Rattle.pg_starts.proofs.start_counts.StartCounts.add.Goals as goal

pub number-number-requires : goal.number-number-requires
number-number-requires c = record { known = c.requires.counting.known; len = c.requires.counting.some; start = c.requires.start }

pub add-requires-clause-there : goal.add-requires-clause-there
add-requires-clause-there c =
    let n = c.args.self.now.numbers in
    let k = c.requires.counting in
    omega (arith, number_low c.args.signs.now n k.known c.args.start c.requires.start, k.size, c.number-number.ensures)

pub add-requires-clause-small : goal.add-requires-clause-small
add-requires-clause-small c =
    let signs = c.args.signs.now in
    let n = c.args.self.now.numbers in
    let ts : Tallied = tallied c.args.self.now.tallies in
    let k = c.requires.counting in
    let r : ℕ = c.number-number.result in
    let at : HasNumber (windows_of signs n) (window_from signs c.args.start n.len) r =
    subst (HasNumber (windows_of signs n) (window_from signs c.args.start n.len)) (sym c.number-number.ensures) (has_number signs n k.known c.args.start c.requires.start) in
    subst (λ (s : ℕ × ℕ). AreSmall (with_weight s c.args.good c.args.weight))
    (sym (sums_there (window_from signs c.args.start n.len) r (windows_of signs n) ts (windows_rise signs n k.known) at)) c.requires.small

-- the numbers that were counted are those of starts, with one more
counted_from_start : (P : ℕ → Type 0) (old new : Tallied) (r : ℕ) (t : ℕ × ℕ) → new ≡ set old r (Some t) → P r
    → ((k : ℕ) (s : ℕ × ℕ) → get_or old k None ≡ Some s → P k) → (k : ℕ) (s : ℕ × ℕ) → get_or new k None ≡ Some s → P k
counted_from_start P old new r t is here each k s at = elim (cases_eq k r) [
  | inl same ↦ subst P (sym same) here
  | inr other ↦ each k s (sym (get_or-set_other old r k (Some t) None other) ∙ ap (λ (ts : Tallied). get_or ts k None) (sym is) ∙ at)
]

pub returns-clause-counting : goal.returns-clause-counting
returns-clause-counting c =
    let signs = c.args.signs.now in
    let n = c.args.self.now.numbers in
    let k = c.requires.counting in
    record {
      known = k.known;
      some = k.some;
      size = ap (λ (ts : Tallied). length ts) c.add.ensures ∙ length-set _ _ _ ∙ k.size;
      from = counted_from_start (λ q. (i : ℕ) × (is_numbered signs n i ≡ true) × (number_at signs n i ≡ q)) (tallied c.args.self.now.tallies) (tallied c.add.new.self)
          c.number-number.result _ c.add.ensures (c.args.start, c.requires.start, sym c.number-number.ensures) k.from;
    }

pub returns-clause-counts : goal.returns-clause-counts
returns-clause-counts c =
    let signs = c.args.signs.now in
    let n = c.args.self.now.numbers in
    let ts : Tallied = tallied c.args.self.now.tallies in
    let k = c.requires.counting in
    let r : ℕ = c.number-number.result in
    let at : HasNumber (windows_of signs n) (window_from signs c.args.start n.len) r =
    subst (HasNumber (windows_of signs n) (window_from signs c.args.start n.len)) (sym c.number-number.ensures) (has_number signs n k.known c.args.start c.requires.start) in
    ap (counts_by (windows_of signs n)) c.add.ensures
    ∙ counted_there (window_from signs c.args.start n.len) r (windows_of signs n) ts c.args.good c.args.weight (windows_rise signs n k.known)
    (k.size ∙ sym (windows_size signs n)) at
