use Rattle.std.proofs.Common.{◌≡◌, ℕ, ◌≤◌, true, ◌&&◌, nat_le, List, [], ◌∷◌, length, subst}
use Rattle.std.proofs.lemmas.Bool.{leb-true}
use Rattle.std.proofs.lemmas.List.Elements.{All-nil, All-cons}
use Rattle.std.specs.List.{All, list_all}
use Rattle.pg_types.specs.declared.limits.TheConstants.{PATTERN_SIGNS_MAX}
use Rattle.pg_types.specs.Inside.Signs.{SignsWithin}
use Rattle.pg_trie.specs.Inside.Maps.{is_dotted}
use Rattle.pg_packed.proofs.engine.PackedEngineEngine.kept.Goals as goal
use Rattle.pg_types.proofs.BoolFacts.{and_first, and_second}

-- the signs of a dotted string, and of all hopeless ones
signs_of : (n : ℕ) (q : List ℕ) → list_all (λ s. nat_le 1 s && nat_le s n) q ≡ true → SignsWithin n q
signs_of n [] h = All-nil (λ s. (1 ≤ s) × (s ≤ n))
signs_of n (s ∷ q) h =
    let here = and_first (nat_le 1 s && nat_le s n) (list_all (λ x. nat_le 1 x && nat_le x n) q) h in
    All-cons (λ s. (1 ≤ s) × (s ≤ n)) s q (leb-true 1 s (and_first (nat_le 1 s) (nat_le s n) here), leb-true s n (and_second (nat_le 1 s) (nat_le s n) here))
    (signs_of n q (and_second (nat_le 1 s && nat_le s n) (list_all (λ x. nat_le 1 x && nat_le x n) q) h))

place_signs : (n : ℕ) (k : List ℕ × ℕ) → is_dotted n k ≡ true → SignsWithin n k.0
place_signs n k h =
    signs_of n k.0 (and_second (nat_le 1 (length k.0) && nat_le (length k.0) PATTERN_SIGNS_MAX) (list_all (λ s. nat_le 1 s && nat_le s n) k.0)
    (and_first (nat_le 1 (length k.0) && nat_le (length k.0) PATTERN_SIGNS_MAX && list_all (λ s. nat_le 1 s && nat_le s n) k.0) (nat_le k.1 (length k.0)) h))

hopeless_within : (n : ℕ) (H : List ((List ℕ × ℕ) × Unit {0})) → list_all (λ e. is_dotted n e.0) H ≡ true → All (λ e. SignsWithin n e.0.0) H
hopeless_within n [] h = All-nil (λ (e : (List ℕ × ℕ) × Unit {0}). SignsWithin n e.0.0)
hopeless_within n (e ∷ es) h =
    All-cons (λ (e : (List ℕ × ℕ) × Unit {0}). SignsWithin n e.0.0) e es (place_signs n e.0 (and_first (is_dotted n e.0) (list_all (λ (x : (List ℕ × ℕ) × Unit {0}). is_dotted n x.0) es) h))
    (hopeless_within n es (and_second (is_dotted n e.0) (list_all (λ (x : (List ℕ × ℕ) × Unit {0}). is_dotted n x.0) es) h))

pub returns : goal.returns
returns c =
    let trie = c.outputs-lists.ensures.kept in
    let counts = c.window_len-len.ensures.kept in
    record {
      patterns = trie.patterns;
      hopeless_order = trie.sorted;
      counts_order = counts.sorted;
      pattern_signs = trie.known;
      hopeless_signs = hopeless_within c.args.self.now.trie.signs c.args.self.now.trie.hopeless trie.dotted;
      counted_signs = λ u there. subst (λ n. SignsWithin n u) c.args.self.now.one_alphabet (counts.signs u there);
    }
