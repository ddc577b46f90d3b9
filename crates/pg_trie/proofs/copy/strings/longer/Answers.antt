use Rattle.std.proofs.Common.{◌≡◌, ◌<◌, ◌≤◌, ℕ, ◌+◌, List, [], ◌∷◌, ◌++◌, length, take, drop, set, replicate, ap, ◌∙◌, arith, length-append, length-drop}
use Rattle.std.proofs.Math.ListN.{length-set}
use Rattle.std.proofs.lemmas.List.{length_push, take_at, take_more_set}
use Rattle.pg_trie.proofs.copy.strings.longer.Goals as goal

-- a row, as long as `zeros`, that begins with the prefix and has the sign behind it
module _ (prefix front zeros : List ℕ) (s : ℕ) (same : front ≡ prefix) (lt : length prefix < length zeros) where
  room : length prefix < length (front ++ drop (length prefix) zeros)
  room = omega (arith, length-append front (drop (length prefix) zeros), length-drop (length prefix) zeros, ap length same)

  within : length prefix + 1 ≤ length (set (front ++ drop (length prefix) zeros) (length prefix) s)
  within = omega (arith, room, length-set (front ++ drop (length prefix) zeros) (length prefix) s)

  whole : take (length prefix + 1) (set (front ++ drop (length prefix) zeros) (length prefix) s) ≡ prefix ++ s ∷ []
  whole =
      take_more_set (front ++ drop (length prefix) zeros) (length prefix) s room
      ∙ ap (λ (l : List ℕ). l ++ s ∷ []) (take_at front (drop (length prefix) zeros) (length prefix) (ap length same) ∙ same)

  size : length prefix + 1 ≡ length (take (length prefix + 1) (set (front ++ drop (length prefix) zeros) (length prefix) s))
  size = omega (arith, ap length whole, length_push prefix s)

  few : (most : ℕ) → length prefix < most → length (take (length prefix + 1) (set (front ++ drop (length prefix) zeros) (length prefix) s)) ≤ most
  few most less = omega (arith, ap length whole, length_push prefix s)

pub slice_bounds-signs-end-2 : goal.slice_bounds-signs-end-2
slice_bounds-signs-end-2 c = within c.args.prefix.now c.copy_from_slice.new.self (replicate 32 0) c.args.s c.copy_from_slice.ensures.after c.requires

pub slice_bounds-new-end : goal.slice_bounds-new-end
slice_bounds-new-end c = size c.args.prefix.now c.copy_from_slice.new.self (replicate 32 0) c.args.s c.copy_from_slice.ensures.after c.requires

pub new-requires : goal.new-requires
new-requires c = few c.args.prefix.now c.copy_from_slice.new.self (replicate 32 0) c.args.s c.copy_from_slice.ensures.after c.requires 32 c.requires

pub returns : goal.returns
returns c = c.new.ensures ∙ ap (λ (l : List ℕ). (l, 0)) (whole c.args.prefix.now c.copy_from_slice.new.self (replicate 32 0) c.args.s c.copy_from_slice.ensures.after c.requires)
