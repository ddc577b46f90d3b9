-- The layout step by step, and the cells of small tables, computed. In the first table the edge is sign 1, `a` 2, `b` 3 and
-- `c` 4.
use Rattle.std.proofs.Common.{◌≡◌, ℕ, [], ◌∷◌, Some, refl}
use Rattle.pg_types.specs.Placement.{Families, root, enter, with_sign, kept_families, top, base_of}
use Rattle.pg_types.specs.Inside.PlacementSteps.{taken_count}
use Rattle.pg_types.specs.Inside.Placing.{cell_of, without_sign}
use Rattle.pg_types.specs.Tails.{tails}

-- how many cells are used, and the greatest of them
abbrev size : Families → ℕ × ℕ
size fs = (taken_count fs, top fs)

-- the steps in their order
abbrev start : Families
start = root 4

abbrev ab_in : Families
ab_in = enter 4 start (2 ∷ 3 ∷ [])

abbrev ba_in : Families
ba_in = enter 4 ab_in (3 ∷ 2 ∷ [])

abbrev bc_in : Families
bc_in = enter 4 ba_in (3 ∷ 4 ∷ [])

abbrev a_edge_in : Families
a_edge_in = enter 4 bc_in (2 ∷ 1 ∷ [])

abbrev ba_bc_again : Families
ba_bc_again = enter 4 (enter 4 a_edge_in (3 ∷ 2 ∷ [])) (3 ∷ 4 ∷ [])

abbrev c_edge_in : Families
c_edge_in = enter 4 ba_bc_again (4 ∷ 1 ∷ [])

abbrev edge_a_in : Families
edge_a_in = enter 4 c_edge_in (1 ∷ 2 ∷ [])

abbrev ab_again : Families
ab_again = enter 4 edge_a_in (2 ∷ 3 ∷ [])

abbrev at_the_end : Families
at_the_end = kept_families ((2 ∷ 3 ∷ []) ∷ []) ab_again

root_alone : size start ≡ (4, 4)
root_alone = refl

family_of_a : size ab_in ≡ (5, 5)
unfolding with_sign
family_of_a = refl

family_of_a_base : base_of ab_in (2 ∷ []) ≡ Some 2
unfolding with_sign
family_of_a_base = refl

family_of_b : size ba_in ≡ (6, 6)
unfolding with_sign
family_of_b = refl

c_joins : size bc_in ≡ (7, 8)
unfolding with_sign
c_joins = refl

family_of_a_moves : size a_edge_in ≡ (8, 9)
unfolding with_sign
family_of_a_moves = refl

family_of_a_moved : base_of a_edge_in (2 ∷ []) ≡ Some 6
unfolding with_sign
family_of_a_moved = refl

cell_of_a_edge : cell_of a_edge_in (2 ∷ 1 ∷ []) ≡ Some 7
unfolding with_sign
cell_of_a_edge = refl

cell_of_ab : cell_of a_edge_in (2 ∷ 3 ∷ []) ≡ Some 9
unfolding with_sign
cell_of_ab = refl

already_there : size ba_bc_again ≡ (8, 9)
unfolding with_sign
already_there = refl

family_of_c : size c_edge_in ≡ (9, 10)
unfolding with_sign
family_of_c = refl

family_of_c_base : base_of c_edge_in (4 ∷ []) ≡ Some 9
unfolding with_sign
family_of_c_base = refl

family_of_the_edge : size edge_a_in ≡ (10, 10)
unfolding with_sign
family_of_the_edge = refl

family_of_the_edge_base : base_of edge_a_in (1 ∷ []) ≡ Some 3
unfolding with_sign
family_of_the_edge_base = refl

ab_already_there : size ab_again ≡ (10, 10)
unfolding with_sign
ab_already_there = refl

only_ab_stays : size at_the_end ≡ (5, 9)
unfolding with_sign
only_ab_stays = refl

-- the same end by the removal of each string
removed : size (without_sign (without_sign (without_sign (without_sign (without_sign ab_again (2 ∷ []) 1) (3 ∷ []) 2) (3 ∷ []) 4) (4 ∷ []) 1) (1 ∷ []) 2) ≡ (5, 9)
unfolding with_sign without_sign
removed = refl

no_tails_at_the_start : tails [] ≡ 0
no_tails_at_the_start = refl

-- the one pattern that is left has the outputs (2, 1)
one_tail : tails (((2 ∷ 3 ∷ [], 2), 1) ∷ []) ≡ 1
one_tail = refl

-- lists with an equal end share it
three_tails : tails (((2 ∷ [], 0), 1) ∷ ((2 ∷ [], 1), 3) ∷ ((3 ∷ [], 1), 3) ∷ ((4 ∷ [], 1), 5) ∷ []) ≡ 3
three_tails = refl

-- a table of one sign
one_sign : base_of (with_sign 1 (root 1) (1 ∷ []) 1) (1 ∷ []) ≡ Some 1
unfolding with_sign
one_sign = refl

one_sign_cell : cell_of (with_sign 1 (root 1) (1 ∷ []) 1) (1 ∷ 1 ∷ []) ≡ Some 2
unfolding with_sign
one_sign_cell = refl

one_sign_twice : cell_of (with_sign 1 (with_sign 1 (root 1) (1 ∷ []) 1) (1 ∷ 1 ∷ []) 1) (1 ∷ 1 ∷ 1 ∷ []) ≡ Some 3
unfolding with_sign
one_sign_twice = refl

one_sign_twice_base : base_of (with_sign 1 (with_sign 1 (root 1) (1 ∷ []) 1) (1 ∷ 1 ∷ []) 1) (1 ∷ 1 ∷ []) ≡ Some 2
unfolding with_sign
one_sign_twice_base = refl
