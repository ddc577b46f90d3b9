-- The steps of the loops of a sweep.
use Rattle.std.proofs.Common.{◌≡◌, ℕ, ◌+◌, ◌<◌, ◌≤◌, Bool, true, false, nat_lt, List, [], ◌∷◌, ◌++◌, length, map, take, drop, refl, ap, sym, subst, ◌∙◌, arith}
use Rattle.std.specs.Prelude.{slice_index_or, All, if◌then◌else◌, sum_by}
use Rattle.std.specs.List.{range_with_len}
use Rattle.std.proofs.lemmas.List.{take_more, drop_more, map-append, drop-map}
use Rattle.std.proofs.lemmas.List.Elements.{All-cons, All-tail}
use Rattle.std.proofs.lemmas.List.FromFn.{sum_by-map-range_with_len_more}
use Rattle.pg_types.specs.declared.marks.Totals.{Totals}
use Rattle.pg_dict.specs.Word.{Word}
use Rattle.pg_dict.specs.Inside.SoundWords.{SignsAtMost}
use Rattle.pg_dict.specs.Parts.{part_of}
use Rattle.pg_dict.specs.Inside.Parts.{is_in_part, part_from}
use Rattle.pg_dict.proofs.WordStore.Parts.{whole_part}
use Rattle.pg_sweep.specs.declared.rows.SweepRow.{SweepRow}
use Rattle.pg_sweep.specs.Inside.SweepData.{row_data, rows_data}
use Rattle.pg_sweep.specs.Sweeps.{total_of}
use Rattle.pg_sweep.specs.Promises.{costs_of}
use Rattle.pg_sweep.specs.Inside.Least.{winner_from}

-- a fact of a list that may begin with an element more
all_if : {X : Type 0} (P : X → Type 0) (b : Bool) (x : X) (xs : List X) → P x → All P xs → All P (if b then x ∷ xs else xs)
all_if P true x xs here rest = All-cons P x xs here rest
all_if P false x xs here rest = rest

-- the signs of a part are those of its words
part_signs : (n folds fold : ℕ) (inside : Bool) (i : ℕ) (ws : List Word) → SignsAtMost n ws → SignsAtMost n (part_from folds fold inside i ws)
part_signs n folds fold inside i [] most = most
part_signs n folds fold inside i (w ∷ ws) most =
    let P : Word → Type 0 = λ (u : Word). All (λ sign. sign ≤ n) u.signs in
    all_if P (is_in_part folds fold inside i) w (part_from folds fold inside (i + 1) ws) (most 0 w (omega arith)) (part_signs n folds fold inside (i + 1) ws (All-tail P w ws most))

pub fold_signs : (n folds fold : ℕ) (inside : Bool) (ws : List Word) → SignsAtMost n ws → SignsAtMost n (part_of folds fold inside ws)
fold_signs n folds fold inside ws most = subst (λ (us : List Word). SignsAtMost n us) (whole_part folds fold inside ws) (part_signs n folds fold inside 0 ws most)

-- the totals of one fold more
totals_more : (f : ℕ → Totals) (n : ℕ) → record {
  good = (total_of (map f (range_with_len 0 n))).good + (f n).good;
  bad = (total_of (map f (range_with_len 0 n))).bad + (f n).bad;
  missed = (total_of (map f (range_with_len 0 n))).missed + (f n).missed;
} ≡ total_of (map f (range_with_len 0 (n + 1)))
totals_more f n =
    let good : sum_by (λ (t : Totals). t.good) (map f (range_with_len 0 (n + 1))) ≡ sum_by (λ (t : Totals). t.good) (map f (range_with_len 0 n)) + (f n).good =
    sum_by-map-range_with_len_more (λ (t : Totals). t.good) f 0 n n (omega arith) in
    let bad : sum_by (λ (t : Totals). t.bad) (map f (range_with_len 0 (n + 1))) ≡ sum_by (λ (t : Totals). t.bad) (map f (range_with_len 0 n)) + (f n).bad =
    sum_by-map-range_with_len_more (λ (t : Totals). t.bad) f 0 n n (omega arith) in
    let missed : sum_by (λ (t : Totals). t.missed) (map f (range_with_len 0 (n + 1))) ≡ sum_by (λ (t : Totals). t.missed) (map f (range_with_len 0 n)) + (f n).missed =
    sum_by-map-range_with_len_more (λ (t : Totals). t.missed) f 0 n n (omega arith) in
    rw (good, bad, missed) refl

pub totals_step : (f : ℕ → Totals) (n : ℕ) (sums more : Totals) → sums ≡ total_of (map f (range_with_len 0 n)) → more ≡ f n
    → record { good = sums.good + more.good; bad = sums.bad + more.bad; missed = sums.missed + more.missed } ≡ total_of (map f (range_with_len 0 (n + 1)))
totals_step f n sums more so_far here =
    let both : Totals → Totals → Totals = λ (a b : Totals). record { good = a.good + b.good; bad = a.bad + b.bad; missed = a.missed + b.missed } in
    ap (λ (a : Totals). both a more) so_far ∙ ap (λ (b : Totals). both (total_of (map f (range_with_len 0 n))) b) here ∙ totals_more f n

-- the costs from a row on
pub costs_from : (rows : List SweepRow) (i : ℕ) (d : SweepRow) → i < length rows → drop i (costs_of rows) ≡ (slice_index_or rows i d).cost ∷ drop (i + 1) (costs_of rows)
costs_from rows i d within =
    drop-map (λ (r : SweepRow). r.cost) i rows
    ∙ ap costs_of (drop_more rows i d within)
    ∙ ap (λ cs. (slice_index_or rows i d).cost ∷ cs) (sym (drop-map (λ (r : SweepRow). r.cost) (i + 1) rows))

-- a row more is looked at
pub looked_at : (b : Bool) (best least i cost all : ℕ) (left rest : List ℕ) → left ≡ cost ∷ rest → nat_lt cost least ≡ b → winner_from best least (i + 1) left
    ≡ all → winner_from (if b then i + 1 else best) (if b then cost else least) (i + 1 + 1) rest ≡ all
looked_at b best least i cost all left rest is test whole =
    let e : winner_from best least (i + 1) (cost ∷ rest) ≡ all = ap (winner_from best least (i + 1)) (sym is) ∙ whole in
    subst (λ x. winner_from (if x then i + 1 else best) (if x then cost else least) (i + 1 + 1) rest ≡ all) test e

-- a function over the elements so far, with one more
pub map_more : {X Y : Type 0} (f : X → Y) (xs : List X) (ys : List Y) (i : ℕ) (d : X) → i < length xs → ys ≡ map f (take i xs) → ys ++ f (slice_index_or xs i d) ∷ [] ≡ map f (take (i + 1) xs)
map_more f xs ys i d within so_far =
    ap (λ zs. zs ++ f (slice_index_or xs i d) ∷ []) so_far
    ∙ sym (map-append f (take i xs) (slice_index_or xs i d ∷ []))
    ∙ ap (map f) (sym (take_more xs i d within))

-- the objects of rows, with one more
pub data_more : (set : ℕ) (rows : List SweepRow) (row : SweepRow) → rows_data set (rows ++ row ∷ []) ≡ rows_data set rows ++ row_data (set + length rows) row ∷ []
data_more set [] row = ap (λ n. row_data n row ∷ []) (let e : set ≡ set + 0 = omega arith in e)
data_more set (r ∷ rows) row =
    let e : set + 1 + length rows ≡ set + length (r ∷ rows) = omega arith in
    ap (λ ds. row_data set r ∷ ds) (data_more (set + 1) rows row) ∙ ap (λ n. row_data set r ∷ rows_data (set + 1) rows ++ row_data n row ∷ []) e
