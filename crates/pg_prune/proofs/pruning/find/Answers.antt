use Rattle.std.proofs.Common.{◌≡◌, ◌∙◌, map, length, ap}
use Rattle.std.proofs.lemmas.List.{length-map}
use Rattle.pg_prune.specs.Positions.{positions_in_reach}
use Rattle.pg_prune.specs.Inside.positions.PositionInReach.{need_at}
use Rattle.pg_prune.proofs.pruning.find.Goals as goal

pub settle-requires : goal.settle-requires
settle-requires g c =
    let m = c.args.table.now in
    let ws = c.args.dictionary.now in
    let xs = positions_in_reach m ws in
    let stands = ap (map (λ l. l.items)) c.as_slice-standing.ensures.value ∙ c.in_ok-lists.ensures in
    let many : c.len.result ≡ length xs = c.len.ensures ∙ c.in_ok-positions.positions.ok.0 ∙ ap length c.in_ok-positions.ensures ∙ length-map xs need_at in
    let tallied = c.in_ok-all.ensures xs (record { all = stands; many = many }) in
    (m, (ws, (c.as_slice.ensures.value ∙ c.in_ok-positions.ensures, record { all = stands; tallied = c.as_mut_slice.ensures.value ∙ tallied })))

pub returns : goal.returns
returns g c =
    let m = c.args.table.now in
    let ws = c.args.dictionary.now in
    let xs = positions_in_reach m ws in
    let stands = ap (map (λ l. l.items)) c.as_slice-standing.ensures.value ∙ c.in_ok-lists.ensures in
    let many : c.len.result ≡ length xs = c.len.ensures ∙ c.in_ok-positions.positions.ok.0 ∙ ap length c.in_ok-positions.ensures ∙ length-map xs need_at in
    let tallied = c.in_ok-all.ensures xs (record { all = stands; many = many }) in
    c.settle.ensures m ws (c.as_slice.ensures.value ∙ c.in_ok-positions.ensures) (record { all = stands; tallied = c.as_mut_slice.ensures.value ∙ tallied })
