use Rattle.std.proofs.Common.{◌≡◌, map, ap, ◌∙◌, List}
use Rattle.std.specs.List.{filter_map}
use Rattle.std.proofs.lemmas.List.Elements.{All-filter, All-same}
use Rattle.std.proofs.lemmas.Result.{IfOk-weaker}
use Rattle.pg_prune.specs.declared.positions.trail.Start.{Start}
use Rattle.pg_prune.specs.Inside.positions.Trails.{IsStart, begins_at, starts_of, number_at_dot}
use Rattle.pg_prune.proofs.positions.TrailSteps.{whole_trail}
use Rattle.pg_prune.proofs.positions.trail.Trail.positions.Goals as goal

pub standing-requires : goal.standing-requires
standing-requires c =
    let ws = c.args.dictionary.now in
    let all = c.args.all.now in
    let u = c.args.signs.now in
    let lists : List (List Start) = map (λ t. t.items) c.go_to.new.self.starts.items in
    let now : c.starts_of.result.now ≡ starts_of ws all u = c.starts_of.ensures ∙ whole_trail ws all u lists c.requires.known c.in_ok-go_to.ensures.trail in
    All-same (IsStart ws) _ _ now (All-filter (begins_at ws u) (IsStart ws) all c.requires.known)

pub returns-clause-positions : goal.returns-clause-positions
returns-clause-positions c =
    let ws = c.args.dictionary.now in
    let all = c.args.all.now in
    let u = c.args.signs.now in
    let lists : List (List Start) = map (λ t. t.items) c.go_to.new.self.starts.items in
    let now : c.starts_of.result.now ≡ starts_of ws all u = c.starts_of.ensures ∙ whole_trail ws all u lists c.requires.known c.in_ok-go_to.ensures.trail in
    IfOk-weaker c.standing.result _ _ (λ positions is. is ∙ ap (λ (xs : List Start). filter_map (number_at_dot c.args.table.now ws c.args.dot) xs) now) c.standing.ensures
