use Rattle.std.proofs.Common.{◌≡◌, Option, [], None, Some, inl, inr, refl, sym, ap, subst, ◌∙◌}
use Rattle.std.specs.Option.{option_map}
use Rattle.std.specs.Prelude.{MatchOption}
use Rattle.pg_plans.specs.Plans.{Moment, Plan, Finishes, Follows}
use Rattle.pg_plans.specs.declared.answers.Status.TheVariants.{Done, Usage, Fault}
use Rattle.pg_words.specs.Inside.Names.{arguments_of}
use Rattle.pg_top.specs.Commands.{CallsNoFile}
use Rattle.pg_top.specs.PrintedLines.{usage_line}
use Rattle.pg_top.specs.Inside.Requests.{plan_by}
use Rattle.pg_top.proofs.Asked.{plan_asked}
use Rattle.pg_top.proofs.theorems.Promised.{promised_unless_done, promised_by}
use Rattle.pg_top.proofs.top.run_watched.Goals as goal

pub returns-in-None : goal.returns-in-None
returns-in-None g c =
    let s = g.F.Files.shown c.args.files.now in
    let o0 = g.O.Sink.shown c.args.out.now in
    let o1 = g.O.Sink.shown c.answer.new.out in
    let is = plan_asked (arguments_of c.args.words.now) ∙ ap (option_map plan_by) (sym c.in-None.ensures.value) in
    record {
      follows = subst (λ (plan : Option Plan). MatchOption plan (Finishes [] usage_line Usage c.answer.result (s, o0) (s, o1)) (λ plan. Follows plan c.answer.result (s, o0) (s, o1))) (sym is) (refl, c.answer.ensures);
      uncalled = λ none. refl;
      promised = promised_unless_done (arguments_of c.args.words.now) c.answer.result s s
          (λ done. elim c.answer.ensures [ inl said ↦ let e : Usage ≡ Done = sym said.0 ∙ done in cc | inr part ↦ let e : Fault ≡ Done = sym part.0 ∙ done in cc ]);
    }

pub returns-in-Some : goal.returns-in-Some
returns-in-Some g c =
    let old : Moment = (g.F.Files.shown c.args.files.now, g.O.Sink.shown c.args.out.now) in
    let new : Moment = (g.F.Files.shown c.perform.new.files, g.O.Sink.shown c.perform.new.out) in
    let is = plan_asked (arguments_of c.args.words.now) ∙ ap (option_map plan_by) (sym c.in-Some.ensures.value) in
    record {
      follows = subst (λ (plan : Option Plan). MatchOption plan (Finishes [] usage_line Usage c.perform.result old new) (λ plan. Follows plan c.perform.result old new)) (sym is) c.perform.ensures.follows;
      uncalled = subst (λ (plan : Option Plan). CallsNoFile plan → c.perform.new.files ≡ c.args.files.now) (sym is) c.perform.ensures.uncalled;
      promised = promised_by (arguments_of c.args.words.now) c.perform.result old.0 new.0 _ (sym c.in-Some.ensures.value) c.perform.ensures.promised;
    }
