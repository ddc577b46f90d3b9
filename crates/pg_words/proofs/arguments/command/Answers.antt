use Rattle.std.proofs.Common.{◌≡◌, false, Option, None, Some, refl, sym}
use Rattle.std.specs.Option.{is_some}
use Rattle.pg_words.specs.Inside.Names.{arguments_of}
use Rattle.pg_words.specs.Inside.Requests.{Request, request_of}
use Rattle.pg_words.proofs.arguments.command.Goals as goal

-- nothing is asked for
none_asked : (request : Option Request) → false ≡ is_some request → None ≡ request
none_asked None is = refl
none_asked (Some request) is = cc

pub returns-in-Some : goal.returns-in-Some
returns-in-Some c = record { value = none_asked (request_of (arguments_of c.args.words.now)) c.in-Some.ensures.none; within = tt }

pub returns-in-None : goal.returns-in-None
returns-in-None c = record { value = c.made.ensures.value (sym c.in-None.ensures.none); within = c.made.ensures.within }
