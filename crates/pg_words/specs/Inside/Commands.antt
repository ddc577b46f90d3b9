-- The request that the arguments of a call are, with the arguments as bytes.
use Rattle.std.specs.Prelude.{List, String, map, string_bytes, Option}
use Rattle.std.specs.declared.alloc.Global.{Global}
use Rattle.pg_words.specs.Inside.Requests.{Request, request_of}

-- what the arguments of a call, as their bytes, ask for, none where they are no command
abbrev pub request_of_call : List (String Global) → Option Request
request_of_call words = request_of (map string_bytes words)
