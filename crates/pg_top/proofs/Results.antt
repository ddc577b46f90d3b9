-- What is known of a result, by two things that are known of it.
use Rattle.std.proofs.Common.{Result, Ok, Err, IfOk}

pub ok_by_two : {T E : Type 0} (r : Result T E) (P Q R : T → Type 0) → ((x : T) → P x → Q x → R x) → IfOk r P → IfOk r Q → IfOk r R
ok_by_two (Ok x) P Q R f p q = f x p q
ok_by_two (Err y) P Q R f p q = tt
