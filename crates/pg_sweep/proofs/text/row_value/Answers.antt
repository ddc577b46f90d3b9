use Rattle.pg_sweep.proofs.text.row_value.Goals as goal

pub returns-in-Err-json : goal.returns-in-Err-json
returns-in-Err-json c = tt

pub returns-in-Err-json-2 : goal.returns-in-Err-json-2
returns-in-Err-json-2 c = tt

pub returns-in-Err-json-3 : goal.returns-in-Err-json-3
returns-in-Err-json-3 c = tt

pub returns-in-Err-json-4 : goal.returns-in-Err-json-4
returns-in-Err-json-4 c = tt

pub returns-in-Err-json-5 : goal.returns-in-Err-json-5
returns-in-Err-json-5 c = tt

pub returns-in-Err-json-6 : goal.returns-in-Err-json-6
returns-in-Err-json-6 c = tt
