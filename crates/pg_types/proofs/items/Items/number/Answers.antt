use Rattle.pg_types.proofs.items.Items.number.Goals as goal

pub returns-in_default-clause-low : goal.returns-in_default-clause-low
returns-in_default-clause-low c = tt

pub returns-in_default-clause-high : goal.returns-in_default-clause-high
returns-in_default-clause-high c = tt

pub returns-in_default-clause-item_number : goal.returns-in_default-clause-item_number
returns-in_default-clause-item_number c = tt

pub returns-in_default-clause-taken : goal.returns-in_default-clause-taken
returns-in_default-clause-taken c = tt

pub returns-in_default-read_number-clause-low : goal.returns-in_default-read_number-clause-low
returns-in_default-read_number-clause-low c = tt

pub returns-in_default-read_number-clause-high : goal.returns-in_default-read_number-clause-high
returns-in_default-read_number-clause-high c = tt

pub returns-in_default-read_number-clause-item_number : goal.returns-in_default-read_number-clause-item_number
returns-in_default-read_number-clause-item_number c = tt

pub returns-in_default-read_number-clause-taken : goal.returns-in_default-read_number-clause-taken
returns-in_default-read_number-clause-taken c = tt

pub returns-clause-refused : goal.returns-clause-refused
returns-clause-refused c = tt
