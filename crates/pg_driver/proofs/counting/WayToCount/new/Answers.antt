use Rattle.pg_driver.proofs.counting.WayToCount.new.Goals as goal

pub returns : goal.returns
returns c = λ T W level P. tt
