-- `names::tables::Kind::words` meets its contract: each arm gives its own list.
-- Assumes nothing.
use Rattle.names.specs.Words.{sensor_names, order_names, lamp_names, voter_words, cause_words}
use Rattle.names.proofs.tables.Kind.words.Goals as goal

pub returns-in-Sensor : goal.returns-in-Sensor
unfolding sensor_names
returns-in-Sensor c = rw c.in-Sensor.is

pub returns-in-Order : goal.returns-in-Order
unfolding order_names
returns-in-Order c = rw c.in-Order.is

pub returns-in-Lamp : goal.returns-in-Lamp
unfolding lamp_names
returns-in-Lamp c = rw c.in-Lamp.is

pub returns-in-Voter : goal.returns-in-Voter
unfolding voter_words
returns-in-Voter c = rw c.in-Voter.is

pub returns-in-Cause : goal.returns-in-Cause
unfolding cause_words
returns-in-Cause c = rw c.in-Cause.is
