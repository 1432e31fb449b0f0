-- `commands::messages::Named::load` meets its contract: nothing was read, or the bytes that stand in front of the buffer.
-- Assumes nothing.
use Rattle.commands.proofs.NoBytes.{of_nothing, of_bytes}
use Rattle.commands.proofs.messages.Named.load.Goals as goal

pub returns-in-Ok : goal.returns-in-Ok
returns-in-Ok g c = of_bytes _ c.in-Ok.n c.load.new.buffer c.in-Ok.ensures c.take_in.ensures

pub returns-in-Err : goal.returns-in-Err
returns-in-Err g c = of_nothing _
