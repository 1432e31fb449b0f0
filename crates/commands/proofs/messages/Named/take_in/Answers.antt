-- `commands::messages::Named::take_in` meets its contract: by what loading and looking answer.
-- Assumes nothing.
use Rattle.std.proofs.Common.{refl}
use Rattle.controller.specs.Start.{fresh_of}
use Rattle.commands.proofs.NoBytes.{not_taken, none_loaded, one_loaded}
use Rattle.commands.proofs.messages.Named.take_in.Goals as goal

pub returns-in-Some : goal.returns-in-Some
returns-in-Some g c =
    let loaded = rw c.last_stamp.ensures at (c.load.ensures (fresh_of 0)) in
    none_loaded c.args.bytes.now _ loaded (not_taken (fresh_of 0) c.load.result c.in_default.not-Ok)

pub returns-in_default-find_fault : goal.returns-in_default-find_fault
returns-in_default-find_fault g c =
    let loaded = rw c.last_stamp.ensures at (c.load.ensures (fresh_of 0)) in
    none_loaded c.args.bytes.now _ loaded (not_taken (fresh_of 0) c.load.result c.in_default.not-Ok)

pub returns : goal.returns
returns g c =
    let loaded = rw c.last_stamp.ensures at (c.in-Ok.ensures (fresh_of 0)) in
    one_loaded c.args.bytes.now _ loaded refl _ c.is_blank.ensures
