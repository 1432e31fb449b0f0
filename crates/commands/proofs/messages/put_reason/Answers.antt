-- `commands::messages::put_reason` meets its contract: each arm puts its own words.
-- Assumes nothing.
use Rattle.texts.proofs.Lines.{put}
use Rattle.commands.proofs.messages.put_reason.Goals as goal

pub returns-in-Missing : goal.returns-in-Missing
returns-in-Missing c = rw c.in-Missing.is (put c.put.ensures)

pub returns-in-Forbidden : goal.returns-in-Forbidden
returns-in-Forbidden c = rw c.in-Forbidden.is (put c.put-in-Forbidden.ensures)

pub returns-in-Directory : goal.returns-in-Directory
returns-in-Directory c = rw c.in-Directory.is (put c.put-in-Directory.ensures)

pub returns-in-NoDirectory : goal.returns-in-NoDirectory
returns-in-NoDirectory c = rw c.in-NoDirectory.is (put c.put-in-NoDirectory.ensures)

pub returns-in-TooLong : goal.returns-in-TooLong
returns-in-TooLong c = rw c.in-TooLong.is (put c.put-in-TooLong.ensures)

pub returns-in-ReadOnly : goal.returns-in-ReadOnly
returns-in-ReadOnly c = rw c.in-ReadOnly.is (put c.put-in-ReadOnly.ensures)

pub returns-in-Full : goal.returns-in-Full
returns-in-Full c = rw c.in-Full.is (put c.put-in-Full.ensures)

pub returns-in-NoText : goal.returns-in-NoText
returns-in-NoText c = rw c.in-NoText.is (put c.put-in-NoText.ensures)

pub returns-in-Other : goal.returns-in-Other
returns-in-Other c = rw c.in-Other.is c.put_error.ensures
