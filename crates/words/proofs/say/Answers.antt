-- `words::say` meets its contract: a line that is short enough is put together.
-- Assumes nothing.
use native.Mathlib.Omega.{arith}
use mathlib.Core.Path.{sym}
use lib.ListN.{length}
use borrow.Author.Tests.{le-leb, lt-leb}
use Rattle.words.specs.Messages.{said_text, at_once, is_at_once}
use Rattle.words.proofs.Sizes.{said_length}
use Rattle.words.proofs.say.Goals as goal

pub returns-then-name-what : goal.returns-then-name-what
unfolding is_at_once
returns-then-name-what g c =
    let a = c.args in
    sym (lt-leb (length (said_text a.name.now a.what.now)) at_once (omega (arith, said_length a.name.now a.what.now)))

pub returns : goal.returns
unfolding is_at_once
returns g c =
    let a = c.args in
    sym (le-leb (length (said_text a.name.now a.what.now)) at_once (omega (arith, said_length a.name.now a.what.now)))
