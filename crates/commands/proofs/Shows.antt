-- What is put out of a text.
-- Assumes nothing.
use Prim.Native.Nat.{ℕ, ◌+◌, ◌≤◌}
use native.Mathlib.Omega.{arith}
use mathlib.Core.Bool.{true, false}
use mathlib.Core.List.{List, ◌++◌, append-nil}
use mathlib.Core.Path.{◌≡◌, sym}
use borrow.Author.Tests.{le-leb}
use lib.Dec.{leb}
use lib.ListN.{length}
use Rattle.texts.specs.Puts.{put_of}
use Rattle.commands.specs.Loading.{Loaded}
use Rattle.plain.specs.Plain.{plain_of}
use Rattle.commands.specs.Words.{blank_text, shown_text}

-- With a line more where every item is 0, and without.
pub blank_shown : (loaded : Loaded) → loaded.blank ≡ true → plain_of loaded.state ++ blank_text true ≡ shown_text loaded
unfolding shown_text
blank_shown loaded e = rw e

pub no_blank_shown : (loaded : Loaded) → loaded.blank ≡ false → plain_of loaded.state ≡ shown_text loaded
unfolding shown_text
no_blank_shown loaded e = rw e (sym (append-nil (plain_of loaded.state)))

-- Into a buffer that has room.
pub all_put : (out text : List ℕ) → length text ≤ length out → (put_of out 0 text).0 ≡ length text
unfolding put_of
all_put out text fits =
    let room : leb (0 + length text) (length out) ≡ true = le-leb (0 + length text) (length out) (omega arith) in
    rw room (omega arith)
