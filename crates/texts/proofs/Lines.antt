-- Pieces that are put into a line one behind the other, each if there is room for it: the room for all of them is room for each.
-- Assumes nothing.
use Rattle.std.specs.Prelude.{ℕ, ◌+◌, ◌<◌, ◌≤◌, List, [], ◌++◌, ◌≡◌, length, take, refl}
use Rattle.std.proofs.Common.{ap, ◌∙◌, arith}
use Rattle.texts.specs.declared.Line.{Line}
use Rattle.texts.specs.Lines.{Puts, PutsIfRoom}
use Rattle.texts.proofs.Pieces as pieces
use Rattle.texts.proofs.Placing as placing

-- Nothing is put.
pub nothing : {line : Line} → PutsIfRoom [] line line
nothing {line = line} = record { same = refl; put = pieces.nothing line.bytes.now line.at }

-- The same piece written otherwise.
pub same : {one other : List ℕ} {before after : Line} → one ≡ other → PutsIfRoom one before after → PutsIfRoom other before after
same e p = record { same = p.same; put = pieces.same e p.put }

-- What `Line::put` and its kin promise.
pub put : {piece : List ℕ} {before after : Line} → Puts piece before after → PutsIfRoom piece before after
put p = record { same = p.same; put = pieces.put p.put }

-- A piece, and a piece behind it.
pub and : {one two : List ℕ} {before between after : Line}
    → PutsIfRoom one before between → PutsIfRoom two between after → PutsIfRoom (one ++ two) before after
and p q = record { same = q.same ∙ p.same; put = pieces.and p.put q.put }

-- In a line that is written from its front and has room for a piece, the piece is what stands in front of the place.
pub told : {piece : List ℕ} {before after : Line}
    → PutsIfRoom piece before after → before.at ≡ 0 → length piece ≤ length before.bytes.now → take after.at after.bytes.now ≡ piece
told {piece = piece} {before = before} p front fits =
    let all = p.put (omega arith) in
    all.text ∙ ap (λ (n : ℕ). take n before.bytes.now ++ piece) front

-- Without room nothing is put, ..
pub no_room : {line : Line} (piece : List ℕ) → length line.bytes.now < line.at + length piece → Puts piece line line
no_room {line = line} piece h = record { same = refl; put = placing.no_room line.bytes.now line.at piece h }

-- .. and with room for all of it what is put piece by piece is put.
pub as_put : {piece : List ℕ} {before after : Line}
    → before.at + length piece ≤ length before.bytes.now → PutsIfRoom piece before after → Puts piece before after
as_put room p = record { same = p.same; put = placing.as_put room (p.put room) }

-- The same piece written otherwise, where it is put exactly so.
pub same_put : {one other : List ℕ} {before after : Line} → one ≡ other → Puts one before after → Puts other before after
same_put {one = one} {other = other} e p = rw e at p
