-- What is said of a file that is no image, or that cannot be had, in one line each.
-- Assumes nothing.
use Rattle.std.specs.Prelude.{ℕ, ◌≤◌, cond, List, [], ◌∷◌, ◌++◌, ◌≡◌, ltb, length}
use Rattle.common.specs.Ascii.{ascii}
use Rattle.common.specs.Decimal.{decimal}
use Rattle.names.specs.Words.{entry}
use Rattle.image.specs.declared.Fault.{Fault}
use Rattle.image.specs.declared.Fault.TheVariants.{Length, Item, Rule}
use Rattle.image.specs.Images.{size}
use Rattle.texts.specs.Puts.{PutIfRoom}
use Rattle.plain.specs.Parts.{item_names, rule_words}
use Rattle.commands.specs.declared.saving.Reason.{Reason}
use Rattle.commands.specs.declared.saving.Reason.TheVariants.{Missing, Forbidden, Directory, NoDirectory, TooLong, ReadOnly, Full, NoText, Other}

-- A piece of text is put at a place of a line if there is room for it, and in either case the place after it lies within the line.
abbrev pub PutWithin : List ℕ → ℕ → List ℕ → List ℕ → ℕ → Type 0
PutWithin before at piece after next =
    (at ≤ length before → next ≤ length before) × (length after ≡ length before) × PutIfRoom before at piece after next

-- Of a file that has this name.
unfoldable pub of_file : List ℕ → List ℕ → List ℕ
of_file path what = path ++ ascii ": " ++ what

-- The same, with an empty path left out.
unfoldable pub said_of : List ℕ → List ℕ → List ℕ
said_of [] what = what
said_of (byte ∷ path) what = of_file (byte ∷ path) what

-- Why the system does not do what it is asked.
abbrev pub reason_words : Reason → List ℕ
reason_words Missing = ascii "there is no such file or directory"
reason_words Forbidden = ascii "no permission"
reason_words Directory = ascii "it is a directory"
reason_words NoDirectory = ascii "a part of its path is no directory"
reason_words TooLong = ascii "its name is too long"
reason_words ReadOnly = ascii "the disk is read only"
reason_words Full = ascii "the disk is full"
reason_words NoText = ascii "its name is not UTF-8"
reason_words (Other error) = ascii "error " ++ decimal error

-- The length of neither form: so many bytes were read, and no more than one past the longer.
unfoldable pub length_words : ℕ → List ℕ
length_words read =
    cond (ltb size read) (ascii "refusal 10: it is longer than an image, which has 204 or 348 bytes")
    (ascii "refusal 10: it has " ++ decimal read ++ ascii " bytes, and an image has 204 or 348")

-- What is wrong with the bytes that were read: 10 names the length or the item, 11 the rule.
abbrev pub fault_words : Fault → ℕ → List ℕ
fault_words Length read = length_words read
fault_words (Item k) read = ascii "refusal 10: out of its range: " ++ entry item_names k
fault_words (Rule k) read = ascii "refusal 11: a rule is broken: " ++ entry rule_words k
