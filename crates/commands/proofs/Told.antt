-- What is said of a file is said whole: each item and each rule has its words, and they have room in the array that they are put
-- together in.
-- Assumes nothing.
use Prim.Native.Nat.{ℕ, ◌≤◌}
use native.Mathlib.Omega.{arith}
use mathlib.Core.Bool.{Bool, true, false, cond}
use mathlib.Core.List.{◌++◌}
use mathlib.Core.Path.{◌≡◌, refl}
use lib.Dec.{ltb}
use lib.ListN.{length, length-append}
use Rattle.common.specs.Ascii.{ascii}
use Rattle.common.specs.Decimal.{decimal}
use Rattle.names.specs.Words.{entry, sensor_names, order_names}
use Rattle.controller.specs.declared.State.{State}
use Rattle.image.specs.declared.Fault.{Fault}
use Rattle.image.specs.declared.Fault.TheVariants.{Length, Item, Rule}
use Rattle.image.specs.Items.{item_count}
use Rattle.image.specs.Rules.{rules}
use Rattle.image.specs.Images.{size}
use Rattle.plain.specs.Parts.{two_each, sensor_parts, four_each, sensor_items, order_items, rest_names, item_names, rule_words}
use Rattle.plain.proofs.Named.{item_length, rule_length}
use Rattle.plain.proofs.Sizes.{number_length}
use Rattle.commands.specs.declared.saving.Reason.{Reason}
use Rattle.commands.specs.declared.saving.Reason.TheVariants.{Missing, Forbidden, Directory, NoDirectory, TooLong, ReadOnly, Full, NoText, Other}
use Rattle.commands.specs.Messages.{reason_words, length_words, fault_words}

-- Each item of an image has a name ..
pub items_named : length item_names ≡ item_count
unfolding two_each sensor_parts four_each sensor_names order_names sensor_items order_items rest_names item_names
items_named = refl

-- .. and each rule has its words.
pub rules_worded : (s : State) → length rule_words ≡ length (rules s)
unfolding rule_words rules
rules_worded s = refl

length_fits : (read : ℕ) → length (length_words read) ≤ 128
unfolding length_words
length_fits read = by_test (ltb size read) where
  by_test : (t : Bool)
      → length (cond t (ascii "refusal 10: it is longer than an image, which has 204 or 348 bytes") (ascii "refusal 10: it has " ++ decimal read ++ ascii " bytes, and an image has 204 or 348")) ≤ 128
  by_test true = omega arith
  by_test false =
      omega (arith, number_length read, length-append (ascii "refusal 10: it has ") (decimal read), length-append (ascii "refusal 10: it has " ++ decimal read) (ascii " bytes, and an image has 204 or 348"))

-- What is wrong with the bytes that were read.
pub fault_fits : (fault : Fault) (read : ℕ) → length (fault_words fault read) ≤ 128
fault_fits Length read = length_fits read
fault_fits (Item k) read = omega (arith, item_length k, length-append (ascii "refusal 10: out of its range: ") (entry item_names k))
fault_fits (Rule k) read = omega (arith, rule_length k, length-append (ascii "refusal 11: a rule is broken: ") (entry rule_words k))

-- Why the system does not do what it is asked, behind what was to be done, which has no more than 20 bytes.
pub reason_fits : (reason : Reason) → length (reason_words reason) ≤ 34
reason_fits Missing = omega arith
reason_fits Forbidden = omega arith
reason_fits Directory = omega arith
reason_fits NoDirectory = omega arith
reason_fits TooLong = omega arith
reason_fits ReadOnly = omega arith
reason_fits Full = omega arith
reason_fits NoText = omega arith
reason_fits (Other error) = omega (arith, number_length error, length-append (ascii "error ") (decimal error))
