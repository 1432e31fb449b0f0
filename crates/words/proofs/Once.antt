-- No second answer meets the contract of a public function of this crate, but for `put`, `count` and `word`: what they answer is the operating
-- system's too.
-- (Whatever standard error is: `E` is its type.)
-- Assumes nothing.
use Prim.Native.Nat.{ℕ}
use mathlib.Core.Path.{sym, ◌∙◌}
use denote.Param.Laws.{Laws}
use denote.RattleType.{RattleType}
use mir.Syntax.{Dict, w64}
use mir.Val.{Fits}
use Rattle.std.specs.declared.io.traits.Write.{Ghosts}
use Rattle.common.specs.OneAnswer.{OneAnswer}
use Rattle.words.proofs.rooms.zeros.Kinds as zeros_kinds
use Rattle.words.proofs.rooms.zeros.Reads as zeros_reads
use Rattle.words.proofs.say.Kinds as say_kinds
use Rattle.words.proofs.say.Reads as say_reads
use Rattle.words.proofs.refused.Kinds as refused_kinds
use Rattle.words.proofs.refused.Reads as refused_reads
use Rattle.words.proofs.nine.Kinds as nine_kinds
use Rattle.words.proofs.nine.Reads as nine_reads

pub say_once : (E : RattleType) (laws : Laws E) (write : Ghosts E.Denot) (dict : Dict)
    → OneAnswer 4 (say_kinds.ps E laws) (say_kinds.r E laws) (say_reads.Post E laws write dict)
say_once E laws write dict κs a x y s t p q = p ∙ sym q

pub refused_once : (E : RattleType) (laws : Laws E) (write : Ghosts E.Denot) (dict : Dict)
    → OneAnswer 4 (refused_kinds.ps E laws) (refused_kinds.r E laws) (refused_reads.Post E laws write dict)
refused_once E laws write dict κs a x y s t p q = p ∙ sym q

pub nine_once : (E : RattleType) (laws : Laws E) (write : Ghosts E.Denot) (dict : Dict)
    → OneAnswer 3 (nine_kinds.ps E laws) (nine_kinds.r E laws) (nine_reads.Post E laws write dict)
nine_once E laws write dict κs a x y s t p q = p ∙ sym q

pub zeros_once : (N : ℕ) (fits : Fits w64 N) → OneAnswer 1 (zeros_kinds.ps N fits) (zeros_kinds.r N fits) (zeros_reads.Post N fits)
zeros_once N fits κs a x y s t p q = p.1 ∙ sym q.1
