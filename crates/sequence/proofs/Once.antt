-- No second answer meets the contract of a public function of this crate.
-- Assumes nothing.
use mathlib.Core.Path.{◌∙◌, sym}
use Rattle.common.specs.OneAnswer.{OneAnswer}
use Rattle.sequence.proofs.at_aim.Kinds as at_aim_kinds
use Rattle.sequence.proofs.at_aim.Reads as at_aim_reads
use Rattle.sequence.proofs.Aim.of_handle.Kinds as aim_of_handle_kinds
use Rattle.sequence.proofs.Aim.of_handle.Reads as aim_of_handle_reads
use Rattle.sequence.proofs.Aim.number.Kinds as aim_number_kinds
use Rattle.sequence.proofs.Aim.number.Reads as aim_number_reads
use Rattle.sequence.proofs.Doors.number.Kinds as doors_number_kinds
use Rattle.sequence.proofs.Doors.number.Reads as doors_number_reads
use Rattle.sequence.proofs.Doors.numbered.Kinds as doors_numbered_kinds
use Rattle.sequence.proofs.Doors.numbered.Reads as doors_numbered_reads
use Rattle.sequence.proofs.Gears.number.Kinds as gears_number_kinds
use Rattle.sequence.proofs.Gears.number.Reads as gears_number_reads
use Rattle.sequence.proofs.Gears.numbered.Kinds as gears_numbered_kinds
use Rattle.sequence.proofs.Gears.numbered.Reads as gears_numbered_reads
use Rattle.sequence.proofs.Doors.are_closed.Kinds as doors_are_closed_kinds
use Rattle.sequence.proofs.Doors.are_closed.Reads as doors_are_closed_reads
use Rattle.sequence.proofs.Doors.are_open.Kinds as doors_are_open_kinds
use Rattle.sequence.proofs.Doors.are_open.Reads as doors_are_open_reads
use Rattle.sequence.proofs.Gears.are_moving.Kinds as gears_are_moving_kinds
use Rattle.sequence.proofs.Gears.are_moving.Reads as gears_are_moving_reads
use Rattle.sequence.proofs.Place.moving_have_open.Kinds as place_moving_have_open_kinds
use Rattle.sequence.proofs.Place.moving_have_open.Reads as place_moving_have_open_reads

pub at_aim_once : OneAnswer 0 at_aim_kinds.ps at_aim_kinds.r at_aim_reads.Post
at_aim_once κs a x y s t p q = p ∙ sym q

pub aim_of_handle_once : OneAnswer 0 aim_of_handle_kinds.ps aim_of_handle_kinds.r aim_of_handle_reads.Post
aim_of_handle_once κs a x y s t p q = p ∙ sym q

pub aim_number_once : OneAnswer 0 aim_number_kinds.ps aim_number_kinds.r aim_number_reads.Post
aim_number_once κs a x y s t p q = p ∙ sym q

pub doors_number_once : OneAnswer 0 doors_number_kinds.ps doors_number_kinds.r doors_number_reads.Post
doors_number_once κs a x y s t p q = p ∙ sym q

pub doors_numbered_once : OneAnswer 0 doors_numbered_kinds.ps doors_numbered_kinds.r doors_numbered_reads.Post
doors_numbered_once κs a x y s t p q = p ∙ sym q

pub gears_number_once : OneAnswer 0 gears_number_kinds.ps gears_number_kinds.r gears_number_reads.Post
gears_number_once κs a x y s t p q = p ∙ sym q

pub gears_numbered_once : OneAnswer 0 gears_numbered_kinds.ps gears_numbered_kinds.r gears_numbered_reads.Post
gears_numbered_once κs a x y s t p q = p ∙ sym q

pub doors_are_closed_once : OneAnswer 0 doors_are_closed_kinds.ps doors_are_closed_kinds.r doors_are_closed_reads.Post
doors_are_closed_once κs a x y s t p q = p ∙ sym q

pub doors_are_open_once : OneAnswer 0 doors_are_open_kinds.ps doors_are_open_kinds.r doors_are_open_reads.Post
doors_are_open_once κs a x y s t p q = p ∙ sym q

pub gears_are_moving_once : OneAnswer 0 gears_are_moving_kinds.ps gears_are_moving_kinds.r gears_are_moving_reads.Post
gears_are_moving_once κs a x y s t p q = p ∙ sym q

pub place_moving_have_open_once : OneAnswer 0 place_moving_have_open_kinds.ps place_moving_have_open_kinds.r place_moving_have_open_reads.Post
place_moving_have_open_once κs a x y s t p q = p ∙ sym q
