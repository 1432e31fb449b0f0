-- No second answer meets the contract of a public function of this crate.
-- Assumes nothing.
use mathlib.Core.Path.{◌∙◌, sym}
use Rattle.common.specs.OneAnswer.{OneAnswer}
use Rattle.orders.proofs.grown_age.Kinds as grown_age_kinds
use Rattle.orders.proofs.grown_age.Reads as grown_age_reads
use Rattle.orders.proofs.Order.grown.Kinds as order_grown_kinds
use Rattle.orders.proofs.Order.grown.Reads as order_grown_reads
use Rattle.orders.proofs.Order.on_for.Kinds as order_on_for_kinds
use Rattle.orders.proofs.Order.on_for.Reads as order_on_for_reads
use Rattle.orders.proofs.Order.off_for.Kinds as order_off_for_kinds
use Rattle.orders.proofs.Order.off_for.Reads as order_off_for_reads
use Rattle.orders.proofs.Wanted.at.Kinds as wanted_at_kinds
use Rattle.orders.proofs.Wanted.at.Reads as wanted_at_reads
use Rattle.orders.proofs.Orders.grown.Kinds as orders_grown_kinds
use Rattle.orders.proofs.Orders.grown.Reads as orders_grown_reads
use Rattle.orders.proofs.Orders.after.Kinds as orders_after_kinds
use Rattle.orders.proofs.Orders.after.Reads as orders_after_reads

pub grown_age_once : OneAnswer 0 grown_age_kinds.ps grown_age_kinds.r grown_age_reads.Post
grown_age_once κs a x y s t p q = p ∙ sym q

pub order_grown_once : OneAnswer 0 order_grown_kinds.ps order_grown_kinds.r order_grown_reads.Post
order_grown_once κs a x y s t p q = p ∙ sym q

pub order_on_for_once : OneAnswer 0 order_on_for_kinds.ps order_on_for_kinds.r order_on_for_reads.Post
order_on_for_once κs a x y s t p q = p ∙ sym q

pub order_off_for_once : OneAnswer 0 order_off_for_kinds.ps order_off_for_kinds.r order_off_for_reads.Post
order_off_for_once κs a x y s t p q = p ∙ sym q

pub wanted_at_once : OneAnswer 0 wanted_at_kinds.ps wanted_at_kinds.r wanted_at_reads.Post
wanted_at_once κs a x y s t p q = p ∙ sym q

pub orders_grown_once : OneAnswer 0 orders_grown_kinds.ps orders_grown_kinds.r orders_grown_reads.Post
orders_grown_once κs a x y s t p q = p ∙ sym q

pub orders_after_once : OneAnswer 0 orders_after_kinds.ps orders_after_kinds.r orders_after_reads.Post
orders_after_once κs a x y s t p q = p ∙ sym q
