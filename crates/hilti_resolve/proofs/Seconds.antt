-- Times and intervals that fit.
use Rattle.std.proofs.Common.{◌≡◌, refl, ◌<◌, ◌^◌, nat_lt, Bool, true, false, cond, Option, Some, None}
use Rattle.std.proofs.lemmas.Bool.{ltb-true}
use Rattle.hilti_base.specs.declared.names.Place.{Place}
use Rattle.hilti_base.specs.declared.refusal.Refusal.{Refusal}
use Rattle.hilti_base.specs.declared.refusal.Refusal.TheVariants.{At}
use Rattle.hilti_module.specs.declared.module.Seconds.{Seconds}
use Rattle.hilti_resolve.specs.Literals.{nanoseconds, of_kind, seconds_refusal}

pub fitting : (fits : Bool) (place : Place) (number : Seconds) → seconds_refusal fits place number ≡ None
    → nanoseconds number < 2 ^ 64
fitting fits place number none = by (nat_lt (nanoseconds number) (2 ^ 64)) refl none
  where
    by : (below : Bool) → nat_lt (nanoseconds number) (2 ^ 64) ≡ below
        → cond {A = Option Refusal} below (of_kind fits place) (Some (At place 36)) ≡ None → nanoseconds number < 2 ^ 64
    by true below told = ltb-true (nanoseconds number) (2 ^ 64) below
    by false below told = cc
