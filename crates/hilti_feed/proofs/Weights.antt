-- Less is left to give where a call is given.
use Rattle.std.proofs.Common.{◌≡◌, ◌<◌, ◌≤◌, Bool, true, false, Option, Some, None, refl, ap, arith}
use Rattle.hilti_base.specs.declared.names.FnId.{FnId}
use Rattle.hilti_tree.specs.declared.call.Call.{Call}
use Rattle.hilti_feed.specs.declared.tail.Tail.{Tail}
use Rattle.hilti_feed.specs.declared.tail.Source.{Source}
use Rattle.hilti_feed.specs.declared.tail.Source.TheVariants as sources
use Rattle.hilti_feed.specs.declared.tail.Outcome.{Outcome}
use Rattle.hilti_feed.specs.declared.progress.Progress.{Progress}
use Rattle.hilti_feed.specs.Tails.{open_weight, weight}
use Rattle.hilti_feed.specs.Progress.{after_clean, clean, owed, done_weight, calls_weight, IsClosing}

open_light : (s : Source) → open_weight s ≤ 1
open_light sources.Open = omega arith
open_light sources.Ended = omega arith
open_light sources.Larger = omega arith

-- a capture has a most of bytes
tail_light : (t : Tail) → weight t < 2147483650
tail_light t = omega (arith, t.within, open_light t.source)

owes_none : (b : Bool) (function : FnId) → after_clean b None ≡ Some function → ⊥
owes_none true function e = absurd (cc)
owes_none false function e = absurd (cc)

heavy : (given : Bool) (done : Option FnId) (b : Bool) (function : FnId) → after_clean b (owed given done) ≡ Some function → done_weight given ≡ 2147483650
heavy true last b function e = absurd (owes_none b function e)
heavy false last b function e = refl

pub packet_lighter : (p p' : Progress) → p'.done_given ≡ p.done_given → weight p'.tail < weight p.tail → calls_weight p' < calls_weight p
packet_lighter p p' e l = omega (arith, ap done_weight e, l)

pub closing_lighter : (p q p' : Progress) (o : Outcome) (call : Call) → q.done_given ≡ p.done_given → IsClosing q p' o call → calls_weight p' < calls_weight p
closing_lighter p q p' o call e c =
    omega (arith, tail_light p'.tail, ap done_weight c.given, ap done_weight e, heavy q.done_given q.done (clean o) c.function c.owes)
