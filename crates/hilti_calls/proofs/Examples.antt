-- Worked runs of a small language: a hook of three bodies, of which the second stops the others, and a suspension.
use Rattle.std.proofs.Common.{◌≡◌, ℕ, ◌+◌, Bool, true, false, List, [], ◌∷◌, refl}
use Rattle.hilti_calls.specs.Calls.{Action, Action.Go, Action.Call, Action.Leave, Back, Back.On, Back.Out}
use Rattle.hilti_calls.specs.Calls.{Outcome.Ended, Language, run, exec}
use Rattle.hilti_calls.specs.Parts.{Mark, Mark.Plain, Mark.Cut, Closing, parts_of}
use Rattle.hilti_calls.specs.Stack.{rest}

data Small : Type 0 where
  Hook : Small
  Body : Small
  Stop : Small
  After : Small
  Done : Small

-- the state counts the bodies that said something
abbrev act : Small → ℕ → Action Small ℕ Bool (Mark ℕ ℕ)
act Hook st = Call Body (Stop ∷ Body ∷ []) After st
act Body st = Go (Plain 7 ∷ []) Done (st + 1)
act Stop st = Leave false st
act After st = Go (Cut st ∷ []) Done st
act Done st = Leave true st

abbrev small : Language Small ℕ Bool (Mark ℕ ℕ)
small = record { act = act; resume = λ frame r st. On frame st; continues = λ r. r }

abbrev closing : Closing ℕ Bool ℕ ℕ
closing = record {
  over = λ r st. record { items = []; close = 100 + st };
  spent = λ st. record { items = 0 ∷ []; close = 200 + st };
}

-- 1 for the call, 2 for the first body, 1 for the second, 2 for what comes after; the third doesn't run
ends : exec small Hook 0 9 ≡ Ended true 1 3 (Plain 7 ∷ Cut 1 ∷ [])
unfolding exec run
ends = refl

suspends : parts_of closing (exec small Hook 0 9)
    ≡ record { items = 7 ∷ []; close = 1 } ∷ record { items = []; close = 101 } ∷ []
unfolding exec run
suspends = refl

-- one unit less than it takes
spends : parts_of closing (exec small Hook 0 5)
    ≡ record { items = 7 ∷ []; close = 1 } ∷ record { items = 0 ∷ []; close = 201 } ∷ []
unfolding exec run
spends = refl

-- an entry of a stack: a caller of one callee, or the run of bodies
data Entry : Type 0 where
  Caller : Small → Entry
  Bodies : List Small → Entry

abbrev back : Entry → Bool → ℕ → Back Small ℕ Bool
back (Caller frame) r st = On frame st
back (Bodies more) r st = Out r st

abbrev more : Entry → List Small
more (Caller frame) = []
more (Bodies frames) = frames

-- the same from the first body on, with the run of the bodies in an entry of its own
apart : rest small (record { more = more; back = back }) (Caller After ∷ Bodies (Stop ∷ Body ∷ []) ∷ []) Body 0 8
    ≡ exec small Hook 0 9
unfolding rest exec run
apart = refl
