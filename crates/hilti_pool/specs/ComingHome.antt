-- What a worker's thread that comes home suspended leaves.
use Rattle.std.specs.Prelude.{ℕ, ◌==◌, not, filter, List, [], ◌∷◌, ◌++◌, ◌≡◌}
use Rattle.hilti_base.specs.declared.names.ThreadId.{ThreadId}
use Rattle.hilti_core.specs.declared.pieces.Item.{Item}
use Rattle.hilti_core.specs.Sending.{Text, put_at}
use Rattle.hilti_pool.specs.declared.seat.Place.TheVariants.{Suspended}
use Rattle.hilti_pool.specs.declared.hall.Hall.{Hall}
use Rattle.hilti_pool.specs.Hall.{face, HasSeat, back_home, posted_by}

-- the worker's thread is at home, where it is suspended, and these items are posted
pub record ComesToRest {V : Type 0} (worker : ℕ) (thread : ThreadId) (vt : V) (items : List Item)
    (lines : List Text) (old new : Hall V) : Type 0 where
  pub faces : (r : ℕ)
      → face new r
      ≡ put_at (face old) thread.n (back_home (Suspended vt) lines (face old thread.n)) r
  pub seats : (r : ℕ) → HasSeat old r → HasSeat new r
  pub mail : new.mail.items ≡ old.mail.items ++ posted_by items
  pub resting : new.resting.items ≡ old.resting.items ++ thread.n ∷ []
  pub outs : new.outs.items ≡ filter (λ away. not (away.worker == worker)) old.outs.items
  pub roll : new.roll ≡ old.roll
