-- Pools may go from thread to thread, where their bodies and virtual threads may.
use denote.RattleType.{RattleType}
use denote.Param.Send.{IsSend, sendable, view_send}
use denote.Param.SendFields.{declared_send}
use Rattle.std.proofs.Crossing.{crosses, send, Vec-send}
use Rattle.std.proofs.MapsCrossing as maps
use Rattle.hilti_base.specs.contracts.collection.Collection as collection
use Rattle.hilti_tree.specs.contracts.call.Call as calls
use Rattle.hilti_tree.specs.contracts.tree.Tree as trees
use Rattle.hilti_tree.proofs.tree.Tree.TheLaws.TheKnot.{send-Tree}
use Rattle.hilti_core.specs.contracts.event.Event as event
use Rattle.hilti_core.specs.declared.body.Body as body
use Rattle.hilti_pool.specs.contracts.seat.Posted as posted
use Rattle.hilti_pool.specs.contracts.seat.Place as place
use Rattle.hilti_pool.specs.contracts.seat.Seat as seat
use Rattle.hilti_pool.specs.contracts.hall.Hall as hall
use Rattle.hilti_pool.specs.contracts.pool.Pool as pool

Collection-send : (T : RattleType) → IsSend T → IsSend (collection.the_row T)
Collection-send T s = search (sendable, crosses) depth 40

Tree-send : IsSend trees.the_row
Tree-send = search (sendable, crosses, send-Tree, Collection-send) depth 20

Call-send : IsSend calls.the_row
Call-send = search (sendable, Tree-send, Collection-send) depth 20

Event-send : IsSend event.the_row
Event-send = search sendable depth 20

Posted-send : IsSend posted.the_row
Posted-send = search (sendable, crosses, Tree-send, Collection-send) depth 40 fits 20000

Seat-send : (T : RattleType) → IsSend T → IsSend (seat.the_row T)
Seat-send T s = search (sendable, crosses, Collection-send) depth 20

Hall-send : (T : RattleType) → IsSend T → IsSend (hall.the_row T)
Hall-send T s = search (sendable, crosses, maps.crosses, Seat-send, Posted-send) depth 20

Calls-send : IsSend (collection.the_row calls.the_row)
Calls-send = Collection-send calls.the_row Call-send

module _ (B V D : RattleType) (g : body.Ghosts B.Denot V.Denot D.Denot) where
  -- field by field
  fields_send : IsSend V → IsSend (pool.TheInside.the_row B V D g)
  fields_send s = declared_send (pool.TheInside.the_type B V D g) (
    search (send, sendable, crosses) depth 20,
    (
      search (crosses, sendable) depth 20,
      (
        search sendable depth 20,
        (
          search (Calls-send, sendable) depth 20,
          (
            search (Vec-send, Event-send, sendable) depth 20,
            (
              search sendable depth 20,
              (
                search sendable depth 20,
                (
                  search (crosses, sendable) depth 20,
                  (
                    search sendable depth 20,
                    (
                      search sendable depth 20,
                      (
                        search (Hall-send, s, sendable) depth 20,
                        tt,
                      ),
                    ),
                  ),
                ),
              ),
            ),
          ),
        ),
      ),
    ),
  )

  pub pool_send : IsSend V → IsSend (pool.the_row B V D g)
  pool_send s = view_send _ _ _ _ _ (fields_send s)
