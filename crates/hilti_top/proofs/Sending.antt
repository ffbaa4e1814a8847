-- Virtual threads may go from thread to thread.
use denote.RattleType.{RattleType}
use denote.Param.Send.{IsSend, sendable}
use Rattle.std.proofs.Crossing.{crosses}
use Rattle.hilti_base.specs.contracts.collection.Collection as collection
use Rattle.hilti_record.specs.contracts.record.Record as record_of
use Rattle.hilti_values.specs.contracts.reference.Reference as reference
use Rattle.hilti_values.specs.contracts.shared_bytes.SharedBytes as shared
use Rattle.hilti_values.specs.contracts.value.Value as value
use Rattle.hilti_values.proofs.value.Value.TheLaws.TheKnot.{send-Value}
use Rattle.hilti_heap.specs.contracts.object.Object as object
use Rattle.hilti_heap.specs.contracts.cells.Cell as cell
use Rattle.hilti_heap.specs.contracts.shelf.Shelf as shelf
use Rattle.hilti_heap.specs.contracts.heap.Heap as heap
use Rattle.hilti_stack.specs.contracts.head.Position as position
use Rattle.hilti_stack.specs.contracts.stack.Stack as stack
use Rattle.hilti_openings.specs.contracts.entries.Opened as opened
use Rattle.hilti_acting.specs.contracts.memory.Memory as memory
use Rattle.hilti_machine.specs.contracts.calling.Calling as calling
use Rattle.hilti_machine.specs.contracts.vthread.Vthread as vthread

Collection-send : (T : RattleType) → IsSend T → IsSend (collection.the_row T)
Collection-send T s = search (sendable, crosses) depth 40

Record-send : (T : RattleType) → IsSend T → IsSend (record_of.the_row T)
Record-send T s = search (sendable, crosses) depth 40

Reference-send : IsSend reference.the_row
Reference-send = search sendable depth 20

Shared-send : IsSend shared.the_row
Shared-send = search (sendable, crosses) depth 40

Value-send : IsSend value.the_row
Value-send = search (sendable, crosses, send-Value, Collection-send, Reference-send, Shared-send) depth 20

Object-send : IsSend object.the_row
Object-send = search (sendable, crosses, Value-send, Record-send, Collection-send) depth 20

Cell-send : IsSend cell.the_row
Cell-send = search (Object-send, Value-send, Record-send, Collection-send, crosses, sendable) depth 40

Shelf-send : IsSend shelf.the_row
Shelf-send = search (sendable, crosses, Cell-send, Object-send) depth 30

Heap-send : IsSend heap.the_row
Heap-send = search (Shelf-send, Cell-send, Object-send, Value-send, Record-send, Collection-send, crosses, sendable) depth 40

Position-send : IsSend position.the_row
Position-send = search (sendable, crosses) depth 20

Stack-send : IsSend stack.the_row
Stack-send = search (sendable, crosses, Value-send, Position-send) depth 30

Opened-send : IsSend opened.the_row
Opened-send = search (sendable, crosses, Position-send, Stack-send) depth 30

Memory-send : IsSend memory.the_row
Memory-send = search (sendable, crosses, Value-send, Heap-send) depth 30

Calling-send : IsSend calling.the_row
Calling-send = search (sendable, crosses, Opened-send, Position-send, Stack-send) depth 30

pub thread_send : IsSend vthread.the_row
thread_send = search (Memory-send, Calling-send, Opened-send, Stack-send, Position-send, Heap-send, Value-send, Collection-send, crosses, sendable) depth 40
