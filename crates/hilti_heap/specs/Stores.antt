-- Stores, which never lose an object, and what instructions do with them.
use Rattle.std.specs.Prelude.{ℕ, ◌+◌, Option, Some, None}
use Rattle.hilti_base.specs.declared.refusal.Raise.{Raise}
use Rattle.hilti_base.specs.declared.refusal.Raise.TheVariants.{NullReference}
use Rattle.hilti_values.specs.declared.value.Value.{Value}
use Rattle.hilti_values.specs.declared.value.Value.TheVariants.{Ref}
use Rattle.hilti_heap.specs.declared.object.Object.{Object}
use Rattle.hilti_heap.specs.Kept.{with_at}

-- the next serial, and the objects so far
pub record Store : Type 0 where
  pub next : ℕ
  pub object : ℕ → Option Object

-- an instruction is done, with a value or none and a new store, or it raises and changes nothing
pub data Answer : Type 0 where
  Done : (result : Option Value) (store : Store) → Answer
  Raised : (raise : Raise) → Answer

-- a store whose next serial is drawn for something that is no object
abbrev pub drawn : Store → Store
drawn st = record st { next = st.next + 1 }

-- a store with one object more, which has the next serial
abbrev pub added : Store → Object → Store
added st o = record { next = st.next + 1; object = with_at st.object st.next (Some o) }

-- a store with another object in the place of one
abbrev pub changed : Store → ℕ → Object → Store
changed st s o = record st { object = with_at st.object s (Some o) }

-- a new object is the result
abbrev pub create : Object → Store → Answer
create o st = Done (Some (Ref st.next)) (added st o)

-- a change of the object that a reference names
abbrev pub change : (Object → Object) → Value → Store → Answer
change f (Ref s) st = changed_if (st.object s)
  where
    changed_if : Option Object → Answer
    changed_if (Some o) = Done None (changed st s (f o))
    changed_if None = Raised NullReference
change f _ st = Raised NullReference

-- a value that is told by the object that a reference names, or a raise where it tells none
abbrev pub told : (Object → Option Value) → Raise → Value → Store → Answer
told tell r (Ref s) st = told_if (st.object s)
  where
    raised_or : Option Value → Answer
    raised_or (Some v) = Done (Some v) st
    raised_or None = Raised r

    told_if : Option Object → Answer
    told_if (Some o) = raised_or (tell o)
    told_if None = Raised NullReference
told tell r _ st = Raised NullReference
