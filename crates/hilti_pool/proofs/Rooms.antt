-- Room that was made stays, whatever room is made after it.
use Rattle.std.proofs.Common.{◌≡◌, ℕ, ◌+◌, ◌≤◌, List, length, Option, Some, None, IsSome, IfSome, option_map, refl, sym, ◌∙◌, subst, arith, All, vec_len, vec_capacity}
use Rattle.std.proofs.lemmas.List.Elements.{All-weaker}
use Rattle.std.specs.VecDeque.{deque_len, deque_capacity}
use Rattle.hilti_core.specs.declared.pieces.Item.{Item}
use Rattle.hilti_pool.specs.declared.hall.Hall.{Hall}
use Rattle.hilti_pool.specs.Hall.{HasSeat, HasLogRoom, HasRoom, Grows, receivers}

module _ {V : Type 0} where
  pub grows_same : (a : Hall V) → Grows a a
  grows_same a = record {
    faces = λ r. refl;
    seats = λ r x. x;
    logs = λ n r x. x;
    mail = refl;
    mail_len = refl;
    mail_room = omega arith;
    resting = refl;
    resting_len = refl;
    resting_room = omega arith;
    outs = refl;
    outs_len = refl;
    outs_room = omega arith;
    roll = refl;
    roll_len = refl;
    roll_room = omega arith;
  }

  pub grows_on : (a b c : Hall V) → Grows a b → Grows b c → Grows a c
  grows_on a b c g h = record {
    faces = λ r. h.faces r ∙ g.faces r;
    seats = λ r x. h.seats r (g.seats r x);
    logs = λ n r x. h.logs n r (g.logs n r x);
    mail = h.mail ∙ g.mail;
    mail_len = h.mail_len ∙ g.mail_len;
    mail_room = omega (arith, g.mail_room, h.mail_room);
    resting = h.resting ∙ g.resting;
    resting_len = h.resting_len ∙ g.resting_len;
    resting_room = omega (arith, g.resting_room, h.resting_room);
    outs = h.outs ∙ g.outs;
    outs_len = h.outs_len ∙ g.outs_len;
    outs_room = omega (arith, g.outs_room, h.outs_room);
    roll = h.roll ∙ g.roll;
    roll_len = h.roll_len ∙ g.roll_len;
    roll_room = omega (arith, g.roll_room, h.roll_room);
  }

  pub room_stays : (items : List Item) (a b : Hall V) → Grows a b → HasRoom items a → HasRoom items b
  room_stays items a b g h = record {
    mail = omega (arith, h.mail, g.mail_len, g.mail_room);
    resting = omega (arith, h.resting, g.resting_len, g.resting_room);
    outs = omega (arith, h.outs, g.outs_len, g.outs_room);
    roll = omega (arith, h.roll, g.roll_len, g.roll_room);
    seats = All-weaker (HasSeat a) (HasSeat b) g.seats (receivers items) h.seats;
    logs = subst (λ l. All (λ away. HasLogRoom (length items) b away.thread.n) l) (sym g.outs)
        (All-weaker (λ away. HasLogRoom (length items) a away.thread.n) (λ away. HasLogRoom (length items) b away.thread.n) (λ away. g.logs (length items) away.thread.n) a.outs.items h.logs);
  }

  -- the room that a pool has stays
  pub rooms_stay : {X : Type 0} (value : X → List Item) (room : Option X) (a b : Hall V) (len cap new_len new_cap : ℕ) → Grows a b → new_len ≡ len → cap ≤ new_cap →
      IfSome room (λ items. HasRoom (value items) a × (len + 1 ≤ cap)) → IfSome room (λ items. HasRoom (value items) b × (new_len + 1 ≤ new_cap))
  rooms_stay value None a b len cap new_len new_cap g same more h = tt
  rooms_stay value (Some items) a b len cap new_len new_cap g same more h = (room_stays (value items) a b g h.0, omega (arith, h.1, same, more))

  -- room was made, one part after another
  pub room_made : (items : List Item) (count : ℕ) (a b d : Hall V) → count ≡ length items → deque_len a.mail + count ≤ deque_capacity a.mail → vec_len a.resting + 1 ≤ vec_capacity a.resting →
      vec_len a.outs + 1 ≤ vec_capacity a.outs → vec_len a.roll + 1 ≤ vec_capacity a.roll → Grows a b → All (HasSeat b) (receivers items) → Grows b d → All (λ away. HasLogRoom count d away.thread.n) d.outs.items → HasRoom items d
  room_made items count a b d is mail resting outs roll g seats h logs = record {
    mail = omega (arith, is, mail, g.mail_len, g.mail_room, h.mail_len, h.mail_room);
    resting = omega (arith, resting, g.resting_len, g.resting_room, h.resting_len, h.resting_room);
    outs = omega (arith, outs, g.outs_len, g.outs_room, h.outs_len, h.outs_room);
    roll = omega (arith, roll, g.roll_len, g.roll_room, h.roll_len, h.roll_room);
    seats = All-weaker (HasSeat b) (HasSeat d) h.seats (receivers items) seats;
    logs = subst (λ n. All (λ away. HasLogRoom n d away.thread.n) d.outs.items) is logs;
  }

-- the room that a pool has told
pub has_room : {X : Type 0} (value : X → List Item) (room : Option X) (P : X → Type 0) → IsSome (option_map value room) → IfSome room P → (x : X) × P x
has_room value None P some h = absurd cc
has_room value (Some x) P some h = (x, h)

pub room_for : {X : Type 0} (value : X → List Item) (items : List Item) (room : Option X) (P : List Item → Type 0) → option_map value room ≡ Some items → IfSome room (λ x. P (value x)) → P items
room_for value items None P is h = absurd cc
room_for value items (Some x) P is h = subst P (let same : value x ≡ items = cc in same) h
