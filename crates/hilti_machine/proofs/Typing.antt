-- Calls in progress that stay typed.
use Rattle.std.proofs.Common.{◌≡◌, ◌<◌, List, [], sym, ap, subst, length}
use Rattle.std.proofs.Common.{IfSome}
use Rattle.std.specs.List.{AllByRecursion}
use Rattle.hilti_parts.specs.declared.parts.Parts.{Parts}
use Rattle.hilti_stack.specs.declared.head.Head.{Head}
use Rattle.hilti_stack.specs.declared.head.Head.TheVariants as heads
use Rattle.hilti_stack.specs.declared.head.Position.{Position}
use Rattle.hilti_stack.specs.Frames.{Frame, Frames}
use Rattle.hilti_effects.specs.State.{State}
use Rattle.hilti_effects.specs.Acting.{at}
use Rattle.hilti_shapes.specs.Needs.{Kinds}
use Rattle.hilti_shapes.specs.Places.{IsAt, IsFrame, Chain, IsConfig}
use Rattle.hilti_shapes.specs.Keeping.{GoesOn}
use Rattle.hilti_machine.specs.declared.calling.Calling.{Calling}
use Rattle.hilti_machine.specs.Threads.{IsTypedCall, IsTypedOpening}

-- the position of a function
abbrev position_in : Position → Head → Position
position_in p (heads.Function q) = q
position_in p head = p

pub same_position : (p q : Position) → heads.Function p ≡ heads.Function q → p ≡ q
same_position p q e = ap (position_in p) e

-- a frame and a thread that go on are a call in progress on any such stack
module _ (parts : Parts) (p : Position) (s : Frames) (st : State) (kinds : Kinds)
    (below : List Frame) (g : GoesOn parts kinds below (at p s.slots) st) where
  is_at : g.position ≡ p
  is_at = sym (same_position p g.position g.stands)

  pub config_of : s.below ≡ below → s.made ≡ []
      → IsConfig parts p s st.globals g.grown st.store
  config_of b none = record {
    top = subst (λ q. IsAt parts q s.slots g.grown) is_at g.config.top;
    below = subst (AllByRecursion (IsFrame parts g.grown)) (sym b) g.config.below;
    chain = subst (λ ws. Chain parts ws p) (sym b)
        (subst (Chain parts below) is_at g.config.chain);
    shared = g.config.shared;
    none_made = none;
  }

  pub call_of : (c : Calling) → c.top ≡ p → c.stack ≡ s → s.below ≡ below → s.made ≡ []
      → IfSome c.behind (IsTypedOpening parts) → c.function.n < length parts.functions
      → IsTypedCall parts c st.globals st.store
  call_of c top stack b none behind function = record {
    kinds = g.grown;
    config = subst (λ q. IsConfig parts q c.stack st.globals g.grown st.store) (sym top)
        (subst (λ f. IsConfig parts p f st.globals g.grown st.store) (sym stack)
        (config_of b none));
    behind = behind;
    function = function;
  }
