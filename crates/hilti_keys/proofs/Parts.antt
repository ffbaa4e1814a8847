-- The layers of trees as keys.
use Rattle.std.proofs.Common.{◌≡◌, refl, sym, ◌∙◌, ap, subst, ℕ, ◌+◌, ◌<◌, ◌&&◌, Bool, true, false, IsTrue, List, [], ◌∷◌, ◌++◌, length, drop, get_or, map, arith}
use Rattle.std.proofs.lemmas.Bool.{false≢true}
use Rattle.std.proofs.lemmas.List.{drop_more, get_or-drop}
use Rattle.std.specs.Int.{w128, to_be_bytes}
use Rattle.hilti_tree.specs.declared.tree.Tree.{Tree}
use Rattle.hilti_tree.specs.declared.tree.Tree.TheOpen.{Addr, Net}
use Rattle.hilti_tree.specs.declared.tree.Tree.TheVariants as trees
use Rattle.hilti_tree.specs.declared.tree.Tree.TheFolds.{fold-roll-Tree}
use Rattle.hilti_keys.specs.Keys.{alike, all_pass, AreKeys}
use Rattle.hilti_keys.specs.Hashes.{key_bytes, bytes_step}

pub address_bytes : (address : ℕ) → key_bytes (trees.Addr address) ≡ to_be_bytes w128 address
address_bytes address =
    ap key_bytes (sym (trees.rolls-Addr address)) ∙ fold-roll-Tree (List ℕ) bytes_step (Addr address)

pub net_bytes : (address length : ℕ) → key_bytes (trees.Net address length) ≡ to_be_bytes w128 address ++ length ∷ []
net_bytes address length =
    ap key_bytes (sym (trees.rolls-Net address length)) ∙ fold-roll-Tree (List ℕ) bytes_step (Net address length)

and_first : (p q : Bool) → IsTrue (p && q) → IsTrue p
and_first true q h = refl
and_first false q h = h

-- the first of the trees that are left
first_passes : (a b : Tree) (more : List (Tree → Bool)) (right : List Tree)
    → IsTrue (all_pass (alike a ∷ more) right) → b ≡ get_or right 0 b → AreKeys a b
first_passes a b more [] h is = absurd (false≢true h)
first_passes a b more (c ∷ right) h is = subst (λ b. AreKeys a b) (sym is) (and_first (alike a c) (all_pass more right) h)

-- the next of the parts of two tuples
pub next_alike : (left right : List Tree) (at : ℕ) (a b : Tree) → at < length left
    → a ≡ get_or left at a → b ≡ get_or right at b
    → IsTrue (all_pass (map alike (drop at left)) (drop at right)) → AreKeys a b
next_alike left right at a b within is_left is_right h =
    let next : drop at left ≡ a ∷ drop (at + 1) left =
    drop_more left at a within ∙ ap (λ a. a ∷ drop (at + 1) left) (sym is_left) in
    first_passes a b (map alike (drop (at + 1) left)) (drop at right)
    (subst (λ left. IsTrue (all_pass (map alike left) (drop at right))) next h)
    (is_right ∙ ap (λ at. get_or right at b) (omega arith) ∙ sym (get_or-drop at right 0 b))
