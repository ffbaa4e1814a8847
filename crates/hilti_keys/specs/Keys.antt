-- The value trees that are keys.
use Rattle.std.specs.Prelude.{ℕ, Bool, true, false, ◌&&◌, nat_eq, List, [], ◌∷◌}
use Rattle.std.specs.Bool.{IsTrue}
use Rattle.hilti_tree.specs.declared.tree.Tree.{Tree, out-Tree}
use Rattle.hilti_tree.specs.declared.tree.Tree.TheOpen.{Tree-F}
use Rattle.hilti_tree.specs.declared.tree.Tree.TheFolds.{fold-Tree}

-- the types of keys without parts
pub data Scalar : Type 0 where
  Truth : Scalar
  Whole : Scalar
  Text : Scalar
  Bytes : Scalar
  Address : Scalar
  Net : Scalar
  Port : Scalar
  Time : Scalar
  Span : Scalar
  Constant : Scalar

-- the place of a type among them
abbrev pub place : Scalar → ℕ
place Truth = 0
place Whole = 1
place Text = 2
place Bytes = 3
place Address = 4
place Net = 5
place Port = 6
place Time = 7
place Span = 8
place Constant = 9

abbrev pub same_scalar : Scalar → Scalar → Bool
same_scalar scalar other = nat_eq (place scalar) (place other)

-- what a tree is among keys: the numbers of a scalar, the parts of a tuple, or no key
pub data Key (A : Type 0) : Type 0 where
  Numbers : Scalar → List ℕ → Key A
  Parts : List A → Key A
  NoKey : Key A

abbrev pub truth_number : Bool → ℕ
truth_number true = 1
truth_number false = 0

-- False is 0 and True 1, a constant is its place, a net its address and its length, and a port its
-- number with 0 for TCP and 1 for UDP behind it
abbrev pub as_key : {A : Type 0} → Tree-F A → Key A
as_key (Tree-F.Bool value) = Numbers Truth (truth_number value ∷ [])
as_key (Tree-F.Int n) = Numbers Whole (n ∷ [])
as_key (Tree-F.Text bytes) = Numbers Text bytes
as_key (Tree-F.Bytes bytes) = Numbers Bytes bytes
as_key (Tree-F.Addr address) = Numbers Address (address ∷ [])
as_key (Tree-F.Net address length) = Numbers Net (address ∷ length ∷ [])
as_key (Tree-F.Port number is_udp) = Numbers Port (number ∷ truth_number is_udp ∷ [])
as_key (Tree-F.Time nanos) = Numbers Time (nanos ∷ [])
as_key (Tree-F.Span nanos) = Numbers Span (nanos ∷ [])
as_key (Tree-F.Pick n) = Numbers Constant (n ∷ [])
as_key (Tree-F.Tuple parts) = Parts parts
as_key _ = NoKey

-- whether each of some tests passes of the tree at its place, with as many of these as of those
abbrev pub all_pass : List (Tree → Bool) → List Tree → Bool
all_pass [] [] = true
all_pass (passes ∷ more) (tree ∷ trees) = passes tree && all_pass more trees
all_pass _ _ = false

abbrev pub alike_keys : Key (Tree → Bool) → Key Tree → Bool
alike_keys (Numbers scalar numbers) (Numbers other others) = same_scalar scalar other
alike_keys (Parts parts) (Parts others) = all_pass parts others
alike_keys _ _ = false

abbrev pub alike_step : Tree-F (Tree → Bool) → Tree → Bool
alike_step tree other = alike_keys (as_key tree) (as_key (out-Tree other))

-- whether two trees are keys of one type: scalars of one type, or tuples of as many parts, each of
-- one type with its counterpart
abbrev pub alike : Tree → Tree → Bool
alike = fold-Tree (Tree → Bool) alike_step

abbrev pub AreKeys : Tree → Tree → Type 0
AreKeys tree other = IsTrue (alike tree other)

-- a key is of one type with itself
abbrev pub IsKey : Tree → Type 0
IsKey tree = AreKeys tree tree
