-- The hash of a key.
use Rattle.std.specs.Prelude.{ℕ, ◌+◌, ◌*◌, ◌%◌, ◌^◌, List, [], ◌∷◌, ◌++◌, length}
use Rattle.std.specs.List.{fold, concat}
use Rattle.std.specs.Int.{w16, w32, w64, w128, to_be_bytes}
use Rattle.hilti_tree.specs.declared.tree.Tree.{Tree}
use Rattle.hilti_tree.specs.declared.tree.Tree.TheOpen.{Tree-F}
use Rattle.hilti_tree.specs.declared.tree.Tree.TheFolds.{fold-Tree}
use Rattle.hilti_keys.specs.Keys.{truth_number}

-- a number in 8 bytes, a constant's place in 4, an address in 16 and a net's length in one behind
-- it, a port in 2 with 0 for TCP or 1 for UDP behind it, all big-endian; a string and bytes as they
-- are with their length behind them; and a tuple as its parts in turn
abbrev pub bytes_step : Tree-F (List ℕ) → List ℕ
bytes_step (Tree-F.Bool value) = truth_number value ∷ []
bytes_step (Tree-F.Int n) = to_be_bytes w64 n
bytes_step (Tree-F.Text bytes) = bytes ++ to_be_bytes w64 (length bytes)
bytes_step (Tree-F.Bytes bytes) = bytes ++ to_be_bytes w64 (length bytes)
bytes_step (Tree-F.Addr address) = to_be_bytes w128 address
bytes_step (Tree-F.Net address length) = to_be_bytes w128 address ++ length ∷ []
bytes_step (Tree-F.Port number is_udp) = to_be_bytes w16 number ++ truth_number is_udp ∷ []
bytes_step (Tree-F.Time nanos) = to_be_bytes w64 nanos
bytes_step (Tree-F.Span nanos) = to_be_bytes w64 nanos
bytes_step (Tree-F.Pick n) = to_be_bytes w32 n
bytes_step (Tree-F.Tuple parts) = concat parts
bytes_step _ = []

-- the bytes of a key
abbrev pub key_bytes : Tree → List ℕ
key_bytes = fold-Tree (List ℕ) bytes_step

abbrev pub hash_step : ℕ → ℕ → ℕ
hash_step hash byte = (hash * 1000003 + byte + 1) % 2 ^ 64

-- bytes taken into a hash one by one
abbrev pub hash_from : ℕ → List ℕ → ℕ
hash_from hash bytes = fold hash_step hash bytes

-- the hash of bytes
abbrev pub hash_of : List ℕ → ℕ
hash_of bytes = hash_from 0 bytes
