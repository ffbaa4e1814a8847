-- The texts of trees with parts.
use Rattle.std.proofs.Common.{◌≡◌, ◌∙◌, sym, ap, ℕ, Bool, List, ◌++◌, length, map, codes, decimal, slice_get, ◌⊎◌, ⊎_elim}
use Rattle.std.proofs.lemmas.List.{length-map}
use Rattle.hilti_tree.specs.declared.tree.Tree.{Tree, roll-Tree}
use Rattle.hilti_tree.specs.declared.tree.Tree.TheOpen.{Tree-F}
use Rattle.hilti_tree.specs.declared.tree.Tree.TheVariants as trees
use Rattle.hilti_tree.specs.declared.tree.Tree.TheFolds.{fold-roll-Tree, map-Tree}
use Rattle.hilti_types.specs.declared.declared.Declared.{Declared}
use Rattle.hilti_print.specs.Trees.{Shape, Text, value_step, value_text, listed, part_text, item_text, entry_text, field_text}
use Rattle.hilti_print.specs.Trees.{part_shapes, item_shape, members_of, words_of, named}

module _ (types : List Declared) (shape : Shape) where
  at_layer : (x : Tree-F Tree)
      → value_text types (roll-Tree x) shape ≡ value_step types (map-Tree Tree Text (value_text types) x) shape
  at_layer x = ap (λ (text : Text). text shape) (fold-roll-Tree Text (value_step types) x)

  rolled : (tree : Tree) (x : Tree-F Tree) → roll-Tree x ≡ tree
      → value_text types tree shape ≡ value_step types (map-Tree Tree Text (value_text types) x) shape
  rolled tree x is = ap (λ tree. value_text types tree shape) (sym is) ∙ at_layer x

  pub pick_text : (n : ℕ) → value_text types (trees.Pick n) shape ≡ named (slice_get (words_of types shape) n) n
  pick_text n = rolled (trees.Pick n) (Tree-F.Pick n) (trees.rolls-Pick n)

  pub tuple_text : (parts : List Tree) → value_text types (trees.Tuple parts) shape
      ≡ codes "(" ++ listed (part_text (part_shapes shape)) (map (value_text types) parts) ++ codes ")"
  tuple_text parts = rolled (trees.Tuple parts) (Tree-F.Tuple parts) (trees.rolls-Tuple parts)

  list_text : (items : List Tree) → value_text types (trees.List items) shape
      ≡ codes "[" ++ listed (item_text (item_shape shape)) (map (value_text types) items) ++ codes "]"
  list_text items = rolled (trees.List items) (Tree-F.List items) (trees.rolls-List items)

  vector_text : (items : List Tree) → value_text types (trees.Vector items) shape
      ≡ codes "[" ++ listed (item_text (item_shape shape)) (map (value_text types) items) ++ codes "]"
  vector_text items = rolled (trees.Vector items) (Tree-F.Vector items) (trees.rolls-Vector items)

  pub sequence_text : (tree : Tree) (items : List Tree)
      → (tree ≡ trees.List items) ⊎ (tree ≡ trees.Vector items) → value_text types tree shape
      ≡ codes "[" ++ listed (item_text (item_shape shape)) (map (value_text types) items) ++ codes "]"
  sequence_text tree items is =
      ⊎_elim
      (λ (is : tree ≡ trees.List items). ap (λ tree. value_text types tree shape) is ∙ list_text items)
      (λ (is : tree ≡ trees.Vector items). ap (λ tree. value_text types tree shape) is ∙ vector_text items)
      is

  pub set_text : (keys : List Tree) → value_text types (trees.Set keys) shape
      ≡ codes "{" ++ listed (item_text (item_shape shape)) (map (value_text types) keys) ++ codes "}"
  set_text keys = rolled (trees.Set keys) (Tree-F.Set keys) (trees.rolls-Set keys)

  pub map_text : (keys values : List Tree) → value_text types (trees.Map keys values) shape
      ≡ codes "{" ++ listed (entry_text shape (map (value_text types) values)) (map (value_text types) keys) ++ codes "}"
  map_text keys values = rolled (trees.Map keys values) (Tree-F.Map keys values) (trees.rolls-Map keys values)

  pub fields_text : (fields : List Tree) → value_text types (trees.Fields fields) shape
      ≡ codes "<" ++ listed (field_text (members_of types shape)) (map (value_text types) fields) ++ codes ">"
  fields_text fields = rolled (trees.Fields fields) (Tree-F.Fields fields) (trees.rolls-Fields fields)

  pub rules_text : (fields : List Tree) (priorities : List ℕ) (values : List Tree) (compiled : Bool)
      → value_text types (trees.Rules fields priorities values compiled) shape
      ≡ codes "classifier(" ++ decimal (length fields) ++ codes ")"
  rules_text fields priorities values compiled =
      rolled (trees.Rules fields priorities values compiled) (Tree-F.Rules fields priorities values compiled)
      (trees.rolls-Rules fields priorities values compiled)
      ∙ ap (λ n. codes "classifier(" ++ decimal n ++ codes ")") (length-map fields (value_text types))
