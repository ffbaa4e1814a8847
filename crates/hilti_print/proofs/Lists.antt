-- The texts of items in turn, with one item more.
use Rattle.std.proofs.Common.{◌≡◌, refl, sym, ◌∙◌, ap, ℕ, suc, ◌+◌, ◌<◌, List, [], ◌∷◌, ◌++◌, length, map, flat_map, take, get_or, codes, append-nil, append_assoc, if◌then◌else◌, ne_eqb, arith}
use Rattle.std.proofs.lemmas.List.{map-append, take_more, length-map, length-take-le}
use Rattle.std.proofs.lemmas.List.Concat.{flat_map-append}
use Rattle.hilti_tree.specs.declared.tree.Tree.{Tree}
use Rattle.hilti_print.specs.Trees.{before, commas, placed, listed}

comma_before : (count : ℕ) → before (suc count) ≡ codes ", "
comma_before count = ap (λ first. if first then [] else codes ", ") (ne_eqb (suc count) 0 (λ is. omega (arith, is)))

commas_more : (texts : List (List ℕ)) (text : List ℕ)
    → commas (texts ++ text ∷ []) ≡ commas texts ++ (before (length texts) ++ text)
commas_more [] text = append-nil text
commas_more (first ∷ texts) text =
    ap (λ more. first ++ more)
    (flat_map-append (λ text. codes ", " ++ text) texts (text ∷ [])
    ∙ ap (λ last. flat_map (λ text. codes ", " ++ text) texts ++ last) (append-nil (codes ", " ++ text))
    ∙ ap (λ comma. flat_map (λ text. codes ", " ++ text) texts ++ (comma ++ text)) (sym (comma_before (length texts))))
    ∙ sym (append_assoc first (flat_map (λ text. codes ", " ++ text) texts) (before (suc (length texts)) ++ text))

module _ {A : Type 0} (text : ℕ → A → List ℕ) where
  placed_more : (from : ℕ) (items : List A) (item : A)
      → placed text from (items ++ item ∷ []) ≡ placed text from items ++ text (from + length items) item ∷ []
  placed_more from [] item = ap (λ at. text at item ∷ []) (omega arith)
  placed_more from (first ∷ items) item =
      ap (λ more. text from first ∷ more)
      (placed_more (from + 1) items item
      ∙ ap (λ at. placed text (from + 1) items ++ text at item ∷ []) (omega arith))

  length_placed : (from : ℕ) (items : List A) → length (placed text from items) ≡ length items
  length_placed from [] = refl
  length_placed from (first ∷ items) = ap suc (length_placed (from + 1) items)

  one_more : (items : List A) (item : A)
      → listed text (items ++ item ∷ [])
      ≡ listed text items ++ (before (length items) ++ text (length items) item)
  one_more items item =
      ap commas (placed_more 0 items item)
      ∙ commas_more (placed text 0 items) (text (0 + length items) item)
      ∙ ap (λ at. listed text items ++ (before at ++ text (0 + length items) item)) (length_placed 0 items)
      ∙ ap (λ at. listed text items ++ (before (length items) ++ text at item)) (omega arith)

  -- the texts of the items before a place, and that of the item there
  pub listed_more : (shown : Tree → A) (trees : List Tree) (at : ℕ) (tree : Tree) → at < length trees
      → tree ≡ get_or trees at tree
      → listed text (map shown (take (at + 1) trees))
      ≡ listed text (map shown (take at trees)) ++ (before at ++ text at (shown tree))
  listed_more shown trees at tree below is =
      let items = map shown (take at trees) in
      let count : length items ≡ at = length-map (take at trees) shown ∙ length-take-le at trees (omega arith) in
      ap (λ trees. listed text (map shown trees)) (take_more trees at tree below)
      ∙ ap (listed text) (map-append shown (take at trees) (get_or trees at tree ∷ []))
      ∙ ap (λ tree. listed text (items ++ shown tree ∷ [])) (sym is)
      ∙ one_more items (shown tree)
      ∙ ap (λ at. listed text items ++ (before at ++ text at (shown tree))) count

  -- what is written with one item more
  pub written_more : (shown : Tree → A) (trees : List Tree) (at : ℕ) (tree : Tree) (start before_it comma end : List ℕ)
      → at < length trees → tree ≡ get_or trees at tree
      → before_it ≡ start ++ listed text (map shown (take at trees))
      → comma ≡ before_it ++ before at → end ≡ comma ++ text at (shown tree)
      → end ≡ start ++ listed text (map shown (take (at + 1) trees))
  written_more shown trees at tree start before_it comma end below is written separated last =
      let front = listed text (map shown (take at trees)) in
      last
      ∙ ap (λ comma. comma ++ text at (shown tree)) (separated ∙ ap (λ out. out ++ before at) written)
      ∙ append_assoc (start ++ front) (before at) (text at (shown tree))
      ∙ append_assoc start front (before at ++ text at (shown tree))
      ∙ ap (λ more. start ++ more) (sym (listed_more shown trees at tree below is))

-- a text that was written in three pieces
pub in_three : (out first second third one two three whole : List ℕ) → first ≡ out ++ one → second ≡ first ++ two
    → third ≡ second ++ three → whole ≡ one ++ two ++ three → third ≡ out ++ whole
in_three out first second third one two three whole e f g w =
    g ∙ ap (λ second. second ++ three) (f ∙ ap (λ first. first ++ two) e ∙ append_assoc out one two)
    ∙ append_assoc out (one ++ two) three
    ∙ ap (λ text. out ++ text) (sym w)
