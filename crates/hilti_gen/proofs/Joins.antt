-- Bytes that were added piece by piece are the pieces, joined.
use Rattle.std.proofs.Common.{◌≡◌, ℕ, List, ◌++◌, ap, ◌∙◌, append_assoc}

pub two_pieces : (start a b p q : List ℕ) → a ≡ start ++ p → b ≡ a ++ q → b ≡ start ++ (p ++ q)
two_pieces start a b p q first second = second ∙ ap (λ l. l ++ q) first ∙ append_assoc start p q

pub four_pieces : (start a b c d p q r s : List ℕ) → a ≡ start ++ p → b ≡ a ++ q → c ≡ b ++ r → d ≡ c ++ s
    → d ≡ start ++ (p ++ q ++ r ++ s)
four_pieces start a b c d p q r s first second third fourth =
    two_pieces start c d (p ++ q ++ r) s (two_pieces start b c (p ++ q) r (two_pieces start a b p q first second) third) fourth

pub seven_pieces : (start a b c d e f g p q r s t u v : List ℕ) → a ≡ start ++ p → b ≡ a ++ q → c ≡ b ++ r
    → d ≡ c ++ s → e ≡ d ++ t → f ≡ e ++ u → g ≡ f ++ v
    → g ≡ start ++ (p ++ q ++ r ++ s ++ (t ++ u) ++ v)
seven_pieces start a b c d e f g p q r s t u v first second third fourth fifth sixth seventh =
    two_pieces start f g (p ++ q ++ r ++ s ++ (t ++ u)) v
    (two_pieces start d f (p ++ q ++ r ++ s) (t ++ u)
    (four_pieces start a b c d p q r s first second third fourth)
    (two_pieces d e f t u fifth sixth))
    seventh
