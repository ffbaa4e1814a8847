-- Trees of operands that a text can have tell which operands they are of.
use Rattle.std.proofs.Common.{◌≡◌, Bool, true, false, List, [], ◌∷◌, refl, sym, ap}
use Rattle.std.specs.Prelude.{map, Option, Some, None}
use Rattle.hilti_base.specs.declared.names.Place.{Place}
use Rattle.hilti_lexer.specs.declared.token.TokenKind.TheVariants as tokens
use Rattle.hilti_grammar.specs.Grammar.{Symbol.Rule, Tree.Nothing, Tree.Pair, Tree.Left, Tree.Right}
use Rattle.hilti_grammar.specs.Reads.{separated_tree}
use Rattle.hilti_kinds.specs.declared.kind.Kind.{Kind}
use Rattle.hilti_module.specs.declared.module.Operand.{Operand}
use Rattle.hilti_module.specs.declared.module.Operand.TheVariants as operands
use Rattle.hilti_module.specs.declared.module.Seconds.{Seconds}
use Rattle.hilti_module.specs.declared.module.Simple.{Simple}
use Rattle.hilti_read_literals.specs.Literals.{TimePart, seconds_tree, time_part}
use Rattle.hilti_read_operands.specs.Operands.{other_tree, simple_of, simple_tree, group_tree, operand_of, operands_tree}
use Rattle.hilti_reader.specs.Modules.{RuleName.Operands as the_operands, RuleName.OperandsBehindTime as behind_time, grammar}
use Rattle.hilti_read_operands.specs.Operands.{is_alone}
use Rattle.hilti_reader.specs.Spelled.{ModuleTree, marked_at, between_marks}
use Rattle.hilti_reading.proofs.Equal.{both}
use Rattle.hilti_reading.proofs.Fits.{Fits, fits_both, fits_left, fits_right, fits_rule, fits_none}
use Rattle.hilti_reading.proofs.Sequences.{separated}
use Rattle.hilti_reading.proofs.Simples.{simple_one}
use Rattle.hilti_reading.proofs.Spots.{spot_one}

group_one : (p q : Place) (xs ys : List Simple) → group_tree p xs ≡ group_tree q ys → (p ≡ q) × (xs ≡ ys)
group_one p q [] [] e = ((spot_one p q (tokens.Mark 40) (tokens.Mark 40) (let here : marked_at p 40 ≡ marked_at q 40 = cc in here)).0, refl)
group_one p q [] (y ∷ ys) e = cc
group_one p q (x ∷ xs) [] e = cc
group_one p q (x ∷ xs) (y ∷ ys) e =
    let inside : separated_tree (map simple_tree (x ∷ xs)) ≡ separated_tree (map simple_tree (y ∷ ys)) = cc in (
      (spot_one p q (tokens.Mark 40) (tokens.Mark 40) (let here : marked_at p 40 ≡ marked_at q 40 = cc in here)).0,
      separated simple_tree simple_one (x ∷ xs) (y ∷ ys) inside,
    )

-- operands derive some tokens, behind `time` or `interval` alone or not
abbrev pub FitsOperands : Bool → ModuleTree → Type 0
FitsOperands false tree = Fits grammar (Rule the_operands) tree
FitsOperands true tree = Fits grammar (Rule behind_time) tree

time_fits : (b : Bool) (place : Place) (kind : Kind) (number : Option Seconds) (other : ModuleTree) (f : Bool → ModuleTree) →
    (let p : Option TimePart = Some (record { place = place; kind = kind; number = number }) in
    FitsOperands b (operand_of p other (f false) (f true)) → FitsOperands (is_alone p) (f (is_alone p)))
time_fits false place kind None other f h = (fits_both grammar _ _ _ _ (fits_left grammar _ _ _ (fits_right grammar _ _ _ (fits_rule grammar the_operands _ h)))).1
time_fits true place kind None other f h = (fits_both grammar _ _ _ _ (fits_left grammar _ _ _ (fits_right grammar _ _ _ (fits_rule grammar behind_time _ h)))).1
time_fits false place kind (Some number) other f h =
    (fits_both grammar _ _ _ _ (fits_left grammar _ _ _ (fits_rule grammar behind_time _ (fits_both grammar _ _ _ _ (fits_left grammar _ _ _ (fits_right grammar _ _ _ (fits_rule grammar the_operands _ h)))).1))).1
time_fits true place kind (Some number) other f h =
    (fits_both grammar _ _ _ _ (fits_left grammar _ _ _ (fits_rule grammar behind_time _ (fits_both grammar _ _ _ _ (fits_left grammar _ _ _ (fits_right grammar _ _ _ (fits_rule grammar behind_time _ h)))).1))).1

-- so do those behind the first
more_fits : (b : Bool) (p : Option TimePart) (other : ModuleTree) (f : Bool → ModuleTree) →
    FitsOperands b (operand_of p other (f false) (f true)) → FitsOperands (is_alone p) (f (is_alone p))
more_fits b (Some part) other f h = time_fits b part.place part.kind part.number other f h
more_fits false None other f h = (fits_both grammar _ _ _ _ (fits_left grammar _ _ _ (fits_right grammar _ _ _ (fits_right grammar _ _ _ (fits_rule grammar the_operands _ h))))).1
more_fits true None other f h = (fits_both grammar _ _ _ _ (fits_left grammar _ _ _ (fits_right grammar _ _ _ (fits_right grammar _ _ _ (fits_rule grammar behind_time _ h))))).1

-- an operand's tree is that of no group, and not that of no operand
not_end : (p : Option TimePart) (o x y : ModuleTree) → operand_of p o x y ≡ Right (Right (Right Nothing)) → ⊥
not_end None o x y e = cc
not_end (Some part) o x y e = cc

not_left : (p : Option TimePart) (o x y z : ModuleTree) → operand_of p o x y ≡ Left z → ⊥
not_left None o x y z e = cc
not_left (Some part) o x y z e = cc

not_nothing : (p : Option TimePart) (o x y : ModuleTree) → operand_of p o x y ≡ Nothing → ⊥
not_nothing None o x y e = cc
not_nothing (Some part) o x y e = cc

-- behind `time` or `interval` alone no group stands first
behind_time_first : (xs : List Operand) (z : ModuleTree) → operands_tree true xs ≡ Left z → ⊥
behind_time_first [] z e = cc
behind_time_first (operands.Simple s ∷ xs) z e = not_left (time_part s) (other_tree s) (operands_tree false xs) (operands_tree true xs) z e
behind_time_first (operands.Group place inside ∷ xs) z e = cc

-- two operands with those behind them
abbrev Same : Option TimePart → Option TimePart → ModuleTree → ModuleTree → (Bool → ModuleTree) → (Bool → ModuleTree) → Type 0
Same p q o u f g = (simple_of p o ≡ simple_of q u) × (f (is_alone p) ≡ g (is_alone p))

two_times : (place there : Place) (kind its : Kind) (m n : Option Seconds) (o u : ModuleTree) (f g : Bool → ModuleTree) →
    ((z : ModuleTree) → f true ≡ Left z → ⊥) → ((z : ModuleTree) → g true ≡ Left z → ⊥) →
    (let p : Option TimePart = Some (record { place = place; kind = kind; number = m }) in
    let q : Option TimePart = Some (record { place = there; kind = its; number = n }) in
    operand_of p o (f false) (f true) ≡ operand_of q u (g false) (g true) → Same p q o u f g)
two_times place there kind its None None o u f g h k e = (cc, cc)
two_times place there kind its None (Some n) o u f g h k e = absurd (h _ (let here : f true ≡ Left (Pair (between_marks (seconds_tree n)) (g false)) = cc in here))
two_times place there kind its (Some m) None o u f g h k e = absurd (k _ (let here : g true ≡ Left (Pair (between_marks (seconds_tree m)) (f false)) = cc in here))
two_times place there kind its (Some m) (Some n) o u f g h k e = (cc, cc)

two_operands : (p q : Option TimePart) (o u : ModuleTree) (f g : Bool → ModuleTree) → ((z : ModuleTree) → f true ≡ Left z → ⊥) → ((z : ModuleTree) → g true ≡ Left z → ⊥) →
    operand_of p o (f false) (f true) ≡ operand_of q u (g false) (g true) → Same p q o u f g
two_operands None None o u f g h k e = (cc, cc)
two_operands None (Some part) o u f g h k e = cc
two_operands (Some part) None o u f g h k e = cc
two_operands (Some part) (Some other) o u f g h k e = two_times part.place other.place part.kind other.kind part.number other.number o u f g h k e

pub operands_one : (b : Bool) (xs ys : List Operand) → FitsOperands b (operands_tree b xs) → operands_tree b xs ≡ operands_tree b ys → xs ≡ ys
operands_one b [] [] h e = refl
operands_one b [] (operands.Simple t ∷ ys) h e = absurd (not_end (time_part t) (other_tree t) (operands_tree false ys) (operands_tree true ys) (sym e))
operands_one false [] (operands.Group q y ∷ ys) h e = cc
operands_one true [] (operands.Group q y ∷ ys) h e = cc
operands_one b (operands.Simple s ∷ xs) [] h e = absurd (not_end (time_part s) (other_tree s) (operands_tree false xs) (operands_tree true xs) e)
operands_one b (operands.Simple s ∷ xs) (operands.Simple t ∷ ys) h e =
    let same = two_operands (time_part s) (time_part t) (other_tree s) (other_tree t) (λ alone. operands_tree alone xs) (λ alone. operands_tree alone ys) (behind_time_first xs) (behind_time_first ys) e in
    let fits = more_fits b (time_part s) (other_tree s) (λ alone. operands_tree alone xs) h in
    both (λ x l. x ∷ l) (ap (λ s. operands.Simple s) (simple_one s t same.0)) (operands_one (is_alone (time_part s)) xs ys fits same.1)
operands_one false (operands.Simple s ∷ xs) (operands.Group q y ∷ ys) h e = absurd (not_left (time_part s) (other_tree s) (operands_tree false xs) (operands_tree true xs) _ e)
operands_one true (operands.Simple s ∷ xs) (operands.Group q y ∷ ys) h e = absurd (not_nothing (time_part s) (other_tree s) (operands_tree false xs) (operands_tree true xs) e)
operands_one false (operands.Group p x ∷ xs) [] h e = cc
operands_one false (operands.Group p x ∷ xs) (operands.Simple t ∷ ys) h e = absurd (not_left (time_part t) (other_tree t) (operands_tree false ys) (operands_tree true ys) _ (sym e))
operands_one false (operands.Group p x ∷ xs) (operands.Group q y ∷ ys) h e =
    let same = group_one p q x y (let here : group_tree p x ≡ group_tree q y = cc in here) in
    let fits = (fits_both grammar _ _ _ _ (fits_left grammar _ _ _ (fits_rule grammar the_operands _ h))).1 in
    let more = operands_one false xs ys fits (let here : operands_tree false xs ≡ operands_tree false ys = cc in here) in
    both (λ x l. x ∷ l) (both (λ place inside. operands.Group place inside) same.0 same.1) more
operands_one true (operands.Group p x ∷ xs) ys h e = absurd (fits_none grammar _ _ (fits_rule grammar behind_time _ h))
