-- Reading where a `<` that is too deep counts as any `<`: what is refused for another reason is refused there as well.
use Rattle.std.proofs.Common.{◌≡◌, Bool, true, false, cond, not, ◌&&◌, ◌||◌, List, [], ◌∷◌, refl, sym, ◌∙◌, ap, eqb}
use Rattle.hilti_lexer.specs.declared.token.Token.{Token}
use Rattle.hilti_grammar.specs.Grammar.{Grammar, Symbol, Symbol.One, Symbol.Empty, Symbol.◌▹◌, Symbol.◌⊕◌, Symbol.Many, Symbol.Rule, Tree, has, sees}
use Rattle.hilti_grammar.specs.Predictive.{known, table, is_predictive, union, where_so}
use Rattle.hilti_grammar.specs.Runs.{Outcome, Outcome.Done, Outcome.Failed, changed, Runs, Runs.GivesUp, Runs.Takes, Runs.Refuses, Runs.Leaves, Runs.FirstFails, Runs.Then, Runs.ToLeft, Runs.ToRight, Runs.Ends, Runs.NextFails, Runs.GoesOn, Runs.Follows}
use Rattle.hilti_grammar.specs.Exact.{known_rules}
use Rattle.std.proofs.lemmas.Bool.{eqb-true}
use Rattle.hilti_grammar.proofs.Sets.{and_left, and_right, has_same, true_not_false}
use Rattle.hilti_kinds.specs.declared.kind.Kind.{Kind}
use Rattle.hilti_kinds.specs.declared.kind.Kind.TheVariants as kinds
use Rattle.hilti_kinds.specs.declared.piece.Piece.{Piece}
use Rattle.hilti_reader.specs.declared.stop.Stop.{Stop}
use Rattle.hilti_reader.specs.declared.stop.Stop.TheVariants as stops
use Rattle.hilti_kinds.specs.Kinds.{kind_number}
use Rattle.hilti_reader.specs.Modules.{RuleName, RuleName.ModuleText, RuleName.ItemText, RuleName.HookRest, RuleName.HookBody, RuleName.Arguments, RuleName.Params, RuleName.ShapeText, RuleName.FieldText, RuleName.FormText, RuleName.BodyText, RuleName.LineText, RuleName.AfterWord, RuleName.InstructionText, RuleName.Operands, RuleName.OperandsBehindTime, RuleName.GroupText, RuleName.SimpleText, RuleName.OtherSimple, RuleName.TypeText, RuleName.Parametric, RuleName.Container, RuleName.InnerText, RuleName.NameText, RuleName.LiteralText, grammar, rule, told_rules}
use Rattle.hilti_reader.specs.Readers.{is_too_deep, stops_of}

-- a `<` that is too deep counts as any
abbrev pub shallow_kind : Kind → Kind
shallow_kind kind = cond (eqb (kind_number kinds.DeepLess) (kind_number kind)) kinds.Less kind

abbrev pub shallow : Grammar Kind RuleName Token Piece
shallow = record grammar { kind = λ piece. shallow_kind piece.kind }

pub shallow_predictive : is_predictive shallow ≡ true
shallow_predictive = refl

same_table : table shallow 8 ≡ table grammar 8
same_table = refl

-- no choice looks at a `<`, and a `<` that is too deep stands nowhere
abbrev unlooked : Symbol Kind RuleName → Bool
unlooked a = not (has grammar (known grammar told_rules a).first kinds.Less) && not (has grammar (known grammar told_rules a).first kinds.DeepLess)

abbrev pub unchosen : Symbol Kind RuleName → Bool
unchosen (One keep set) = not (has grammar set kinds.DeepLess)
unchosen Empty = true
unchosen (a ▹ b) = unchosen a && unchosen b
unchosen (a ⊕ b) = unlooked a && (unchosen a && unchosen b)
unchosen (Many a) = unlooked a && unchosen a
unchosen (Rule r) = true

pub all_unchosen : (r : RuleName) → unchosen (rule r) ≡ true
unfolding told_rules
all_unchosen = elim [ ModuleText ↦ refl | ItemText ↦ refl | HookRest ↦ refl | HookBody ↦ refl | Arguments ↦ refl | Params ↦ refl | ShapeText ↦ refl | FieldText ↦ refl | FormText ↦ refl | BodyText ↦ refl | LineText ↦ refl | AfterWord ↦ refl | InstructionText ↦ refl | Operands ↦ refl | OperandsBehindTime ↦ refl | GroupText ↦ refl | SimpleText ↦ refl | OtherSimple ↦ refl | TypeText ↦ refl | Parametric ↦ refl | Container ↦ refl | InnerText ↦ refl | NameText ↦ refl | LiteralText ↦ refl ]

pub same_rules : known_rules shallow ≡ told_rules
unfolding told_rules
same_rules = refl

pub not_true : (b : Bool) → not b ≡ true → b ≡ false
not_true true h = cc
not_true false h = refl

-- what is known of symbols doesn't hang on kinds of tokens
same_known : (a : Symbol Kind RuleName) → ((known shallow told_rules a).empty ≡ (known grammar told_rules a).empty) × ((known shallow told_rules a).first ≡ (known grammar told_rules a).first)
same_known (One keep set) = (refl, refl)
same_known Empty = (refl, refl)
same_known (a ▹ b) = of_both (same_known a) (same_known b)
  where
    of_both : ((known shallow told_rules a).empty ≡ (known grammar told_rules a).empty) × ((known shallow told_rules a).first ≡ (known grammar told_rules a).first) →
        ((known shallow told_rules b).empty ≡ (known grammar told_rules b).empty) × ((known shallow told_rules b).first ≡ (known grammar told_rules b).first) →
        ((known shallow told_rules (a ▹ b)).empty ≡ (known grammar told_rules (a ▹ b)).empty) × ((known shallow told_rules (a ▹ b)).first ≡ (known grammar told_rules (a ▹ b)).first)
    of_both (p, q) (s, t) = (
      ap (λ e. e && (known shallow told_rules b).empty) p ∙ ap (λ e. (known grammar told_rules a).empty && e) s,
      ap (λ f. union grammar f (where_so (known shallow told_rules a).empty (known shallow told_rules b).first)) q
          ∙ (ap (λ e. union grammar (known grammar told_rules a).first (where_so e (known shallow told_rules b).first)) p
          ∙ ap (λ f. union grammar (known grammar told_rules a).first (where_so (known grammar told_rules a).empty f)) t),
    )
same_known (a ⊕ b) = of_either (same_known a) (same_known b)
  where
    of_either : ((known shallow told_rules a).empty ≡ (known grammar told_rules a).empty) × ((known shallow told_rules a).first ≡ (known grammar told_rules a).first) →
        ((known shallow told_rules b).empty ≡ (known grammar told_rules b).empty) × ((known shallow told_rules b).first ≡ (known grammar told_rules b).first) →
        ((known shallow told_rules (a ⊕ b)).empty ≡ (known grammar told_rules (a ⊕ b)).empty) × ((known shallow told_rules (a ⊕ b)).first ≡ (known grammar told_rules (a ⊕ b)).first)
    of_either (p, q) (s, t) = (
      ap (λ e. e || (known shallow told_rules b).empty) p ∙ ap (λ e. (known grammar told_rules a).empty || e) s,
      ap (λ f. union grammar f (known shallow told_rules b).first) q ∙ ap (λ f. union grammar (known grammar told_rules a).first f) t,
    )
same_known (Many a) = (refl, (same_known a).1)
same_known (Rule r) = (refl, refl)

-- a set without both kinds of `<` has a kind or its shallow one alike
pub has_shallow : (set : List Kind) (kind : Kind) → has grammar set kinds.DeepLess ≡ false → has grammar set kind ≡ true → has grammar set (shallow_kind kind) ≡ true
has_shallow set kind free h = by_test (eqb (kind_number kinds.DeepLess) (kind_number kind)) refl
  where
    by_test : (b : Bool) → eqb (kind_number kinds.DeepLess) (kind_number kind) ≡ b → has grammar set (cond b kinds.Less kind) ≡ true
    by_test true e =
        let same : has grammar set kinds.DeepLess ≡ has grammar set kind = has_same grammar set kinds.DeepLess kind (eqb-true _ _ e) in
        absurd (true_not_false (has grammar set kind) h (sym same ∙ free))
    by_test false e = h

sees_alike : (set : List Kind) (ts : List Piece) → has grammar set kinds.Less ≡ false → has grammar set kinds.DeepLess ≡ false → sees shallow set ts ≡ sees grammar set ts
sees_alike set [] less deep = refl
sees_alike set (token ∷ ts) less deep = by_test (eqb (kind_number kinds.DeepLess) (kind_number token.kind)) refl
  where
    by_test : (b : Bool) → eqb (kind_number kinds.DeepLess) (kind_number token.kind) ≡ b → has grammar set (cond b kinds.Less token.kind) ≡ has grammar set token.kind
    by_test true e = less ∙ (sym deep ∙ has_same grammar set kinds.DeepLess token.kind (eqb-true _ _ e))
    by_test false e = refl

-- where no `<` is too deep for what was wanted
refused_alike : (set : List Kind) (ts : List Piece) → sees grammar set ts ≡ false → not (is_too_deep set ts) ≡ true → sees shallow set ts ≡ false
refused_alike set [] unseen explained = refl
refused_alike set (token ∷ ts) unseen explained = by_test (eqb (kind_number kinds.DeepLess) (kind_number token.kind)) refl
  where
    by_test : (b : Bool) → eqb (kind_number kinds.DeepLess) (kind_number token.kind) ≡ b → has grammar set (cond b kinds.Less token.kind) ≡ false
    by_test true e = left_false (has grammar set kinds.Less) (ap (λ b. has grammar set kinds.Less && (b || false)) (sym e) ∙ not_true (is_too_deep set (token ∷ ts)) explained)
      where
        left_false : (b : Bool) → (b && true) ≡ false → b ≡ false
        left_false true h = cc
        left_false false h = refl
    by_test false e = unseen

-- reading ended for no other reason
abbrev pub Ordinary : Outcome Stop Token Piece → Type 0
Ordinary (Done tree rest) = Unit {0}
Ordinary (Failed stops.Unexpected rest) = Unit {0}
Ordinary (Failed stops.TooDeep rest) = ⊥
Ordinary (Failed stops.NoMemory rest) = ⊥

unchanged : (f : Tree Token Piece → Tree Token Piece) (out : Outcome Stop Token Piece) → Ordinary (changed f out) → Ordinary out
unchanged f (Done tree rest) h = h
unchanged f (Failed stop rest) h = h

sees_first : (a : Symbol Kind RuleName) (ts : List Piece) (b : Bool) → unlooked a ≡ true → sees grammar (known grammar told_rules a).first ts ≡ b → sees shallow (known shallow told_rules a).first ts ≡ b
sees_first a ts b free h =
    ap (λ f. sees shallow f ts) (same_known a).1
    ∙ (sees_alike (known grammar told_rules a).first ts (not_true _ (and_left _ _ free)) (not_true _ (and_right _ _ free)) ∙ h)

pub read_alike : (s : Symbol Kind RuleName) (ts : List Piece) (out : Outcome Stop Token Piece) → Runs grammar told_rules stops_of s ts out → unchosen s ≡ true → Ordinary out → Runs shallow told_rules stops_of s ts out
read_alike _ _ _ (GivesUp h) free ordinary = GivesUp h
read_alike _ _ _ (Takes {set = set} {token = token} h) free ordinary = Takes (has_shallow set token.kind (not_true _ free) h)
read_alike _ _ _ (Refuses {set = set} {ts = ts} {e = stops.Unexpected} unseen explained) free ordinary = Refuses (refused_alike set ts unseen explained) explained
read_alike _ _ _ (Refuses {e = stops.TooDeep} unseen explained) free ordinary = absurd ordinary
read_alike _ _ _ (Refuses {e = stops.NoMemory} unseen explained) free ordinary = absurd ordinary
read_alike _ _ _ Leaves free ordinary = Leaves
read_alike _ _ _ (FirstFails {a = a} {b = b} d) free ordinary = FirstFails (read_alike _ _ _ d (and_left (unchosen a) (unchosen b) free) ordinary)
read_alike _ _ _ (Then {a = a} {b = b} {x = x} {out = out} d f) free ordinary =
    Then (read_alike _ _ _ d (and_left (unchosen a) (unchosen b) free) tt) (read_alike _ _ _ f (and_right (unchosen a) (unchosen b) free) (unchanged (λ y. Tree.Pair x y) out ordinary))
read_alike _ _ _ (ToLeft {a = a} {b = b} {ts = ts} {out = out} seen d) free ordinary =
    ToLeft (sees_first a ts true (and_left (unlooked a) (unchosen a && unchosen b) free) seen)
    (read_alike _ _ _ d (and_left (unchosen a) (unchosen b) (and_right (unlooked a) (unchosen a && unchosen b) free)) (unchanged (λ y. Tree.Left y) out ordinary))
read_alike _ _ _ (ToRight {a = a} {b = b} {ts = ts} {out = out} unseen d) free ordinary =
    ToRight (sees_first a ts false (and_left (unlooked a) (unchosen a && unchosen b) free) unseen)
    (read_alike _ _ _ d (and_right (unchosen a) (unchosen b) (and_right (unlooked a) (unchosen a && unchosen b) free)) (unchanged (λ y. Tree.Right y) out ordinary))
read_alike _ _ _ (Ends {a = a} {ts = ts} unseen) free ordinary = Ends (sees_first a ts false (and_left (unlooked a) (unchosen a) free) unseen)
read_alike _ _ _ (NextFails {a = a} {ts = ts} seen d) free ordinary =
    NextFails (sees_first a ts true (and_left (unlooked a) (unchosen a) free) seen) (read_alike _ _ _ d (and_right (unlooked a) (unchosen a) free) ordinary)
read_alike _ _ _ (GoesOn {a = a} {ts = ts} {x = x} {out = out} seen d f) free ordinary =
    GoesOn (sees_first a ts true (and_left (unlooked a) (unchosen a) free) seen) (read_alike _ _ _ d (and_right (unlooked a) (unchosen a) free) tt) (read_alike _ _ _ f free (unchanged (λ y. Tree.Pair x y) out ordinary))
read_alike _ _ _ (Follows {r = r} d) free ordinary = Follows (read_alike _ _ _ d (all_unchosen r) ordinary)
