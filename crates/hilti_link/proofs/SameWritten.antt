-- Whether what two written types say is the same: the test passes exactly where they are equal.
use Rattle.std.proofs.Common.{◌≡◌, refl, sym, ◌∙◌, ap, ap₂, Bool, true, false, ◌&&◌, ◌↔◌, IsTrue, eqb-true, eq-eqb}
use Rattle.std.proofs.lemmas.Bool.{false_from_ne_true}
use Rattle.hilti_module.specs.declared.types.PlainType.{PlainType}
use Rattle.hilti_module.specs.declared.types.PlainType.TheVariants as plain
use Rattle.hilti_module.specs.declared.types.PlainInner.{PlainInner}
use Rattle.hilti_module.specs.declared.types.PlainInner.TheVariants as words
use Rattle.hilti_module.specs.declared.types.Single.{Single}
use Rattle.hilti_module.specs.declared.types.Single.TheVariants as singles
use Rattle.hilti_module.specs.declared.types.Double.{Double}
use Rattle.hilti_module.specs.declared.types.Double.TheVariants as doubles
use Rattle.hilti_scope.specs.declared.meaning.Meaning.{Meaning}
use Rattle.hilti_scope.specs.declared.meaning.Meaning.TheVariants as means
use Rattle.hilti_resolve.specs.Written.{Written, Plain, Int, Tuple, NoPart, Part, Iterator, Ref, InnerWord, One, Two, Named}
use Rattle.hilti_resolve.specs.Same.{plain_eq, word_eq, single_eq, double_eq, meaning_eq, written_eq}

both : (b c : Bool) → (b && c) ≡ true → (b ≡ true) × (c ≡ true)
both true c same = (refl, same)
both false c same = (same, cc)

joined : {b c : Bool} → b ≡ true → c ≡ true → (b && c) ≡ true
joined first second = ap₂ (λ b c. b && c) first second

plain_itself : (a : PlainType) → plain_eq a a ≡ true
plain_itself plain.Bool = refl
plain_itself plain.Text = refl
plain_itself plain.Bytes = refl
plain_itself plain.Addr = refl
plain_itself plain.Net = refl
plain_itself plain.Port = refl
plain_itself plain.Time = refl
plain_itself plain.Interval = refl
plain_itself plain.Callable = refl

plain_same : (a b : PlainType) → plain_eq a b ≡ true → a ≡ b
plain_same plain.Bool plain.Bool same = refl
plain_same plain.Bool plain.Text same = cc
plain_same plain.Bool plain.Bytes same = cc
plain_same plain.Bool plain.Addr same = cc
plain_same plain.Bool plain.Net same = cc
plain_same plain.Bool plain.Port same = cc
plain_same plain.Bool plain.Time same = cc
plain_same plain.Bool plain.Interval same = cc
plain_same plain.Bool plain.Callable same = cc
plain_same plain.Text plain.Bool same = cc
plain_same plain.Text plain.Text same = refl
plain_same plain.Text plain.Bytes same = cc
plain_same plain.Text plain.Addr same = cc
plain_same plain.Text plain.Net same = cc
plain_same plain.Text plain.Port same = cc
plain_same plain.Text plain.Time same = cc
plain_same plain.Text plain.Interval same = cc
plain_same plain.Text plain.Callable same = cc
plain_same plain.Bytes plain.Bool same = cc
plain_same plain.Bytes plain.Text same = cc
plain_same plain.Bytes plain.Bytes same = refl
plain_same plain.Bytes plain.Addr same = cc
plain_same plain.Bytes plain.Net same = cc
plain_same plain.Bytes plain.Port same = cc
plain_same plain.Bytes plain.Time same = cc
plain_same plain.Bytes plain.Interval same = cc
plain_same plain.Bytes plain.Callable same = cc
plain_same plain.Addr plain.Bool same = cc
plain_same plain.Addr plain.Text same = cc
plain_same plain.Addr plain.Bytes same = cc
plain_same plain.Addr plain.Addr same = refl
plain_same plain.Addr plain.Net same = cc
plain_same plain.Addr plain.Port same = cc
plain_same plain.Addr plain.Time same = cc
plain_same plain.Addr plain.Interval same = cc
plain_same plain.Addr plain.Callable same = cc
plain_same plain.Net plain.Bool same = cc
plain_same plain.Net plain.Text same = cc
plain_same plain.Net plain.Bytes same = cc
plain_same plain.Net plain.Addr same = cc
plain_same plain.Net plain.Net same = refl
plain_same plain.Net plain.Port same = cc
plain_same plain.Net plain.Time same = cc
plain_same plain.Net plain.Interval same = cc
plain_same plain.Net plain.Callable same = cc
plain_same plain.Port plain.Bool same = cc
plain_same plain.Port plain.Text same = cc
plain_same plain.Port plain.Bytes same = cc
plain_same plain.Port plain.Addr same = cc
plain_same plain.Port plain.Net same = cc
plain_same plain.Port plain.Port same = refl
plain_same plain.Port plain.Time same = cc
plain_same plain.Port plain.Interval same = cc
plain_same plain.Port plain.Callable same = cc
plain_same plain.Time plain.Bool same = cc
plain_same plain.Time plain.Text same = cc
plain_same plain.Time plain.Bytes same = cc
plain_same plain.Time plain.Addr same = cc
plain_same plain.Time plain.Net same = cc
plain_same plain.Time plain.Port same = cc
plain_same plain.Time plain.Time same = refl
plain_same plain.Time plain.Interval same = cc
plain_same plain.Time plain.Callable same = cc
plain_same plain.Interval plain.Bool same = cc
plain_same plain.Interval plain.Text same = cc
plain_same plain.Interval plain.Bytes same = cc
plain_same plain.Interval plain.Addr same = cc
plain_same plain.Interval plain.Net same = cc
plain_same plain.Interval plain.Port same = cc
plain_same plain.Interval plain.Time same = cc
plain_same plain.Interval plain.Interval same = refl
plain_same plain.Interval plain.Callable same = cc
plain_same plain.Callable plain.Bool same = cc
plain_same plain.Callable plain.Text same = cc
plain_same plain.Callable plain.Bytes same = cc
plain_same plain.Callable plain.Addr same = cc
plain_same plain.Callable plain.Net same = cc
plain_same plain.Callable plain.Port same = cc
plain_same plain.Callable plain.Time same = cc
plain_same plain.Callable plain.Interval same = cc
plain_same plain.Callable plain.Callable same = refl

word_itself : (a : PlainInner) → word_eq a a ≡ true
word_itself words.Bytes = refl
word_itself words.Timer = refl
word_itself words.Manager = refl

word_same : (a b : PlainInner) → word_eq a b ≡ true → a ≡ b
word_same words.Bytes words.Bytes same = refl
word_same words.Bytes words.Timer same = cc
word_same words.Bytes words.Manager same = cc
word_same words.Timer words.Bytes same = cc
word_same words.Timer words.Timer same = refl
word_same words.Timer words.Manager same = cc
word_same words.Manager words.Bytes same = cc
word_same words.Manager words.Timer same = cc
word_same words.Manager words.Manager same = refl

single_itself : (a : Single) → single_eq a a ≡ true
single_itself singles.List = refl
single_itself singles.Vector = refl
single_itself singles.Set = refl

single_same : (a b : Single) → single_eq a b ≡ true → a ≡ b
single_same singles.List singles.List same = refl
single_same singles.List singles.Vector same = cc
single_same singles.List singles.Set same = cc
single_same singles.Vector singles.List same = cc
single_same singles.Vector singles.Vector same = refl
single_same singles.Vector singles.Set same = cc
single_same singles.Set singles.List same = cc
single_same singles.Set singles.Vector same = cc
single_same singles.Set singles.Set same = refl

double_itself : (a : Double) → double_eq a a ≡ true
double_itself doubles.Map = refl
double_itself doubles.Classifier = refl

double_same : (a b : Double) → double_eq a b ≡ true → a ≡ b
double_same doubles.Map doubles.Map same = refl
double_same doubles.Map doubles.Classifier same = cc
double_same doubles.Classifier doubles.Map same = cc
double_same doubles.Classifier doubles.Classifier same = refl

meaning_itself : (a : Meaning) → meaning_eq a a ≡ true
meaning_itself means.Nothing = refl
meaning_itself (means.Local n) = eq-eqb n n refl
meaning_itself (means.Struct n) = eq-eqb n n refl
meaning_itself (means.Enum n) = eq-eqb n n refl
meaning_itself (means.Overlay n) = eq-eqb n n refl
meaning_itself (means.Exception n) = eq-eqb n n refl
meaning_itself (means.Global n) = eq-eqb n n refl
meaning_itself (means.Function n) = eq-eqb n n refl
meaning_itself (means.Hook n) = eq-eqb n n refl

meaning_same : (a b : Meaning) → meaning_eq a b ≡ true → a ≡ b
meaning_same means.Nothing means.Nothing same = refl
meaning_same means.Nothing (means.Local m) same = cc
meaning_same means.Nothing (means.Struct m) same = cc
meaning_same means.Nothing (means.Enum m) same = cc
meaning_same means.Nothing (means.Overlay m) same = cc
meaning_same means.Nothing (means.Exception m) same = cc
meaning_same means.Nothing (means.Global m) same = cc
meaning_same means.Nothing (means.Function m) same = cc
meaning_same means.Nothing (means.Hook m) same = cc
meaning_same (means.Local n) means.Nothing same = cc
meaning_same (means.Local n) (means.Local m) same = ap means.Local (eqb-true n m same)
meaning_same (means.Local n) (means.Struct m) same = cc
meaning_same (means.Local n) (means.Enum m) same = cc
meaning_same (means.Local n) (means.Overlay m) same = cc
meaning_same (means.Local n) (means.Exception m) same = cc
meaning_same (means.Local n) (means.Global m) same = cc
meaning_same (means.Local n) (means.Function m) same = cc
meaning_same (means.Local n) (means.Hook m) same = cc
meaning_same (means.Struct n) means.Nothing same = cc
meaning_same (means.Struct n) (means.Local m) same = cc
meaning_same (means.Struct n) (means.Struct m) same = ap means.Struct (eqb-true n m same)
meaning_same (means.Struct n) (means.Enum m) same = cc
meaning_same (means.Struct n) (means.Overlay m) same = cc
meaning_same (means.Struct n) (means.Exception m) same = cc
meaning_same (means.Struct n) (means.Global m) same = cc
meaning_same (means.Struct n) (means.Function m) same = cc
meaning_same (means.Struct n) (means.Hook m) same = cc
meaning_same (means.Enum n) means.Nothing same = cc
meaning_same (means.Enum n) (means.Local m) same = cc
meaning_same (means.Enum n) (means.Struct m) same = cc
meaning_same (means.Enum n) (means.Enum m) same = ap means.Enum (eqb-true n m same)
meaning_same (means.Enum n) (means.Overlay m) same = cc
meaning_same (means.Enum n) (means.Exception m) same = cc
meaning_same (means.Enum n) (means.Global m) same = cc
meaning_same (means.Enum n) (means.Function m) same = cc
meaning_same (means.Enum n) (means.Hook m) same = cc
meaning_same (means.Overlay n) means.Nothing same = cc
meaning_same (means.Overlay n) (means.Local m) same = cc
meaning_same (means.Overlay n) (means.Struct m) same = cc
meaning_same (means.Overlay n) (means.Enum m) same = cc
meaning_same (means.Overlay n) (means.Overlay m) same = ap means.Overlay (eqb-true n m same)
meaning_same (means.Overlay n) (means.Exception m) same = cc
meaning_same (means.Overlay n) (means.Global m) same = cc
meaning_same (means.Overlay n) (means.Function m) same = cc
meaning_same (means.Overlay n) (means.Hook m) same = cc
meaning_same (means.Exception n) means.Nothing same = cc
meaning_same (means.Exception n) (means.Local m) same = cc
meaning_same (means.Exception n) (means.Struct m) same = cc
meaning_same (means.Exception n) (means.Enum m) same = cc
meaning_same (means.Exception n) (means.Overlay m) same = cc
meaning_same (means.Exception n) (means.Exception m) same = ap means.Exception (eqb-true n m same)
meaning_same (means.Exception n) (means.Global m) same = cc
meaning_same (means.Exception n) (means.Function m) same = cc
meaning_same (means.Exception n) (means.Hook m) same = cc
meaning_same (means.Global n) means.Nothing same = cc
meaning_same (means.Global n) (means.Local m) same = cc
meaning_same (means.Global n) (means.Struct m) same = cc
meaning_same (means.Global n) (means.Enum m) same = cc
meaning_same (means.Global n) (means.Overlay m) same = cc
meaning_same (means.Global n) (means.Exception m) same = cc
meaning_same (means.Global n) (means.Global m) same = ap means.Global (eqb-true n m same)
meaning_same (means.Global n) (means.Function m) same = cc
meaning_same (means.Global n) (means.Hook m) same = cc
meaning_same (means.Function n) means.Nothing same = cc
meaning_same (means.Function n) (means.Local m) same = cc
meaning_same (means.Function n) (means.Struct m) same = cc
meaning_same (means.Function n) (means.Enum m) same = cc
meaning_same (means.Function n) (means.Overlay m) same = cc
meaning_same (means.Function n) (means.Exception m) same = cc
meaning_same (means.Function n) (means.Global m) same = cc
meaning_same (means.Function n) (means.Function m) same = ap means.Function (eqb-true n m same)
meaning_same (means.Function n) (means.Hook m) same = cc
meaning_same (means.Hook n) means.Nothing same = cc
meaning_same (means.Hook n) (means.Local m) same = cc
meaning_same (means.Hook n) (means.Struct m) same = cc
meaning_same (means.Hook n) (means.Enum m) same = cc
meaning_same (means.Hook n) (means.Overlay m) same = cc
meaning_same (means.Hook n) (means.Exception m) same = cc
meaning_same (means.Hook n) (means.Global m) same = cc
meaning_same (means.Hook n) (means.Function m) same = cc
meaning_same (means.Hook n) (means.Hook m) same = ap means.Hook (eqb-true n m same)

pub written_itself : (a : Written) → written_eq a a ≡ true
unfolding written_eq
written_itself (Plain a) = plain_itself a
written_itself (Int a) = eq-eqb a a refl
written_itself (Tuple a) = written_itself a
written_itself NoPart = refl
written_itself (Part a0 a1) = joined (written_itself a0) (written_itself a1)
written_itself (Iterator a) = written_itself a
written_itself (Ref a) = written_itself a
written_itself (InnerWord a) = word_itself a
written_itself (One a0 a1) = joined (single_itself a0) (written_itself a1)
written_itself (Two a0 a1 a2) = joined (joined (double_itself a0) (written_itself a1)) (written_itself a2)
written_itself (Named a) = meaning_itself a

pub written_same : (a b : Written) → written_eq a b ≡ true → a ≡ b
unfolding written_eq
written_same (Plain a) (Plain b) same = ap Plain (plain_same a b same)
written_same (Plain a) (Int b) same = cc
written_same (Plain a) (Tuple b) same = cc
written_same (Plain a) NoPart same = cc
written_same (Plain a) (Part b0 b1) same = cc
written_same (Plain a) (Iterator b) same = cc
written_same (Plain a) (Ref b) same = cc
written_same (Plain a) (InnerWord b) same = cc
written_same (Plain a) (One b0 b1) same = cc
written_same (Plain a) (Two b0 b1 b2) same = cc
written_same (Plain a) (Named b) same = cc
written_same (Int a) (Plain b) same = cc
written_same (Int a) (Int b) same = ap Int (eqb-true a b same)
written_same (Int a) (Tuple b) same = cc
written_same (Int a) NoPart same = cc
written_same (Int a) (Part b0 b1) same = cc
written_same (Int a) (Iterator b) same = cc
written_same (Int a) (Ref b) same = cc
written_same (Int a) (InnerWord b) same = cc
written_same (Int a) (One b0 b1) same = cc
written_same (Int a) (Two b0 b1 b2) same = cc
written_same (Int a) (Named b) same = cc
written_same (Tuple a) (Plain b) same = cc
written_same (Tuple a) (Int b) same = cc
written_same (Tuple a) (Tuple b) same = ap Tuple (written_same a b same)
written_same (Tuple a) NoPart same = cc
written_same (Tuple a) (Part b0 b1) same = cc
written_same (Tuple a) (Iterator b) same = cc
written_same (Tuple a) (Ref b) same = cc
written_same (Tuple a) (InnerWord b) same = cc
written_same (Tuple a) (One b0 b1) same = cc
written_same (Tuple a) (Two b0 b1 b2) same = cc
written_same (Tuple a) (Named b) same = cc
written_same NoPart (Plain b) same = cc
written_same NoPart (Int b) same = cc
written_same NoPart (Tuple b) same = cc
written_same NoPart NoPart same = refl
written_same NoPart (Part b0 b1) same = cc
written_same NoPart (Iterator b) same = cc
written_same NoPart (Ref b) same = cc
written_same NoPart (InnerWord b) same = cc
written_same NoPart (One b0 b1) same = cc
written_same NoPart (Two b0 b1 b2) same = cc
written_same NoPart (Named b) same = cc
written_same (Part a0 a1) (Plain b) same = cc
written_same (Part a0 a1) (Int b) same = cc
written_same (Part a0 a1) (Tuple b) same = cc
written_same (Part a0 a1) NoPart same = cc
written_same (Part a0 a1) (Part b0 b1) same =
    let parts = both (written_eq a0 b0) (written_eq a1 b1) same in
    ap₂ Part (written_same a0 b0 parts.0) (written_same a1 b1 parts.1)
written_same (Part a0 a1) (Iterator b) same = cc
written_same (Part a0 a1) (Ref b) same = cc
written_same (Part a0 a1) (InnerWord b) same = cc
written_same (Part a0 a1) (One b0 b1) same = cc
written_same (Part a0 a1) (Two b0 b1 b2) same = cc
written_same (Part a0 a1) (Named b) same = cc
written_same (Iterator a) (Plain b) same = cc
written_same (Iterator a) (Int b) same = cc
written_same (Iterator a) (Tuple b) same = cc
written_same (Iterator a) NoPart same = cc
written_same (Iterator a) (Part b0 b1) same = cc
written_same (Iterator a) (Iterator b) same = ap Iterator (written_same a b same)
written_same (Iterator a) (Ref b) same = cc
written_same (Iterator a) (InnerWord b) same = cc
written_same (Iterator a) (One b0 b1) same = cc
written_same (Iterator a) (Two b0 b1 b2) same = cc
written_same (Iterator a) (Named b) same = cc
written_same (Ref a) (Plain b) same = cc
written_same (Ref a) (Int b) same = cc
written_same (Ref a) (Tuple b) same = cc
written_same (Ref a) NoPart same = cc
written_same (Ref a) (Part b0 b1) same = cc
written_same (Ref a) (Iterator b) same = cc
written_same (Ref a) (Ref b) same = ap Ref (written_same a b same)
written_same (Ref a) (InnerWord b) same = cc
written_same (Ref a) (One b0 b1) same = cc
written_same (Ref a) (Two b0 b1 b2) same = cc
written_same (Ref a) (Named b) same = cc
written_same (InnerWord a) (Plain b) same = cc
written_same (InnerWord a) (Int b) same = cc
written_same (InnerWord a) (Tuple b) same = cc
written_same (InnerWord a) NoPart same = cc
written_same (InnerWord a) (Part b0 b1) same = cc
written_same (InnerWord a) (Iterator b) same = cc
written_same (InnerWord a) (Ref b) same = cc
written_same (InnerWord a) (InnerWord b) same = ap InnerWord (word_same a b same)
written_same (InnerWord a) (One b0 b1) same = cc
written_same (InnerWord a) (Two b0 b1 b2) same = cc
written_same (InnerWord a) (Named b) same = cc
written_same (One a0 a1) (Plain b) same = cc
written_same (One a0 a1) (Int b) same = cc
written_same (One a0 a1) (Tuple b) same = cc
written_same (One a0 a1) NoPart same = cc
written_same (One a0 a1) (Part b0 b1) same = cc
written_same (One a0 a1) (Iterator b) same = cc
written_same (One a0 a1) (Ref b) same = cc
written_same (One a0 a1) (InnerWord b) same = cc
written_same (One a0 a1) (One b0 b1) same =
    let parts = both (single_eq a0 b0) (written_eq a1 b1) same in
    ap₂ One (single_same a0 b0 parts.0) (written_same a1 b1 parts.1)
written_same (One a0 a1) (Two b0 b1 b2) same = cc
written_same (One a0 a1) (Named b) same = cc
written_same (Two a0 a1 a2) (Plain b) same = cc
written_same (Two a0 a1 a2) (Int b) same = cc
written_same (Two a0 a1 a2) (Tuple b) same = cc
written_same (Two a0 a1 a2) NoPart same = cc
written_same (Two a0 a1 a2) (Part b0 b1) same = cc
written_same (Two a0 a1 a2) (Iterator b) same = cc
written_same (Two a0 a1 a2) (Ref b) same = cc
written_same (Two a0 a1 a2) (InnerWord b) same = cc
written_same (Two a0 a1 a2) (One b0 b1) same = cc
written_same (Two a0 a1 a2) (Two b0 b1 b2) same =
    let parts = both (double_eq a0 b0 && written_eq a1 b1) (written_eq a2 b2) same in
    let front = both (double_eq a0 b0) (written_eq a1 b1) parts.0 in
    let first = double_same a0 b0 front.0 in
    let second = written_same a1 b1 front.1 in
    let third = written_same a2 b2 parts.1 in
    λ i. Two (first i) (second i) (third i)
written_same (Two a0 a1 a2) (Named b) same = cc
written_same (Named a) (Plain b) same = cc
written_same (Named a) (Int b) same = cc
written_same (Named a) (Tuple b) same = cc
written_same (Named a) NoPart same = cc
written_same (Named a) (Part b0 b1) same = cc
written_same (Named a) (Iterator b) same = cc
written_same (Named a) (Ref b) same = cc
written_same (Named a) (InnerWord b) same = cc
written_same (Named a) (One b0 b1) same = cc
written_same (Named a) (Two b0 b1 b2) same = cc
written_same (Named a) (Named b) same = ap Named (meaning_same a b same)

-- a test for what is said is this one
pub test_same : (test : Bool) (a b : Written) → (IsTrue test ↔ (a ≡ b)) → test ≡ written_eq a b
test_same true a b told = sym (ap (written_eq a) (sym (told.0 refl)) ∙ written_itself a)
test_same false a b told = sym (false_from_ne_true (written_eq a b) (λ same. let no = told.1 (written_same a b same) in cc))
