-- Whether what two written types say is the same, as a test.
use Rattle.std.specs.Prelude.{ℕ, nat_eq, Bool, true, false, ◌&&◌, List, [], ◌∷◌}
use Rattle.hilti_module.specs.declared.types.PlainType.{PlainType}
use Rattle.hilti_module.specs.declared.types.PlainType.TheVariants as plain
use Rattle.hilti_module.specs.declared.types.PlainInner.{PlainInner}
use Rattle.hilti_module.specs.declared.types.PlainInner.TheVariants as words
use Rattle.hilti_module.specs.declared.types.Single.{Single}
use Rattle.hilti_module.specs.declared.types.Single.TheVariants as singles
use Rattle.hilti_module.specs.declared.types.Double.{Double}
use Rattle.hilti_module.specs.declared.types.Double.TheVariants as doubles
use Rattle.hilti_scope.specs.declared.meaning.Meaning.{Meaning}
use Rattle.hilti_scope.specs.declared.meaning.Meaning.TheVariants as means
use Rattle.hilti_resolve.specs.Written.{Written, Written.Plain, Written.Int, Written.Tuple}
use Rattle.hilti_resolve.specs.Written.{Written.NoPart, Written.Part, Written.Iterator, Written.Ref}
use Rattle.hilti_resolve.specs.Written.{Written.InnerWord, Written.One, Written.Two, Written.Named}

abbrev pub plain_eq : PlainType → PlainType → Bool
plain_eq plain.Bool plain.Bool = true
plain_eq plain.Text plain.Text = true
plain_eq plain.Bytes plain.Bytes = true
plain_eq plain.Addr plain.Addr = true
plain_eq plain.Net plain.Net = true
plain_eq plain.Port plain.Port = true
plain_eq plain.Time plain.Time = true
plain_eq plain.Interval plain.Interval = true
plain_eq plain.Callable plain.Callable = true
plain_eq _ _ = false

abbrev pub word_eq : PlainInner → PlainInner → Bool
word_eq words.Bytes words.Bytes = true
word_eq words.Timer words.Timer = true
word_eq words.Manager words.Manager = true
word_eq _ _ = false

abbrev pub single_eq : Single → Single → Bool
single_eq singles.List singles.List = true
single_eq singles.Vector singles.Vector = true
single_eq singles.Set singles.Set = true
single_eq _ _ = false

abbrev pub double_eq : Double → Double → Bool
double_eq doubles.Map doubles.Map = true
double_eq doubles.Classifier doubles.Classifier = true
double_eq _ _ = false

abbrev pub meaning_eq : Meaning → Meaning → Bool
meaning_eq means.Nothing means.Nothing = true
meaning_eq (means.Local slot) (means.Local other) = nat_eq slot other
meaning_eq (means.Struct n) (means.Struct m) = nat_eq n m
meaning_eq (means.Enum n) (means.Enum m) = nat_eq n m
meaning_eq (means.Overlay n) (means.Overlay m) = nat_eq n m
meaning_eq (means.Exception n) (means.Exception m) = nat_eq n m
meaning_eq (means.Global n) (means.Global m) = nat_eq n m
meaning_eq (means.Function n) (means.Function m) = nat_eq n m
meaning_eq (means.Hook n) (means.Hook m) = nat_eq n m
meaning_eq _ _ = false

unfoldable pub written_eq : Written → Written → Bool
written_eq (Plain a) (Plain b) = plain_eq a b
written_eq (Int a) (Int b) = nat_eq a b
written_eq (Tuple a) (Tuple b) = written_eq a b
written_eq NoPart NoPart = true
written_eq (Part a as_) (Part b bs) = written_eq a b && written_eq as_ bs
written_eq (Iterator a) (Iterator b) = written_eq a b
written_eq (Ref a) (Ref b) = written_eq a b
written_eq (InnerWord a) (InnerWord b) = word_eq a b
written_eq (One s a) (One t b) = single_eq s t && written_eq a b
written_eq (Two s a c) (Two t b d) = double_eq s t && written_eq a b && written_eq c d
written_eq (Named a) (Named b) = meaning_eq a b
written_eq _ _ = false

-- as many, and each the same in turn
unfoldable pub all_same : List Written → List Written → Bool
all_same [] [] = true
all_same [] (b ∷ bs) = false
all_same (a ∷ more) [] = false
all_same (a ∷ more) (b ∷ bs) = written_eq a b && all_same more bs
