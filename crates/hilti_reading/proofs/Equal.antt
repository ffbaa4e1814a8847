-- A function of equal values.
use Rattle.std.proofs.Common.{◌≡◌}

pub both : {A B R : Type 0} (f : A → B → R) {a b : A} {x y : B} → a ≡ b → x ≡ y → f a x ≡ f b y
both f p q = cc

pub all_three : {A B C R : Type 0} (f : A → B → C → R) {a b : A} {x y : B} {v w : C} → a ≡ b → x ≡ y → v ≡ w → f a x v ≡ f b y w
all_three f p q r = cc

pub all_four : {A B C D R : Type 0} (f : A → B → C → D → R) {a b : A} {x y : B} {v w : C} {s t : D} → a ≡ b → x ≡ y → v ≡ w → s ≡ t → f a x v s ≡ f b y w t
all_four f p q r s = cc
