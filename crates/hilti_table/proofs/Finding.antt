-- Looking a mnemonic up.
use Rattle.std.proofs.Common.{◌≡◌, refl, ℕ, suc, ◌+◌, ◌<◌, ◌≤◌, Bool, true, false, cond, List, [], ◌∷◌}
use Rattle.std.proofs.Common.{length, drop, get_or, sym, ◌∙◌, ap, bytes_eq, add-one, drop-cons}
use Rattle.std.proofs.Common.{Option, Some, None, find, is_some, ◌||◌, Bor}
use Rattle.std.specs.List.{list_any}
use Rattle.std.proofs.lemmas.Bool.{false≢true}
use Rattle.std.proofs.lemmas.List.{drop_all}
use Rattle.std.proofs.lemmas.Slice.Eq.{bytes_eq-Decides}
use Rattle.hilti_types.specs.declared.op.Op.{Op}
use Rattle.hilti_table.specs.Exact.{is_exact}
use Rattle.hilti_table.specs.Mnemonics.{named, IsWrittenSo}
use Rattle.hilti_table.specs.Table.{line_of, every_plain}
use Rattle.hilti_table.proofs.Each.{found}

-- what is found passes the test
in_front : {X : Type 0} (p : X → Bool) (y x : X) (rest : Option X) (b : Bool) → p y ≡ b → cond b (Some y) rest ≡ Some x →
    (rest ≡ Some x → p x ≡ true) → p x ≡ true
in_front p y x rest true h e further = cc
in_front p y x rest false h e further = further e

find_passes : {X : Type 0} (p : X → Bool) (xs : List X) (x : X) → find p xs ≡ Some x → p x ≡ true
find_passes p [] x e = cc
find_passes p (y ∷ ys) x e = in_front p y x (find p ys) (p y) refl e (find_passes p ys x)

none_of : {X : Type 0} (q : X → Bool) (y x : X) (rest : Option X) (b c : Bool) → cond b (Some y) rest ≡ Some x → q y ≡ c → (others : Bool) →
    c || others ≡ false → (rest ≡ Some x → others ≡ false → q x ≡ false) → q x ≡ false
none_of q y x rest b true e is others none further = absurd (false≢true (sym none))
none_of q y x rest true false e is others none further = ap q (sym (same e)) ∙ is
  where
    same : Some y ≡ Some x → y ≡ x
    same e = cc
none_of q y x rest false false e is others none further = further e none

-- what none passes, what is found doesn't pass
find_fails : {X : Type 0} (p q : X → Bool) (xs : List X) (x : X) → find p xs ≡ Some x → list_any q xs ≡ false → q x ≡ false
find_fails p q [] x e none = absurd (false≢true (ap is_some e))
find_fails p q (y ∷ ys) x e none =
    none_of q y x (find p ys) (p y) (q y) e refl (list_any q ys) none (find_fails p q ys x)

no_exact : list_any is_exact every_plain ≡ false
no_exact = refl

-- what a mnemonic means is plain and written so, and no other plain instruction is
pub written_so : (mnemonic : List ℕ) → IsWrittenSo (named mnemonic) mnemonic
unfolding named
written_so mnemonic op = (
  (λ e. record {
    plain = find_fails (λ o. bytes_eq (line_of o).mnemonic mnemonic) is_exact every_plain op e no_exact;
    written = (bytes_eq-Decides (line_of op).mnemonic mnemonic).0 (find_passes (λ o. bytes_eq (line_of o).mnemonic mnemonic) every_plain op e);
  }),
  (λ is. ap named (sym is.written) ∙ found op is.plain),
)

-- the instruction that is written so, in a list of spellings
unfoldable pub by_spellings : List (Bor (List ℕ) × Op) → List ℕ → Option Op
by_spellings [] mnemonic = None
by_spellings (s ∷ more) mnemonic = cond (bytes_eq s.0.now mnemonic) (Some s.1) (by_spellings more mnemonic)

here : (s : Bor (List ℕ) × Op) (more : List (Bor (List ℕ) × Op)) (m : List ℕ) (b : Bool) → bytes_eq s.0.now m ≡ b →
    by_spellings (s ∷ more) m ≡ cond b (Some s.1) (by_spellings more m)
unfolding by_spellings
here s more m b e = ap (λ x. cond x (Some s.1) (by_spellings more m)) e

at_place : (table : List (Bor (List ℕ) × Op)) (i : ℕ) (m : List ℕ) (d : Bor (List ℕ) × Op) (b : Bool) → i < length table →
    bytes_eq (get_or table i d).0.now m ≡ b →
    by_spellings (drop i table) m ≡ cond b (Some (get_or table i d).1) (by_spellings (drop (i + 1) table) m)
at_place table i m d b h e =
    ap (λ t. by_spellings t m) (drop-cons table i d h)
    ∙ (here (get_or table i d) (drop (suc i) table) m b e
    ∙ ap (λ n. cond b (Some (get_or table i d).1) (by_spellings (drop n table) m)) (sym (add-one i)))

pub reached : (table : List (Bor (List ℕ) × Op)) (i : ℕ) (m : List ℕ) (d : Bor (List ℕ) × Op) → i < length table →
    bytes_eq (get_or table i d).0.now m ≡ true → by_spellings (drop i table) m ≡ Some (get_or table i d).1
reached table i m d h e = at_place table i m d true h e

pub passed : (table : List (Bor (List ℕ) × Op)) (i : ℕ) (m : List ℕ) (d : Bor (List ℕ) × Op) → i < length table →
    bytes_eq (get_or table i d).0.now m ≡ false → by_spellings (drop i table) m ≡ by_spellings (drop (i + 1) table) m
passed table i m d h e = at_place table i m d false h e

pub none_left : (table : List (Bor (List ℕ) × Op)) (i : ℕ) (m : List ℕ) → length table ≤ i → by_spellings (drop i table) m ≡ None
unfolding by_spellings
none_left table i m h = ap (λ t. by_spellings t m) (drop_all i table h)

pub written : (result : Option Op) (mnemonic : List ℕ) → result ≡ named mnemonic → IsWrittenSo result mnemonic
written result mnemonic e = rw e (written_so mnemonic)
