-- Going through the items of modules, one after another, where they stand.
use Rattle.std.proofs.Common.{◌≡◌, refl, sym, ◌∙◌, ap, ℕ, ◌+◌, Bool, true, false, List, [], ◌∷◌, ◌++◌, length, take, append_assoc, Option, Some, None, arith}
use Rattle.std.specs.Prelude.{not, slice_get}
use Rattle.std.specs.Option.{option_or}
use Rattle.std.proofs.lemmas.List.{length_push, length-append, length-map}
use Rattle.std.proofs.Math.Seq.{take-append_seam}
use Rattle.hilti_base.specs.declared.refusal.Refusal.{Refusal}
use Rattle.hilti_module.specs.declared.types.Word.{Word}
use Rattle.hilti_module.specs.declared.module.Item.{Item}
use Rattle.hilti_module.specs.declared.module.Module.{Module}
use Rattle.hilti_scope.specs.Items.{Placed, placed, placed_in, module_named}
use Rattle.hilti_declared.proofs.Placing.{placed-push, none_placed}
use Rattle.hilti_link.specs.InTurn.{behind_all, first_in_turn}
use Rattle.hilti_link.specs.Items.{Seen, item_refusal}
use Rattle.hilti_link.specs.Linking.{behind_item, behind_module, entering, leaving, module_refusal, head_refusal, named_again, items_refusal, is_own, seen_first, seen_last, modules_refusal}
use Rattle.hilti_link.specs.Seeing.{again}
use Rattle.hilti_link.specs.Versions.{version_refusal}
use Rattle.hilti_link.proofs.ModuleItems.{behind_items}

-- neither of two refuses
pub neither : (a b : Option Refusal) → option_or a b ≡ None → (a ≡ None) × (b ≡ None)
neither None b e = (refl, e)
neither (Some r) b e = cc

at_seam : {X : Type 0} (before : List X) (x : X) (after : List X) → slice_get (before ++ x ∷ after) (length before) ≡ Some x
at_seam [] x after = refl
at_seam (y ∷ before) x after = at_seam before x after

pub at_place : {X : Type 0} (all before : List X) (x : X) (after : List X) (n : ℕ) → all ≡ before ++ x ∷ after → n ≡ length before
    → slice_get all n ≡ Some x
at_place all before x after n is at = ap (λ l. slice_get l n) is ∙ ap (slice_get (before ++ x ∷ after)) at ∙ at_seam before x after

own_of : (b : Bool) (word : Word) → again (not b) word ≡ None → b ≡ true
own_of true word e = refl
own_of false word e = cc

-- an item stands at its place, in the first module of its module's name
pub record Here (modules : List Module) (s : Seen) (item : Item) : Type 0 where
  pub owner : Module
  pub modules_are : s.modules ≡ modules
  pub in_modules : slice_get modules s.file ≡ Some owner
  pub in_module : slice_get owner.items s.at ≡ Some item
  pub owner_is : s.owner ≡ owner.name.bytes
  pub here_is : s.here ≡ length (placed (take s.file modules)) + s.at
  pub first : is_own s.file (module_named modules owner.name.bytes) ≡ true

-- what holds in front of the first module, is kept by each item that isn't refused, and wherever a module begins or ends,
-- holds behind all modules
module _ (modules : List Module) (P : Seen → Type 0)
    (enter : (s : Seen) (m : Module) → P s → P (entering s m))
    (leave : (s : Seen) → P s → P (leaving s))
    (step : (s : Seen) (item : Item) → Here modules s item → item_refusal s item ≡ None → P s → P (behind_item s item)) where
  record Inside (m : Module) (before : List Item) (s : Seen) : Type 0 where
    modules_are : s.modules ≡ modules
    in_modules : slice_get modules s.file ≡ Some m
    owner_is : s.owner ≡ m.name.bytes
    at_is : s.at ≡ length before
    here_is : s.here ≡ length (placed (take s.file modules)) + length before
    first : is_own s.file (module_named modules m.name.bytes) ≡ true

  here_inside : (m : Module) (before : List Item) (item : Item) (left : List Item) (s : Seen) → m.items ≡ before ++ item ∷ left
      → Inside m before s → Here modules s item
  here_inside m before item left s is st = record {
    owner = m;
    modules_are = st.modules_are;
    in_modules = st.in_modules;
    in_module = at_place m.items before item left s.at is st.at_is;
    owner_is = st.owner_is;
    here_is = st.here_is ∙ ap (λ n. length (placed (take s.file modules)) + n) (sym st.at_is);
    first = st.first;
  }

  inside_next : (m : Module) (before : List Item) (item : Item) (s : Seen) → Inside m before s → Inside m (before ++ item ∷ []) (behind_item s item)
  inside_next m before item s st =
      let more = length_push before item in
      let at = st.at_is in
      let here = st.here_is in
      record {
        modules_are = st.modules_are;
        in_modules = st.in_modules;
        owner_is = st.owner_is;
        at_is = omega (arith, more, at);
        here_is = omega (arith, more, here);
        first = st.first;
      }

  walk_items : (m : Module) (before left : List Item) (s : Seen) → m.items ≡ before ++ left → Inside m before s → items_refusal s left ≡ None
      → P s → P (behind_all behind_item s left)
  unfolding behind_all first_in_turn
  walk_items m before [] s is st none p = p
  walk_items m before (item ∷ left) s is st none p =
      let parts = neither (item_refusal s item) (first_in_turn item_refusal behind_item (behind_item s item) left) none in
      walk_items m (before ++ item ∷ []) left (behind_item s item) (is ∙ sym (append_assoc before (item ∷ []) left)) (inside_next m before item s st)
      parts.1 (step s item (here_inside m before item left s is st) parts.0 p)

  record Between (before : List Module) (s : Seen) : Type 0 where
    modules_are : s.modules ≡ modules
    file_is : s.file ≡ length before
    here_is : s.here ≡ length (placed before)

  taken : (before left : List Module) (n : ℕ) → modules ≡ before ++ left → n ≡ length before → take n modules ≡ before
  taken before left n is at = ap (λ n. take n modules) at ∙ ap (take (length before)) is ∙ take-append_seam before left

  inside_first : (before : List Module) (m : Module) (left : List Module) (s : Seen) → modules ≡ before ++ m ∷ left → Between before s
      → named_again s m ≡ None → Inside m [] (entering s m)
  inside_first before m left s is st named = record {
    modules_are = st.modules_are;
    in_modules = at_place modules before m left s.file is st.file_is;
    owner_is = refl;
    at_is = refl;
    here_is = (let front = ap (λ l. length (placed l)) (taken before (m ∷ left) s.file is st.file_is) in let here = st.here_is in omega (arith, front, here));
    first = (ap (λ ms. is_own s.file (module_named ms m.name.bytes)) (sym st.modules_are)
        ∙ own_of (is_own s.file (module_named s.modules m.name.bytes)) m.name named);
  }

  between_next : (before : List Module) (m : Module) (s : Seen) → Between before s → Between (before ++ m ∷ []) (behind_module s m)
  between_next before m s st =
      let behind = behind_items (entering s m) m.items in
      let counted = ap length (placed-push before m) ∙ length-append (placed before) (placed_in (length before) m.items) in
      let inside = length-map {B = Placed} m.items (λ item. record { file = length before; item = item }) in
      let more = length_push before m in
      let file = st.file_is in
      let here = st.here_is in
      record {
        modules_are = behind.2 ∙ st.modules_are;
        file_is = (let same = behind.1 in omega (arith, same, more, file));
        here_is = (let same = behind.0 in omega (arith, same, counted, inside, here));
      }

  walk_modules : (before left : List Module) (s : Seen) → modules ≡ before ++ left → Between before s
      → first_in_turn module_refusal behind_module s left ≡ None → P s → P (behind_all behind_module s left)
  unfolding behind_all first_in_turn
  walk_modules before [] s is st none p = p
  walk_modules before (m ∷ left) s is st none p =
      let parts = neither (module_refusal s m) (first_in_turn module_refusal behind_module (behind_module s m) left) none in
      let own = neither (head_refusal s m) (items_refusal (entering s m) m.items) parts.0 in
      let head = neither (named_again s m) (version_refusal m.version) own.0 in
      walk_modules (before ++ m ∷ []) left (behind_module s m) (is ∙ sym (append_assoc before (m ∷ []) left)) (between_next before m s st) parts.1
      (leave (behind_all behind_item (entering s m) m.items)
      (walk_items m [] m.items (entering s m) refl (inside_first before m left s is st head.0) own.1 (enter s m p)))

  first_between : Between [] (seen_first modules)
  first_between = record { modules_are = refl; file_is = refl; here_is = sym none_placed }

  pub walked : modules_refusal modules ≡ None → P (seen_first modules) → P (seen_last modules)
  walked none p = walk_modules [] modules (seen_first modules) refl first_between none p
