-- Reading texts one after another: what is known of the first of them, and of the one that is refused.
use Rattle.std.proofs.Common.{◌≡◌, ℕ, suc, ◌+◌, ◌<◌, List, [], ◌∷◌, ◌++◌, length, map, get_or, take, drop, refl, sym, subst, ap, ◌∙◌, arith}
use Rattle.std.proofs.Math.Seq.{split_at}
use Rattle.std.proofs.lemmas.List.{take_more, map-append}
use Rattle.std.specs.List.{AllByRecursion}
use Rattle.hilti_base.specs.declared.names.Place.{Place}
use Rattle.hilti_module.specs.declared.module.Module.{Module}
use Rattle.hilti_syntax.specs.Texts.{TextIsModule, TextRefused}
use Rattle.hilti_top.specs.ModuleTexts.{AreFrom, AreModules, IsShort, IsTooLong, IsUnread, start_of}

are_push : (file place : ℕ) (texts : List (List ℕ)) (modules : List Module) (text : List ℕ) (m : Module) → place ≡ file + length texts
    → AreFrom file texts modules → TextIsModule place text m → AreFrom file (texts ++ text ∷ []) (modules ++ m ∷ [])
unfolding AreFrom
are_push file place [] [] text m at are is =
    let here : place ≡ file = omega (arith, at) in (subst (λ n. TextIsModule n text m) here is, tt)
are_push file place [] (other ∷ modules) text m at are is = absurd are
are_push file place (other ∷ texts) [] text m at are is = absurd are
are_push file place (other ∷ texts) (n ∷ modules) text m at are is =
    let there : place ≡ suc file + length texts = omega (arith, at) in (are.0, are_push (suc file) place texts modules text m there are.1 is)

are_long : (file : ℕ) (texts : List (List ℕ)) (modules : List Module) → AreFrom file texts modules → length modules ≡ length texts
unfolding AreFrom
are_long file [] [] are = refl
are_long file [] (m ∷ modules) are = absurd are
are_long file (text ∷ texts) [] are = absurd are
are_long file (text ∷ texts) (m ∷ modules) are = ap (λ n. suc n) (are_long (suc file) texts modules are.1)

pub are_none : AreModules [] []
unfolding AreFrom
are_none = tt

pub are_more : (texts : List (List ℕ)) (modules : List Module) (i file : ℕ) (text : List ℕ) (m : Module) → i < length texts → text ≡ get_or texts i text
    → file ≡ length modules → AreModules (take i texts) modules → TextIsModule file text m → AreModules (take (i + 1) texts) (modules ++ m ∷ [])
are_more texts modules i file text m within at is are reads =
    let counted : file ≡ 0 + length (take i texts) = omega (arith, is, are_long 0 (take i texts) modules are) in
    subst (λ front. AreModules front (modules ++ m ∷ [])) (sym (take_more texts i text within ∙ ap (λ item. take i texts ++ item ∷ []) (sym at)))
    (are_push 0 file (take i texts) modules text m counted are reads)

pub unread_at : (texts : List (List ℕ)) (modules : List Module) (i file : ℕ) (text : List ℕ) (place : Place) (code : ℕ) → i < length texts → text ≡ get_or texts i text
    → file ≡ length modules → AreModules (take i texts) modules → TextRefused file text code place → IsUnread texts place code
unread_at texts modules i file text place code within at is are refused =
    let counted : file ≡ length (take i texts) = is ∙ are_long 0 (take i texts) modules are in
    record {
      before = take i texts;
      text = text;
      after = drop (suc i) texts;
      modules = modules;
      split = split_at texts i text within ∙ ap (λ item. take i texts ++ item ∷ drop (suc i) texts) (sym at);
      are = are;
      refused = subst (λ n. TextRefused n text code place) counted refused;
    }

pub too_long_at : (content : List ℕ → List ℕ) (names texts : List (List ℕ)) (i file : ℕ) (name : List ℕ) (place : Place) (code : ℕ) → i < length names
    → name ≡ get_or names i name → file ≡ length texts → texts ≡ map content (take i names) → AllByRecursion IsShort texts
    → place ≡ start_of file → code ≡ 50 → 1048576 < length (content name) → IsTooLong (map content names) place code
too_long_at content names texts i file name place code within at is read short place_is code_is long = record {
  before = texts;
  text = content name;
  after = map content (drop (suc i) names);
  split = ap (map content) (split_at names i name within) ∙ map-append content (take i names) (get_or names i name ∷ drop (suc i) names)
      ∙ ap (λ front. front ++ content (get_or names i name) ∷ map content (drop (suc i) names)) (sym read)
      ∙ ap (λ item. texts ++ content item ∷ map content (drop (suc i) names)) (sym at);
  short = short;
  long = long;
  place_is = place_is ∙ ap start_of is;
  code_is = code_is;
}

-- the text at a place among texts that are modules is one
pub are_at : (file place : ℕ) (before : List (List ℕ)) (text : List ℕ) (after : List (List ℕ)) (modules : List Module) → place ≡ file + length before
    → AreFrom file (before ++ text ∷ after) modules → (m : Module) × TextIsModule place text m
unfolding AreFrom
are_at file place [] text after [] at are = absurd are
are_at file place [] text after (m ∷ modules) at are =
    let here : file ≡ place = omega (arith, at) in (m, subst (λ n. TextIsModule n text m) here are.0)
are_at file place (other ∷ before) text after [] at are = absurd are
are_at file place (other ∷ before) text after (n ∷ modules) at are =
    let there : place ≡ suc file + length before = omega (arith, at) in are_at (suc file) place before text after modules there are.1
