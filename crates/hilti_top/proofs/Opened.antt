-- Files that are opened one after another.
use Rattle.std.proofs.Common.{◌≡◌, ℕ, suc, ◌+◌, ◌<◌, ◌≤◌, List, [], ◌∷◌, ◌++◌, length, map, take, drop, get_or, Option, Some, None, inl, sym, ◌∙◌, ap, subst, arith, append_assoc, length-append}
use Rattle.std.specs.List.{AllByRecursion}
use Rattle.std.proofs.Math.Seq.{split_at}
use Rattle.std.proofs.lemmas.List.{append-nil, take_more}
use Rattle.hilti_base.specs.declared.names.Place.{Place}
use Rattle.hilti_outside.specs.Contents.{FileMap, Grows, WhereTold, content}
use Rattle.hilti_outside.proofs.Pieces.{grows_more}
use Rattle.hilti_top.specs.ModuleTexts.{IsShort, start_of}
use Rattle.hilti_top.specs.Opening.{Names, OpensFront, OpensRefused, OpensSome, OpensUntil, OpensWhole}
use Rattle.hilti_words.specs.Words.{Asked, Asked.Check, Asked.One, Asks, IsAsked, captures_in, files_in, modules_in}

push_some : (front : List (List ℕ)) (name : List ℕ) → front ++ name ∷ [] ≡ [] → ⊥
push_some [] name is = cc
push_some (first ∷ front) name is = cc

pub opens_none : (known : Names) → Grows known known []
opens_none None = tt
opens_none (Some known) = sym (append-nil known)

-- one more name is opened
pub opens_more : (before now after : Names) (names : List (List ℕ)) (i : ℕ) (name : List ℕ)
    → i < length names → name ≡ get_or names i name
    → Grows before now (take i names) → Grows now after (name ∷ []) → Grows before after (take (i + 1) names)
opens_more before now after names i name within at front more =
    let one : take (i + 1) names ≡ take i names ++ name ∷ [] =
    take_more names i name within ∙ ap (λ item. take i names ++ item ∷ []) (sym at) in
    subst (λ opened. Grows before after opened) (sym one)
    (grows_more before now after (take i names) (name ∷ []) front more)

-- it is the last of a front
pub front_at : (before now after : Names) (names : List (List ℕ)) (i : ℕ) (name : List ℕ)
    → i < length names → name ≡ get_or names i name
    → Grows before now (take i names) → Grows now after (name ∷ []) → OpensFront before after names
front_at before now after names i name within at front more = record {
  front = take i names ++ name ∷ [];
  back = drop (suc i) names;
  split = split_at names i name within ∙ ap (λ item. take i names ++ item ∷ drop (suc i) names) (sym at)
      ∙ sym (append_assoc (take i names) (name ∷ []) (drop (suc i) names));
  some = push_some (take i names) name;
  opened = grows_more before now after (take i names) (name ∷ []) front more;
}

-- it is the one that is too long
pub until_at : (before now after : Names) (names : List (List ℕ)) (i file : ℕ) (name : List ℕ) (place : Place) (code : ℕ)
    → i < length names → name ≡ get_or names i name → file ≡ i → place ≡ start_of file → code ≡ 50
    → Grows before now (take i names) → Grows now after (name ∷ []) → OpensUntil before after names place code
until_at before now after names i file name place code within at counted place_is code_is front more =
    let here : place.file ≡ file = ap (λ p. p.file) place_is in
    let next : i + 1 ≡ suc place.file = omega (arith, here, counted) in
    record {
      code_is = code_is;
      opened = subst (λ n. Grows before after (take n names)) next
          (opens_more before now after names i name within at front more);
    }

-- names that are all opened are a front of them
pub whole_front : (before after : Names) (names : List (List ℕ))
    → 1 ≤ length names → Grows before after names → OpensFront before after names
whole_front before after names many opened = record {
  front = names;
  back = [];
  split = sym (append-nil names);
  some = λ none. omega (arith, many, ap length none);
  opened = opened;
}

-- a command has 1 to 16 modules
pub some_modules : (words : List (List ℕ)) (asked : Asked) → IsAsked words asked → 1 ≤ length (modules_in asked)
some_modules words (Check modules) is = is.modules_named.some
some_modules words (One limits capture modules) is = is.modules_named.some

pub few_modules : (words : List (List ℕ)) (asked : Asked) → IsAsked words asked → length (modules_in asked) ≤ 16
few_modules words (Check modules) is = is.modules_named.few
few_modules words (One limits capture modules) is = is.modules_named.few

-- the modules and the capture
grows_whole : (before between after : Names) (asked : Asked) (modules : List (List ℕ)) → modules ≡ modules_in asked
    → Grows before between modules → Grows between after (captures_in asked) → Grows before after (files_in asked)
grows_whole before between after asked modules named front last =
    grows_more before between after (modules_in asked) (captures_in asked)
    (subst (λ names. Grows before between names) named front) last

pub all_opened : (before between after : Names) (words : List (List ℕ)) (asked : Asked) (modules : List (List ℕ))
    → IsAsked words asked → modules ≡ modules_in asked → Grows before between modules → Grows between after (captures_in asked)
    → OpensWhole words before after
all_opened before between after words asked modules is named front last = record {
  asked = asked;
  is = is;
  holds = grows_whole before between after asked modules named front last;
}

pub all_front : (before between after : Names) (words : List (List ℕ)) (asked : Asked) (modules : List (List ℕ))
    → IsAsked words asked → modules ≡ modules_in asked → Grows before between modules → Grows between after (captures_in asked)
    → OpensSome words before after
all_front before between after words asked modules is named front last =
    let many : 1 ≤ length (files_in asked) =
    omega (arith, some_modules words asked is, length-append (modules_in asked) (captures_in asked)) in record {
      asked = asked;
      is = is;
      holds = whole_front before after (files_in asked) many (grows_whole before between after asked modules named front last);
    }

-- a front of the modules is one of all files
front_of_all : (before after : Names) (asked : Asked) → OpensFront before after (modules_in asked)
    → OpensFront before after (files_in asked)
front_of_all before after asked some = record {
  front = some.front;
  back = some.back ++ captures_in asked;
  split = ap (λ names. names ++ captures_in asked) some.split ∙ append_assoc some.front some.back (captures_in asked);
  some = some.some;
  opened = some.opened;
}

pub front_opened : (before after : Names) (words : List (List ℕ)) (asked : Asked) (modules : List (List ℕ))
    → IsAsked words asked → modules ≡ modules_in asked → OpensFront before after modules → OpensSome words before after
front_opened before after words asked modules is named some = record {
  asked = asked;
  is = is;
  holds = front_of_all before after asked (subst (λ names. OpensFront before after names) named some);
}

-- modules that are refused behind their opening
pub refused_behind : (files : Option FileMap) (before after : Names) (names texts : List (List ℕ)) (place : Place) (code : ℕ)
    → Grows before after names → WhereTold files (λ all. texts ≡ map (content all) names) → AllByRecursion IsShort texts
    → OpensRefused files before after names place code
refused_behind files before after names texts place code opened told short = inl (record {
  short = λ all is. subst (λ contents. AllByRecursion IsShort contents) (told all is) short;
  opened = opened;
})

pub refused_opened : (files : Option FileMap) (before after : Names) (words : List (List ℕ)) (asked : Asked) (modules : List (List ℕ))
    (place : Place) (code : ℕ) → IsAsked words asked → modules ≡ modules_in asked → OpensRefused files before after modules place code
    → Asks words (λ asked. OpensRefused files before after (modules_in asked) place code)
refused_opened files before after words asked modules place code is named opened = record {
  asked = asked;
  is = is;
  holds = subst (λ names. OpensRefused files before after names place code) named opened;
}
