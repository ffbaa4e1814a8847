-- Which files a command opens: those of its modules in word order, and then that of its capture.
use Rattle.std.specs.Prelude.{◌≡◌, ◌≢◌, ℕ, suc, List, [], ◌++◌, ◌⊎◌, map, take, Option}
use Rattle.std.specs.List.{AllByRecursion}
use Rattle.hilti_base.specs.declared.names.Place.{Place}
use Rattle.hilti_outside.specs.Contents.{FileMap, Grows, WhereTold, content}
use Rattle.hilti_top.specs.declared.status.Status.{Status}
use Rattle.hilti_top.specs.declared.status.Status.TheVariants as status
use Rattle.hilti_top.specs.ModuleTexts.{IsShort}
use Rattle.hilti_words.specs.Words.{Asks, files_in, modules_in}

-- the names that were opened, where they are told
abbrev pub Names : Type 0
Names = Option (List (List ℕ))

-- a front of the names was opened, and at least one
pub record OpensFront (before after : Names) (names : List (List ℕ)) : Type 0 where
  pub front : List (List ℕ)
  pub back : List (List ℕ)
  pub split : names ≡ front ++ back
  pub some : front ≢ []
  pub opened : Grows before after front

-- a module that is too long was the last to be opened
pub record OpensUntil (before after : Names) (modules : List (List ℕ)) (place : Place) (code : ℕ)
    : Type 0 where
  pub code_is : code ≡ 50
  pub opened : Grows before after (take (suc place.file) modules)

-- all modules were opened, and none is too long, where the files are told
pub record OpensAll (files : Option FileMap) (before after : Names) (modules : List (List ℕ))
    : Type 0 where
  pub short : WhereTold files (λ all. AllByRecursion IsShort (map (content all) modules))
  pub opened : Grows before after modules

-- modules that are refused were all opened, or else the first of them that is too long was the last
abbrev pub OpensRefused
    : Option FileMap → Names → Names → List (List ℕ) → Place → ℕ → Type 0
OpensRefused files before after modules place code =
    OpensAll files before after modules ⊎ OpensUntil before after modules place code

-- all files of a command were opened
abbrev pub OpensWhole : List (List ℕ) → Names → Names → Type 0
OpensWhole words before after = Asks words (λ asked. Grows before after (files_in asked))

-- a front of the files of a command was opened
abbrev pub OpensSome : List (List ℕ) → Names → Names → Type 0
OpensSome words before after = Asks words (λ asked. OpensFront before after (files_in asked))

-- nothing was opened, or a front of the files of a command
abbrev pub OpensNoneOrSome : List (List ℕ) → Names → Names → Type 0
OpensNoneOrSome words before after = (after ≡ before) ⊎ OpensSome words before after

-- what was opened, by the answer
abbrev pub OpensFor : Status → List (List ℕ) → Option FileMap → Names → Names → Type 0
OpensFor status.Usage words files before after = after ≡ before
OpensFor (status.BadModule place code) words files before after =
    Asks words (λ asked. OpensRefused files before after (modules_in asked) place code)
OpensFor (status.BadCapture at code) words files before after = OpensWhole words before after
OpensFor status.Done words files before after = OpensWhole words before after
OpensFor status.CallLimit words files before after = OpensWhole words before after
OpensFor (status.CaptureCut at) words files before after = OpensWhole words before after
OpensFor status.WriteFault words files before after = OpensWhole words before after
OpensFor status.ReadFault words files before after = OpensSome words before after
OpensFor status.NoMemory words files before after = OpensNoneOrSome words before after
