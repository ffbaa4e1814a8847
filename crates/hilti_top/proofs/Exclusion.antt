-- Texts have one answer: what excludes what, and that each is one.
use Rattle.std.proofs.Common.{◌≡◌, ℕ, suc, ◌+◌, ◌<◌, List, [], ◌∷◌, ◌++◌, length, drop, refl, sym, ◌∙◌, ap, subst, arith}
use Rattle.std.specs.List.{AllByRecursion}
use Rattle.hilti_base.specs.declared.names.Place.{Place}
use Rattle.hilti_module.specs.declared.module.Module.{Module}
use Rattle.hilti_syntax.specs.Texts.{TextRefused}
use Rattle.hilti_link.specs.Refusals.{first_refusal}
use Rattle.hilti_parts.specs.declared.parts.Parts.{Parts}
use Rattle.hilti_check.specs.Checking.{checked}
use Rattle.hilti_reading.specs.OneModule.{OneModule}
use Rattle.hilti_reading.specs.Refusals.{NeverBoth, OneRefusal}
use Rattle.hilti_top.specs.ModuleTexts.{AreFrom, AreModules, IsAccepted, IsRefused, IsRefused.Length, IsRefused.Reading, IsRefused.Linking, IsRefused.Checking, IsShort, IsTooLong, IsUnchecked, IsUnlinked, IsUnread, start_of}
use Rattle.hilti_top.proofs.Reading.{are_at}
use Rattle.hilti_top.proofs.Zips.{all_at}

-- the same place and code
abbrev pub AreSame : Place → Place → ℕ → ℕ → Type 0
AreSame place elsewhere code other = (place ≡ elsewhere) × (code ≡ other)

pub not_unread : NeverBoth → (texts : List (List ℕ)) (modules : List Module) (place : Place) (code : ℕ)
    → AreModules texts modules → IsUnread texts place code → ⊥
not_unread never_both texts modules place code are unread =
    let found = are_at 0 (length unread.before) unread.before unread.text unread.after modules (omega arith) (subst (λ all. AreModules all modules) unread.split are) in
    never_both (length unread.before) unread.text found.0 code place found.1 unread.refused

pub not_long : (texts : List (List ℕ)) (place : Place) (code : ℕ) → AllByRecursion IsShort texts → IsTooLong texts place code → ⊥
not_long texts place code short long =
    let within : IsShort long.text = all_at IsShort long.before long.text long.after (subst (AllByRecursion IsShort) long.split short) in
    omega (arith, within, long.long)

-- texts are one list of modules
one_modules : OneModule → (file : ℕ) (texts : List (List ℕ)) (ms ns : List Module) → AreFrom file texts ms → AreFrom file texts ns → ms ≡ ns
unfolding AreFrom
one_modules one_module file [] [] [] are also = refl
one_modules one_module file [] [] (n ∷ ns) are also = absurd also
one_modules one_module file [] (m ∷ ms) ns are also = absurd are
one_modules one_module file (text ∷ texts) [] ns are also = absurd are
one_modules one_module file (text ∷ texts) (m ∷ ms) [] are also = absurd also
one_modules one_module file (text ∷ texts) (m ∷ ms) (n ∷ ns) are also =
    ap (λ first. first ∷ ms) (one_module file text m n are.0 also.0) ∙ ap (λ rest. n ∷ rest) (one_modules one_module (suc file) texts ms ns are.1 also.1)

-- the first text that is too long is one
first_long : (before after others behind : List (List ℕ)) (text another : List ℕ) → before ++ text ∷ after ≡ others ++ another ∷ behind
    → AllByRecursion IsShort before → 1048576 < length text → AllByRecursion IsShort others → 1048576 < length another → length before ≡ length others
first_long [] after [] behind text another same short long also far = refl
first_long [] after (other ∷ others) behind text another same short long also far =
    let here : text ≡ other = cc in omega (arith, long, also.0, ap length here)
first_long (first ∷ before) after [] behind text another same short long also far =
    let here : first ≡ another = cc in omega (arith, far, short.0, ap length here)
first_long (first ∷ before) after (other ∷ others) behind text another same short long also far =
    ap (λ n. suc n) (first_long before after others behind text another (ap (drop 1) same) short.1 long also.1 far)

one_long : (texts : List (List ℕ)) (place elsewhere : Place) (code other : ℕ) → IsTooLong texts place code → IsTooLong texts elsewhere other → AreSame place elsewhere code other
one_long texts place elsewhere code other long far =
    let count = first_long long.before long.after far.before far.after long.text far.text (sym long.split ∙ far.split) long.short long.long far.short far.long in
    (long.place_is ∙ ap start_of count ∙ sym far.place_is, long.code_is ∙ sym far.code_is)

-- the first text that is refused is one, and so are its place and code
first_unread : NeverBoth → OneRefusal → (file : ℕ) (before after others behind : List (List ℕ)) (text another : List ℕ) (ms ns : List Module)
    (place elsewhere : Place) (code other : ℕ) → before ++ text ∷ after ≡ others ++ another ∷ behind
    → AreFrom file before ms → TextRefused (file + length before) text code place
    → AreFrom file others ns → TextRefused (file + length others) another other elsewhere → AreSame place elsewhere code other
unfolding AreFrom
first_unread never_both one_refusal file [] after [] behind text another ms ns place elsewhere code other same are refused also fails =
    let here : text ≡ another = cc in
    let one = one_refusal (file + 0) text code other place elsewhere refused (subst (λ t. TextRefused (file + 0) t other elsewhere) (sym here) fails) in
    (one.1, one.0)
first_unread never_both one_refusal file [] after (first ∷ others) behind text another ms [] place elsewhere code other same are refused also fails = absurd also
first_unread never_both one_refusal file [] after (first ∷ others) behind text another ms (n ∷ ns) place elsewhere code other same are refused also fails =
    let here : text ≡ first = cc in
    let at : file + 0 ≡ file = omega arith in
    absurd (never_both file first n code place also.0 (subst (λ k. TextRefused k first code place) at (subst (λ t. TextRefused (file + 0) t code place) here refused)))
first_unread never_both one_refusal file (first ∷ before) after [] behind text another [] ns place elsewhere code other same are refused also fails = absurd are
first_unread never_both one_refusal file (first ∷ before) after [] behind text another (m ∷ ms) ns place elsewhere code other same are refused also fails =
    let here : another ≡ first = cc in
    let at : file + 0 ≡ file = omega arith in
    absurd (never_both file first m other elsewhere are.0 (subst (λ k. TextRefused k first other elsewhere) at (subst (λ t. TextRefused (file + 0) t other elsewhere) here fails)))
first_unread never_both one_refusal file (first ∷ before) after (head ∷ others) behind text another [] ns place elsewhere code other same are refused also fails = absurd are
first_unread never_both one_refusal file (first ∷ before) after (head ∷ others) behind text another (m ∷ ms) [] place elsewhere code other same are refused also fails = absurd also
first_unread never_both one_refusal file (first ∷ before) after (head ∷ others) behind text another (m ∷ ms) (n ∷ ns) place elsewhere code other same are refused also fails =
    let here : file + length (first ∷ before) ≡ suc file + length before = omega arith in
    let there : file + length (head ∷ others) ≡ suc file + length others = omega arith in
    first_unread never_both one_refusal (suc file) before after others behind text another ms ns place elsewhere code other (ap (drop 1) same)
    are.1 (subst (λ k. TextRefused k text code place) here refused) also.1 (subst (λ k. TextRefused k another other elsewhere) there fails)

one_unread : NeverBoth → OneRefusal → (texts : List (List ℕ)) (place elsewhere : Place) (code other : ℕ)
    → IsUnread texts place code → IsUnread texts elsewhere other → AreSame place elsewhere code other
one_unread never_both one_refusal texts place elsewhere code other unread also =
    let here : length unread.before ≡ 0 + length unread.before = omega arith in
    let there : length also.before ≡ 0 + length also.before = omega arith in
    first_unread never_both one_refusal 0 unread.before unread.after also.before also.after unread.text also.text unread.modules also.modules
    place elsewhere code other (sym unread.split ∙ also.split)
    unread.are (subst (λ k. TextRefused k unread.text code place) here unread.refused)
    also.are (subst (λ k. TextRefused k also.text other elsewhere) there also.refused)

one_unlinked : OneModule → (texts : List (List ℕ)) (place elsewhere : Place) (code other : ℕ)
    → IsUnlinked texts place code → IsUnlinked texts elsewhere other → AreSame place elsewhere code other
one_unlinked one_module texts place elsewhere code other refused also =
    let same = ap first_refusal (one_modules one_module 0 texts refused.modules also.modules refused.are also.are) in
    let told = sym refused.refused ∙ same ∙ also.refused in (cc, cc)

one_unchecked : OneModule → (texts : List (List ℕ)) (place elsewhere : Place) (code other : ℕ)
    → IsUnchecked texts place code → IsUnchecked texts elsewhere other → AreSame place elsewhere code other
one_unchecked one_module texts place elsewhere code other refused also =
    let same = ap checked (one_modules one_module 0 texts refused.modules also.modules refused.are also.are) in
    let told = sym refused.refused ∙ same ∙ also.refused in (cc, cc)

linked_or_not : OneModule → (texts : List (List ℕ)) (place elsewhere : Place) (code other : ℕ)
    → IsUnlinked texts place code → IsUnchecked texts elsewhere other → ⊥
linked_or_not one_module texts place elsewhere code other refused also =
    let same = ap first_refusal (one_modules one_module 0 texts refused.modules also.modules refused.are also.are) in
    cc (also.link, same, refused.refused)

pub one_refused : NeverBoth → OneRefusal → OneModule → (texts : List (List ℕ)) (place elsewhere : Place) (code other : ℕ)
    → IsRefused texts place code → IsRefused texts elsewhere other → AreSame place elsewhere code other
one_refused never_both one_refusal one_module texts place elsewhere code other (Length long) (Length far) = one_long texts place elsewhere code other long far
one_refused never_both one_refusal one_module texts place elsewhere code other (Length long) (Reading short also) = absurd (not_long texts place code short long)
one_refused never_both one_refusal one_module texts place elsewhere code other (Length long) (Linking short also) = absurd (not_long texts place code short long)
one_refused never_both one_refusal one_module texts place elsewhere code other (Length long) (Checking short also) = absurd (not_long texts place code short long)
one_refused never_both one_refusal one_module texts place elsewhere code other (Reading short unread) (Length far) = absurd (not_long texts elsewhere other short far)
one_refused never_both one_refusal one_module texts place elsewhere code other (Reading short unread) (Reading _ also) =
    one_unread never_both one_refusal texts place elsewhere code other unread also
one_refused never_both one_refusal one_module texts place elsewhere code other (Reading short unread) (Linking _ also) =
    absurd (not_unread never_both texts also.modules place code also.are unread)
one_refused never_both one_refusal one_module texts place elsewhere code other (Reading short unread) (Checking _ also) =
    absurd (not_unread never_both texts also.modules place code also.are unread)
one_refused never_both one_refusal one_module texts place elsewhere code other (Linking short refused) (Length far) = absurd (not_long texts elsewhere other short far)
one_refused never_both one_refusal one_module texts place elsewhere code other (Linking short refused) (Reading _ also) =
    absurd (not_unread never_both texts refused.modules elsewhere other refused.are also)
one_refused never_both one_refusal one_module texts place elsewhere code other (Linking short refused) (Linking _ also) =
    one_unlinked one_module texts place elsewhere code other refused also
one_refused never_both one_refusal one_module texts place elsewhere code other (Linking short refused) (Checking _ also) =
    absurd (linked_or_not one_module texts place elsewhere code other refused also)
one_refused never_both one_refusal one_module texts place elsewhere code other (Checking short refused) (Length far) = absurd (not_long texts elsewhere other short far)
one_refused never_both one_refusal one_module texts place elsewhere code other (Checking short refused) (Reading _ also) =
    absurd (not_unread never_both texts refused.modules elsewhere other refused.are also)
one_refused never_both one_refusal one_module texts place elsewhere code other (Checking short refused) (Linking _ also) =
    absurd (linked_or_not one_module texts elsewhere place other code also refused)
one_refused never_both one_refusal one_module texts place elsewhere code other (Checking short refused) (Checking _ also) =
    one_unchecked one_module texts place elsewhere code other refused also

pub never_both : NeverBoth → OneModule → (texts : List (List ℕ)) (parts : Parts) (place : Place) (code : ℕ) → IsAccepted texts parts → IsRefused texts place code → ⊥
never_both never one_module texts parts place code is (Length long) = not_long texts place code is.short long
never_both never one_module texts parts place code is (Reading short unread) = not_unread never texts is.modules place code is.are unread
never_both never one_module texts parts place code is (Linking short refused) =
    let same = ap first_refusal (one_modules one_module 0 texts is.modules refused.modules is.are refused.are) in
    cc (is.link, same, refused.refused)
never_both never one_module texts parts place code is (Checking short refused) =
    let same = ap checked (one_modules one_module 0 texts is.modules refused.modules is.are refused.are) in
    cc (is.checked, same, refused.refused)

pub one_program : OneModule → (texts : List (List ℕ)) (parts others : Parts) → IsAccepted texts parts → IsAccepted texts others → parts ≡ others
one_program one_module texts parts others is also =
    let same = ap checked (one_modules one_module 0 texts is.modules also.modules is.are also.are) in
    let told = sym is.checked ∙ same ∙ also.checked in cc
