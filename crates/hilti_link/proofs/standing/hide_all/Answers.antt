use Rattle.std.proofs.Common.{◌≡◌, sym, ◌∙◌, ap, subst, ℕ, ◌+◌, ◌<◌, List, [], ◌∷◌, ◌++◌, length, take, get_or, append_assoc, append-nil, length-append, length-take-le, ◌≤◌, arith, rules}
use Rattle.std.proofs.lemmas.List.{length-map, map_more, take_all}
use Rattle.hilti_module.specs.declared.module.Module.{Module}
use Rattle.hilti_module.specs.declared.module.Parameter.{Parameter}
use Rattle.hilti_scope.specs.declared.scope.Scope.{Scope}
use Rattle.hilti_scope.specs.Scopes.{Sees}
use Rattle.hilti_link.specs.TypedWords.{names_of}
use Rattle.hilti_link.proofs.standing.hide_all.Goals as goal

-- the same words
sees_as : {modules : List Module} {file here : ℕ} {words others : List (List ℕ)} {scope : Scope} → words ≡ others → Sees modules file here words scope → Sees modules file here others scope
sees_as {modules} {file} {here} {words} {others} {scope} same sees = subst (λ (words : List (List ℕ)). Sees modules file here words scope) same sees

-- the words with one more
words_more : (locals : List (List ℕ)) (words : List Parameter) (at : ℕ) (word : Parameter) (bytes : List ℕ) → at < length words → bytes ≡ (get_or words at word).name.bytes
    → (locals ++ names_of (take at words)) ++ bytes ∷ [] ≡ locals ++ names_of (take (at + 1) words)
words_more locals words at word bytes below named =
    append_assoc locals (names_of (take at words)) (bytes ∷ [])
    ∙ ap (λ (bytes : List ℕ). locals ++ (names_of (take at words) ++ bytes ∷ [])) named
    ∙ ap (λ (names : List (List ℕ)). locals ++ names) (sym (map_more (λ (p : Parameter). p.name.bytes) words at word below))

-- as many words
names_counted : (locals : List (List ℕ)) (words : List Parameter) (first at : ℕ) → first ≡ length locals → at ≤ length words
    → first + at ≡ length (locals ++ names_of (take at words))
names_counted locals words first at is within =
    omega (arith, is, length-append locals (names_of (take at words)), length-map (take at words) (λ (p : Parameter). p.name.bytes), length-take-le at words within)

pub loop-at-init : goal.loop-at-init
loop-at-init c = λ modules file here locals sees is. sees_as (sym (append-nil locals)) sees

pub loop-at-preserved : goal.loop-at-preserved
loop-at-preserved c = λ modules file here locals sees is.
    let words = c.args.words.now in
    let at = c.loop-at.at in
    let front = locals ++ names_of (take at words) in
    let item : c.index-words-at.result ≡ get_or words at c.index-words-at.result = search rules in
    sees_as (words_more locals words at c.index-words-at.result c.bytes.result.now c.loop-at-test.true (c.bytes.ensures ∙ ap (λ (p : Parameter). p.name.bytes) item))
    (c.in_ok-hide.ensures.hides modules file here front (c.loop-at.invariant modules file here locals sees is)
    (names_counted locals words c.args.first at is (omega arith)))

pub returns : goal.returns
returns c = λ modules file here locals sees is.
    sees_as (ap (λ (words : List Parameter). locals ++ names_of words) (take_all c.loop-at.at c.args.words.now (omega arith)))
    (c.loop-at.invariant modules file here locals sees is)
