-- Words ask for one thing.
use Rattle.std.proofs.Common.{◌≡◌, ℕ, List, [], ◌∷◌, drop, sym, ap, ◌∙◌, subst}
use Rattle.std.specs.Coded.{le_prop}
use Rattle.hilti_base.specs.Ranges.{AreInRange}
use Rattle.hilti_base.specs.declared.limits.Limits.{Limits}
use Rattle.hilti_words.specs.declared.setting.Setting.TheVariants.{Fuel, Calls}
use Rattle.hilti_words.specs.Options.{Piece, IsGiven, positions_in, values_in}
use Rattle.hilti_words.specs.Words.{Asked, Asked.Check, Asked.One, GiveLimits, IsAsked}
use Rattle.hilti_words.proofs.Pieces.{one_cut}

one_given : (values : List (List ℕ)) (default n m : ℕ) → IsGiven values default n → IsGiven values default m → n ≡ m
one_given [] default n m is also = is ∙ sym also
one_given (value ∷ []) default n m is also = is ∙ sym also
one_given (value ∷ other ∷ more) default n m is also = absurd is

-- limits are their three numbers
abbrev made : (fuel calls workers : ℕ) → AreInRange fuel calls workers → Limits
made fuel calls workers range = record { fuel = fuel; calls = calls; workers = workers; in_range = range }

one_range : (fuel calls workers : ℕ) → IsProp (AreInRange fuel calls workers)
one_range fuel calls workers = hlevel le_prop

same_made : (fuel calls workers fuel' calls' workers' : ℕ) (range : AreInRange fuel calls workers) (range' : AreInRange fuel' calls' workers')
    → fuel ≡ fuel' → calls ≡ calls' → workers ≡ workers' → made fuel calls workers range ≡ made fuel' calls' workers' range'
same_made fuel calls workers fuel' calls' workers' range range' f c w =
    subst (λ x. (other : AreInRange x calls' workers') → made fuel calls workers range ≡ made x calls' workers' other) f
    (subst (λ y. (other : AreInRange fuel y workers') → made fuel calls workers range ≡ made fuel y workers' other) c
    (subst (λ z. (other : AreInRange fuel calls z) → made fuel calls workers range ≡ made fuel calls z other) w
    (λ other. ap (made fuel calls workers) (one_range fuel calls workers range other)))) range'

same_limits : (a b : Limits) → a.fuel ≡ b.fuel → a.calls ≡ b.calls → a.workers ≡ b.workers → a ≡ b
same_limits a b fuel calls workers =
    same_made a.fuel a.calls a.workers b.fuel b.calls b.workers a.in_range b.in_range fuel calls workers

one_limits : (pieces : List Piece) (a b : Limits) → GiveLimits pieces a → GiveLimits pieces b → a ≡ b
one_limits pieces a b is also =
    same_limits a b (one_given (values_in Fuel pieces) 1000000 a.fuel b.fuel is.fuel also.fuel)
    (one_given (values_in Calls pieces) 1000000 a.calls b.calls is.calls also.calls) (is.workers ∙ sym also.workers)

pub one_command : (words : List (List ℕ)) (asked other : Asked) → IsAsked words asked → IsAsked words other → asked ≡ other
one_command words (Check modules) (Check others) is also = ap Check (ap (drop 1) (sym is.words_are ∙ also.words_are))
one_command words (Check modules) (One limits capture others) is also = absurd cc (is.words_are, also.words_are)
one_command words (One limits capture modules) (Check others) is also = absurd cc (is.words_are, also.words_are)
one_command words (One limits capture modules) (One allowed another others) is also =
    let same : is.pieces ≡ also.pieces = one_cut is.pieces also.pieces is.good also.good (ap (drop 1) (sym is.words_are ∙ also.words_are)) in
    let limited : limits ≡ allowed = one_limits is.pieces limits allowed is.given (subst (λ pieces. GiveLimits pieces allowed) (sym same) also.given) in
    let files : capture ∷ modules ≡ another ∷ others = sym is.positions ∙ ap positions_in same ∙ also.positions in
    cc (limited, files)
