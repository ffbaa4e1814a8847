-- Journals that grow: what stays a beginning, and whose entries are whose.
use Rattle.std.proofs.Common.{◌≡◌, ◌≢◌, ◌==◌, ℕ, ◌<◌, eqb, true, false, cond, List, [], ◌∷◌, ◌++◌, length, drop, refl, sym, ap, ◌∙◌, eq-eqb, ne_eqb, append_assoc, arith}
use Rattle.std.proofs.lemmas.List.{append-nil}
use Rattle.std.proofs.lemmas.List.Elements.{filter-append, All-head, All-tail}
use Rattle.std.proofs.lemmas.List.Prefix.{front_rest}
use Rattle.std.specs.List.{All}
use mathlib.Core.List.{IsPrefix}
use Rattle.hilti_turn.specs.Journal.{made_by}

module _ {E : Type 0} where
  pub prefix_self : (xs : List E) → IsPrefix xs xs
  prefix_self xs = ([], append-nil xs)

  pub prefix_longer : (xs ys more : List E) → IsPrefix xs ys → IsPrefix xs (ys ++ more)
  prefix_longer xs ys more p = (p.0 ++ more, sym (append_assoc xs p.0 more) ∙ ap (λ zs. zs ++ more) p.1)

  pub new_entries : (seen more log : List E) → log ≡ seen ++ more → drop (length seen) log ≡ more
  new_entries seen more log is = front_rest log seen more is

module _ {E : Type 0} (maker : E → ℕ) where
  -- entries of one pass are all of them its own
  pub all_own : (n : ℕ) (more : List E) → All (λ e. maker e ≡ n) more → made_by maker n more ≡ more
  all_own n [] own = refl
  all_own n (e ∷ es) own =
      let here : eqb (maker e) n ≡ true = eq-eqb (maker e) n (All-head (λ (x : E). maker x ≡ n) e es own) in
      let others = all_own n es (All-tail (λ (x : E). maker x ≡ n) e es own) in
      ap (λ b. cond b (e ∷ made_by maker n es) (made_by maker n es)) here ∙ ap (λ zs. e ∷ zs) others

  -- and none of them another's
  pub none_own : (n other : ℕ) (more : List E) → other ≢ n → All (λ e. maker e ≡ n) more → made_by maker other more ≡ []
  none_own n other [] apart own = refl
  none_own n other (e ∷ es) apart own =
      let by : maker e ≡ n = All-head (λ (x : E). maker x ≡ n) e es own in
      let here : eqb (maker e) other ≡ false = ne_eqb (maker e) other (λ same. apart (sym same ∙ by)) in
      let others = none_own n other es apart (All-tail (λ (x : E). maker x ≡ n) e es own) in
      ap (λ b. cond b (e ∷ made_by maker other es) (made_by maker other es)) here ∙ others

  pub made_by-longer : (n : ℕ) (log more : List E) → All (λ e. maker e ≡ n) more → made_by maker n (log ++ more) ≡ made_by maker n log ++ more
  made_by-longer n log more own = filter-append (λ (e : E). maker e == n) log more ∙ ap (λ zs. made_by maker n log ++ zs) (all_own n more own)

  pub made_by-other : (n other : ℕ) (log more : List E) → other ≢ n → All (λ e. maker e ≡ n) more → made_by maker other (log ++ more) ≡ made_by maker other log
  made_by-other n other log more apart own =
      filter-append (λ (e : E). maker e == other) log more ∙ (ap (λ zs. made_by maker other log ++ zs) (none_own n other more apart own) ∙ append-nil (made_by maker other log))

  -- a pass with a number above all others has no entries
  pub made_by-none : (n : ℕ) (log : List E) → All (λ e. maker e < n) log → made_by maker n log ≡ []
  made_by-none n [] below = refl
  made_by-none n (e ∷ es) below =
      let less : maker e < n = All-head (λ (x : E). maker x < n) e es below in
      let here : eqb (maker e) n ≡ false = ne_eqb (maker e) n (λ same. absurd (omega arith)) in
      let others = made_by-none n es (All-tail (λ (x : E). maker x < n) e es below) in
      ap (λ b. cond b (e ∷ made_by maker n es) (made_by maker n es)) here ∙ others
