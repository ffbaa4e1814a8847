-- The longest run of zero groups.
use Rattle.std.proofs.Common.{◌≡◌, ℕ, ◌<◌, List, refl, sym, subst, arith, inl, inr, lt-ltb, le-ltb}
use Rattle.std.proofs.lemmas.Bool.{cases_lt}
use Rattle.std.proofs.NetLemmas.Texts.{IsZeroRun-longest_zero_run, longest_zero_run_first}
use Rattle.std.specs.Net.Text.{hex_groups_text, longest_zero_run}
use Rattle.hilti_print.specs.Addresses.{IsGroupsText, IsLongestRun, IsZeroRun, shortened, whole}

pub stands : (groups : List ℕ) → IsLongestRun groups (longest_zero_run groups).0 (longest_zero_run groups).1
stands groups =
    let run = IsZeroRun-longest_zero_run groups in
    record {
      run = record { within = run.0; zeros = run.1 };
      longest = λ other many is. (longest_zero_run_first groups other many (is.within, is.zeros)).0;
      first = λ other is. (longest_zero_run_first groups other _ (is.within, is.zeros)).1 refl;
    }

pub one : (groups : List ℕ) (start count start' count' : ℕ) → IsLongestRun groups start count
    → IsLongestRun groups start' count' → (start ≡ start') × (count ≡ count')
one groups start count start' count' is is' =
    let most = is.longest start' count' is'.run in
    let least = is'.longest start count is.run in
    let same : count ≡ count' = omega (arith, most, least) in
    let before = is.first start' (subst (IsZeroRun groups start') (sym same) is'.run) in
    let behind = is'.first start (subst (IsZeroRun groups start) same is.run) in
    (omega (arith, before, behind), same)

pub shown : (groups : List ℕ) → IsGroupsText groups (hex_groups_text groups)
unfolding hex_groups_text
shown groups =
    let start = (longest_zero_run groups).0 in
    let count = (longest_zero_run groups).1 in
    let is = stands groups in
    elim (cases_lt 1 count) [
      | inl long ↦ rw (lt-ltb 1 count long) (shortened start count is (omega (arith, long)) refl)
      | inr short ↦ rw (le-ltb 1 count short)
          (whole (λ other many run. let most = is.longest other many run in omega (arith, most, short)) refl)
    ]
