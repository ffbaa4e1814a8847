-- Pairs by rising keys, each with its stamp, and a count of the changes.
use Rattle.std.specs.Prelude.{ℕ, List, refl}
use Rattle.std.specs.Coded.{Coded, code_by, coded×, coded_ℕ, coded_list}

-- the entries, each a key with its value and its stamp, and how many changes there were
pub record Store (K V : Type 0) : Type 0 where
  pub entries : List (K × (V × ℕ))
  pub version : ℕ

-- it is stored as the pair of the two
abbrev pub store_code : {K V : Type 0} → Coded K → Coded V → Coded (Store K V)
store_code {K} {V} key value =
    code_by (List (K × (V × ℕ)) × ℕ)
    (coded× (coded_list (coded× key (coded× value coded_ℕ))) coded_ℕ)
    (λ store. (store.entries, store.version))
    (λ pair. record { entries = pair.0; version = pair.1 }) (λ _. refl)

-- an entry's key and value
abbrev pub pair_of : {K V : Type 0} → K × (V × ℕ) → K × V
pair_of entry = (entry.0, entry.1.0)
