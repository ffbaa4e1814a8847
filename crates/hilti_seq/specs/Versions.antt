-- A list that counts its changes.
use Rattle.std.specs.Prelude.{ℕ, List, refl}
use Rattle.std.specs.Coded.{Coded, code_by, coded×, coded_ℕ, coded_list}

-- the items in order, and how many changes there were
pub record Versioned (T : Type 0) : Type 0 where
  pub items : List T
  pub version : ℕ

-- it is stored as the pair of the two
abbrev pub versioned_code : {T : Type 0} → Coded T → Coded (Versioned T)
versioned_code {T} item =
    code_by (List T × ℕ) (coded× (coded_list item) coded_ℕ) (λ seq. (seq.items, seq.version))
    (λ pair. record { items = pair.0; version = pair.1 }) (λ _. refl)
