-- What a feed is made with.
use Rattle.std.specs.Prelude.{◌≡◌, ℕ, zero, suc, List, Option, refl}
use Rattle.std.specs.FinMap as map
use Rattle.std.specs.Coded.{Coded, code_by, coded×, coded_ℕ, coded_option}
use Rattle.hilti_outside.specs.Fakes.{bytes_code}
use Rattle.hilti_base.specs.declared.names.FnId.{FnId}
use Rattle.hilti_outside.specs.Contents.{FileMap}
use Rattle.hilti_pcap.specs.Endings.{CaptureEnding, Whole, Cut, Bad}

-- the capture's name, the functions that are called, the files and how the capture ends where these
-- are told, and whose files they are
pub record Making : Type 0 where
  pub name : List ℕ
  pub packet : FnId
  pub done : Option FnId
  pub files : Option FileMap
  pub ending : Option CaptureEnding
  pub lender : ℕ

-- endings are told apart by three numbers
abbrev pub parts_of : CaptureEnding → ℕ × (ℕ × ℕ)
parts_of Whole = (0, (0, 0))
parts_of (Cut at) = (1, (at, 0))
parts_of (Bad at code) = (2, (at, code))

abbrev pub ending_from : ℕ → ℕ → ℕ → CaptureEnding
ending_from zero at code = Whole
ending_from (suc zero) at code = Cut at
ending_from (suc (suc n)) at code = Bad at code

pub same_parts : (e : CaptureEnding)
    → ending_from (parts_of e).0 (parts_of e).1.0 (parts_of e).1.1 ≡ e
same_parts Whole = refl
same_parts (Cut at) = refl
same_parts (Bad at code) = refl

abbrev pub ending_code : Coded CaptureEnding
ending_code =
    code_by (ℕ × (ℕ × ℕ)) (coded× coded_ℕ (coded× coded_ℕ coded_ℕ)) parts_of
    (λ p. ending_from p.0 p.1.0 p.1.1) same_parts

abbrev pub function_code : Coded FnId
function_code = code_by ℕ coded_ℕ (λ f. f.n) (λ n. record { n = n }) (λ _. refl)

-- it is told apart by its fields
abbrev pub Fields : Type 0
Fields = List ℕ × (FnId × (Option FnId × (Option FileMap × (Option CaptureEnding × ℕ))))

abbrev pub making_code : Coded Making
making_code =
    code_by Fields
    (coded× bytes_code (coded× function_code (coded× (coded_option function_code)
    (coded× (coded_option (map.code bytes_code bytes_code))
    (coded× (coded_option ending_code) coded_ℕ)))))
    (λ m. (m.name, (m.packet, (m.done, (m.files, (m.ending, m.lender))))))
    (λ p. record {
      name = p.0;
      packet = p.1.0;
      done = p.1.1.0;
      files = p.1.1.1.0;
      ending = p.1.1.1.1.0;
      lender = p.1.1.1.1.1;
    })
    (λ _. refl)
