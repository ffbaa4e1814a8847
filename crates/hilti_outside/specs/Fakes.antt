-- What the fakes in memory hold.
use Rattle.std.specs.Prelude.{ℕ, ◌+◌, ◌-◌, ◌^◌, min, List, Bool, true, false, Option, Some, None}
use Rattle.std.specs.Prelude.{refl}
use Rattle.std.specs.FinMap as map
use Rattle.std.specs.Coded.{Coded, code_by, coded×, coded_ℕ, coded_list, coded_option}
use Rattle.hilti_outside.specs.Contents.{FileMap}

-- files by name, and the bytes of the current one that are still unread
pub record Shelved : Type 0 where
  pub files : FileMap
  pub rest : List ℕ

-- bytes are stored as a list
abbrev pub bytes_code : Coded (List ℕ)
bytes_code = coded_list coded_ℕ

-- it is stored as the pair of its fields
abbrev pub shelved_code : Coded Shelved
shelved_code =
    code_by (FileMap × List ℕ) (coded× (map.code bytes_code bytes_code) bytes_code)
    (λ s. (s.files, s.rest)) (λ p. record { files = p.0; rest = p.1 }) (λ _. refl)

-- files whose calls fail as planned: by their numbers, where `calls` were made and `faults` failed,
-- and a read gives at most a chunk; the names that were opened are told for as long as there was
-- memory to keep them
pub record PlannedFiles : Type 0 where
  pub files : FileMap
  pub rest : List ℕ
  pub opened : Option (List (List ℕ))
  pub fails : List ℕ
  pub calls : ℕ
  pub faults : ℕ
  pub chunk : ℕ

-- how the calls of files are planned, and what was opened
abbrev pub Planned : Type 0
Planned = Option (List (List ℕ)) × (List ℕ × (ℕ × (ℕ × ℕ)))

abbrev pub planned_code : Coded Planned
planned_code =
    coded× (coded_option (coded_list bytes_code))
    (coded× bytes_code (coded× coded_ℕ (coded× coded_ℕ coded_ℕ)))

-- it is stored as the tuple of its fields
abbrev pub planned_files_code : Coded PlannedFiles
planned_files_code =
    code_by (Shelved × Planned) (coded× shelved_code planned_code)
    (λ s. (
      record { files = s.files; rest = s.rest },
      (s.opened, (s.fails, (s.calls, (s.faults, s.chunk)))),
    ))
    (λ p. record {
      files = p.0.files;
      rest = p.0.rest;
      opened = p.1.0;
      fails = p.1.1.0;
      calls = p.1.1.1.0;
      faults = p.1.1.1.1.0;
      chunk = p.1.1.1.1.1;
    })
    (λ _. refl)

-- a sink whose calls fail as planned: a write takes at most a chunk, and no more than there is room
-- for
pub record PlannedSink : Type 0 where
  pub written : List ℕ
  pub room : ℕ
  pub fails : List ℕ
  pub calls : ℕ
  pub faults : ℕ
  pub chunk : ℕ

-- what a sink that never fails keeps, the room that it has left, and how many bytes it took and
-- didn't keep
pub record KeptBytes : Type 0 where
  pub kept : List ℕ
  pub room : ℕ
  pub lost : ℕ

-- one more, at the end of a `u64` no more
abbrev pub counted : ℕ → ℕ
counted n = min (n + 1) (2 ^ 64 - 1)

-- these bytes, told where a test holds
abbrev pub told_where : Bool → List ℕ → Option (List ℕ)
told_where true bytes = Some bytes
told_where false bytes = None
