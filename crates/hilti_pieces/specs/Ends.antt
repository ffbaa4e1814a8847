-- Where a text ends.
use Rattle.std.specs.Prelude.{ℕ, ◌+◌, Bool, not, eqb, List, length, reverse}
use Rattle.std.specs.List.{count_by, take_while}
use Rattle.hilti_base.specs.declared.names.Place.{Place}

-- whether a byte ends a line
abbrev pub is_line_end : ℕ → Bool
is_line_end byte = eqb byte 10

-- how many bytes stand behind the last line end
abbrev pub last_line : List ℕ → ℕ
last_line text = length (take_while (λ byte. not (is_line_end byte)) (reverse text))

-- the place where a text ends
abbrev pub end_of : ℕ → List ℕ → Place
end_of file text =
    record { file = file; line = 1 + count_by is_line_end text; column = 1 + last_line text }
