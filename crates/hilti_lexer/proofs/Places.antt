-- The places of a text's lines and columns.
use Rattle.std.proofs.Common.{◌≡◌, ℕ, ◌+◌, ◌-◌, ◌<◌, ◌≤◌, List, length, get_or, ap, arith, true, false, eqb, cond}
use Rattle.std.proofs.lemmas.List.{length-drop}
use Rattle.std.specs.List.{prefix_len}
use Rattle.hilti_base.specs.declared.names.Place.{Place}
use Rattle.hilti_lexer.specs.declared.token.TokenKind.{TokenKind}
use Rattle.hilti_lexer.specs.declared.token.TokenKind.TheVariants.{Word, Number, Decimal, Address, Net, Port, Text, Bytes, Mark, LineEnd}
use Rattle.hilti_lexer.specs.Characters.{is_blank, is_within_line}
use Rattle.hilti_lexer.specs.Readings.{HasRoom, behind_gap, distance, further, place_behind}
use Rattle.hilti_lexer.specs.Tokens.{behind_run}

pub gap_within : (text : List ℕ) → length (behind_gap text) ≤ length text
gap_within text =
    let behind : List ℕ = behind_run is_blank text in
    let blanks : length behind ≤ length text = omega (arith, length-drop (prefix_len is_blank text) text) in
    elim (eqb (get_or behind 0 0) 35) as (λ b. length (cond b (behind_run is_within_line behind) behind) ≤ length text) [
      | true ↦ omega (arith, blanks, length-drop (prefix_len is_within_line behind) behind)
      | false ↦ blanks
    ]

pub column_room : (at place : Place) (text front rest : List ℕ) → HasRoom at text → place ≡ further at (distance text front) → length front ≤ length text
    → length rest < length front → place.column + (length front - length rest) < 4294967296
column_room at place text front rest room e within shorter =
    let columns = room.columns in let column : place.column ≡ at.column + (length text - length front) = ap (λ (p : Place). p.column) e in omega (arith, columns, column)

pub offset_room : (at place : Place) (text front : List ℕ) (offset : ℕ) → HasRoom at text → place ≡ further at (distance text front) → length front ≤ length text
    → offset ≤ length front → place.column + offset < 4294967296
offset_room at place text front offset room e within short =
    let columns = room.columns in let column : place.column ≡ at.column + (length text - length front) = ap (λ (p : Place). p.column) e in omega (arith, columns, column)

-- a place that has moved on by as many bytes as its text has room as before
moved_room : (at place behind : Place) (text front rest : List ℕ) → HasRoom at text → place ≡ further at (distance text front) → length front ≤ length text
    → length rest < length front → behind ≡ further place (length front - length rest) → HasRoom behind rest
moved_room at place behind text front rest room e within shorter moved =
    let columns = room.columns in let lines = room.lines in
    let column : place.column ≡ at.column + (length text - length front) = ap (λ (p : Place). p.column) e in
    let line : place.line ≡ at.line = ap (λ (p : Place). p.line) e in
    let column_behind : behind.column ≡ place.column + (length front - length rest) = ap (λ (p : Place). p.column) moved in
    let line_behind : behind.line ≡ place.line = ap (λ (p : Place). p.line) moved in
    record { lines = omega (arith, lines, line, line_behind); columns = omega (arith, columns, column, column_behind) }

pub behind_room : (at place behind : Place) (text front rest : List ℕ) (kind : TokenKind) → HasRoom at text → place ≡ further at (distance text front)
    → length front ≤ length text → length rest < length front → behind ≡ place_behind place kind (length front - length rest) → HasRoom behind rest
behind_room at place behind text front rest LineEnd room e within shorter moved =
    let columns = room.columns in let lines = room.lines in
    let line : place.line ≡ at.line = ap (λ (p : Place). p.line) e in
    let column_behind : behind.column ≡ 1 = ap (λ (p : Place). p.column) moved in
    let line_behind : behind.line ≡ place.line + 1 = ap (λ (p : Place). p.line) moved in
    record { lines = omega (arith, lines, line, line_behind); columns = omega (arith, lines, columns, column_behind) }
behind_room at place behind text front rest (Word _) room e within shorter moved = moved_room at place behind text front rest room e within shorter moved
behind_room at place behind text front rest (Number _) room e within shorter moved = moved_room at place behind text front rest room e within shorter moved
behind_room at place behind text front rest (Decimal _ _) room e within shorter moved = moved_room at place behind text front rest room e within shorter moved
behind_room at place behind text front rest (Address _) room e within shorter moved = moved_room at place behind text front rest room e within shorter moved
behind_room at place behind text front rest (Net _ _) room e within shorter moved = moved_room at place behind text front rest room e within shorter moved
behind_room at place behind text front rest (Port _ _) room e within shorter moved = moved_room at place behind text front rest room e within shorter moved
behind_room at place behind text front rest (Text _) room e within shorter moved = moved_room at place behind text front rest room e within shorter moved
behind_room at place behind text front rest (Bytes _) room e within shorter moved = moved_room at place behind text front rest room e within shorter moved
behind_room at place behind text front rest (Mark _) room e within shorter moved = moved_room at place behind text front rest room e within shorter moved
