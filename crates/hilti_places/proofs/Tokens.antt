-- The places of the tokens of a text rise.
use Rattle.std.proofs.Common.{◌≡◌, ℕ, ◌<◌, ◌≤◌, List, [], ◌∷◌, length, refl, sym, ◌∙◌, subst, inl, inr, arith}
use Rattle.std.specs.Prelude.{◌⊎◌}
use Rattle.std.specs.List.{AllByRecursion}
use Rattle.std.proofs.lemmas.Bool.{cases_lt}
use Rattle.hilti_base.specs.declared.names.Place.{Place}
use Rattle.hilti_lexer.specs.declared.token.Token.{Token}
use Rattle.hilti_lexer.specs.declared.token.TokenKind.{TokenKind}
use Rattle.hilti_lexer.specs.declared.token.TokenKind.TheVariants.{Word, Number, Decimal, Address, Net, Port, Text, Bytes, Mark, LineEnd}
use Rattle.hilti_lexer.specs.Readings.{AreRead, IsNext, Lexes, behind_gap, distance, further, place_behind, start}
use Rattle.hilti_lexer.specs.Tokens.{Stands}
use Rattle.hilti_lexer.proofs.Lengths.{stands_shorter}
use Rattle.hilti_places.specs.InTurn.{TokensRise}
use Rattle.hilti_places.specs.Places.{IsBefore, places_of}
use Rattle.hilti_places.proofs.Parts.{Climb, Pairs, rise, weaker}

-- a place isn't before another, of the same file
record IsFrom (at place : Place) : Type 0 where
  file : place.file ≡ at.file
  lines : at.line ≤ place.line
  columns : at.line ≡ place.line → at.column ≤ place.column

-- a place is behind another, of the same file
record IsPast (at place : Place) : Type 0 where
  file : place.file ≡ at.file
  lines : at.line ≤ place.line
  columns : at.line ≡ place.line → at.column < place.column

from_further : (at : Place) (bytes : ℕ) → IsFrom at (further at bytes)
from_further at bytes = record { file = refl; lines = omega arith; columns = λ e. omega arith }

past_further : (at : Place) (bytes : ℕ) → 0 < bytes → IsPast at (further at bytes)
past_further at bytes some = record { file = refl; lines = omega arith; columns = λ e. omega arith }

past_behind : (at : Place) (kind : TokenKind) (bytes : ℕ) → 0 < bytes → IsPast at (place_behind at kind bytes)
past_behind at LineEnd bytes some = record { file = refl; lines = omega arith; columns = λ e. absurd (omega arith) }
past_behind at (Word _) bytes some = past_further at bytes some
past_behind at (Number _) bytes some = past_further at bytes some
past_behind at (Decimal _ _) bytes some = past_further at bytes some
past_behind at (Address _) bytes some = past_further at bytes some
past_behind at (Net _ _) bytes some = past_further at bytes some
past_behind at (Port _ _) bytes some = past_further at bytes some
past_behind at (Text _) bytes some = past_further at bytes some
past_behind at (Bytes _) bytes some = past_further at bytes some
past_behind at (Mark _) bytes some = past_further at bytes some

from_past : (at token behind place : Place) → IsFrom at token → IsPast token behind → IsFrom behind place → IsFrom at place
from_past at token behind place h past more =
    let l = h.lines in let m = past.lines in let n = more.lines in
    record {
      file = more.file ∙ (past.file ∙ h.file);
      lines = omega arith;
      columns = λ e.
          let one : at.line ≡ token.line = omega arith in
          let two : token.line ≡ behind.line = omega arith in
          let three : behind.line ≡ place.line = omega arith in
          let a = h.columns one in let b = past.columns two in let c = more.columns three in omega arith;
    }

before_past : (token behind place : Place) → IsPast token behind → IsFrom behind place → IsBefore token place
before_past token behind place past more = go (cases_lt token.line place.line)
  where
    go : (token.line < place.line) ⊎ (place.line ≤ token.line) → IsBefore token place
    go (inl above) = inl above
    go (inr below) =
        let m = past.lines in let n = more.lines in
        let two : token.line ≡ behind.line = omega arith in
        let three : behind.line ≡ place.line = omega arith in
        let b = past.columns two in let c = more.columns three in inr (two ∙ three, omega arith)

some_stands : (text rest : List ℕ) (kind : TokenKind) → Stands text kind rest → 0 < length text
some_stands [] rest kind h = absurd h
some_stands (c ∷ cs) rest kind h = omega arith

past_next : (at behind : Place) (text rest : List ℕ) (token : Token) → IsNext at text token behind rest → IsPast token.place behind
past_next at behind text rest token next =
    let shorter = stands_shorter (behind_gap text) rest token.kind (some_stands (behind_gap text) rest token.kind next.stands) next.stands in
    subst (IsPast token.place) (sym next.behind_is) (past_behind token.place token.kind (distance (behind_gap text) rest) (omega arith))

from_next : (at behind : Place) (text rest : List ℕ) (token : Token) → IsNext at text token behind rest → IsFrom at token.place
from_next at behind text rest token next = subst (IsFrom at) (sym next.place_is) (from_further at (distance text (behind_gap text)))

-- the places of tokens that begin at a place
record AreFrom (at : Place) (places : List Place) : Type 0 where
  from : AllByRecursion (IsFrom at) places
  in_turn : Pairs IsBefore places

read_from : (tokens : List Token) (at behind : Place) (text rest : List ℕ) → AreRead at text tokens behind rest → AreFrom at (places_of tokens)
read_from [] at behind text rest h = record { from = tt; in_turn = tt }
read_from (token ∷ tokens) at behind text rest h =
    let more = read_from tokens h.0 behind h.1 rest h.3 in
    let here = from_next at h.0 text h.1 token h.2 in
    let past = past_next at h.0 text h.1 token h.2 in
    record {
      from = (here, weaker (IsFrom h.0) (IsFrom at) (λ place. from_past at token.place h.0 place here past) (places_of tokens) more.from);
      in_turn = (weaker (IsFrom h.0) (IsBefore token.place) (λ place. before_past token.place h.0 place past) (places_of tokens) more.from, more.in_turn);
    }

pub tokens_climb : (file : ℕ) (text : List ℕ) (tokens : List Token) → Lexes file text tokens → Climb file (places_of tokens)
tokens_climb file text tokens lexed =
    let from = read_from tokens (start file) lexed.behind text lexed.rest lexed.read in
    record {
      of_file = weaker (IsFrom (start file)) (λ place. place.file ≡ file) (λ place h. h.file) (places_of tokens) from.from;
      in_turn = from.in_turn;
    }

pub tokens_rise : TokensRise
tokens_rise file text tokens lexed = rise file (places_of tokens) (tokens_climb file text tokens lexed)
