-- A module that counts its packets on the virtual threads that their ports name.
use Rattle.std.specs.Prelude.{ℕ, List, [], ◌∷◌, ◌++◌, codes}
use Rattle.std.specs.List.{flat_map}

-- its lines
abbrev pub lines : List (List ℕ)
lines =
    codes "module Main"
    ∷ codes "type H = overlay {"
    ∷ codes "  src: addr at 26 unpack IPv4,"
    ∷ codes "  sport: int<16> at 34 unpack U16Big"
    ∷ codes "}"
    ∷ codes "global int<64> seen"
    ∷ codes "void packet(time t, bytes b) {"
    ∷ codes "  local addr a"
    ∷ codes "  local int<16> p"
    ∷ codes "  local int<64> n"
    ∷ codes "  a = overlay.get H src b 0"
    ∷ codes "  p = overlay.get H sport b 0"
    ∷ codes "  n = int.as p"
    ∷ codes "  thread.schedule n flow (a)"
    ∷ codes "  return.void"
    ∷ codes "}"
    ∷ codes "void flow(addr a) {"
    ∷ codes "  seen = int.add seen 1"
    ∷ codes "  yield"
    ∷ codes "  print seen a"
    ∷ codes "  return.void"
    ∷ codes "}"
    ∷ []

-- each line with its end
unfoldable pub dispatcher_text : List ℕ
dispatcher_text = flat_map (λ line. line ++ codes "\n") lines
