-- What a table keeps of its declared types is what is told of them.
use Rattle.std.proofs.Common.{◌≡◌, refl, sym, ◌∙◌, ap, ℕ, ◌<◌, ◌≤◌, arith}
use Rattle.std.proofs.Common.{List, [], ◌∷◌, ◌++◌, length, map, get_or, Option, Some, None}
use Rattle.std.specs.List.{slice_get}
use Rattle.std.specs.Option.{option_map, unwrap_or}
use Rattle.std.proofs.lemmas.List.{map-append}
use Rattle.std.proofs.lemmas.Option.{slice_get-map, slice_get-get_or, slice_get_past}
use Rattle.hilti_types.proofs.InTurn.{none_told, told_one_more}
use Rattle.hilti_types.specs.Depths.{as_u32, declared_depth, depths}
use Rattle.hilti_types.specs.Sendable.{declared_sendable, sendables}
use Rattle.hilti_types.specs.Told.{AreTold}
use Rattle.hilti_types.specs.declared.declared.Declared.{Declared}
use Rattle.hilti_types.specs.declared.table.Told.{Told}

-- nothing is kept of no type
pub kept_of_none : (types : List Declared) (told : List Told) → types ≡ [] → told ≡ []
    → AreTold types told
kept_of_none types told no_type nothing =
    record {
      sendable = ap (map (λ one. one.is_sendable)) nothing
          ∙ sym (ap sendables no_type ∙ none_told declared_sendable);
      depth = ap (map (λ one. one.depth)) nothing
          ∙ sym (ap (λ types. map as_u32 (depths types)) no_type
          ∙ ap (map as_u32) (none_told declared_depth));
    }

-- one type more
pub kept_of_one_more : (types longer : List Declared) (told more : List Told)
    (item : Declared) (one : Told) → AreTold types told
    → longer ≡ types ++ item ∷ [] → more ≡ told ++ one ∷ []
    → one.is_sendable ≡ declared_sendable (sendables types) item
    → one.depth ≡ as_u32 (declared_depth (depths types) item)
    → AreTold longer more
kept_of_one_more types longer told more item one kept is_longer is_more sent deep =
    record {
      sendable = ap (map (λ one. one.is_sendable)) is_more
          ∙ map-append (λ one. one.is_sendable) told (one ∷ [])
          ∙ ap (λ front. front ++ one.is_sendable ∷ []) kept.sendable
          ∙ ap (λ last. sendables types ++ last ∷ []) sent
          ∙ sym (ap sendables is_longer ∙ told_one_more declared_sendable types item);
      depth = ap (map (λ one. one.depth)) is_more
          ∙ map-append (λ one. one.depth) told (one ∷ [])
          ∙ ap (λ front. front ++ one.depth ∷ []) kept.depth
          ∙ ap (λ last. map as_u32 (depths types) ++ last ∷ []) deep
          ∙ sym (ap (λ types. map as_u32 (depths types)) is_longer
          ∙ ap (map as_u32) (told_one_more declared_depth types item)
          ∙ map-append as_u32 (depths types) (declared_depth (depths types) item ∷ []));
    }

as_u32_or_1 : (depth : Option ℕ)
    → unwrap_or (option_map as_u32 depth) 1 ≡ as_u32 (unwrap_or depth 1)
as_u32_or_1 (Some depth) = refl
as_u32_or_1 None = omega arith

module _ (types : List Declared) (told : List Told) (kept : AreTold types told) (at : ℕ) where
  -- the depth that is kept of the type at a place
  kept_at : unwrap_or (option_map (λ one. one.depth) (slice_get told at)) 1
      ≡ as_u32 (unwrap_or (slice_get (depths types) at) 1)
  kept_at =
      ap (λ depth. unwrap_or depth 1)
      (sym (slice_get-map (λ one. one.depth) told at)
      ∙ ap (λ all. slice_get all at) kept.depth
      ∙ slice_get-map as_u32 (depths types) at)
      ∙ as_u32_or_1 (slice_get (depths types) at)

  -- where the table has a type
  pub depth_found : (all : List Declared) (read : List Told) (one : Told) → types ≡ all
      → read ≡ told → at < length read → ((other : Told) → one ≡ get_or read at other)
      → one.depth ≡ as_u32 (unwrap_or (slice_get (depths all) at) 1)
  depth_found all read one same is_read within found =
      let there : slice_get told at ≡ Some one =
      ap (λ told. slice_get told at) (sym is_read)
      ∙ slice_get-get_or read at one within
      ∙ ap Some (sym (found one)) in
      ap (λ one. unwrap_or (option_map (λ one. one.depth) one) 1) (sym there)
      ∙ kept_at
      ∙ ap (λ types. as_u32 (unwrap_or (slice_get (depths types) at) 1)) same

  -- past the end
  pub depth_past : (all : List Declared) (read : List Told) → types ≡ all → read ≡ told
      → length read ≤ at → 1 ≡ as_u32 (unwrap_or (slice_get (depths all) at) 1)
  depth_past all read same is_read past =
      let nothing : slice_get told at ≡ None =
      ap (λ told. slice_get told at) (sym is_read) ∙ slice_get_past read at past in
      ap (λ one. unwrap_or (option_map (λ one. one.depth) one) 1) (sym nothing)
      ∙ kept_at
      ∙ ap (λ types. as_u32 (unwrap_or (slice_get (depths types) at) 1)) same
