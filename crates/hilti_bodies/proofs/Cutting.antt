-- A body is its blocks.
use Rattle.std.proofs.Common.{◌≡◌, ◌∙◌, List, [], ◌∷◌, ◌++◌, sym, refl, ap, subst, Option, Some, None}
use Rattle.std.specs.Prelude.{IsSomeAnd, map, flat_map, is_some, slice_get}
use Rattle.std.specs.Option.{option_and_then}
use Rattle.hilti_base.specs.declared.names.Place.{Place}
use Rattle.hilti_module.specs.declared.module.Line.{Line}
use Rattle.hilti_module.specs.declared.module.Line.TheVariants as lines
use Rattle.hilti_bodies.specs.Sections.{Label, Section, leading, first_label, section, labelled, begins_with_label, sections}
use Rattle.hilti_bodies.specs.Laws.{line_of, lines_of, EndAt, IsCutAtLabels}

module _ (close : Place) where
  cut : (more : List Line) → map line_of (leading more) ++ flat_map lines_of (labelled more close) ≡ more
  unfolding leading labelled
  cut [] = refl
  cut (lines.Label place name handlers ∷ more) = ap (λ rest. lines.Label place name handlers ∷ rest) (cut more)
  cut (lines.Instruction target mnemonic operands ∷ more) = ap (λ rest. lines.Instruction target mnemonic operands ∷ rest) (cut more)

  all_lines : (body : List Line) → flat_map lines_of (sections body close) ≡ body
  unfolding leading labelled
  all_lines [] = refl
  all_lines (lines.Label place name handlers ∷ more) = cut (lines.Label place name handlers ∷ more)
  all_lines (lines.Instruction target mnemonic operands ∷ more) = cut (lines.Instruction target mnemonic operands ∷ more)

  same_behind : (block other : Section) (rest : List Section) → block.behind ≡ other.behind → EndAt close (block ∷ rest) → EndAt close (other ∷ rest)
  unfolding EndAt
  same_behind block other [] same ends = sym same ∙ ends
  same_behind block other (next ∷ more) same ends = (subst (λ place. IsSomeAnd next.label (λ label. label.place ≡ place)) same ends.0, ends.1)

  ends_behind : (label : Option Label) (more : List Line) → EndAt close (section label more close ∷ labelled more close)
  unfolding EndAt leading labelled first_label
  ends_behind label [] = refl
  ends_behind label (lines.Label place name handlers ∷ more) = (refl, ends_behind (Some (record { place = place; name = name; handlers = handlers })) more)
  ends_behind label (lines.Instruction target mnemonic operands ∷ more) =
      same_behind (section label more close) (section label (lines.Instruction target mnemonic operands ∷ more) close) (labelled more close) refl (ends_behind label more)

  ends : (body : List Line) → EndAt close (sections body close)
  unfolding labelled
  ends [] = ends_behind None []
  ends (lines.Label place name handlers ∷ more) = ends_behind (Some (record { place = place; name = name; handlers = handlers })) more
  ends (lines.Instruction target mnemonic operands ∷ more) = ends_behind None (lines.Instruction target mnemonic operands ∷ more)

  first_as_written : (body : List Line) → is_some (option_and_then (λ (s : Section). s.label) (slice_get (sections body close) 0)) ≡ begins_with_label body
  unfolding labelled
  first_as_written [] = refl
  first_as_written (lines.Label place name handlers ∷ more) = refl
  first_as_written (lines.Instruction target mnemonic operands ∷ more) = refl

pub cut_at_labels : (body : List Line) (close : Place) → IsCutAtLabels body close
cut_at_labels body close = record { all = all_lines close body; first = first_as_written close body; ends = ends close body }
