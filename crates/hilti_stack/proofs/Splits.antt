-- One list of values as the slots of frames.
use Rattle.std.proofs.Common.{◌≡◌, ℕ, zero, suc, ◌+◌, ◌-◌, ◌<◌, List, [], ◌∷◌, ◌++◌, length, take, drop}
use Rattle.std.proofs.Common.{set, refl, sym, ap, ◌∙◌, arith}
use Rattle.std.proofs.lemmas.List.{take-take, drop-take, drop-drop, take-append-le, drop-append-le, length-drop}
use Rattle.std.proofs.lemmas.List.{length-take-le, take-set-le, drop-set-add, drop-set-lt, take_rest, drop_all}
use Rattle.std.proofs.Common.{get_or, slice_get, Some}
use Rattle.std.proofs.lemmas.List.{get_or-take, get_or-drop}
use Rattle.std.proofs.lemmas.Option.{slice_get-get_or}
use Rattle.hilti_values.specs.declared.value.Value.{Value}
use Rattle.hilti_stack.specs.declared.stack.Link.{Link}
use Rattle.hilti_stack.specs.declared.head.Head.{Head}
use Rattle.hilti_stack.specs.Frames.{Frame, Frames, frame, with_made, with_slots, begun, entered}
use Rattle.hilti_stack.specs.View.{total, split, frames_of, Stands}

-- only the values of the callers matter for them
pub split_front : (links : List Link) (values : List Value)
    → split links (take (total links) values) ≡ split links values
split_front [] values = refl
split_front (link ∷ links) values =
    ap (λ vs. frame link.head vs ∷ split links (drop link.count (take (link.count + total links) values)))
    (take-take link.count (link.count + total links) values (omega arith))
    ∙ ap (λ vs. frame link.head (take link.count values) ∷ split links vs) (drop-take link.count (total links) values)
    ∙ ap (λ fs. frame link.head (take link.count values) ∷ fs) (split_front links (drop link.count values))

-- values that are the same in front
pub split_same : (links : List Link) (values other : List Value)
    → take (total links) values ≡ take (total links) other → split links values ≡ split links other
split_same links values other same =
    sym (split_front links values) ∙ ap (split links) same ∙ split_front links other

pub total_last : (links : List Link) (link : Link) → total (links ++ link ∷ []) ≡ total links + link.count
total_last [] link = omega arith
total_last (first ∷ links) link = omega (arith, total_last links link)

-- the nearest caller's slots stand behind those of the others
pub split_last : (links : List Link) (link : Link) (values : List Value) → split (links ++ link ∷ []) values
    ≡ split links values ++ frame link.head (take link.count (drop (total links) values)) ∷ []
split_last [] link values = refl
split_last (first ∷ links) link values =
    ap (λ fs. frame first.head (take first.count values) ∷ fs) (split_last links link (drop first.count values))
    ∙ ap (λ vs. frame first.head (take first.count values)
    ∷ (split links (drop first.count values) ++ frame link.head (take link.count vs) ∷ []))
    (drop-drop (total links) first.count values)

pub split_length : (links : List Link) (values : List Value) → length (split links values) ≡ length links
split_length [] values = refl
split_length (link ∷ links) values = ap suc (split_length links (drop link.count values))

-- frames by their parts
abbrev pub the_frames : List Frame → List Value → List Value → Frames
the_frames below slots made = record { below = below; slots = slots; made = made }

pub same_frames : (b c : List Frame) (s t m n : List Value) → b ≡ c → s ≡ t → m ≡ n
    → the_frames b s m ≡ the_frames c t n
same_frames b c s t m n below slots made =
    ap (λ x. the_frames x s m) below ∙ ap (λ x. the_frames c x m) slots ∙ ap (λ x. the_frames c t x) made

take_set : (n k : ℕ) (values : List Value) (v : Value) → take n (set values k v) ≡ set (take n values) k v
take_set zero k values v = refl
take_set (suc n) k [] v = refl
take_set (suc n) zero (x ∷ values) v = refl
take_set (suc n) (suc k) (x ∷ values) v = ap (λ vs. x ∷ vs) (take_set n k values v)

-- a stack as it stands
module _ (links : List Link) (base count : ℕ) (values : List Value) (stands : Stands links base count values) where
  pub slots_length : length (take count (drop base values)) ≡ count
  slots_length = length-take-le count (drop base values) (omega (arith, stands.within, length-drop base values))

  pub slot_at : (k : ℕ) (v d : Value) → k < count → v ≡ get_or values (base + k) d
      → slice_get (take count (drop base values)) k ≡ Some v
  slot_at k v d less is =
      slice_get-get_or (take count (drop base values)) k d (omega (arith, less, slots_length))
      ∙ ap Some (get_or-take count (drop base values) k d less ∙ get_or-drop base values k d ∙ sym is)

  pub made_more : (v : Value) (more : List Value) → more ≡ values ++ v ∷ []
      → frames_of links base count more
      ≡ with_made (frames_of links base count values) ((frames_of links base count values).made ++ v ∷ [])
  made_more v more so =
      ap (frames_of links base count) so
      ∙ same_frames _ _ _ _ _ _
      (split_same links (values ++ v ∷ []) values
      (take-append-le (total links) values (v ∷ []) (omega (arith, stands.within, stands.base_is))))
      (ap (take count) (drop-append-le base values (v ∷ []) (omega (arith, stands.within)))
      ∙ take-append-le count (drop base values) (v ∷ []) (omega (arith, stands.within, length-drop base values)))
      (drop-append-le (base + count) values (v ∷ []) stands.within)

  pub made_none : (kept : List Value) → kept ≡ take (base + count) values
      → frames_of links base count kept ≡ with_made (frames_of links base count values) []
  made_none kept so =
      ap (frames_of links base count) so
      ∙ same_frames _ _ _ _ _ _
      (split_same links (take (base + count) values) values
      (take-take (total links) (base + count) values (omega (arith, stands.base_is))))
      (ap (take count) (drop-take base count values) ∙ take-take count count (drop base values) (omega arith))
      (drop_all (base + count) (take (base + count) values)
      (omega (arith, length-take-le (base + count) values stands.within)))

  pub made_stands : (kept : List Value) → kept ≡ take (base + count) values → Stands links base count kept
  made_stands kept so = record {
    base_is = stands.base_is;
    within = omega (arith, ap length so, length-take-le (base + count) values stands.within);
  }

  pub set_slot : (k : ℕ) (v : Value) (put : List Value) → k < count → put ≡ set values (base + k) v
      → frames_of links base count put
      ≡ with_slots (frames_of links base count values) (set (frames_of links base count values).slots k v)
  set_slot k v put less so =
      ap (frames_of links base count) so
      ∙ same_frames _ _ _ _ _ _
      (split_same links (set values (base + k) v) values
      (take-set-le (total links) values (base + k) v (omega (arith, stands.base_is))))
      (ap (take count) (drop-set-add base values k v) ∙ take_set count k (drop base values) v)
      (drop-set-lt (base + count) values (base + k) v (omega (arith, less)))

  pub begin_frames : (all : ℕ) → count ≡ 0 → all ≡ length values - base
      → frames_of links base all values ≡ begun (frames_of links base count values)
  begin_frames all none more =
      same_frames _ _ _ _ _ _ refl
      (ap (λ n. take n (drop base values)) more ∙ take_rest values base
      ∙ ap (λ n. drop n values) (omega (arith, none)))
      (drop_all (base + all) values (omega (arith, more, stands.within)))

  module _ (head : Head) (link : Link) (more : List Link) (all : ℕ) (so : more ≡ links ++ link ∷ [])
      (its_count : link.count ≡ count) (rest : all ≡ length values - (base + count)) where
    pub enter_frames : link.head ≡ head
        → frames_of more (base + count) all values ≡ entered (frames_of links base count values) head
    enter_frames its_head =
        ap (λ ls. frames_of ls (base + count) all values) so
        ∙ same_frames _ _ _ _ _ _
        (split_last links link values
        ∙ ap (λ h. split links values ++ frame h (take link.count (drop (total links) values)) ∷ []) its_head
        ∙ ap (λ n. split links values ++ frame head (take n (drop (total links) values)) ∷ []) its_count
        ∙ ap (λ n. split links values ++ frame head (take count (drop n values)) ∷ []) (sym stands.base_is))
        (ap (λ n. take n (drop (base + count) values)) rest ∙ take_rest values (base + count))
        (drop_all (base + count + all) values (omega (arith, rest, stands.within)))

    pub enter_stands : Stands more (base + count) all values
    enter_stands = record {
      base_is = omega (arith, stands.base_is, ap total so, total_last links link, its_count);
      within = omega (arith, rest, stands.within);
    }

  -- back to the nearest caller
  module _ (link : Link) (fewer : List Link) (so : links ≡ fewer ++ link ∷ []) where
    pub leave_base : base ≡ total fewer + link.count
    leave_base = stands.base_is ∙ ap total so ∙ total_last fewer link

    module _ (kept : List Value) (is_kept : kept ≡ take base values) where
      pub leave_below : split links values
          ≡ split fewer kept ++ frame link.head (take link.count (drop (base - link.count) kept)) ∷ []
      leave_below =
          sym (split_front links values)
          ∙ ap (split links) (ap (λ n. take n values) (sym stands.base_is) ∙ sym is_kept)
          ∙ ap (λ ls. split ls kept) so ∙ split_last fewer link kept
          ∙ ap (λ n. split fewer kept ++ frame link.head (take link.count (drop n kept)) ∷ [])
          (omega (arith, leave_base))

      kept_length : length kept ≡ base
      kept_length = ap length is_kept ∙ length-take-le base values (omega (arith, stands.within))

      pub leave_made : drop (base - link.count + link.count) kept ≡ []
      leave_made = drop_all (base - link.count + link.count) kept (omega (arith, leave_base, kept_length))

      pub leave_stands : Stands fewer (base - link.count) link.count kept
      leave_stands = record {
        base_is = omega (arith, leave_base);
        within = omega (arith, leave_base, kept_length);
      }
