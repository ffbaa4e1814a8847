-- Lines that are typed, and lines that aren't.
use Rattle.std.proofs.Common.{◌≡◌, ◌↔◌, ◌<◌, ℕ, Bool, true, false, List, [], ◌∷◌, refl, sym, ap, ◌∙◌, arith, Some, IsSomeAnd}
use Rattle.std.proofs.Math.Path.{subst}
use Rattle.std.proofs.lemmas.Bool.{false≢true}
use Rattle.std.proofs.lemmas.List.Elements.{All-head}
use Rattle.std.specs.Option.{unwrap_or}
use Rattle.hilti_types.specs.declared.value_type.Inner.{out-Inner, out-roll-Inner}
use Rattle.hilti_types.specs.declared.value_type.Inner.TheFolds.{fold-roll-Inner, fold-roll-ValueType}
use Rattle.hilti_types.specs.declared.value_type.Inner.TheOpen.{Inner-F, ValueType-F}
use Rattle.hilti_types.specs.declared.value_type.Inner.TheVariants as inners
use Rattle.hilti_types.specs.declared.value_type.ValueType.{ValueType}
use Rattle.hilti_types.specs.declared.value_type.ValueType.TheVariants as types
use Rattle.hilti_types.specs.Sendable.{IsSendable, sendable_over, sendables, object_sendable_over, sendable_step, object_sendable_step}
use Rattle.hilti_table.specs.declared.row.Family.TheVariants as families
use Rattle.hilti_table.specs.declared.row.Part.TheVariants as parts
use Rattle.hilti_parts.specs.declared.parts.Operand.{Operand, out-roll-Operand}
use Rattle.hilti_parts.specs.declared.parts.Operand.TheOpen.{Operand-F}
use Rattle.hilti_parts.specs.declared.parts.Operand.TheVariants as operands
use Rattle.hilti_parts.specs.Named.{grouped, in_parentheses}
use Rattle.hilti_typing.specs.Types.{in_family, is_object, object_of}
use Rattle.hilti_typing.specs.Fits.{Has, HasKnown, HaveAll, Fit, first_width, is_wide, known_part}
use Rattle.hilti_typing.specs.Context.{Known}
use Rattle.hilti_typing.specs.Examples.{FittingLines, RefusedLines, body, small, large}
use Rattle.hilti_typing.proofs.Objects.{part_known}
use Rattle.hilti_typing.proofs.Shapes as shapes

group_is : (items : List Operand) → grouped (operands.Group items) ≡ Some items
group_is items = ap grouped (sym (operands.rolls-Group items)) ∙ ap in_parentheses (out-roll-Operand (Operand-F.Group items))

is_list : (t : ValueType) → is_object families.List (object_of (types.Ref (inners.List t))) ≡ true
is_list t = ap (is_object families.List) (shapes.refers (inners.List t))
    ∙ (ap (λ o. in_family families.List (out-Inner o)) (sym (inners.rolls-List t)) ∙ ap (in_family families.List) (out-roll-Inner (Inner-F.List t)))

item_known : (x : Operand) → Has body (types.Int 8) x ↔ HasKnown body (known_part parts.First (Known.Of (types.Ref (inners.List (types.Int 8))))) x
item_known x = (
  subst (λ known. HasKnown body known x) (sym (part_known parts.First (inners.List (types.Int 8)) (types.Int 8) (shapes.list_item (types.Int 8)))),
  subst (λ known. HasKnown body known x) (part_known parts.First (inners.List (types.Int 8)) (types.Int 8) (shapes.list_item (types.Int 8))),
)

one_number : IsSomeAnd (grouped (operands.Group (large ∷ []))) (HaveAll body (types.Int 64 ∷ []))
one_number = subst (λ group. IsSomeAnd group (HaveAll body (types.Int 64 ∷ []))) (sym (group_is (large ∷ []))) (record { sound = refl; of_type = refl }, tt)

pub fitting_lines : FittingLines
unfolding Fit first_width
fitting_lines = record {
  plain = record { counted = refl; fit = (record { sound = refl; of_type = refl }, refl); stands = tt };
  numbers_of_one_width = record {
    counted = refl;
    fit = (record { sound = refl; of_type = refl }, (record { sound = refl; of_type = refl }, refl));
    stands = tt;
  };
  same_as_before = record { counted = refl; fit = ((refl, refl), refl); stands = tt };
  block = record { counted = refl; fit = (omega arith, refl); stands = tt };
  call = record { counted = refl; fit = (tt, (one_number, tt)); stands = tt };
  item = record {
    counted = refl;
    fit = ((refl, is_list (types.Int 8)), ((item_known small).0 (record { sound = refl; of_type = refl }), refl));
    stands = tt;
  };
}

not_both : Some (types.Int 64) ≡ Some (types.Int 8) → ⊥
not_both e = false≢true (sym (ap (λ t. is_wide 300 (unwrap_or t types.Bool)) e))

timers_stay : (declared : List Bool) → sendable_over declared (types.Ref inners.Timer) ≡ false
timers_stay declared = ap (sendable_over declared) (sym (types.rolls-Ref inners.Timer))
    ∙ (fold-roll-ValueType Bool Bool (object_sendable_step declared) (sendable_step declared) (ValueType-F.Ref inners.Timer)
    ∙ (ap (object_sendable_over declared) (sym inners.rolls-Timer)
    ∙ fold-roll-Inner Bool Bool (object_sendable_step declared) (sendable_step declared) Inner-F.Timer))

two_is_below_two : 2 < 2 → ⊥
two_is_below_two h = omega arith

two_is_one : ◌≡◌ {A = ℕ} 2 1 → ⊥
two_is_one e = omega arith

pub refused_lines : RefusedLines
unfolding Fit first_width
refused_lines = record {
  other_width = λ fits. not_both fits.fit.1.0.of_type;
  other_target = λ fits. not_both fits.fit.1.1;
  other_item = λ fits. not_both ((item_known large).1 fits.fit.1.0).of_type;
  no_such_block = λ fits. two_is_below_two fits.fit.0;
  timer_sent = λ fits. false≢true (sym (timers_stay (sendables []))
      ∙ All-head (IsSendable []) (types.Ref inners.Timer) [] fits.fit.1.1.0.1);
  left_by_result = λ fits. false≢true fits.stands;
  one_too_many = λ fits. two_is_one fits.counted;
}
