use Rattle.std.proofs.Common.{◌≡◌, ◌∙◌, ap, ℕ, min, max, nat_cmp, arith}
use Rattle.std.specs.Ordering.{ord_max}
use Rattle.std.proofs.lemmas.Grind.{common_steps}
use Rattle.hilti_module.specs.declared.module.Parameter.{Parameter}
use Rattle.hilti_types.proofs.Deepest.{deepest_more}
use Rattle.hilti_link.specs.Seeing.{depth_at}
use Rattle.hilti_link.specs.Views.{view_in}
use Rattle.hilti_link.proofs.shapes.struct_depth.Goals as goal

-- the deepest field so far and a further one, each told up to 17
deeper : (so_far next more told new : ℕ) → so_far ≡ min 17 told → next ≡ min 17 new → more ≡ max told new → ord_max nat_cmp so_far next ≡ min 17 more
deeper so_far next more told new deepest depth grown = grind (arith, common_steps)

pub loop-field-preserved : goal.loop-field-preserved
loop-field-preserved c =
    let view = view_in c.args.tables.now c.args.scope.now in
    let field = c.field-item.result in
    c.max-deepest.ensures
    ∙ deeper c.loop-field.deepest c.capped_depth-field_depth.result _ _ (depth_at view field.kind) c.loop-field.invariant
    c.capped_depth-field_depth.ensures
    (deepest_more (λ (field : Parameter). depth_at view field.kind) c.args.fields.now c.loop-field.field-index field c.loop-field-test.true c.field-item.is)
