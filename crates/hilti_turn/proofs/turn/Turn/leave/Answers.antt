use Rattle.std.proofs.Common.{◌≡◌, ℕ, rules, sym, ap, ◌∙◌, subst}
use Rattle.hilti_turn.specs.Journal.{GoesOnBy}
use Rattle.hilti_turn.proofs.Steps.{counts, releases}
use Rattle.hilti_turn.proofs.turn.Turn.leave.Goals as goal

pub swap-requires : goal.swap-requires
swap-requires g c =
    let has = c.give.ensures.has in let own = c.requires.own in
    let before = c.args.pass.now.seat.me.0 in let after = c.give.new.pass.seat.me.0 in
    let number : c.args.pass.now.number ≡ after.number = own.1 ∙ ap (λ v. v.number) (sym has.1) in
    let grows = subst (λ (n : ℕ). GoesOnBy g.V.Journalled.maker n before.seen (g.V.Journalled.entries c.args.value)) number c.requires.grows in
    let grows' = subst (λ l. GoesOnBy g.V.Journalled.maker after.number l (g.V.Journalled.entries c.args.value)) (ap (λ v. v.seen) (sym has.1)) grows in
    (c.give.ensures.same.table ∙ own.0, search rules, counts _ _ _ _ _ _ _ _ c.args.value _ has.0.0 has.0.1 grows' c.count-count.ensures)

pub fetch_add-served-requires : goal.fetch_add-served-requires
fetch_add-served-requires g c =
    let has = c.give.ensures.has in let own = c.requires.own in
    let told = c.swap.ensures.2 c.args.value has.0.1 in (
      c.swap.ensures.0 ∙ (c.give.ensures.same.table ∙ own.0),
      search rules,
      releases _ _ _ _ _ _ _ _ c.args.value (ap (λ m. m.0.stage) told) (ap (λ m. m.1) told ∙ has.0.1) (sym (ap (λ m. m.0.seen) told))
          (ap (λ m. m.0.about) told ∙ (ap (λ v. v.about) has.1 ∙ c.requires.about)),
    )
