use Rattle.std.proofs.Common.{◌≡◌, [], ◌∷◌, ◌++◌, rules, sym, subst, ◌∙◌, take, length, length-append, suc, arith}
use Rattle.std.proofs.lemmas.Slice.Zip.{zip_turn}
use Rattle.std.specs.Iterator.Adapters.{zip_first, zip_second}
use Rattle.std.specs.List.{AllZip}
use Rattle.std.specs.Slice.Iter.{iter_rest}
use Rattle.hilti_classifier.specs.Matches.{Fits}
use Rattle.hilti_classifier.proofs.Pairs.{pair_at, pairs_more}
use Rattle.hilti_classifier.proofs.classifier.Rule.matches.Goals as goal

pub returns-then-not-fits : goal.returns-then-not-fits
returns-then-not-fits g c =
    let items : iter_rest (zip_first c.into_iter-want-iterator.result) ≡ c.args.self.now.wants = search rules in
    let fields : iter_rest (zip_second c.into_iter-want-iterator.result) ≡ c.args.query.now = search rules in
    let turn = zip_turn c.args.self.now.wants c.args.query.now c.loop-want.yielded c.into_iter-want-iterator.result c.loop-want.want-iterator c.next.new.self c.next.result items fields
    c.loop-want.yielded_by (c.in-Some.want, c.in-Some.field) c.in-Some.is c.next.ensures.steps in (
      λ none. absurd (cc),
      λ all. sym c.if-not-fits.true ∙ (c.fits.ensures.1 (pair_at (Fits g.K.PartialEq.eq) c.args.self.now.wants c.args.query.now (length c.loop-want.yielded) c.in-Some.want.now c.in-Some.field.now turn.0 turn.1 (turn.2 c.in-Some.want.now) (turn.3 c.in-Some.field.now) all)),
    )

pub loop-want-preserved : goal.loop-want-preserved
loop-want-preserved g c =
    let items : iter_rest (zip_first c.into_iter-want-iterator.result) ≡ c.args.self.now.wants = search rules in
    let fields : iter_rest (zip_second c.into_iter-want-iterator.result) ≡ c.args.query.now = search rules in
    let turn = zip_turn c.args.self.now.wants c.args.query.now c.loop-want.yielded c.into_iter-want-iterator.result c.loop-want.want-iterator c.next.new.self c.next.result items fields
    c.loop-want.yielded_by (c.in-Some.want, c.in-Some.field) c.in-Some.is c.next.ensures.steps in
    let grown : length (c.loop-want.yielded ++ (c.in-Some.want, c.in-Some.field) ∷ []) ≡ suc (length c.loop-want.yielded) = omega (arith, length-append c.loop-want.yielded ((c.in-Some.want, c.in-Some.field) ∷ [])) in
    subst (λ n. AllZip (Fits g.K.PartialEq.eq) (take n c.args.self.now.wants) (take n c.args.query.now)) (sym grown)
    (pairs_more (Fits g.K.PartialEq.eq) c.args.self.now.wants c.args.query.now (length c.loop-want.yielded) c.in-Some.want.now c.in-Some.field.now turn.0 turn.1 (turn.2 c.in-Some.want.now) (turn.3 c.in-Some.field.now)
    c.loop-want.invariant (c.fits.ensures.0 c.if-not-fits.false))
